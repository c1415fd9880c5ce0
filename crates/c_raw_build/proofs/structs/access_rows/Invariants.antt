use Rattle.std.specs.Prelude.{◌++◌, length, map, [], ◌∷◌}
use Rattle.c_raw_build.specs.RawFiles.{access}
use Rattle.c_raw.specs.Views.{access_view}
use Rattle.c_raw_build.specs.Reading.{ReadsOn}
use Rattle.c_raw_build.specs.Due.{IsDueIn}
use Rattle.c_raw_build.specs.Nonterminals as nonterminals
use Rattle.c_raw_build.proofs.structs.access_rows.Given as goal

abbrev pub invariant-loop-reader : goal.invariant-loop-reader
invariant-loop-reader l = record {
  read : ReadsOn (λ p. map access_view l.list.items ++ access l.text p) (access l.text) l.initial.reader l.reader;
  due : IsDueIn l.text (nonterminals.access_rows ∷ []) l.reader;
}

abbrev pub decreases-loop-reader : goal.decreases-loop-reader
decreases-loop-reader l = length l.reader.nodes

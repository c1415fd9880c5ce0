use Rattle.std.specs.Prelude.{◌++◌, length, map, [], ◌∷◌}
use Rattle.c_raw_build.specs.RawFiles.{fields}
use Rattle.c_raw.specs.Views.{field_view}
use Rattle.c_raw_build.specs.Reading.{ReadsOn}
use Rattle.c_raw_build.specs.Due.{IsDueIn}
use Rattle.c_raw_build.specs.Nonterminals as nonterminals
use Rattle.c_raw_build.proofs.structs.fields.Given as goal

abbrev pub invariant-loop-reader : goal.invariant-loop-reader
invariant-loop-reader l = record {
  read : ReadsOn (λ p. map field_view l.list.items ++ fields l.text p) (fields l.text) l.initial.reader l.reader;
  due : IsDueIn l.text (nonterminals.fields ∷ []) l.reader;
}

abbrev pub decreases-loop-reader : goal.decreases-loop-reader
decreases-loop-reader l = length l.reader.nodes

use Rattle.std.specs.Prelude.{◌++◌, length, map, [], ◌∷◌}
use Rattle.c_raw_build.specs.RawFiles.{arguments}
use Rattle.c_raw.specs.Views.{argument_view}
use Rattle.c_raw_build.specs.Reading.{ReadsOn}
use Rattle.c_raw_build.specs.Due.{IsDueIn}
use Rattle.c_raw_build.specs.Nonterminals as nonterminals
use Rattle.c_raw_build.proofs.structs.arguments.Given as goal

abbrev pub invariant-loop-reader : goal.invariant-loop-reader
invariant-loop-reader l = record {
  read : ReadsOn (λ p. map argument_view l.list.items ++ arguments l.text p) (arguments l.text) l.initial.reader l.reader;
  due : IsDueIn l.text (nonterminals.arguments ∷ nonterminals.more_arguments ∷ []) l.reader;
}

abbrev pub decreases-loop-reader : goal.decreases-loop-reader
decreases-loop-reader l = length l.reader.nodes

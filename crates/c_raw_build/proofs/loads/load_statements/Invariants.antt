use Rattle.std.specs.Prelude.{◌++◌, length, map, [], ◌∷◌}
use Rattle.c_raw_build.specs.RawTables.{load_statements}
use Rattle.c_raw.specs.Views.{load_view}
use Rattle.c_raw_build.specs.Reading.{ReadsOn}
use Rattle.c_raw_build.specs.Due.{IsDueIn}
use Rattle.c_raw_build.specs.Nonterminals as nonterminals
use Rattle.c_raw_build.proofs.loads.load_statements.Given as goal

abbrev pub invariant-loop-reader : goal.invariant-loop-reader
invariant-loop-reader l = record {
  read : ReadsOn (λ p. map load_view l.list.items ++ (load_statements l.text) p) (load_statements l.text) l.initial.reader l.reader;
  due : IsDueIn l.text (nonterminals.load_statements ∷ []) l.reader;
}

abbrev pub decreases-loop-reader : goal.decreases-loop-reader
decreases-loop-reader l = length l.reader.nodes

use Rattle.std.specs.Prelude.{◌++◌, length, map, [], ◌∷◌}
use Rattle.c_raw_build.specs.RawTables.{pair_rows}
use Rattle.c_raw.specs.Views.{pair_view}
use Rattle.c_raw_build.specs.Reading.{ReadsOn}
use Rattle.c_raw_build.specs.Due.{IsDueIn}
use Rattle.c_raw_build.specs.Nonterminals as nonterminals
use Rattle.c_raw_build.proofs.tables.pair_rows.Given as goal

abbrev pub invariant-loop-reader : goal.invariant-loop-reader
invariant-loop-reader l = record {
  read : ReadsOn (λ p. map pair_view l.list.items ++ (pair_rows l.text) p) (pair_rows l.text) l.initial.reader l.reader;
  due : IsDueIn l.text (nonterminals.pair_rows ∷ nonterminals.pair_row ∷ []) l.reader;
}

abbrev pub decreases-loop-reader : goal.decreases-loop-reader
decreases-loop-reader l = length l.reader.nodes

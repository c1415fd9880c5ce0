-- The sets of kinds by which a row is chosen, and the table that they make. What is listed in `KindSets` is exactly what can begin
-- and what can follow (see the clauses of `CRows`).
use Rattle.std.specs.Prelude.{map}
use Rattle.predict.specs.Rules.{Rules}
use Rattle.predict.specs.Table.{Table, rules_of}
use Rattle.predict.specs.FirstFit.{WrittenGrammar}
use Rattle.predict.specs.Sets.{Sets, with_kinds}
use Rattle.c_syntax.specs.grammar.KindSets.{c_empty, c_begins, c_follows}
use Rattle.c_syntax.specs.grammar.Rows.{written_rows}

-- the sets
abbrev pub c_sets : Sets
c_sets = record { empty = c_empty; begins = c_begins; follows = c_follows }

-- the grammar: a whole text is a File, the first nonterminal, and the end of the text is the first kind
abbrev pub c_grammar : WrittenGrammar
c_grammar = record { rows = written_rows; start = 0; end_kind = 0 }

-- the rows with the kinds at which each is chosen
abbrev pub c_table : Table
c_table = record { start = 0; end_kind = 0; rows = map (with_kinds c_sets) written_rows }

-- the rules of C files
unfoldable pub c_rules : Rules
c_rules = rules_of c_table

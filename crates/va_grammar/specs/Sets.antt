-- The sets of kinds by which a row is chosen, and the table that they make. What is listed in `KindSets` is exactly what can begin
-- and what can follow (see the clauses of `VaRows`).
use Rattle.std.specs.Prelude.{map}
use Rattle.predict.specs.Rules.{Rules}
use Rattle.predict.specs.Sets.{Sets, with_kinds}
use Rattle.predict.specs.Table.{Table, rules_of}
use Rattle.predict.specs.FirstFit.{WrittenGrammar}
use Rattle.va_grammar.specs.declared.nonterminal.Nonterminal.TheVariants.{Source}
use Rattle.va_grammar.specs.declared.terminal.Terminal.TheVariants.{EndOfText}
use Rattle.va_grammar.specs.Terminals.{terminal_number}
use Rattle.va_grammar.specs.Nonterminals.{nonterminal_number}
use Rattle.va_grammar.specs.Rows.{rows}
use Rattle.va_grammar.specs.KindSets.{va_empty, va_begins, va_follows}

-- the sets of Verilog-A
abbrev pub va_sets : Sets
va_sets = record { empty = va_empty; begins = va_begins; follows = va_follows }

-- The grammar of Verilog-A: a whole text is a Source, and the end of the text follows it.
abbrev pub va_grammar : WrittenGrammar
va_grammar = record { rows = rows; start = nonterminal_number Source; end_kind = terminal_number EndOfText }

-- the table of Verilog-A
abbrev pub va_table : Table
va_table = record { start = nonterminal_number Source; end_kind = terminal_number EndOfText; rows = map (with_kinds va_sets) rows }

-- the rules of Verilog-A
unfoldable pub va_rules : Rules
va_rules = rules_of va_table

use Rattle.std.proofs.Common.{rules}
use Rattle.va_grammar.proofs.VaSymbols.{row_within, row_symbols}
use Rattle.va_grammar.proofs.va_rows.parts.Goals as goal

pub bounds-row : goal.bounds-row
bounds-row c = row_within c.args.row c.requires

pub returns : goal.returns
returns c = search (rules, row_symbols, c.requires)

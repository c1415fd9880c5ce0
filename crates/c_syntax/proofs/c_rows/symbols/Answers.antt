use Rattle.std.proofs.Common.{rules}
use Rattle.c_syntax.proofs.Tables.{row_within, symbols_of_numbers, numbers_listed}
use Rattle.c_syntax.proofs.c_rows.symbols.Goals as goal

pub bounds-row : goal.bounds-row
bounds-row c = row_within c.args.row c.requires

pub returns : goal.returns
returns c = symbols_of_numbers _ c.args.row (search (rules, numbers_listed)) c.requires

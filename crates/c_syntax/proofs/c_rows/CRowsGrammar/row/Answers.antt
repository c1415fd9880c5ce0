use Rattle.std.proofs.Common.{sym, ◌∙◌}
use Rattle.c_syntax.proofs.Tables.{row_fits, row_written, row_none}
use Rattle.c_syntax.proofs.c_rows.CRowsGrammar.row.Goals as goal

pub returns-clause-first : goal.returns-clause-first
returns-clause-first c = λ row e. row_fits c.args.left c.args.next row (sym c.row_at.ensures ∙ e)

pub returns-clause-written : goal.returns-clause-written
returns-clause-written c = λ row e. row_written c.args.left c.args.next row (sym c.row_at.ensures ∙ e)

pub returns-clause-none : goal.returns-clause-none
returns-clause-none c = λ e. row_none c.args.left c.args.next (sym c.row_at.ensures ∙ e)

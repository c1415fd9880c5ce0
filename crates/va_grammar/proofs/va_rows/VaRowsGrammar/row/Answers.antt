use Rattle.std.proofs.Common.{sym, ◌∙◌}
use Rattle.va_grammar.proofs.Entries.{row_first_fit, row_none_fits}
use Rattle.va_grammar.proofs.VaSymbols.{row_written}
use Rattle.va_grammar.proofs.va_rows.VaRowsGrammar.row.Goals as goal

pub returns-clause-first : goal.returns-clause-first
returns-clause-first c = λ row e. row_first_fit c.args.left c.args.next row (sym c.row_at.ensures ∙ e)

pub returns-clause-written : goal.returns-clause-written
returns-clause-written c = λ row e. row_written c.args.left c.args.next row (sym c.row_at.ensures ∙ e)

pub returns-clause-none : goal.returns-clause-none
returns-clause-none c = λ e. row_none_fits c.args.left c.args.next (sym c.row_at.ensures ∙ e)

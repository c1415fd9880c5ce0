use Rattle.std.proofs.Common.{ap, sym, ◌∙◌}
use Rattle.std.specs.Option.{is_some}
use Rattle.va_scopes.proofs.Builtins.{without_row, of_row}
use Rattle.va_scopes.proofs.bindings.is_builtin.Goals as goal

pub returns-in-None : goal.returns-in-None
returns-in-None c = without_row c.args.name.now (sym c.in-None.is ∙ c.builtin_row.ensures)

pub returns-in-Some : goal.returns-in-Some
returns-in-Some c =
    c.is_some.ensures ∙ ap is_some c.builtin_at.ensures
    ∙ of_row c.args.name.now c.in-Some.row (sym c.in-Some.is ∙ c.builtin_row.ensures)

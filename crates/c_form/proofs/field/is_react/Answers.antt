use Rattle.std.proofs.Common.{rules}
use Rattle.c_form.proofs.Names.{same-decimals}
use Rattle.c_form.proofs.field.is_react.Goals as goal

pub returns-in-React : goal.returns-in-React
returns-in-React c =
    rw (c.in-React.is) (same-decimals c.in-React.number c.args.row (search rules) (search rules))

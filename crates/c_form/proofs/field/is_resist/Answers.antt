use Rattle.std.proofs.Common.{rules}
use Rattle.c_form.proofs.Names.{same-decimals}
use Rattle.c_form.proofs.field.is_resist.Goals as goal

pub returns-in-Resist : goal.returns-in-Resist
returns-in-Resist c =
    rw (c.in-Resist.is) (same-decimals c.in-Resist.number c.args.row (search rules) (search rules))

use Rattle.std.proofs.Common.{refl}
use Rattle.c_form.proofs.Knowing.{declared}
use Rattle.c_form.proofs.scope.declare.Goals as goal

pub returns : goal.returns
returns c = λ known outer s.
    declared _ _ c.args.number c.args.ty c.in_ok-hid.hid known outer c.in_ok-hid.ensures.old c.in_ok-hid.ensures.updates.0
    c.in_ok-push.ensures.items refl s

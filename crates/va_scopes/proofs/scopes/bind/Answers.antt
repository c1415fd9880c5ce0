use Rattle.std.proofs.Common.{refl}
use Rattle.va_scopes.proofs.Scoping.{bound}
use Rattle.va_scopes.proofs.scopes.bind.Goals as goal

pub returns : goal.returns
returns c = λ known outer s.
    bound _ _ c.args.binding c.in_ok-before.before known outer c.in_ok-before.ensures.before c.in_ok-before.ensures.after
    c.in_ok-push.ensures.items refl s

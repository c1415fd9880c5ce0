use Rattle.std.proofs.Common.{◌≡◌, false, sym, rules, subst}
use Rattle.va_sem.specs.Scopes.{is_builtin}
use Rattle.va_scopes.specs.Bindings.{declared_by}
use Rattle.va_scopes.specs.Seeing.{IsScope}
use Rattle.va_scopes.proofs.Scoping.{in_front-not}
use Rattle.va_scopes.proofs.scopes.declare.Goals as goal

pub returns-in_ok-bind : goal.returns-in_ok-bind
returns-in_ok-bind c = λ known outer s.
    let own : is_builtin c.args.binding.name.now ≡ false = search rules in
    subst (λ seen. IsScope c.bind.new.scopes seen outer) (sym (in_front-not (declared_by c.args.binding) known own)) (c.in_ok-bind.ensures known outer s)

use Rattle.std.specs.Prelude.{map}
use Rattle.std.proofs.lemmas.Result.{on_ok_weaker}
use Rattle.va_scopes.specs.Bindings.{declared_by}
use Rattle.va_scopes.proofs.Scoping.{counted}
use Rattle.va_scopes.proofs.scopes.declare_all.Goals as goal

pub returns : goal.returns
returns c =
    on_ok_weaker c.bind_all.result
    (λ declares known outer s. counted _ (map declared_by c.args.bindings.items) known outer (declares known outer s))
    c.bind_all.ensures

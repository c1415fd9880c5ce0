use Rattle.std.proofs.Common.{refl, ap, ◌∙◌, ◌++◌, ◌∷◌, []}
use Rattle.va_scopes.specs.declared.scopes.Frame.{Frame}
use Rattle.va_scopes.proofs.Scoping.{opened}
use Rattle.va_scopes.proofs.scopes.open_scope.Goals as goal

pub returns : goal.returns
returns c = λ known outer s.
    opened c.args.scopes.now _ known outer refl
    (ap (λ f. (Frame.hidden f).items) c.replace-around.ensures.after ∙ c.new.ensures.items)
    (c.in_ok-push.ensures.items ∙ ap (λ f. c.args.scopes.now.outer.items ++ f ∷ []) c.replace-around.ensures.value) s

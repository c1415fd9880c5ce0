use Rattle.std.proofs.Common.{◌≡◌, ◌∙◌, ap, sym, ◌++◌, ◌∷◌, [], rules, subst}
use Rattle.std.specs.Prelude.{map}
use Rattle.va_scopes.specs.Bindings.{declared_by}
use Rattle.va_scopes.specs.Declaring.{in_front, all_in_front}
use Rattle.va_scopes.specs.Seeing.{IsScope}
use Rattle.va_scopes.proofs.Scoping.{all-push}
use Rattle.va_scopes.proofs.scopes.bind_all.Goals as goal

pub declare-preserved : goal.declare-preserved
declare-preserved c =
    let popped : c.declare.left.items ≡ c.pop.new.self.items ++ c.in-Some.last ∷ [] = search rules in
    λ known outer s.
    let before = c.declare.invariant known outer s in (
      in_front (declared_by c.in-Some.last) before.0,
      c.in_ok-declare.ensures before.0 outer before.1,
      sym (all-push declared_by c.pop.new.self.items c.in-Some.last before.0)
          ∙ ap (λ items. all_in_front (map declared_by items) before.0) (sym popped) ∙ before.2,
    )

pub returns : goal.returns
returns c =
    let empty : c.declare.left.items ≡ [] = search rules in
    λ known outer s.
    let before = c.declare.invariant known outer s in
    subst (λ seen. IsScope c.declare.scopes seen outer)
    (ap (λ items. all_in_front (map declared_by items) before.0) (sym empty) ∙ before.2) before.1

use Rattle.std.proofs.Common.{refl, ap, ◌∙◌, ◌++◌, ◌∷◌, []}
use Rattle.c_form.specs.declared.scope.Frame.{Frame}
use Rattle.c_form.proofs.Knowing.{opened}
use Rattle.c_form.proofs.scope.open_block.Goals as goal

pub returns : goal.returns
returns c = λ known outer s.
    opened c.args.scope.now _ known outer refl
    (ap (λ f. (Frame.hidden f).items) c.replace-around.ensures.after ∙ c.new.ensures.items)
    (c.in_ok-push.ensures.items ∙ ap (λ f. c.args.scope.now.outer.items ++ f ∷ []) c.replace-around.ensures.value) s

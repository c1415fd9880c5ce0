use Rattle.std.proofs.Common.{◌∙◌, ap, ◌∷◌, ◌++◌, []}
use Rattle.std.specs.Prelude.{false}
use Rattle.c_form.proofs.Open.{innermost-push}
use Rattle.c_form.proofs.breaks.open_choice.Goals as goal

pub returns : goal.returns
returns c =
    rw (c.in_ok-push-3.ensures.items, c.in_ok-push-2.ensures.items, c.in_ok-push.ensures.items)
    (innermost-push ((c.args.blocks.now.items ++ c.args.wanted ∷ []) ++ false ∷ []) false ∙ ap (λ l. false ∷ l)
    (innermost-push (c.args.blocks.now.items ++ c.args.wanted ∷ []) false ∙ ap (λ l. false ∷ l) (innermost-push c.args.blocks.now.items c.args.wanted)))

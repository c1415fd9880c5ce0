use Rattle.std.proofs.Common.{◌∙◌, ap, ◌∷◌, ◌++◌, []}
use Rattle.std.specs.Prelude.{true}
use Rattle.c_form.proofs.Open.{innermost-push}
use Rattle.c_form.proofs.breaks.open_loop.Goals as goal

pub returns : goal.returns
returns c =
    rw (c.in_ok-push-2.ensures.items, c.in_ok-push.ensures.items)
    (innermost-push (c.args.blocks.now.items ++ c.args.wanted ∷ []) true ∙ ap (λ l. true ∷ l) (innermost-push c.args.blocks.now.items c.args.wanted))

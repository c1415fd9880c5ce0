use Rattle.std.proofs.Common.{ap, ◌∙◌, ◌∷◌, ◌++◌, []}
use Rattle.c_form.specs.OpenBlocks.{innermost_first}
use Rattle.c_form.proofs.Open.{innermost-push}
use Rattle.c_form_settings.proofs.pass.open_block.Goals as goal

pub returns-clause-blocks : goal.returns-clause-blocks
returns-clause-blocks c =
    ap (λ f. f ∷ innermost_first c.push.new.self.items) c.replace-around.ensures.after
    ∙ ap (λ l. c.args.fresh ∷ l)
    (ap innermost_first (c.in_ok-push.ensures.items ∙ ap (λ f. c.args.pass.now.outer.items ++ f ∷ []) c.replace-around.ensures.value)
    ∙ innermost-push c.args.pass.now.outer.items c.args.pass.now.frame)

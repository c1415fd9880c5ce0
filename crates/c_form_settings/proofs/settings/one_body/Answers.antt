use Rattle.std.proofs.Common.{ap, sym, ◌∙◌}
use Rattle.c_raw.specs.Blocks.{block_view}
use Rattle.c_tree.specs.rules.Settings.{settings_in}
use Rattle.c_form.proofs.Blaming.{blames_as}
use Rattle.c_form.proofs.Flat.{block-of-body}
use Rattle.c_form_settings.proofs.settings.one_body.Goals as goal

pub returns : goal.returns
returns c =
    blames_as c.in_ok-block.ensures
    (ap (λ l. settings_in (block_view l)) c.statements.ensures ∙ ap settings_in (sym (block-of-body c.args.body.now)))

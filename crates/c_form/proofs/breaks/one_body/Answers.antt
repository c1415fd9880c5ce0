use Rattle.std.specs.Prelude.{false}
use Rattle.std.proofs.Common.{ap, sym, ◌∙◌}
use Rattle.c_raw.specs.Blocks.{block_view}
use Rattle.c_tree.specs.rules.Breaks.{breaks_in}
use Rattle.c_form.proofs.Blaming.{blames_as}
use Rattle.c_form.proofs.Flat.{block-of-body}
use Rattle.c_form.proofs.breaks.one_body.Goals as goal

pub returns : goal.returns
returns c =
    blames_as c.in_ok-block.ensures
    (ap (λ l. breaks_in false (block_view l)) c.statements.ensures ∙ ap (breaks_in false) (sym (block-of-body c.args.body.now)))

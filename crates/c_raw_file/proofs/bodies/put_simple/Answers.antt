use Rattle.std.proofs.Common.{ap, refl, ◌∙◌}
use Rattle.c_tree.specs.declared.body.CStatement.TheVariants as statement
use Rattle.c_raw_file.specs.Walked.{longer}
use Rattle.c_raw_file.proofs.Walked.{simple_met, last_first, moved}
use Rattle.c_raw_file.proofs.bodies.put_simple.Goals as goal

pub returns : goal.returns
returns c =
    let next = c.next_block-next in
    let block = c.in_ok-block.ensures ∙ ap (longer 1) next.ensures.block in
    let now = last_first _ _ _ _ _ c.in_ok-push-2.ensures.items block next.ensures.blocks in
    let body = last_first _ _ _ _ _ c.in_ok-push.ensures.items (ap (λ s. statement.Simple s) c.in_ok-statement.ensures) refl in
    λ met w. moved _ _ _ _ _ now body (simple_met c.args.raw.now _ _ met w)

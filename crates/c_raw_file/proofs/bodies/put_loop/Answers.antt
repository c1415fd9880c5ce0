use Rattle.std.proofs.Common.{◌+◌, List, ap, refl, reverse, ◌∙◌}
use Rattle.c_tree.specs.declared.body.CStatement.TheVariants as statement
use Rattle.c_raw_file.specs.declared.bodies.Counted.{Counted}
use Rattle.c_raw_file.specs.Walked.{longer, counted_first, counted_later}
use Rattle.c_raw_file.proofs.Walked.{loop_met, last_first, moved}
use Rattle.c_raw_file.proofs.bodies.put_loop.Goals as goal

pub returns : goal.returns
returns c =
    let blocks : List Counted = reverse c.args.blocks.now.items in
    let inner = c.next_block-inner.ensures.block in
    let one = c.next_block-inner.ensures.blocks in
    let two = c.next_block-behind.ensures.blocks ∙ ap counted_later one in
    let behind = c.next_block-behind.ensures.block ∙ ap counted_first one in
    let all = c.in_ok-all.ensures ∙ ap (λ (b : Counted). b.before + b.turn + 1) inner in
    let block = c.in_ok-block.ensures ∙ ap (λ n. longer n c.next_block-behind.result) all
    ∙ ap (longer ((counted_first blocks).before + (counted_first blocks).turn + 1)) behind in
    let now = last_first _ _ _ _ _ c.in_ok-push-2.ensures.items block two in
    let body = last_first _ _ _ _ _ c.in_ok-push.ensures.items (ap (λ (b : Counted). statement.For b.before b.test b.turn) inner) refl in
    λ met w. moved _ _ _ _ _ now body (loop_met blocks _ met w)

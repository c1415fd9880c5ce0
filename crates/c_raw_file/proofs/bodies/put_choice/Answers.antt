use Rattle.std.proofs.Common.{◌+◌, List, ap, refl, reverse, ◌∙◌}
use Rattle.c_raw_file.specs.declared.bodies.Counted.{Counted}
use Rattle.c_raw_file.specs.Walked.{longer, total, counted_first, counted_later}
use Rattle.c_raw_file.proofs.Walked.{choice_met, last_first, moved}
use Rattle.c_raw_file.proofs.bodies.put_choice.Goals as goal

pub returns : goal.returns
returns c =
    let blocks : List Counted = reverse c.args.blocks.now.items in
    let one = c.next_block.ensures.blocks in
    let two = c.next_block-2.ensures.blocks ∙ ap counted_later one in
    let three = c.next_block-behind.ensures.blocks ∙ ap counted_later two in
    let first = c.in_ok-first.ensures ∙ ap total c.next_block.ensures.block in
    let second = c.in_ok-second.ensures ∙ ap total (c.next_block-2.ensures.block ∙ ap counted_first one) in
    let behind = c.next_block-behind.ensures.block ∙ ap counted_first two in
    let all = c.in_ok-first.first + c.in_ok-second.second + 1 in
    let block = c.in_ok-block.ensures ∙ ap (λ n. longer n c.next_block-behind.result) c.in_ok-all.ensures ∙ ap (longer all) behind in
    let now = last_first _ _ _ _ _ c.in_ok-push-2.ensures.items block three in
    let body = last_first _ _ _ _ _ c.in_ok-push.ensures.items refl refl in
    λ met w. moved _ _ _ _ _ now body (choice_met c.args.test c.in_ok-first.first c.in_ok-second.second blocks _ first second met w)

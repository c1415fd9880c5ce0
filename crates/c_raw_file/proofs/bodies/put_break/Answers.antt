use Rattle.std.proofs.Common.{ap, refl, ◌∙◌}
use Rattle.c_raw_file.specs.Walked.{left_here}
use Rattle.c_raw_file.proofs.Walked.{break_met, last_first, moved}
use Rattle.c_raw_file.proofs.bodies.put_break.Goals as goal

pub returns : goal.returns
returns c =
    let next = c.next_block-next in
    let block = c.in_ok-block.ensures ∙ ap (left_here c.args.test.value) next.ensures.block in
    let now = last_first _ _ _ _ _ c.in_ok-push.ensures.items block next.ensures.blocks in
    λ at body met w. moved _ _ _ _ _ now refl (break_met at c.args.test _ _ met w)

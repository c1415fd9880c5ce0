use Rattle.std.proofs.Common.{◌≡◌, drop, reverse, subst, ◌∙◌, arith}
use Rattle.c_raw_file.specs.Walked.{IsWalked}
use Rattle.c_raw_file.proofs.Walked.{whole_body}
use Rattle.c_raw_file.proofs.bodies.body_of.Goals as goal

pub returns : goal.returns
returns c =
    let at_front : c.loop-i.i ≡ 0 = omega (arith, c.loop-i-test.false) in
    let walked = subst (λ i. IsWalked (reverse c.loop-i.blocks.items) (reverse c.loop-i.body.items) (drop i c.args.list.now)) at_front c.loop-i.invariant in
    c.new.ensures ∙ c.reverse.ensures.items ∙ whole_body c.args.list.now _ c.loop-i.body.items c.requires walked

use Rattle.std.proofs.Common.{sym, ◌∙◌}
use Rattle.c_syntax.proofs.Places.{kind-here}
use Rattle.c_syntax.proofs.c_rows.place_of_kind.Goals as goal

pub returns-then-kind-next : goal.returns-then-kind-next
returns-then-kind-next c =
    sym (c.loop-place.invariant ∙ kind-here c.args.kinds.now c.loop-place.place c.args.next c.loop-place-test.true c.if-kind-next.true)

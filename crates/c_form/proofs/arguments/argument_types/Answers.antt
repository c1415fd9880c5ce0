use Rattle.std.proofs.Common.{arith, ◌∙◌}
use Rattle.std.specs.Prelude.{nat_eq}
use Rattle.indexmap.specs.IndexMap.{get}
use Rattle.c_form.proofs.Uses.{entered}
use Rattle.c_form.proofs.arguments.argument_types.Goals as goal

pub loop-place-preserved : goal.loop-place-preserved
loop-place-preserved c = (
  λ i. c.in_ok-insert.ensures.updates.0 i
      ∙ entered c.args.list.now c.loop-place.place _ i (get nat_eq c.loop-place.types i) c.loop-place-test.true c.loop-place.invariant.1 (c.loop-place.invariant.0 i),
  omega arith,
)

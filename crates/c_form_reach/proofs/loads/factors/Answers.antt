use Rattle.std.proofs.Common.{arith}
use Rattle.c_tree.specs.rules.Reach.{factor_reached}
use Rattle.c_raw.specs.Blocks.{at_view}
use Rattle.c_form.proofs.Blaming.{blames_at, blames_last}
use Rattle.c_form_reach.proofs.loads.factors.Goals as goal

pub loop-found-preserved : goal.loop-found-preserved
loop-found-preserved c = λ m k new more.
    c.loop-found.invariant m k new
    (blames_at at_view (factor_reached m c.args.function) _ _ new c.args.list.now c.loop-found.found-index _ (omega arith) (c.in_ok-factor.ensures m k) more)

pub returns : goal.returns
returns c = λ m k. c.loop-found.invariant m k _ (blames_last at_view (factor_reached m c.args.function) _ c.args.list.now c.loop-found.found-index (omega arith))

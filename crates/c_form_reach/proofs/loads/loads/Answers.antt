use Rattle.std.proofs.Common.{arith}
use Rattle.c_tree.specs.rules.Reach.{load_reached}
use Rattle.c_raw.specs.Views.{load_view}
use Rattle.c_form.proofs.Blaming.{blames_element, blames_last}
use Rattle.c_form_reach.proofs.loads.loads.Goals as goal

pub loop-found-preserved : goal.loop-found-preserved
loop-found-preserved c = λ m k new more.
    c.loop-found.invariant m k new
    (blames_element load_view (load_reached m c.args.function) _ _ new c.args.list.now c.loop-found.found-index c.found-item.result (omega arith) c.found-item.is (c.in_ok-load.ensures m k) more)

pub returns : goal.returns
returns c = λ m k. c.loop-found.invariant m k _ (blames_last load_view (load_reached m c.args.function) _ c.args.list.now c.loop-found.found-index (omega arith))

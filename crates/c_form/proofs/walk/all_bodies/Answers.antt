use Rattle.std.proofs.Common.{arith}
use Rattle.c_raw.specs.Views.{module_view}
use Rattle.c_form.specs.Bodies.{body_view}
use Rattle.c_form.proofs.Blaming.{blames_element, blames_last}
use Rattle.c_form.proofs.walk.all_bodies.Goals as goal

pub loop-body-preserved : goal.loop-body-preserved
loop-body-preserved g c = λ new more.
    c.loop-body.invariant new
    (blames_element body_view (g.R.BodyRule.blamed (module_view c.args.tree.now)) _ _ new c.args.list.now c.loop-body.body-index c.body-item.result (omega arith) c.body-item.is
    c.in_ok-blame_body.ensures more)

pub returns : goal.returns
returns g c = c.loop-body.invariant _ (blames_last body_view (g.R.BodyRule.blamed (module_view c.args.tree.now)) _ c.args.list.now c.loop-body.body-index (omega arith))

use Rattle.std.proofs.Common.{arith}
use Rattle.std.specs.List.{flat_map}
use Rattle.c_tree.specs.rules.Bodies.{items_of}
use Rattle.c_raw.specs.Views.{module_view}
use Rattle.c_form.specs.Bodies.{body_view}
use Rattle.c_form.proofs.Blaming.{blames_element, blames_last}
use Rattle.c_form_types.specs.Places.{item_blamed}
use Rattle.c_form_types.proofs.bodies.all_bodies.Goals as goal

pub loop-body-preserved : goal.loop-body-preserved
loop-body-preserved c = λ new more.
    c.loop-body.invariant new
    (blames_element body_view (λ b. flat_map (item_blamed (module_view c.args.tree.now) b) (items_of b)) _ _ new c.args.list.now c.loop-body.body-index c.body-item.result (omega arith) c.body-item.is
    c.in_ok-one_body.ensures more)

pub returns : goal.returns
returns c = c.loop-body.invariant _ (blames_last body_view (λ b. flat_map (item_blamed (module_view c.args.tree.now) b) (items_of b)) _ c.args.list.now c.loop-body.body-index (omega arith))

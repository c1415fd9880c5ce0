use Rattle.std.proofs.Common.{arith}
use Rattle.std.specs.List.{flat_map}
use Rattle.c_tree.specs.rules.Fields.{body_cells, cell_missing}
use Rattle.c_form.specs.Bodies.{body_view}
use Rattle.c_form.proofs.Blaming.{blames_element, blames_last}
use Rattle.c_form.proofs.fields.all_bodies.Goals as goal

pub loop-body-preserved : goal.loop-body-preserved
loop-body-preserved c = λ m k new more.
    c.loop-body.invariant m k new
    (blames_element body_view (λ b. flat_map (cell_missing m) (body_cells b)) _ _ new c.args.list.now c.loop-body.body-index c.body-item.result (omega arith) c.body-item.is (c.in_ok-one_body.ensures m k) more)

pub returns : goal.returns
returns c = λ m k. c.loop-body.invariant m k _ (blames_last body_view (λ b. flat_map (cell_missing m) (body_cells b)) _ c.args.list.now c.loop-body.body-index (omega arith))

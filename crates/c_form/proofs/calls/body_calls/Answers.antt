use Rattle.std.proofs.Common.{refl}
use Rattle.c_tree.specs.Raw.{RawModule}
use Rattle.c_tree.specs.rules.Bodies.{RawBody}
use Rattle.c_raw.specs.Views.{module_view}
use Rattle.c_form.specs.Bodies.{body_view}
use Rattle.c_form.proofs.Blaming.{blames_as}
use Rattle.c_form.proofs.ItemParts.{calls-body}
use Rattle.c_form.proofs.calls.body_calls.Goals as goal

pub returns : goal.returns
returns c =
    let m : RawModule = module_view c.args.tree.now in
    let b : RawBody = body_view c.args.body.now in
    blames_as (c.in_ok-in_items.ensures (m, b) (refl, refl)) (calls-body m b)

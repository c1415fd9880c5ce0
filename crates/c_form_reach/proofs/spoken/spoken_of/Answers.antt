use Rattle.std.proofs.Common.{refl}
use Rattle.c_tree.specs.rules.Bodies.{RawBody, items_of}
use Rattle.c_form.specs.Bodies.{body_view}
use Rattle.c_form.proofs.Seen.{blames_like}
use Rattle.c_form_reach.proofs.Reaching.{body-least}
use Rattle.c_form_reach.proofs.spoken.spoken_of.Goals as goal

pub returns : goal.returns
returns c =
    let b : RawBody = body_view c.args.body.now in
    blames_like _ _ _ _ (c.in_ok-in_items.ensures b refl) (body-least b.kind (items_of b))

use Rattle.c_form.specs.Bodies.{body_view}
use Rattle.c_form.proofs.Blaming.{blames_as}
use Rattle.c_form.proofs.ItemParts.{cells-body}
use Rattle.c_form.proofs.fields.one_body.Goals as goal

pub returns : goal.returns
returns c = λ m k. blames_as (c.in_ok-in_items.ensures m k) (cells-body m (body_view c.args.body.now))

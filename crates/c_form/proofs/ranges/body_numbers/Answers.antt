use Rattle.std.proofs.Common.{refl}
use Rattle.c_tree.specs.Raw.{RawModule}
use Rattle.c_raw.specs.Views.{module_view}
use Rattle.c_form.specs.Bodies.{body_view}
use Rattle.c_form.proofs.Blaming.{blames_as}
use Rattle.c_form.proofs.ItemParts.{numbers-body}
use Rattle.c_form.proofs.ranges.body_numbers.Goals as goal

pub returns : goal.returns
returns c =
    let m : RawModule = module_view c.args.tree.now in
    blames_as (c.in_ok-in_items.ensures m refl) (numbers-body m (body_view c.args.body.now))

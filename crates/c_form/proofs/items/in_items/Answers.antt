use Rattle.std.proofs.Common.{sym, ap, ℕ, List}
use Rattle.std.specs.List.{flat_map}
use Rattle.c_tree.specs.rules.Bodies.{Item}
use Rattle.c_form.specs.Bodies.{in_statement}
use Rattle.c_form.specs.Items.{in_item}
use Rattle.c_form.proofs.Blaming.{◌▸◌, blames_as}
use Rattle.c_form.proofs.Flat.{items-of-body}
use Rattle.c_form.proofs.items.in_items.Goals as goal

pub returns : goal.returns
returns g c = λ p k.
    let part : Item → List ℕ = in_item (g.R.ItemRule.in_atom p) (g.R.ItemRule.in_simple p) in
    blames_as (blames_as (c.in_ok-all_statements.ensures p k) (ap (flat_map (in_statement part)) c.statements.ensures) ▸ c.in_ok-returned.ensures p k)
    (sym (items-of-body part c.args.body.now c.requires))

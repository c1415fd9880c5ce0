use Rattle.std.proofs.Common.{ap, ◌∙◌}
use Rattle.std.specs.Prelude.{map}
use Rattle.std.specs.List.{flat_map}
use Rattle.c_raw.specs.Blocks.{at_view}
use Rattle.c_form.proofs.Blaming.{◌▸◌, blames_as}
use Rattle.c_form.proofs.items.simple.Goals as goal

pub returns : goal.returns
returns g c = λ p k.
    blames_as (c.in_ok-all_atoms.ensures p k)
    (ap (flat_map (g.R.ItemRule.in_atom p)) (ap (map at_view) c.deref.ensures.value ∙ c.in_ok-atoms.ensures))
    ▸ c.in_ok-blame_simple.ensures p k

use Rattle.std.proofs.Common.{ap, ◌∙◌}
use Rattle.std.specs.Prelude.{map}
use Rattle.c_tree.specs.rules.Bodies.{set_cells, set_flags}
use Rattle.c_tree.specs.rules.Reach.{cells_twice, flags_twice}
use Rattle.c_raw.specs.Blocks.{at_view}
use Rattle.c_form.proofs.Blaming.{◌▸◌, blames_as}
use Rattle.c_form_reach.proofs.Placing.{direct-body}
use Rattle.c_form_reach.proofs.twice.twice.Goals as goal

pub returns : goal.returns
returns c =
    blames_as c.in_ok-cells_twice.ensures
    (ap cells_twice (ap (map at_view) c.deref.ensures.value ∙ c.in_ok-cells.ensures ∙ direct-body set_cells c.args.list.now c.requires))
    ▸ blames_as c.in_ok-flags_twice.ensures
    (ap flags_twice (ap (map at_view) c.deref-2.ensures.value ∙ c.in_ok-flags.ensures ∙ direct-body set_flags c.args.list.now c.requires))

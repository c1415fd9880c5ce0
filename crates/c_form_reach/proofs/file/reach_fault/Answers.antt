use Rattle.std.proofs.Common.{ap, sym, ◌∙◌}
use Rattle.std.specs.Prelude.{map}
use Rattle.std.specs.List.{flat_map}
use Rattle.c_tree.specs.rules.Reach.{loads_reached}
use Rattle.c_raw.specs.Views.{module_view}
use Rattle.c_form.proofs.Blaming.{◌▸◌, blames_as, least_is, unnumbered}
use Rattle.c_form_reach.proofs.file.reach_fault.Goals as goal

pub returns : goal.returns
returns c =
    least_is
    (c.in_ok-in_bodies.ensures
    ▸ blames_as c.in_ok-modules_loads.ensures
    (ap (λ l. flat_map (loads_reached 0) (map module_view l)) c.as_list.ensures
    ∙ sym (unnumbered (loads_reached 0) 0 (map module_view c.args.raw.now.modules))))

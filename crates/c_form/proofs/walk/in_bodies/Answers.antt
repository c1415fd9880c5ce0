use Rattle.std.proofs.Common.{ap, sym, ◌∙◌}
use Rattle.std.specs.Prelude.{map}
use Rattle.std.specs.List.{flat_map}
use Rattle.c_tree.specs.rules.Bodies.{bodies_of}
use Rattle.c_raw.specs.Views.{module_view}
use Rattle.c_form.proofs.Blaming.{blames_as, unnumbered}
use Rattle.c_form.proofs.walk.in_bodies.Goals as goal

pub returns : goal.returns
returns g c =
    blames_as c.in_ok-modules.ensures
    (ap (λ l. flat_map (λ m. flat_map (g.R.BodyRule.blamed m) (bodies_of m)) (map module_view l)) c.as_list.ensures
    ∙ sym (unnumbered (λ m. flat_map (g.R.BodyRule.blamed m) (bodies_of m)) 0 (map module_view c.args.raw.now.modules)))

use Rattle.std.proofs.Common.{ℕ, drop}
use Rattle.std.specs.Prelude.{Option}
use Rattle.std.specs.List.{flat_map}
use Rattle.c_tree.specs.rules.Bodies.{items_of}
use Rattle.c_raw.specs.Views.{module_view}
use Rattle.c_form.specs.Bodies.{body_view}
use Rattle.c_form.specs.Blames.{Blames}
use Rattle.c_form.proofs.Blaming.{parts_of}
use Rattle.c_form_types.specs.Places.{item_blamed}
use Rattle.c_form_types.proofs.bodies.all_bodies.Given as goal

-- whatever blames what is left blames it all
abbrev pub invariant-loop-body : goal.invariant-loop-body
invariant-loop-body l =
    (new : Option ℕ) → Blames l.least new (parts_of body_view (λ b. flat_map (item_blamed (module_view l.tree) b) (items_of b)) (drop l.body-index l.list))
    → Blames l.fn.least new (parts_of body_view (λ b. flat_map (item_blamed (module_view l.tree) b) (items_of b)) l.list)

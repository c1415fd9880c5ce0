use Rattle.std.proofs.Common.{ℕ, drop}
use Rattle.std.specs.Prelude.{Option}
use Rattle.c_form.proofs.Blaming.{parts_of}
use Rattle.std.specs.List.{flat_map}
use Rattle.c_tree.specs.rules.Fields.{body_cells, cell_missing}
use Rattle.c_form.specs.Bodies.{body_view}
use Rattle.c_tree.specs.Raw.{RawModule}
use Rattle.c_form.specs.FieldTypes.{HasTypes}
use Rattle.c_form.specs.Blames.{Blames}
use Rattle.c_form.proofs.fields.all_bodies.Given as goal

-- whatever blames what is left blames it all
abbrev pub invariant-loop-body : goal.invariant-loop-body
invariant-loop-body l =
    (m : RawModule) → HasTypes l.types m → (new : Option ℕ) → Blames l.least new (parts_of body_view (λ b. flat_map (cell_missing m) (body_cells b)) (drop l.body-index l.list)) → Blames l.fn.least new (parts_of body_view (λ b. flat_map (cell_missing m) (body_cells b)) l.list)

use Rattle.std.proofs.Common.{ℕ, drop}
use Rattle.std.specs.Prelude.{Option}
use Rattle.c_form.proofs.Blaming.{parts_of}
use Rattle.c_tree.specs.rules.Fields.{access_cells}
use Rattle.c_raw.specs.Views.{access_view}
use Rattle.c_tree.specs.Raw.{RawModule}
use Rattle.c_form.specs.FieldTypes.{HasTypes}
use Rattle.c_form.specs.Blames.{Blames}
use Rattle.c_form.proofs.field_rows.access_rows.Given as goal

-- whatever blames what is left blames it all
abbrev pub invariant-loop-row : goal.invariant-loop-row
invariant-loop-row l =
    (m : RawModule) → HasTypes l.types m → (new : Option ℕ) → Blames l.least new (parts_of access_view (access_cells m) (drop l.row-index l.list)) → Blames l.fn.least new (parts_of access_view (access_cells m) l.list)

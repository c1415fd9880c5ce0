use Rattle.std.proofs.Common.{◌≤◌, drop, length}
use Rattle.std.specs.Prelude.{map}
use Rattle.c_raw.specs.Views.{field_view}
use Rattle.c_form.specs.FieldTypes.{HasFields}
use Rattle.c_form.proofs.cell_types.named_types.Given as goal

abbrev pub invariant-loop-place : goal.invariant-loop-place
invariant-loop-place l = HasFields l.table (map field_view (drop l.place l.list)) × (l.place ≤ length l.list)

abbrev pub decreases-loop-place : goal.decreases-loop-place
decreases-loop-place l = l.place

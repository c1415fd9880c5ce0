use Rattle.std.proofs.Common.{ℕ, drop}
use Rattle.std.specs.Prelude.{Option}
use Rattle.c_raw.specs.Views.{access_view, module_view}
use Rattle.c_form.specs.Parts.{access_number}
use Rattle.c_form.specs.Blames.{Blames}
use Rattle.c_form.proofs.Blaming.{parts_of}
use Rattle.c_form.proofs.entries.access.Given as goal

-- whatever blames what is left blames it all
abbrev pub invariant-loop-row : goal.invariant-loop-row
invariant-loop-row l =
    (new : Option ℕ) → Blames l.least new (parts_of access_view (access_number (module_view l.tree)) (drop l.row-index l.list))
    → Blames l.fn.least new (parts_of access_view (access_number (module_view l.tree)) l.list)

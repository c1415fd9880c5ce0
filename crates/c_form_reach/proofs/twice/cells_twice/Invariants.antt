use Rattle.std.proofs.Common.{ℕ, drop}
use Rattle.std.specs.Prelude.{map, Option, false}
use Rattle.c_tree.specs.rules.Reach.{same_cell}
use Rattle.c_raw.specs.Blocks.{at_view}
use Rattle.c_form.specs.Blames.{Blames}
use Rattle.c_form.proofs.Seen.{again_by}
use Rattle.c_form_reach.specs.Settings.{was_set}
use Rattle.c_form_reach.proofs.Setting.{cell_key, cell_token}
use Rattle.c_form_reach.proofs.twice.cells_twice.Given as goal

-- whatever blames what is left blames it all
abbrev pub invariant-loop-cell : goal.invariant-loop-cell
invariant-loop-cell l =
    (new : Option ℕ) → Blames l.least new (again_by cell_token cell_key same_cell (was_set l.seen) (map at_view (drop l.cell-index l.cells)))
    → Blames l.fn.least new (again_by cell_token cell_key same_cell (λ cell. false) (map at_view l.cells))

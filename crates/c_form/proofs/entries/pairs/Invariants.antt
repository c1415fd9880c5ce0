use Rattle.std.proofs.Common.{ℕ, drop}
use Rattle.std.specs.Prelude.{Option}
use Rattle.c_raw.specs.Views.{module_view, pair_view}
use Rattle.c_tree.specs.rules.Tables.{pair_numbers}
use Rattle.c_form.specs.Blames.{Blames}
use Rattle.c_form.proofs.Blaming.{parts_of}
use Rattle.c_form.proofs.entries.pairs.Given as goal

-- whatever blames what is left blames it all
abbrev pub invariant-loop-found : goal.invariant-loop-found
invariant-loop-found l =
    (new : Option ℕ) → Blames l.least new (parts_of pair_view (pair_numbers (module_view l.tree)) (drop l.found-index l.list))
    → Blames l.fn.least new (parts_of pair_view (pair_numbers (module_view l.tree)) l.list)

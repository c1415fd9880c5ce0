use Rattle.std.proofs.Common.{ℕ, drop}
use Rattle.std.specs.Prelude.{Option}
use Rattle.c_raw.specs.Blocks.{at_view}
use Rattle.c_form.specs.Blames.{Blames}
use Rattle.c_form.proofs.Blaming.{parts_of}
use Rattle.c_form.proofs.items.all_atoms.Given as goal

-- whatever blames what is left blames it all
abbrev pub invariant-loop-atom : goal.invariant-loop-atom
invariant-loop-atom g l =
    (p : g.R.ItemRule.subject) → g.R.ItemRule.knows l.rule p
    → (new : Option ℕ) → Blames l.least new (parts_of at_view (g.R.ItemRule.in_atom p) (drop l.atom-index l.list))
    → Blames l.fn.least new (parts_of at_view (g.R.ItemRule.in_atom p) l.list)

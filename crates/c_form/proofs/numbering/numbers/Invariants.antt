use Rattle.std.proofs.Common.{ℕ, drop}
use Rattle.std.specs.Prelude.{Option}
use Rattle.c_tree.specs.rules.Numbering.{wants}
use Rattle.c_raw.specs.Blocks.{at_view}
use Rattle.c_form.specs.Blames.{Blames}
use Rattle.c_form.proofs.Blaming.{parts_of}
use Rattle.c_form.proofs.numbering.numbers.Given as goal

-- whatever blames what is left blames it all
abbrev pub invariant-loop-number : goal.invariant-loop-number
invariant-loop-number l =
    (new : Option ℕ) → Blames l.least new (parts_of at_view (wants l.wanted) (drop l.number-index l.list))
    → Blames l.fn.least new (parts_of at_view (wants l.wanted) l.list)

use Rattle.std.proofs.Common.{ℕ, drop}
use Rattle.std.specs.Prelude.{Option}
use Rattle.c_tree.specs.rules.Tables.{numbers_of_module}
use Rattle.c_raw.specs.Views.{module_view}
use Rattle.c_form.specs.Blames.{Blames}
use Rattle.c_form.proofs.Blaming.{numbered_parts}
use Rattle.c_form.proofs.tables.modules.Given as goal

-- whatever blames what is left blames it all
abbrev pub invariant-loop-index : goal.invariant-loop-index
invariant-loop-index l =
    (new : Option ℕ) → Blames l.least new (numbered_parts module_view (λ p. numbers_of_module p.0 p.1) l.index (drop l.index l.list))
    → Blames l.fn.least new (numbered_parts module_view (λ p. numbers_of_module p.0 p.1) 0 l.list)

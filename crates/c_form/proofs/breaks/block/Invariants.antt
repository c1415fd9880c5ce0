use Rattle.std.proofs.Common.{ℕ, drop, ◌∷◌, []}
use Rattle.std.specs.Prelude.{Option, false}
use Rattle.c_form.specs.Blames.{Blames}
use Rattle.c_form.specs.OpenBlocks.{breaks_flat, innermost_first}
use Rattle.c_form.proofs.breaks.block.Given as goal

-- whatever blames what is left blames it all
abbrev pub invariant-loop-statement : goal.invariant-loop-statement
invariant-loop-statement l =
    (new : Option ℕ) → Blames l.least new (breaks_flat (innermost_first l.blocks.items) (drop l.statement-index l.list))
    → Blames l.fn.least new (breaks_flat (false ∷ []) l.list)

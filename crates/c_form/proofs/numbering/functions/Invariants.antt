use Rattle.std.proofs.Common.{ℕ, drop}
use Rattle.std.specs.Prelude.{Option}
use Rattle.c_tree.specs.Raw.{RawFunction}
use Rattle.c_tree.specs.rules.Numbering.{wants}
use Rattle.c_raw.specs.Views.{function_view}
use Rattle.c_form.specs.Blames.{Blames}
use Rattle.c_form.proofs.Blaming.{numbered_parts}
use Rattle.c_form.proofs.numbering.functions.Given as goal

-- whatever blames what is left blames it all
abbrev pub invariant-loop-index : goal.invariant-loop-index
invariant-loop-index l =
    (new : Option ℕ) → Blames l.least new (numbered_parts function_view (λ p. wants p.0 (RawFunction.number p.1)) l.index (drop l.index l.list))
    → Blames l.fn.least new (numbered_parts function_view (λ p. wants p.0 (RawFunction.number p.1)) 0 l.list)

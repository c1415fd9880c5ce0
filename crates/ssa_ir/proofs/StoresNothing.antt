-- A module is staged where nothing is stored.
use Rattle.std.specs.Prelude.{◌≡◌, ℕ, List, []}
use Rattle.std.specs.List.{IsDistinct}
use Rattle.std.proofs.Common.{refl, sym, subst}
use Rattle.std.proofs.lemmas.List.Elements.{All-nil}
use Rattle.alg_laws.specs.declared.number.Ty.{Ty}
use Rattle.ssa_ir.specs.declared.body.Instruction.{Instruction}
use Rattle.ssa_ir.specs.declared.stages.Derived.{Derived}
use Rattle.ssa_ir.specs.declared.stages.Staged.{Staged}
use Rattle.ssa_ir.specs.Invariant.{Frame, IsBody}
use Rattle.ssa_ir.specs.Stages.{IsDerived, IsStaged}

empty_body : (f : Frame) → IsBody f [] (record { instructions = []; free = 0 })
unfolding IsDistinct
empty_body f = record { nested = refl; typed = tt; once = tt; below = All-nil _ }

abbrev pub storing : Derived → List Instruction → List Ty → List ℕ → Staged
storing d is ts ks = record {
  «module» = d.module;
  body = d.body;
  rows = d.rows;
  operating_point = d.operating_point;
  flags = d.flags;
  entries = d.entries;
  stored = record { instructions = is; free = 0 };
  cell_types = ts;
  cells = ks;
}

stores_nothing : (d : Derived) → IsDerived d → IsStaged (storing d [] [] [])
stores_nothing d h = record {
  module' = h.module';
  body = h.body;
  rows = h.rows;
  each = h.each;
  operating_point = h.operating_point;
  flags = h.flags;
  entries = h.entries;
  stored = empty_body _;
  cells = tt;
}

pub staged_without : (d : Derived) → IsDerived d → (is : List Instruction) (ts : List Ty) (ks : List ℕ) → is ≡ [] → ts ≡ [] → ks ≡ [] → IsStaged (storing d is ts ks)
staged_without d h is ts ks e e' e'' =
    subst (λ (is : List Instruction). IsStaged (storing d is ts ks)) (sym e)
    (subst (λ (ts : List Ty). IsStaged (storing d [] ts ks)) (sym e')
    (subst (λ (ks : List ℕ). IsStaged (storing d [] [] ks)) (sym e'') (stores_nothing d h)))

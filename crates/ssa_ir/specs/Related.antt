-- Evaluations whose values are related: over two algebras, with any relation that the operations keep.
use Rattle.std.specs.Prelude.{◌≡◌, ℕ, ◌≤◌, ◌<◌, ◌⊎◌, true, List, [], ◌∷◌, Some, length}
use Rattle.std.specs.List.{slice_get}
use Rattle.alg_laws.specs.declared.number.Number.{Number}
use Rattle.alg_laws.specs.declared.number.Number.TheVariants.{Real, Int}
use Rattle.alg_laws.specs.declared.number.Reason.{Reason}
use Rattle.alg_laws.specs.declared.number.Reason.TheVariants.{Turns}
use Rattle.alg_laws.specs.declared.number.Ty.{Ty}
use Rattle.alg_laws.specs.declared.number.Ty.TheVariants as type
use Rattle.alg_laws.specs.Outcome.{Outcome, gives, ends}
use Rattle.alg_laws.specs.Related.{Relates}
use Rattle.ssa_ir.specs.Context.{Context, Inputs}
use Rattle.ssa_ir.specs.Evaluation.{Calls, Values}
use Rattle.ssa_ir.specs.Invariant.{Frame, Scope, Signature}

-- How two computations end early: which of their ends go together, and which may stand alone, where the second computation goes on.
pub record Endings (E F : Type 0) : Type 1 where
  pub together : E → F → Type 0
  pub alone : E → Type 0

-- An end that may stand alone goes together with every other.
abbrev pub IsClosed : {E F : Type 0} → Endings E F → Type 0
IsClosed {E} {F} g = (e : E) (f : F) → g.alone e → g.together e f

-- both end, and for the same reason
abbrev pub same_ends : {E : Type 0} → Endings E E
same_ends = record { together = λ e f. e ≡ f; alone = λ e. ⊥ }

-- the second has more turns: the first may end for want of one, and else both end alike
abbrev pub more_turns : {E : Type 0} → E → Endings E E
more_turns too_many = record { together = λ e f. (e ≡ too_many) ⊎ (e ≡ f); alone = λ e. e ≡ too_many }

-- Both give related values, or end early as they may.
pub data Alike {E F A B : Type 0} (g : Endings E F) (P : A → B → Type 0) : Outcome E A → Outcome F B → Type 0 where
  both_give : {x : A} {y : B} → P x y → Alike g P (gives x) (gives y)
  both_end : {e : E} {f : F} → g.together e f → Alike g P (ends e) (ends f)
  first_ends : {e : E} {y : B} → g.alone e → Alike g P (ends e) (gives y)

-- the same bound on turns, or a greater one for the second, where the first may end for want of a turn
abbrev pub BoundsRelated : {E F : Type 0} → Endings E F → E → ℕ → ℕ → Type 0
BoundsRelated g too_many n m = (n ≡ m) ⊎ ((n ≤ m) × g.alone too_many)

-- values of a type, with related reals and equal integers
pub data RelatedAt {V W : Type 0} (R : V → W → Type 0) : Ty → Number V → Number W → Type 0 where
  reals : {x : V} {u : W} → R x u → RelatedAt R type.Real (Real x) (Real u)
  integers : {i : _} → RelatedAt R type.Integer (Int i) (Int i)

-- what is in scope has its type, and is related
abbrev pub ValuesRelated : {V W : Type 0} → (V → W → Type 0) → Scope → Values V → Values W → Type 0
ValuesRelated R sc v w = (k : ℕ) (t : Ty) → sc k ≡ Some t → RelatedAt R t (v k) (w k)

-- What may be read has its type, and is related.
pub record InputsRelated {V W : Type 0} (R : V → W → Type 0) (f : Frame) (a : Inputs V) (b : Inputs W) : Type 0 where
  pub derivative : f.derivatives ≡ true → R a.derivative b.derivative
  pub parameters : (p : ℕ) (t : Ty) → slice_get f.parameters p ≡ Some t → RelatedAt R t (a.parameters p) (b.parameters p)
  pub given : (p : ℕ) → f.given ≡ true → p < length f.parameters → a.given p ≡ b.given p
  pub temperature : f.temperature ≡ true → R a.temperature b.temperature
  pub unknowns : (j : ℕ) → j < f.unknowns → R (a.unknowns j) (b.unknowns j)
  pub cells : (i : ℕ) (t : Ty) → slice_get f.cells i ≡ Some t → RelatedAt R t (a.cells i) (b.cells i)

-- evaluations over related algebras that read what is related
pub record ContextsRelated {E F V W : Type 0} (g : Endings E F) (R : V → W → Type 0) (f : Frame) (c : Context E V) (d : Context F W) : Type 0 where
  pub ops : Relates c.ops d.ops R
  pub inputs : InputsRelated R f c.inputs d.inputs
  pub bound : BoundsRelated g (c.stops Turns) c.bound d.bound
  pub stops : (reason : Reason) → g.together (c.stops reason) (d.stops reason)

-- arguments of these types, related in order
pub data ArgumentsRelated {V W : Type 0} (R : V → W → Type 0) : List Ty → List (Number V) → List (Number W) → Type 0 where
  no_more : ArgumentsRelated R [] [] []
  one_more : {t : Ty} {ts : List Ty} {x : Number V} {y : Number W} {xs : List (Number V)} {ys : List (Number W)}
      → RelatedAt R t x y → ArgumentsRelated R ts xs ys → ArgumentsRelated R (t ∷ ts) (x ∷ xs) (y ∷ ys)

-- functions with these signatures give for related arguments related values
abbrev pub CallsRelated : {E F V W : Type 0} → Endings E F → (V → W → Type 0) → List Signature → Calls E V → Calls F W → Type 0
CallsRelated {E} {F} {V} {W} g R sigs C D =
    (k : ℕ) (s : Signature) → slice_get sigs k ≡ Some s → (xs : List (Number V)) (ys : List (Number W))
    → ArgumentsRelated R s.arguments xs ys → Alike g (RelatedAt R s.result) (C k xs) (D k ys)

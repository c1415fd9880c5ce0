-- What holds of every body over every algebra.
use Rattle.std.specs.Prelude.{◌≡◌, ℕ, ◌≤◌, ◌==◌, Bool, false, ◌||◌, List, [], ◌∷◌, ◌<◌, ◌++◌, length}
use Rattle.alg_laws.specs.declared.dual.Dual.{Dual}
use Rattle.alg_laws.specs.declared.number.Reason.{Reason}
use Rattle.alg_laws.specs.declared.number.Reason.TheVariants.{Turns}
use Rattle.alg_laws.specs.Dual.{dual}
use Rattle.alg_laws.specs.Operations.{Operations}
use Rattle.alg_laws.specs.Outcome.{gives, ◌>>=◌}
use Rattle.alg_laws.specs.Related.{OutcomesRelated, HasMain, IsValid, IsLifted}
use Rattle.ssa_ir.specs.declared.body.Function.{Function}
use Rattle.ssa_ir.specs.Body.{Steps, ◌⧺◌, seen}
use Rattle.ssa_ir.specs.Context.{Inputs, over}
use Rattle.ssa_ir.specs.Evaluation.{Values, Calls, run, calls}
use Rattle.ssa_ir.specs.Flat.{lines, steps_of}
use Rattle.ssa_ir.specs.Invariant.{Frame, Scope, IsTyped, AreFunctions, behind, signatures}
use Rattle.ssa_ir.specs.Related.{Alike, ValuesRelated, InputsRelated, more_turns}

abbrev pub is_among : ℕ → List ℕ → Bool
is_among k [] = false
is_among k (j ∷ js) = k == j || is_among k js

-- The instructions of steps are read as these steps.
pub record StepsAreTheirLines : Type 0 where
  pub steps : (s : Steps) → steps_of (lines s) ≡ s

-- A run keeps every number but those that are seen behind the steps.
pub record KeepsOutside (E V : Type 0) (o : Operations V) (valid : V → Type 0) : Type 0 where
  pub steps : (inputs : Inputs V) (n : ℕ) (stops : Reason → E) (F : Calls E V) (s : Steps) (v w : Values V)
      → run (over o inputs n stops) F s v ≡ gives w → (k : ℕ) → is_among k (seen s) ≡ false → w k ≡ v k

-- Steps behind others are run behind them, and see what is in scope behind them.
pub record RunsInSequence (E V : Type 0) (o : Operations V) (valid : V → Type 0) : Type 0 where
  pub steps : (inputs : Inputs V) (n : ℕ) (stops : Reason → E) (F : Calls E V) (a b : Steps) (v : Values V)
      → run (over o inputs n stops) F (a ⧺ b) v ≡ (run (over o inputs n stops) F a v >>= run (over o inputs n stops) F b)
  pub scope : (a b : Steps) (sc : Scope) → behind (a ⧺ b) sc ≡ behind b (behind a sc)
  pub typed : (f : Frame) (a b : Steps) (sc : Scope) → IsTyped f sc a → IsTyped f (behind a sc) b → IsTyped f sc (a ⧺ b)

-- functions that a frame knows
pub record Knows (f : Frame) (fs : List Function) : Type 0 where
  pub functions : AreFunctions [] fs
  pub known : f.functions ≡ signatures fs

-- What isn't in scope is never read, and what the frame doesn't have neither: where the values in scope and the inputs of the frame are the
-- same, of their types, both runs are undefined for the same reason, or what is in scope behind is the same, of its type.
pub record ReadsWhatIsDefined (E V : Type 0) (o : Operations V) (valid : V → Type 0) : Type 0 where
  pub steps : (f : Frame) (fs : List Function) → Knows f fs → (sc : Scope) (s : Steps) → IsTyped f sc s
      → (inputs others : Inputs V) → InputsRelated ◌≡◌ f inputs others → (n : ℕ) (stops : Reason → E)
      → (v w : Values V) → ValuesRelated ◌≡◌ sc v w
      → OutcomesRelated (ValuesRelated ◌≡◌ (behind s sc)) (run (over o inputs n stops) (calls (over o inputs n stops) fs) s v)
      (run (over o others n stops) (calls (over o others n stops) fs) s w)

-- A run that is defined where loops make at most n turns is the same for every greater bound, and one that ends early for another reason
-- than want of a turn stays so. Inputs and values that are related to themselves are those of their types.
pub record BoundsOfBodies (E V : Type 0) (o : Operations V) (valid : V → Type 0) : Type 0 where
  pub steps : (f : Frame) (fs : List Function) → Knows f fs → (sc : Scope) (s : Steps) → IsTyped f sc s
      → (inputs : Inputs V) → InputsRelated ◌≡◌ f inputs inputs → (n m : ℕ) → n ≤ m → (stops : Reason → E)
      → (v : Values V) → ValuesRelated ◌≡◌ sc v v
      → Alike (more_turns (stops Turns)) (ValuesRelated ◌≡◌ (behind s sc)) (run (over o inputs n stops) (calls (over o inputs n stops) fs) s v)
      (run (over o inputs m stops) (calls (over o inputs m stops) fs) s v)

-- Over dual numbers a run has the mains that it has below.
pub record MainsOfBodies (E V : Type 0) (o : Operations V) (valid : V → Type 0) : Type 0 where
  pub steps : (f : Frame) (fs : List Function) → Knows f fs → (sc : Scope) (s : Steps) → IsTyped f sc s
      → (inputs : Inputs (Dual V)) (mains : Inputs V) → InputsRelated HasMain f inputs mains → (n : ℕ) (stops : Reason → E)
      → (v : Values (Dual V)) (w : Values V) → ValuesRelated HasMain sc v w
      → OutcomesRelated (ValuesRelated HasMain (behind s sc)) (run (over (dual o) inputs n stops) (calls (over (dual o) inputs n stops) fs) s v)
      (run (over o mains n stops) (calls (over o mains n stops) fs) s w)

-- From valid values and inputs of their types a run has valid values of their types.
pub record ValidityOfBodies (E V : Type 0) (o : Operations V) (valid : V → Type 0) : Type 0 where
  pub steps : (f : Frame) (fs : List Function) → Knows f fs → (sc : Scope) (s : Steps) → IsTyped f sc s
      → (inputs : Inputs V) → InputsRelated (IsValid valid) f inputs inputs → (n : ℕ) (stops : Reason → E)
      → (v : Values V) → ValuesRelated (IsValid valid) sc v v
      → OutcomesRelated (ValuesRelated (IsValid valid) (behind s sc)) (run (over o inputs n stops) (calls (over o inputs n stops) fs) s v)
      (run (over o inputs n stops) (calls (over o inputs n stops) fs) s v)

-- Over dual numbers, where nothing that is read moves, nothing does.
pub record LiftsOfBodies (E V : Type 0) (o : Operations V) (valid : V → Type 0) : Type 0 where
  pub steps : (f : Frame) (fs : List Function) → Knows f fs → (sc : Scope) (s : Steps) → IsTyped f sc s
      → (lifts : Inputs (Dual V)) (inputs : Inputs V) → InputsRelated (IsLifted o valid) f lifts inputs → (n : ℕ) (stops : Reason → E)
      → (v : Values (Dual V)) (w : Values V) → ValuesRelated (IsLifted o valid) sc v w
      → OutcomesRelated (ValuesRelated (IsLifted o valid) (behind s sc)) (run (over (dual o) lifts n stops) (calls (over (dual o) lifts n stops) fs) s v)
      (run (over o inputs n stops) (calls (over o inputs n stops) fs) s w)

-- Functions that are added at the end leave those before them as they are.
pub record FunctionsAreKept (E V : Type 0) (o : Operations V) (valid : V → Type 0) : Type 0 where
  pub functions : (inputs : Inputs V) (n : ℕ) (stops : Reason → E) (fs more : List Function) (k : ℕ) → k < length fs
      → calls (over o inputs n stops) (fs ++ more) k ≡ calls (over o inputs n stops) fs k

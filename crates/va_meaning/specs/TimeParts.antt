-- What isn't timed has the part 0 where nothing but time derivatives moves (Time derivative operator). So the parts of an evaluation at
-- a lifted point are the coefficients of time derivatives, and its mains are what is left where these are 0.
use Rattle.std.specs.Prelude.{◌≡◌, ℕ, ◌==◌, ◌&&◌, ◌||◌, Bool, true, false, List, Option, Some}
use Rattle.std.specs.List.{slice_get, list_any}
use Rattle.alg_laws.specs.declared.dual.Dual.{Dual}
use Rattle.alg_laws.specs.declared.number.Number.{Number}
use Rattle.alg_laws.specs.declared.number.Reason.{Reason}
use Rattle.alg_laws.specs.Dual.{dual}
use Rattle.alg_laws.specs.NumberParts.{part_of}
use Rattle.alg_laws.specs.Operations.{Operations}
use Rattle.alg_laws.specs.Outcome.{gives}
use Rattle.alg_laws.specs.Related.{NumbersRelated, OutcomesRelated, HasMain}
use Rattle.va_sem.specs.declared.branch.Unknown.{Unknown}
use Rattle.va_sem.specs.declared.branch.Unknown.TheVariants.{Node, Branch}
use Rattle.va_sem.specs.declared.names.BranchName.{BranchName}
use Rattle.va_sem.specs.declared.names.Meaning.{Meaning}
use Rattle.va_sem.specs.declared.names.Meaning.TheVariants.{Access}
use Rattle.va_sem.specs.Declarations.{analog_bodies}
use Rattle.va_sem.specs.Meanings.{names_of_module}
use Rattle.va_sem.specs.rules.Biased.{Analysis, analysis_of, is_timed}
use Rattle.va_sem.specs.rules.Uses.{is_access_to}
use Rattle.va_sem.specs.rules.Values.{Purpose, assigned, contributed, tested, initial, Value}
use Rattle.va_tree.specs.declared.module.Module.{Module}
use Rattle.va_tree.specs.declared.source.Source.{Source}
use Rattle.va_tree.specs.Expressions.{Expression}
use Rattle.va_meaning.specs.Classes.{Slots, ValuesIn, StatesInClasses}
use Rattle.va_meaning.specs.EachValue.{EachValueOfBlocks}
use Rattle.va_meaning.specs.Elaborated.{Elaborated}
use Rattle.va_meaning.specs.Elaboration.{module_seen}
use Rattle.va_meaning.specs.Evaluation.{evaluated, functions}
use Rattle.va_meaning.specs.EvaluationLaws.{PointValid}
use Rattle.va_meaning.specs.Motions.{Motion, still, moving, HasMotion, AnswersAreStill}
use Rattle.va_meaning.specs.Points.{Point, Answers, Store, State, over}
use Rattle.va_meaning.specs.Residuals.{lifted_point}
use Rattle.va_meaning.specs.Rows.{residuals, is_end}
use Rattle.va_meaning.specs.TimeLaws.{IsOfSoundText}
use Rattle.va_meaning.specs.Timed.{IsUntimed, KeepsToTime}
use Rattle.va_meaning.specs.Values.{value_of}

abbrev pub moves_if : Bool → Motion
moves_if true = moving
moves_if false = still

-- Where nothing but time derivatives moves, only timed variables do, and what is held by branches to which something timed is
-- contributed: the reactive ones.
abbrev pub moves_with_time : (ℕ → Bool) → (ℕ → Bool) → Slots Motion
moves_with_time timed reactive = record {
  variable = λ x. Some (moves_if (timed x));
  held = λ b. Some (moves_if (reactive b));
  unknown = λ i. Some still;
  mark = λ b. true;
  unsure = false;
}

module _ (M : Elaborated) (timed reactive : ℕ → Bool) where
  -- What is contributed to a branch that isn't reactive is untimed.
  abbrev pub ContributionKeepsTime : Option Meaning → Expression → Type 0
  ContributionKeepsTime (Some (Access b turned flow)) e = reactive b ≡ false → IsUntimed M timed e
  ContributionKeepsTime m e = Unit {0}

  abbrev pub ContributedInTime : Bool → Purpose → Expression → Type 0
  ContributedInTime here (contributed at) e = ContributionKeepsTime (M.meaning at) e
  ContributedInTime here (assigned at) e = Unit {0}
  ContributedInTime here tested e = Unit {0}
  ContributedInTime here initial e = Unit {0}

  abbrev pub KeepsReactive : Type 0
  KeepsReactive = EachValueOfBlocks M ContributedInTime M.blocks

-- No reactive branch ends at a node whose row is untimed, and a potential branch whose row is untimed isn't reactive.
abbrev pub IsRowUntimed : Elaborated → (ℕ → Bool) → Unknown → Type 0
IsRowUntimed M reactive (Node a) =
    (b : ℕ) (branch : BranchName) → slice_get M.branches b ≡ Some branch → (branch.plus == a || is_end a branch.minus) ≡ true → reactive b ≡ false
IsRowUntimed M reactive (Branch b) = reactive b ≡ false

-- Evaluations at lifted points, with an element s for a time derivative.
pub record PartsByTime (E V : Type 0) (o : Operations V) (valid : V → Type 0) (M : Elaborated) (timed reactive : ℕ → Bool) : Type 0 where
  -- An evaluation has the mains of the one below, or is undefined for the same reason, and what isn't timed is lifted.
  pub evaluation : (s : Dual V) (P : Point V) → PointValid valid P → (n : ℕ) (stops : Reason → E) (answers : Answers E (Dual V)) (mains : Answers E V)
      → AnswersAreStill o valid answers mains
      → OutcomesRelated (StatesInClasses M (HasMotion o valid) (moves_with_time timed reactive))
      (evaluated M (over (dual o) s (lifted_point o P) n stops answers)) (evaluated M (over o s.main P n stops mains))
  -- So is each expression, where its variables are so; and one that isn't timed has the part 0.
  pub values : (s : Dual V) (P : Point V) → PointValid valid P → (n : ℕ) (stops : Reason → E) (answers : Answers E (Dual V)) (mains : Answers E V)
      → AnswersAreStill o valid answers mains → (vars : Store (Dual V)) (below : Store V)
      → ((x : ℕ) → ValuesIn (HasMotion o valid) (M.variable_type x) (moves_if (timed x)) (vars x) (below x)) → (place : ℕ) (e : Expression)
      → let c = over (dual o) s (lifted_point o P) n stops answers in let d = over o s.main P n stops mains in
      OutcomesRelated (NumbersRelated HasMain) (value_of M c (functions M c) place e vars) (value_of M d (functions M d) place e below)
      × (IsUntimed M timed e → (v : Number (Dual V)) → value_of M c (functions M c) place e vars ≡ gives v → part_of o v ≡ o.zero)
  -- A variable that isn't timed has the part 0, and so have the sum that a branch holds that isn't reactive and a row that is untimed.
  pub variables : (s : Dual V) (P : Point V) → PointValid valid P → (n : ℕ) (stops : Reason → E) (answers : Answers E (Dual V)) (mains : Answers E V)
      → AnswersAreStill o valid answers mains → (last : State (Dual V)) → evaluated M (over (dual o) s (lifted_point o P) n stops answers) ≡ gives last
      → (x : ℕ) → timed x ≡ false → part_of o (last.variables x) ≡ o.zero
  pub held : (s : Dual V) (P : Point V) → PointValid valid P → (n : ℕ) (stops : Reason → E) (answers : Answers E (Dual V)) (mains : Answers E V)
      → AnswersAreStill o valid answers mains → (last : State (Dual V)) → evaluated M (over (dual o) s (lifted_point o P) n stops answers) ≡ gives last
      → (b : ℕ) → reactive b ≡ false → (last.held b).sum.part ≡ o.zero
  pub rows : (s : Dual V) (P : Point V) → PointValid valid P → (n : ℕ) (stops : Reason → E) (answers : Answers E (Dual V)) (mains : Answers E V)
      → AnswersAreStill o valid answers mains → (rows : List (Dual V)) → residuals M (over (dual o) s (lifted_point o P) n stops answers) ≡ gives rows
      → (i : ℕ) (u : Unknown) → slice_get M.unknowns i ≡ Some u → IsRowUntimed M reactive u → (row : Dual V) → slice_get rows i ≡ Some row → row.part ≡ o.zero

-- the branches to which something timed is contributed
abbrev pub is_contributed_to : (ℕ → Option Meaning) → ℕ → Purpose → Bool
is_contributed_to meaning b (contributed at) = is_access_to b (meaning at)
is_contributed_to meaning b purpose = false

abbrev pub reactive_branches : Analysis → ℕ → Bool
reactive_branches a b = list_any (λ (v : Value). is_contributed_to a.meaning b v.purpose && is_timed a.meaning a.timed v.expression) a.values

-- This holds of each module that keeps to timed variables and to reactive branches, and so of each module of a text without faults.
pub record TimesOfEvaluations (E V : Type 0) (o : Operations V) (valid : V → Type 0) : Type 0 where
  pub keeping : (M : Elaborated) (timed reactive : ℕ → Bool) → KeepsToTime M timed → KeepsReactive M timed reactive → PartsByTime E V o valid M timed reactive
  pub modules : (t : Source) (number : ℕ) (m : Module) → IsOfSoundText t number m
      → let a = analysis_of (names_of_module t number m) (analog_bodies m) in PartsByTime E V o valid (module_seen t number m) a.timed (reactive_branches a)

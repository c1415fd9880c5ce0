-- What moves in an evaluation over dual numbers: a module keeps to variables that don't, where nothing that moves is assigned to them.
use Rattle.std.specs.Prelude.{◌≡◌, ℕ, List, false, Some}
use Rattle.alg_laws.specs.declared.dual.Dual.{Dual}
use Rattle.alg_laws.specs.declared.number.Reason.{Reason}
use Rattle.alg_laws.specs.Dual.{dual}
use Rattle.alg_laws.specs.NumberParts.{main_of, part_of}
use Rattle.alg_laws.specs.Operations.{Operations}
use Rattle.alg_laws.specs.Outcome.{gives}
use Rattle.alg_laws.specs.Related.{NumbersRelated, OutcomesRelated, ListsRelated, HasMain, IsLifted}
use Rattle.va_meaning.specs.Classes.{Classes, Slots, IfSure, KeepsToClasses, StatesInClasses}
use Rattle.va_meaning.specs.Elaborated.{Elaborated}
use Rattle.va_meaning.specs.Evaluation.{evaluated}
use Rattle.va_meaning.specs.EvaluationLaws.{main_point}
use Rattle.va_meaning.specs.Points.{Point, Result, Answers, State, over}
use Rattle.va_meaning.specs.Related.{Alike, same_ends, ResultsRelated}

-- a value that doesn't move, and one that may
pub data Motion : Type 0 where
  still : Motion
  moving : Motion

abbrev pub is_below : Motion → Motion → Type 0
is_below still k = Unit {0}
is_below moving still = ⊥
is_below moving moving = Unit {0}

abbrev pub Moves : Motion → Type 0
Moves still = ⊥
Moves moving = Unit {0}

-- Operations on values that don't move give such values. A time derivative may move.
abbrev pub motions : Classes Motion
motions = record {
  below = is_below;
  closed = λ k. Unit {0};
  times = λ k l m. is_below k m × is_below l m;
  derives = λ k l. Moves l;
  rest = still;
  top = moving;
  answer = still;
}

-- over dual numbers, and below
abbrev pub HasMotion : {V : Type 0} → Operations V → (V → Type 0) → Motion → Dual V → V → Type 0
HasMotion o valid still = IsLifted o valid
HasMotion o valid moving = HasMain

-- A point at which parameters and the temperature don't move, and unknowns as it is known of them.
pub record PointMoves {V : Type 0} (o : Operations V) (valid : V → Type 0) (slots : Slots Motion) (P : Point (Dual V)) : Type 0 where
  pub parameters : (p : ℕ) → NumbersRelated (IsLifted o valid) (P.parameters p) (main_of (P.parameters p))
  pub temperature : IsLifted o valid P.temperature P.temperature.main
  pub unknowns : (i : ℕ) → IfSure (λ k. HasMotion o valid k (P.unknowns i) (P.unknowns i).main) (slots.unknown i)

-- Answers of numbered calls don't move, whatever their arguments do.
abbrev pub AnswersAreStill : {E V : Type 0} → Operations V → (V → Type 0) → Answers E (Dual V) → Answers E V → Type 0
AnswersAreStill {E} {V} o valid a b =
    (number : ℕ) (outs : List (Result E (Dual V))) (outs' : List (Result E V)) → ListsRelated (ResultsRelated same_ends HasMain) outs outs'
    → Alike same_ends (IsLifted o valid) (a number outs) (b number outs')

-- Where a module keeps to what moves, an evaluation over dual numbers is undefined for the same reason as the evaluation below, or it
-- has the mains of that, and all that doesn't move has the part 0. So it is with what is not timed, where the time derivative moves.
pub record MotionsOfEvaluations (E V : Type 0) (o : Operations V) (valid : V → Type 0) : Type 0 where
  pub evaluation : (M : Elaborated) (slots : Slots Motion) → KeepsToClasses M motions slots → slots.unsure ≡ false
      → (s : Dual V) (P : Point (Dual V)) → PointMoves o valid slots P → (n : ℕ) (stops : Reason → E) (answers : Answers E (Dual V)) (mains : Answers E V)
      → AnswersAreStill o valid answers mains
      → OutcomesRelated (StatesInClasses M (HasMotion o valid) slots) (evaluated M (over (dual o) s P n stops answers)) (evaluated M (over o s.main (main_point P) n stops mains))
  pub still_variables : (M : Elaborated) (slots : Slots Motion) → KeepsToClasses M motions slots → slots.unsure ≡ false
      → (s : Dual V) (P : Point (Dual V)) → PointMoves o valid slots P → (n : ℕ) (stops : Reason → E) (answers : Answers E (Dual V)) (mains : Answers E V)
      → AnswersAreStill o valid answers mains → (last : State (Dual V)) → evaluated M (over (dual o) s P n stops answers) ≡ gives last
      → (x : ℕ) → slots.variable x ≡ Some still → part_of o (last.variables x) ≡ o.zero

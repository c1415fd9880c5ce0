-- What holds of every evaluation over every algebra.
use Rattle.std.specs.Prelude.{◌≡◌, ℕ, ◌≤◌, ◌<◌, Bool, List, All, length}
use Rattle.alg_laws.specs.declared.dual.Dual.{Dual}
use Rattle.alg_laws.specs.declared.number.Number.{Number}
use Rattle.alg_laws.specs.declared.number.Reason.{Reason}
use Rattle.alg_laws.specs.declared.number.Reason.TheVariants.{Turns}
use Rattle.alg_laws.specs.Dual.{dual, lift}
use Rattle.alg_laws.specs.NumberParts.{main_of, NumberValid}
use Rattle.alg_laws.specs.Operations.{Operations}
use Rattle.alg_laws.specs.Outcome.{gives, ends, among}
use Rattle.alg_laws.specs.Related.{OutcomesRelated, ListsRelated, HasMain, IsValid, IsLifted, Parts}
use Rattle.va_sem.specs.Declarations.{analog_bodies}
use Rattle.va_sem.specs.Meanings.{names_of_module}
use Rattle.va_sem.specs.rules.Biased.{analysis_of}
use Rattle.va_tree.specs.declared.module.Module.{Module}
use Rattle.va_tree.specs.declared.source.Source.{Source}
use Rattle.va_meaning.specs.Elaboration.{module_seen}
use Rattle.va_meaning.specs.Bias.{KeepsToBias, SameFixed}
use Rattle.va_meaning.specs.Elaborated.{Elaborated}
use Rattle.va_meaning.specs.Evaluation.{evaluated, functions, functions_to}
use Rattle.va_meaning.specs.Nesting.{IsWithoutCycle}
use Rattle.va_meaning.specs.Points.{Point, Result, Answers, State, over, unanswered, at_unknowns, without_unknowns}
use Rattle.va_meaning.specs.Related.{same_ends, more_turns, AnswersRelated, StatesRelated}
use Rattle.va_meaning.specs.Residuals.{lifted_point, moved_point, residual_parts}
use Rattle.va_meaning.specs.Rows.{residuals}

-- the mains of a point
abbrev pub main_point : {V : Type 0} → Point (Dual V) → Point V
main_point P = record {
  parameters = λ p. main_of (P.parameters p);
  given = P.given;
  temperature = P.temperature.main;
  unknowns = λ i. (P.unknowns i).main;
}

-- Over dual numbers an evaluation has the mains that it has below: both are undefined for the same reason, or all variables, what
-- all branches hold, and all residuals have these mains. The marks and the integers are the same.
pub record MainsOfEvaluations (E V : Type 0) (o : Operations V) (valid : V → Type 0) : Type 0 where
  pub evaluation : (M : Elaborated) (s : Dual V) (P : Point (Dual V)) (n : ℕ) (stops : Reason → E) (answers : Answers E (Dual V)) (mains : Answers E V)
      → AnswersRelated same_ends HasMain answers mains
      → OutcomesRelated (StatesRelated HasMain) (evaluated M (over (dual o) s P n stops answers))
      (evaluated M (over o s.main (main_point P) n stops mains))
  pub residuals : (M : Elaborated) (s : Dual V) (P : Point (Dual V)) (n : ℕ) (stops : Reason → E) (answers : Answers E (Dual V)) (mains : Answers E V)
      → AnswersRelated same_ends HasMain answers mains
      → OutcomesRelated (ListsRelated HasMain) (residuals M (over (dual o) s P n stops answers))
      (residuals M (over o s.main (main_point P) n stops mains))

-- An undefined evaluation ends with what is told for the reason, and that is all that the type of early ends changes. Here every
-- numbered call is 0.
pub record EndsOfEvaluations (E V : Type 0) (o : Operations V) (valid : V → Type 0) : Type 0 where
  pub evaluation : (M : Elaborated) (s : V) (P : Point V) (n : ℕ) (stops : Reason → E)
      → evaluated M (over o s P n stops (unanswered o)) ≡ among stops (evaluated M (over o s P n (λ reason. reason) (unanswered o)))

-- points and states with valid values
pub record PointValid {V : Type 0} (valid : V → Type 0) (P : Point V) : Type 0 where
  pub parameters : (p : ℕ) → NumberValid valid (P.parameters p)
  pub temperature : valid P.temperature
  pub unknowns : (i : ℕ) → valid (P.unknowns i)

-- Numbered calls with valid arguments have valid answers.
pub record ContextValid {E V : Type 0} (valid : V → Type 0) (s : V) (P : Point V) (answer : Answers E V) : Type 0 where
  pub derivative : valid s
  pub point : PointValid valid P
  pub answers : AnswersRelated same_ends (IsValid valid) answer answer

pub record StateValid {V : Type 0} (valid : V → Type 0) (s : State V) : Type 0 where
  pub variables : (x : ℕ) → NumberValid valid (s.variables x)
  pub held : (b : ℕ) → valid (s.held b).sum

-- At a valid point an evaluation gives valid values alone.
pub record ValidityOfEvaluations (E V : Type 0) (o : Operations V) (valid : V → Type 0) : Type 0 where
  pub evaluation : (M : Elaborated) (s : V) (P : Point V) (n : ℕ) (stops : Reason → E) (answers : Answers E V) → ContextValid valid s P answers
      → (last : State V) → evaluated M (over o s P n stops answers) ≡ gives last → StateValid valid last
  pub residuals : (M : Elaborated) (s : V) (P : Point V) (n : ℕ) (stops : Reason → E) (answers : Answers E V) → ContextValid valid s P answers
      → (rows : List V) → residuals M (over o s P n stops answers) ≡ gives rows → All valid rows

-- Where nothing moves, nothing does: over dual numbers at a lifted point every value is a lifted one, namely that of the
-- evaluation below.
pub record LiftsOfEvaluations (E V : Type 0) (o : Operations V) (valid : V → Type 0) : Type 0 where
  pub evaluation : (M : Elaborated) (s : V) (P : Point V) (n : ℕ) (stops : Reason → E) (answers : Answers E V) (lifts : Answers E (Dual V))
      → valid s → PointValid valid P → AnswersRelated same_ends (IsLifted o valid) lifts answers
      → OutcomesRelated (StatesRelated (IsLifted o valid))
      (evaluated M (over (dual o) (lift o s) (lifted_point o P) n stops lifts)) (evaluated M (over o s P n stops answers))
  pub residuals : (M : Elaborated) (s : V) (P : Point V) (n : ℕ) (stops : Reason → E) (answers : Answers E V) (lifts : Answers E (Dual V))
      → valid s → PointValid valid P → AnswersRelated same_ends (IsLifted o valid) lifts answers
      → OutcomesRelated (ListsRelated (IsLifted o valid))
      (residuals M (over (dual o) (lift o s) (lifted_point o P) n stops lifts)) (residuals M (over o s P n stops answers))

-- Where an unknown moves, the residuals in two parts have the mains that they have where none does. So a column of the Jacobian
-- is defined exactly where the residuals are.
pub record MainsOfParts (V : Type 0) (o : Operations V) (valid : V → Type 0) : Type 0 where
  pub residuals : (M : Elaborated) (P : Point V) (n j : ℕ)
      → OutcomesRelated (ListsRelated (Parts HasMain)) (residual_parts M (dual o) (moved_point o j P) n) (residual_parts M o P n)
  -- and where no unknown moves, nothing is in their parts
  pub lifted : (M : Elaborated) (P : Point V) (n : ℕ) → PointValid valid P
      → OutcomesRelated (ListsRelated (Parts (IsLifted o valid))) (residual_parts M (dual o) (lifted_point o P) n) (residual_parts M o P n)

-- Where arguments of a numbered call end for want of a turn, its answer ends so, or doesn't look at them.
abbrev pub HaveMoreTurns : {E V : Type 0} → (Reason → E) → Answers E V → Type 0
HaveMoreTurns stops answers = AnswersRelated (more_turns (stops Turns)) ◌≡◌ answers answers

-- An evaluation that is defined where loops make at most n turns is the same for every greater bound, and where it ends early for
-- another reason than want of a turn, it stays so.
pub record BoundsOfEvaluations (E V : Type 0) (o : Operations V) (valid : V → Type 0) : Type 0 where
  pub evaluation : (M : Elaborated) (s : V) (P : Point V) (n m : ℕ) (stops : Reason → E) (answers : Answers E V) → HaveMoreTurns stops answers → n ≤ m → (last : State V)
      → evaluated M (over o s P n stops answers) ≡ gives last → evaluated M (over o s P m stops answers) ≡ gives last
  pub residuals : (M : Elaborated) (s : V) (P : Point V) (n m : ℕ) (stops : Reason → E) (answers : Answers E V) → HaveMoreTurns stops answers → n ≤ m → (rows : List V)
      → residuals M (over o s P n stops answers) ≡ gives rows → residuals M (over o s P m stops answers) ≡ gives rows
  pub undefined : (M : Elaborated) (s : V) (P : Point V) (n m : ℕ) (stops : Reason → E) (answers : Answers E V) → HaveMoreTurns stops answers → n ≤ m
      → (e : E) → (e ≡ stops Turns → ⊥) → evaluated M (over o s P n stops answers) ≡ ends e → evaluated M (over o s P m stops answers) ≡ ends e

-- What a function gives is the same where functions are seen deeper. Where no function leads back to itself, it makes no
-- difference at all how much deeper than their number the functions are seen.
pub record DepthsOfFunctions (E V : Type 0) (o : Operations V) (valid : V → Type 0) : Type 0 where
  pub defined : (M : Elaborated) (s : V) (P : Point V) (n : ℕ) (stops : Reason → E) (answers : Answers E V) → HaveMoreTurns stops answers → (depth more : ℕ) → depth ≤ more
      → (f : ℕ) (outs : List (Result E V)) → (v : Number V) → functions_to M (over o s P n stops answers) depth f outs ≡ gives v → functions_to M (over o s P n stops answers) more f outs ≡ gives v
  pub deeper : (M : Elaborated) (s : V) (P : Point V) (n : ℕ) (stops : Reason → E) (answers : Answers E V) → IsWithoutCycle M → (depth : ℕ)
      → length M.functions ≤ depth → (f : ℕ) → f < length M.functions → (outs : List (Result E V))
      → functions_to M (without_unknowns (over o s P n stops answers)) depth f outs ≡ functions M (over o s P n stops answers) f outs

-- Where a module keeps to a set of biased variables, two defined evaluations at points that differ in unknowns alone end with the
-- same fixed variables and the same marks of collapsing branches. Every module of a text keeps to those that are found by the rules.
-- So defined evaluations agree on the collapse flags; of one that is undefined nothing is said.
pub record FixedOfEvaluations (E V : Type 0) (o : Operations V) (valid : V → Type 0) : Type 0 where
  pub evaluation : (M : Elaborated) (biased : ℕ → Bool) → KeepsToBias M biased → (s : V) (P : Point V) (n : ℕ) (stops : Reason → E) (answers : Answers E V) (unknowns : ℕ → V)
      → (last other : State V) → evaluated M (over o s P n stops answers) ≡ gives last
      → evaluated M (at_unknowns (over o s P n stops answers) unknowns) ≡ gives other → SameFixed M biased last other
  pub modules : (s : Source) (number : ℕ) (m : Module) → let M = module_seen s number m in
      (x : V) (P : Point V) (n : ℕ) (stops : Reason → E) (answers : Answers E V) (unknowns : ℕ → V) → (last other : State V) → evaluated M (over o x P n stops answers) ≡ gives last
      → evaluated M (at_unknowns (over o x P n stops answers) unknowns) ≡ gives other
      → SameFixed M (analysis_of (names_of_module s number m) (analog_bodies m)).biased last other

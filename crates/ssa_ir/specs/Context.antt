-- Over what a body is evaluated.
use Rattle.std.specs.Prelude.{ℕ, Bool}
use Rattle.alg_laws.specs.declared.number.Number.{Number}
use Rattle.alg_laws.specs.declared.number.Reason.{Reason}
use Rattle.alg_laws.specs.Operations.{Operations}
use Rattle.alg_laws.specs.Outcome.{Outcome, among}

-- What a body may read: the element of the algebra by which a time derivative multiplies (Time derivative operator), the values of
-- parameters, whether each was given, the temperature, the unknowns, and what set-up has stored.
pub record Inputs (V : Type 0) : Type 0 where
  pub derivative : V
  pub parameters : ℕ → Number V
  pub given : ℕ → Bool
  pub temperature : V
  pub unknowns : ℕ → V
  pub cells : ℕ → Number V

-- An algebra, what is read, how many turns a loop may make at each entry, and with what an evaluation ends that is undefined for a
-- reason.
pub record Context (E V : Type 0) : Type 0 where
  pub ops : Operations V
  pub inputs : Inputs V
  pub bound : ℕ
  pub stops : Reason → E

abbrev pub over : {E V : Type 0} → Operations V → Inputs V → ℕ → (Reason → E) → Context E V
over o inputs n stops = record { ops = o; inputs = inputs; bound = n; stops = stops }

-- what a value is, or an early end
abbrev pub Result : Type 0 → Type 0 → Type 0
Result E V = Outcome E (Number V)

-- what an operator gives, its early ends told as those of an evaluation
abbrev pub told : {E V A : Type 0} → Context E V → Outcome Reason A → Outcome E A
told c out = among c.stops out

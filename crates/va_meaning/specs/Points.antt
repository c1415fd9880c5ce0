-- Where a module is evaluated, and what an evaluation changes.
use Rattle.std.specs.Prelude.{ℕ, ◌==◌, Bool, true, false, if◌then◌else◌, List}
use Rattle.alg_laws.specs.declared.number.Number.{Number}
use Rattle.alg_laws.specs.declared.number.Reason.{Reason}
use Rattle.alg_laws.specs.Operations.{Operations}
use Rattle.alg_laws.specs.Outcome.{Outcome, gives, among}
use Rattle.va_tree.specs.declared.source.Quantity.{Quantity}
use Rattle.va_tree.specs.declared.source.Quantity.TheVariants.{Potential, Flow}

-- A point: the values of the parameters, whether each was given, the temperature in kelvin, and the values of the unknowns.
pub record Point (V : Type 0) : Type 0 where
  pub parameters : ℕ → Number V
  pub given : ℕ → Bool
  pub temperature : V
  pub unknowns : ℕ → V

-- What an expression gives: a value, or an early end. The type E of early ends is a parameter.
abbrev pub Result : Type 0 → Type 0 → Type 0
Result E V = Outcome E (Number V)

-- What numbered calls answer, by their numbers and by what each argument gives: a real, or an early end. The number of a call is its
-- place in the pre-order of the expressions of the analogue blocks.
abbrev pub Answers : Type 0 → Type 0 → Type 0
Answers E V = ℕ → List (Result E V) → Outcome E V

-- every numbered call is 0
abbrev pub unanswered : {E V : Type 0} → Operations V → Answers E V
unanswered o number outs = gives o.zero

-- Over what an evaluation is: an algebra; an element of it, by which a time derivative multiplies (Time derivative operator); a
-- point; how many turns a loop may make at each entry; with what an evaluation ends that is undefined for a reason; and the answers
-- of numbered calls.
pub record Context (E V : Type 0) : Type 0 where
  pub ops : Operations V
  pub derivative : V
  pub point : Point V
  pub bound : ℕ
  pub stops : Reason → E
  pub answers : Answers E V

abbrev pub over : {E V : Type 0} → Operations V → V → Point V → ℕ → (Reason → E) → Answers E V → Context E V
over o s P n stops answers = record { ops = o; derivative = s; point = P; bound = n; stops = stops; answers = answers }

-- what an operation gives, its early ends told as those of an evaluation
abbrev pub told : {E V A : Type 0} → Context E V → Outcome Reason A → Outcome E A
told c out = among c.stops out

-- the same at other values of the unknowns
abbrev pub at_unknowns : {E V : Type 0} → Context E V → (ℕ → V) → Context E V
at_unknowns c unknowns = record c { point = record c.point { unknowns = unknowns } }

-- the same where each unknown is 0
abbrev pub without_unknowns : {E V : Type 0} → Context E V → Context E V
without_unknowns c = at_unknowns c (λ i. c.ops.zero)

-- the values of variables
abbrev pub Store : Type 0 → Type 0
Store V = ℕ → Number V

-- the same but for one variable
abbrev pub with_variable : {V : Type 0} → Store V → ℕ → Number V → Store V
with_variable vars x v = λ y. if y == x then v else vars y

-- What a branch holds, its flow or its potential, and the sum of what was contributed to it (Contribution statements, Value
-- retention).
pub record Held (V : Type 0) : Type 0 where
  pub quantity : Quantity
  pub sum : V

-- The variables, what each branch holds, and its mark: whether its nodes are one (Switch branches).
pub record State (V : Type 0) : Type 0 where
  pub variables : Store V
  pub held : ℕ → Held V
  pub marks : ℕ → Bool

abbrev pub is_quantity : Quantity → Quantity → Bool
is_quantity Potential Potential = true
is_quantity Flow Flow = true
is_quantity Potential Flow = false
is_quantity Flow Potential = false

-- what has been added up of a quantity; where the branch holds the other one, nothing has
abbrev pub held_of : {V : Type 0} → Operations V → Quantity → Held V → V
held_of o quantity held = if is_quantity quantity held.quantity then held.sum else o.zero

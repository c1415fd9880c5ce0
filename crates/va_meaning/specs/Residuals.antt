-- The resistive and reactive residuals of a module (Time derivative operator), and its Jacobian.
--
-- A time derivative multiplies by an element s of the algebra. Over dual numbers, with s the dual number whose main is 0 and
-- whose part is 1, the main of a residual is what is left of it in a resting circuit, and the part what is differentiated by
-- time. A derivative by an unknown is the part of a residual over dual numbers in which that unknown moves.
use Rattle.std.specs.Prelude.{ℕ, ◌==◌, if◌then◌else◌, List, map}
use Rattle.alg_laws.specs.declared.dual.Dual.{Dual}
use Rattle.alg_laws.specs.declared.number.Number.{Number}
use Rattle.alg_laws.specs.declared.number.Reason.{Reason}
use Rattle.alg_laws.specs.Dual.{dual, lift}
use Rattle.alg_laws.specs.NumberParts.{lifted, main_of}
use Rattle.alg_laws.specs.Operations.{Operations}
use Rattle.alg_laws.specs.Outcome.{Outcome, gives, ◌>>=◌}
use Rattle.va_meaning.specs.Elaborated.{Elaborated}
use Rattle.va_meaning.specs.Points.{Point, Context, State, over, unanswered}
use Rattle.va_meaning.specs.Rows.{residuals}

-- the same point over dual numbers, at which nothing moves
abbrev pub lifted_point : {V : Type 0} → Operations V → Point V → Point (Dual V)
lifted_point o P = record {
  parameters = λ p. lifted o (P.parameters p);
  given = P.given;
  temperature = lift o P.temperature;
  unknowns = λ i. lift o (P.unknowns i);
}

-- the same point over dual numbers, at which unknown j alone moves
abbrev pub moved_point : {V : Type 0} → Operations V → ℕ → Point V → Point (Dual V)
moved_point o j P = record (lifted_point o P) {
  unknowns = λ i. if i == j then record { main = P.unknowns i; part = o.one } else lift o (P.unknowns i);
}

-- Over the dual numbers of an algebra, at a lifted point and with (0, 1) for a time derivative. Every numbered call is 0.
abbrev pub in_parts : {V : Type 0} → Operations V → Point V → ℕ → Context Reason (Dual V)
in_parts o P n = over (dual o) (record { main = o.zero; part = o.one }) (lifted_point o P) n (λ reason. reason) (unanswered (dual o))

-- The residuals in two parts, for a loop that makes at most n turns: the main of each is the resistive residual of its row, and
-- the part the reactive one.
abbrev pub residual_parts : {V : Type 0} → Elaborated → Operations V → Point V → ℕ → Outcome Reason (List (Dual V))
residual_parts M o P n = residuals M (in_parts o P n)

-- The column of unknown j in the Jacobian: what the residuals in two parts have for parts where unknown j moves. The main of
-- each is the resistive entry of its row, and the part the reactive one.
abbrev pub jacobian_column : {V : Type 0} → Elaborated → Operations V → Point V → ℕ → ℕ → Outcome Reason (List (Dual V))
jacobian_column M o P n j = do
  rows ← residual_parts M (dual o) (moved_point o j P) n
  gives (map (λ row. record { main = row.main.part; part = row.part.part }) rows)

-- The value of a variable at the end, as an operating point tells it: the main of a real; an integer as it is.
abbrev pub operating_value : {V : Type 0} → State (Dual V) → ℕ → Number V
operating_value s x = main_of (s.variables x)

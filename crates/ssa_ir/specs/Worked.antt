-- Bodies that are worked by hand, modulo 1000003.
use Rattle.std.specs.Prelude.{◌≡◌, ℕ, zero, suc, true, ℤ, pos, negsuc, List, [], ◌∷◌}
use Rattle.alg_laws.specs.declared.number.Number.TheVariants.{Real, Int}
use Rattle.alg_laws.specs.declared.number.Reason.{Reason}
use Rattle.alg_laws.specs.declared.number.Reason.TheVariants.{Turns, IntRange}
use Rattle.alg_laws.specs.declared.number.Ty.TheVariants as type
use Rattle.alg_laws.specs.Outcome.{gives, ends, ◌>>=◌}
use Rattle.alg_laws.specs.Residue.{residue_ops}
use Rattle.ssa_ir.specs.declared.body.BinaryOperator.TheVariants.{Add, Subtract, Multiply, Divide, Less}
use Rattle.ssa_ir.specs.declared.body.Function.{Function}
use Rattle.ssa_ir.specs.declared.body.Instruction.{Instruction}
use Rattle.ssa_ir.specs.declared.body.Instruction.TheVariants.{Value, Choice, Else, Join, EndChoice, Loop, Head, Test, Next, EndLoop}
use Rattle.ssa_ir.specs.declared.body.Operation.TheVariants.{Integer, Parameter, Unknown, Unary, Binary, Call}
use Rattle.ssa_ir.specs.declared.body.UnaryOperator.TheVariants.{ToReal, TimeDerivative}
use Rattle.ssa_ir.specs.Context.{Context, Result, over}
use Rattle.ssa_ir.specs.Evaluation.{calls, run}
use Rattle.ssa_ir.specs.Flat.{steps_of}

abbrev pub unknown_at : ℕ → ℕ
unknown_at zero = 5
unknown_at (suc j) = 3

-- parameter 0 is the integer n, unknowns 0 and 1 are 5 and 3, a time derivative multiplies by 10, and a loop makes at most 3 turns
abbrev pub context : ℤ → Context Reason ℕ
context n = over residue_ops (record {
  derivative = 10;
  parameters = λ p. Int n;
  given = λ p. true;
  temperature = 300;
  unknowns = unknown_at;
  cells = λ i. Real 0;
}) 3 (λ reason. reason)

-- x + 1
abbrev pub successor : Function
successor = record {
  arguments = type.Real ∷ [];
  body = record {
    instructions =
        Value 1 type.Integer (Integer (pos 1))
        ∷ Value 2 type.Real (Unary ToReal 1)
        ∷ Value 3 type.Real (Binary Add 0 2)
        ∷ [];
    free = 4;
  };
  ty = type.Real;
  result = 3;
}

-- the value of a number behind instructions, with this one function
abbrev pub value_behind : ℤ → List Instruction → ℕ → Result Reason ℕ
value_behind n is k = run (context n) (calls (context n) (successor ∷ [])) (steps_of is) (λ j. Int (pos 0)) >>= λ v. gives (v k)

-- V(0) < V(1) ? V(0) * V(0) : V(0) - V(1)
abbrev pub chosen : List Instruction
chosen =
    Value 0 type.Real (Unknown 0)
    ∷ Value 1 type.Real (Unknown 1)
    ∷ Value 2 type.Integer (Binary Less 0 1)
    ∷ Choice 2
    ∷ Value 3 type.Real (Binary Multiply 0 0)
    ∷ Else
    ∷ Value 4 type.Real (Binary Subtract 0 1)
    ∷ Join 5 type.Real 3 4
    ∷ EndChoice
    ∷ []

-- n + (n - 1) + .. + 1
abbrev pub counted_down : List Instruction
counted_down =
    Value 0 type.Integer (Parameter 0)
    ∷ Value 1 type.Integer (Integer (pos 0))
    ∷ Value 2 type.Integer (Integer (pos 1))
    ∷ Loop
    ∷ Head 3 type.Integer 0
    ∷ Head 4 type.Integer 1
    ∷ Value 5 type.Integer (Binary Less 1 3)
    ∷ Test 5
    ∷ Value 6 type.Integer (Binary Add 4 3)
    ∷ Value 7 type.Integer (Binary Subtract 3 2)
    ∷ Next 7
    ∷ Next 6
    ∷ EndLoop
    ∷ []

-- two heads change their values n times
abbrev pub exchanged : List Instruction
exchanged =
    Value 0 type.Integer (Parameter 0)
    ∷ Value 1 type.Integer (Integer (pos 0))
    ∷ Value 2 type.Integer (Integer (pos 1))
    ∷ Loop
    ∷ Head 3 type.Integer 0
    ∷ Head 4 type.Integer 1
    ∷ Head 5 type.Integer 2
    ∷ Value 6 type.Integer (Binary Less 1 3)
    ∷ Test 6
    ∷ Value 7 type.Integer (Binary Subtract 3 2)
    ∷ Next 7
    ∷ Next 5
    ∷ Next 4
    ∷ EndLoop
    ∷ []

-- n != 0 ? 1 / n : 0
abbrev pub guarded : List Instruction
guarded =
    Value 0 type.Integer (Parameter 0)
    ∷ Value 1 type.Integer (Integer (pos 1))
    ∷ Choice 0
    ∷ Value 2 type.Integer (Binary Divide 1 0)
    ∷ Else
    ∷ Join 3 type.Integer 2 0
    ∷ EndChoice
    ∷ []

-- 1 / n
abbrev pub divided : List Instruction
divided =
    Value 0 type.Integer (Parameter 0)
    ∷ Value 1 type.Integer (Integer (pos 1))
    ∷ Value 2 type.Integer (Binary Divide 1 0)
    ∷ []

-- ddt(V(0)), and the function of it
abbrev pub timed : List Instruction
timed =
    Value 0 type.Real (Unknown 0)
    ∷ Value 1 type.Real (Unary TimeDerivative 0)
    ∷ Value 2 type.Real (Call 0 (1 ∷ []))
    ∷ []

pub record WorkedBodies : Type 0 where
  pub false_arm : value_behind (pos 0) chosen 5 ≡ gives (Real 2)
  pub arm_is_not_seen_behind : value_behind (pos 0) chosen 4 ≡ gives (Int (pos 0))
  pub turns_are_made : value_behind (pos 3) counted_down 4 ≡ gives (Int (pos 6))
  pub head_at_the_end : value_behind (pos 3) counted_down 3 ≡ gives (Int (pos 0))
  pub turn_is_not_seen_behind : value_behind (pos 3) counted_down 6 ≡ gives (Int (pos 0))
  pub one_turn_short : value_behind (pos 4) counted_down 4 ≡ ends Turns
  pub no_turn : value_behind (negsuc 4) counted_down 4 ≡ gives (Int (pos 0))
  pub heads_change_at_once : value_behind (pos 3) exchanged 4 ≡ gives (Int (pos 1))
  pub and_both : value_behind (pos 3) exchanged 5 ≡ gives (Int (pos 0))
  pub arm_is_not_run : value_behind (pos 0) guarded 3 ≡ gives (Int (pos 0))
  pub arm_is_run : value_behind (pos 1) guarded 3 ≡ gives (Int (pos 1))
  pub undefined : value_behind (pos 0) divided 2 ≡ ends IntRange
  pub derivative : value_behind (pos 0) timed 1 ≡ gives (Real 50)
  pub function_is_called : value_behind (pos 0) timed 2 ≡ gives (Real 51)

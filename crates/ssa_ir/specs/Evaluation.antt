-- What a body computes, over any algebra.
use Rattle.std.specs.Prelude.{ℕ, suc, ◌==◌, not, if◌then◌else◌, pos, List, [], ◌∷◌, map, get_or}
use Rattle.alg_laws.specs.declared.number.Number.{Number}
use Rattle.alg_laws.specs.declared.number.Number.TheVariants.{Real, Int}
use Rattle.alg_laws.specs.declared.number.Reason.TheVariants.{Turns}
use Rattle.alg_laws.specs.declared.number.Ty.TheVariants as type
use Rattle.alg_laws.specs.LiteralValue.{literal_value}
use Rattle.alg_laws.specs.Loop.{turns}
use Rattle.alg_laws.specs.NumberOps.{truth, to_real, converted, is_true, sum_of, difference_of, product_of, quotient_of, remainder_of, negative_of, is_less, is_at_most, is_same, contrary_of, fun1_of, fun2_of}
use Rattle.alg_laws.specs.Outcome.{Outcome, gives, ◌>>=◌}
use Rattle.ssa_ir.specs.declared.body.BinaryOperator.{BinaryOperator}
use Rattle.ssa_ir.specs.declared.body.BinaryOperator.TheVariants.{Add, Subtract, Multiply, Divide, Remainder, Less, AtMost, Equal, NotEqual}
use Rattle.ssa_ir.specs.declared.body.Function.{Function}
use Rattle.ssa_ir.specs.declared.body.Operation.{Operation}
use Rattle.ssa_ir.specs.declared.body.Operation.TheVariants.{Literal, Integer, Parameter, Given, Temperature, Unknown, Cell, Unary, Binary, One, Two, Call}
use Rattle.ssa_ir.specs.declared.body.UnaryOperator.{UnaryOperator}
use Rattle.ssa_ir.specs.declared.body.UnaryOperator.TheVariants.{Negative, Contrary, ToReal, ToInteger, TimeDerivative}
use Rattle.ssa_ir.specs.Body.{Merge, first_of, second_of, Step, Steps, value, choice, loop, stop, step}
use Rattle.ssa_ir.specs.Context.{Context, Result, told}
use Rattle.ssa_ir.specs.Flat.{steps_of}

-- The value of each number. It is total: what no step has defined has some value, which a body that obeys the invariant never reads.
abbrev pub Values : Type 0 → Type 0
Values V = ℕ → Number V

-- what each function gives for its arguments
abbrev pub Calls : Type 0 → Type 0 → Type 0
Calls E V = ℕ → List (Number V) → Result E V

-- the same but at one number
abbrev pub with_value : {A : Type 0} → (ℕ → A) → ℕ → A → ℕ → A
with_value v k x j = if j == k then x else v j

-- Outside of a choice or a turn each merge has what its operand has inside, and every other number what it had outside.
abbrev pub merged : {A : Type 0} → (Merge → ℕ) → List Merge → (ℕ → A) → (ℕ → A) → ℕ → A
merged side [] inner outer j = outer j
merged side (m ∷ ms) inner outer j = if j == m.number then inner (side m) else merged side ms inner outer j

-- the values at the head of a turn, and those at its test
pub record AtTest (V : Type 0) : Type 0 where
  pub head : Values V
  pub inner : Values V

abbrev pub at_test : {V : Type 0} → Values V → Values V → AtTest V
at_test h w = record { head = h; inner = w }

module _ {E V : Type 0} (c : Context E V) where
  abbrev pub unary_value : UnaryOperator → Number V → Result E V
  unary_value Negative v = told c (negative_of c.ops v)
  unary_value Contrary v = gives (contrary_of c.ops v)
  unary_value ToReal v = told c (converted c.ops type.Real v)
  unary_value ToInteger v = told c (converted c.ops type.Integer v)
  unary_value TimeDerivative v = gives (Real (c.ops.product c.inputs.derivative (to_real c.ops v)))

  abbrev pub binary_value : BinaryOperator → Number V → Number V → Result E V
  binary_value Add v w = told c (sum_of c.ops v w)
  binary_value Subtract v w = told c (difference_of c.ops v w)
  binary_value Multiply v w = told c (product_of c.ops v w)
  binary_value Divide v w = told c (quotient_of c.ops v w)
  binary_value Remainder v w = told c (remainder_of c.ops v w)
  binary_value Less v w = gives (truth (is_less c.ops v w))
  binary_value AtMost v w = gives (truth (is_at_most c.ops v w))
  binary_value Equal v w = gives (truth (is_same c.ops v w))
  binary_value NotEqual v w = gives (truth (not (is_same c.ops v w)))

  module _ (F : Calls E V) where
    abbrev pub computed : Operation → Values V → Result E V
    computed (Literal d) v = gives (Real (literal_value c.ops d.mantissa d.power))
    computed (Integer i) v = gives (Int i)
    computed (Parameter p) v = gives (c.inputs.parameters p)
    computed (Given p) v = gives (truth (c.inputs.given p))
    computed Temperature v = gives (Real c.inputs.temperature)
    computed (Unknown j) v = gives (Real (c.inputs.unknowns j))
    computed (Cell i) v = gives (c.inputs.cells i)
    computed (Unary op a) v = unary_value op (v a)
    computed (Binary op a b) v = binary_value op (v a) (v b)
    computed (One f a) v = gives (fun1_of c.ops f (v a))
    computed (Two f a b) v = gives (fun2_of c.ops f (v a) (v b))
    computed (Call f args) v = F f (map v args)

    -- Of a choice the arm that the test chooses is run. Of a loop at each turn what stands before the test, and then, where the test
    -- holds, the rest; the heads take their next values at once. It ends with the heads as they are where the test fails.
    abbrev mutual
      pub run_step : Step → Values V → Outcome E (Values V)
      run_step (value k t op) v = do
        x ← computed op v
        gives (with_value v k x)
      run_step (choice test a b joins) v =
          if is_true c.ops (v test) then (do w ← run a v; gives (merged first_of joins w v))
          else (do w ← run b v; gives (merged second_of joins w v))
      run_step (loop heads before test turn) v = do
        last ← turns (c.stops Turns) (λ h. run before h >>= λ w. gives (at_test h w)) (λ t. is_true c.ops (t.inner test))
            (λ t. run turn t.inner >>= λ w. gives (merged second_of heads w v)) c.bound (merged first_of heads v v)
        gives last.head

      pub run : Steps → Values V → Outcome E (Values V)
      run stop v = gives v
      run (step s rest) v = run_step s v >>= run rest

    -- a function of the list, at the values of its arguments
    abbrev pub function_value : Function → List (Number V) → Result E V
    function_value f args = do
      v ← run (steps_of f.body.instructions) (λ j. get_or args j (Int (pos 0)))
      gives (v f.result)

  -- what a list of functions gives, of which each calls earlier ones alone, behind n functions that are known
  abbrev pub calls_from : ℕ → Calls E V → List Function → Calls E V
  calls_from n F [] = F
  calls_from n F (f ∷ fs) = calls_from (suc n) (with_value F n (function_value F f)) fs

  -- what a list of functions gives; a call of none of them gives 0
  abbrev pub calls : List Function → Calls E V
  calls fs = calls_from 0 (λ f args. gives (Int (pos 0))) fs

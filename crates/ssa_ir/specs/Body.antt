-- Bodies of numbered values in nested form.
use Rattle.std.specs.Prelude.{ℕ, List, [], ◌∷◌, ◌++◌}
use Rattle.alg_laws.specs.declared.number.Ty.{Ty}
use Rattle.ssa_ir.specs.declared.body.Operation.{Operation}

-- A number whose value is that of one operand or of another: a join, with its operands of the two arms, or the head of a loop, with
-- its operands at the first and at each later turn. In the literature it is a φ-function.
pub record Merge : Type 0 where
  pub number : ℕ
  pub ty : Ty
  pub first : ℕ
  pub second : ℕ

abbrev pub first_of : Merge → ℕ
first_of m = m.first

abbrev pub second_of : Merge → ℕ
second_of m = m.second

mutual
  pub data Step : Type 0 where
    -- a number, its type, and what computes it
    value : ℕ → Ty → Operation → Step
    -- the test, the arm where it is true, the other one, the joins
    choice : ℕ → Steps → Steps → List Merge → Step
    -- the heads, what stands before the test, the test, the rest of a turn
    loop : List Merge → Steps → ℕ → Steps → Step

  pub data Steps : Type 0 where
    stop : Steps
    step : Step → Steps → Steps

infixr 20 ◌⧺◌
-- steps, and behind them others
abbrev pub ◌⧺◌ : Steps → Steps → Steps
stop ⧺ b = b
step s a ⧺ b = step s (a ⧺ b)

-- the numbers of merges
abbrev pub merge_numbers : List Merge → List ℕ
merge_numbers [] = []
merge_numbers (m ∷ ms) = m.number ∷ merge_numbers ms

-- every number that steps define, inside of choices and loops too
abbrev mutual
  pub numbers_of_step : Step → List ℕ
  numbers_of_step (value k t op) = k ∷ []
  numbers_of_step (choice test a b joins) = numbers a ++ (numbers b ++ merge_numbers joins)
  numbers_of_step (loop heads before test turn) = merge_numbers heads ++ (numbers before ++ numbers turn)

  pub numbers : Steps → List ℕ
  numbers stop = []
  numbers (step s rest) = numbers_of_step s ++ numbers rest

-- the numbers that are seen behind steps: those inside of a choice or a loop are not, but for its joins or heads
abbrev pub seen_of_step : Step → List ℕ
seen_of_step (value k t op) = k ∷ []
seen_of_step (choice test a b joins) = merge_numbers joins
seen_of_step (loop heads before test turn) = merge_numbers heads

abbrev pub seen : Steps → List ℕ
seen stop = []
seen (step s rest) = seen_of_step s ++ seen rest

-- What a source of the first form means, over any algebra (Contribution statements): the flow that it contributes to the
-- branch between its ports, and the resistive residuals of its two unknowns, the potentials of the ports in order.
use Rattle.std.specs.Prelude.{ℕ, List, [], ◌∷◌}
use Rattle.std.specs.List.{position_or_len}
use Rattle.std.specs.Str.{bytes_eq}
use Rattle.alg_laws.specs.Operations.{Operations}
use Rattle.va_tree.specs.declared.expr.BinaryOp.{BinaryOp}
use Rattle.va_tree.specs.declared.expr.BinaryOp.TheVariants.{Add, Subtract, Multiply, Divide}
use Rattle.va_tree.specs.Expressions.{Expression, literal, infinity, name, group, unary, binary, choose, call}
use Rattle.first_form.specs.Form.{FirstForm}

-- a parameter's number by declaration
abbrev pub number_in : List (List ℕ) → List ℕ → ℕ
number_in names bytes = position_or_len (bytes_eq bytes) names

-- an operator of the first form between two values; the others do not stand in it, and have zero here
abbrev pub combined : {V : Type 0} → Operations V → BinaryOp → V → V → V
combined o Add x y = o.sum x y
combined o Subtract x y = o.sum x (o.negative y)
combined o Multiply x y = o.product x y
combined o Divide x y = o.product x (o.recip y)
combined o others x y = o.zero

-- The value of an expression of the first form, where a parameter of a name has a value, and so has the potential. Other
-- expressions do not stand in it, and have zero here.
module _ {V : Type 0} (o : Operations V) (param : List ℕ → V) (voltage : V) where
  abbrev pub sum_value : Expression → V
  sum_value (name at bytes) = param bytes
  sum_value (group at inner) = sum_value inner
  sum_value (binary at left op right) = combined o op (sum_value left) (sum_value right)
  sum_value (call at callee access args) = voltage
  sum_value (literal at value integer) = o.zero
  sum_value (infinity at) = o.zero
  sum_value (unary at op operand) = o.zero
  sum_value (choose at test a b) = o.zero

-- The rows of a form at these parameters, by number, and unknowns: the flow leaves the first port and enters the second
-- (Branches). The potential is unknown 0 less unknown 1.
abbrev pub residuals : FirstForm → (V : Type 0) → Operations V → (ℕ → V) → (ℕ → V) → List V
residuals form V o params unknowns =
    let flow = sum_value o (λ bytes. params (number_in form.params bytes)) (o.sum (unknowns 0) (o.negative (unknowns 1))) form.flow in
    flow ∷ o.negative flow ∷ []

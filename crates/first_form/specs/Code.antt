-- The straight code that is written for an expression of the form. It follows the program; no public contract names it.
use Rattle.std.specs.Prelude.{ℕ, ◌+◌, List, [], ◌∷◌, ◌++◌}
use Rattle.c_tree.specs.declared.short.Field.TheVariants.{Param, Row}
use Rattle.c_tree.specs.declared.short.Atom.{Atom}
use Rattle.c_tree.specs.declared.short.Atom.TheVariants.{Local, Field, Unknown}
use Rattle.c_tree.specs.declared.short.Operator.{Operator}
use Rattle.c_tree.specs.declared.short.Operator.TheVariants.{Plus, Minus, Times, Over}
use Rattle.c_tree.specs.declared.short.Right.TheVariants.{Negated, Binary}
use Rattle.c_tree.specs.declared.short.Load.{Load}
use Rattle.c_tree.specs.declared.short.Statement.{Statement}
use Rattle.c_tree.specs.declared.short.Statement.TheVariants.{Declare, Set}
use Rattle.va_tree.specs.declared.expr.BinaryOp.{BinaryOp}
use Rattle.va_tree.specs.declared.expr.BinaryOp.TheVariants.{Add, Subtract, Multiply, Divide}
use Rattle.va_tree.specs.Expressions.{Expression, literal, infinity, name, group, unary, binary, choose, call}
use Rattle.first_form.specs.Form.{FirstForm}
use Rattle.first_form.specs.Residuals.{number_in}

-- some statements, the number of the next local, and where the value is
pub record Code : Type 0 where
  pub statements : List Statement
  pub next : ℕ
  pub atom : Atom

-- one code after another, and then an operator between their values
abbrev pub joined : Code → Operator → Code → Code
joined left operator right = record {
  statements = left.statements ++ right.statements ++ Declare right.next (Binary left.atom operator right.atom) ∷ [];
  next = right.next + 1;
  atom = Local right.next;
}

-- the operator of the C file for one of the form, and any for another
abbrev pub operator_of : BinaryOp → Operator
operator_of Add = Plus
operator_of Subtract = Minus
operator_of Multiply = Times
operator_of Divide = Over
operator_of others = Plus

-- no statements, and an atom
abbrev pub without : Atom → ℕ → Code
without atom next = record { statements = []; next = next; atom = atom }

-- the potential between the ports
abbrev pub potential_code : ℕ → Code
potential_code next = record {
  statements = Declare next (Binary (Unknown 0) Minus (Unknown 1)) ∷ [];
  next = next + 1;
  atom = Local next;
}

-- The code of an expression among parameters of these names, from a next local on. Other expressions than those of the form
-- are never asked for.
module _ (names : List (List ℕ)) where
  abbrev pub sum_code : Expression → ℕ → Code
  sum_code (name at bytes) next = without (Field (Param (number_in names bytes))) next
  sum_code (group at inner) next = sum_code inner next
  sum_code (binary at left op right) next =
      let first = sum_code left next in joined first (operator_of op) (sum_code right first.next)
  sum_code (call at callee access args) next = potential_code next
  sum_code (literal at value integer) next = without (Unknown 0) next
  sum_code (infinity at) next = without (Unknown 0) next
  sum_code (unary at op operand) next = without (Unknown 0) next
  sum_code (choose at test a b) next = without (Unknown 0) next

-- what the evaluation does for a flow among parameters of these names: the flow, its negative, and both rows
abbrev pub flow_statements : List (List ℕ) → Expression → List Statement
flow_statements names flow =
    let code = sum_code names flow 0 in
    code.statements ++ Declare code.next (Negated code.atom) ∷ Set (Row 0) code.atom ∷ Set (Row 1) (Local code.next) ∷ []

-- the statements of the evaluation of a form
abbrev pub form_statements : FirstForm → List Statement
form_statements form = flow_statements form.params form.flow

-- the statements of the load: each row is added to the target of the unknown of its number
abbrev pub form_loads : List Load
form_loads = record { unknown = 0; row = 0 } ∷ record { unknown = 1; row = 1 } ∷ []

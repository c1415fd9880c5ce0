-- Rows that are worked out by hand: a resistor's source, its parts and its rows, what is no part of the form, and what sums give.
use Rattle.std.specs.Prelude.{◌≡◌, ℕ, zero, suc, ℤ, pos, negsuc, true, false, List, [], ◌∷◌, Option, Some, None, codes}
use Rattle.va_base.specs.declared.exact.Decimal.{Decimal}
use Rattle.va_tree.specs.declared.name.NameAt.{NameAt}
use Rattle.va_tree.specs.declared.expr.Expr.{Expr, Literal, Inf, Name}
use Rattle.va_tree.specs.declared.expr.Expr.TheVariants.{Call, Binary}
use Rattle.va_tree.specs.declared.expr.Arg.TheVariants as arg
use Rattle.va_tree.specs.declared.expr.UnaryOp.TheVariants as sign
use Rattle.va_tree.specs.declared.expr.BinaryOp.{BinaryOp}
use Rattle.va_tree.specs.declared.expr.BinaryOp.TheVariants.{Add, Subtract, Multiply, Divide, Remainder}
use Rattle.va_tree.specs.declared.expr.Callee.TheVariants.{Function, System}
use Rattle.va_tree.specs.declared.stmt.Stmt.{Stmt, Null, Assign, Contribute}
use Rattle.va_tree.specs.declared.module.Direction.TheVariants.{Input, Inout}
use Rattle.va_tree.specs.declared.module.Ty.{Ty}
use Rattle.va_tree.specs.declared.module.Ty.TheVariants.{Integer, Real}
use Rattle.va_tree.specs.declared.module.Range.{Range}
use Rattle.va_tree.specs.declared.module.Range.TheVariants as range
use Rattle.va_tree.specs.declared.module.Parameter.{Parameter}
use Rattle.va_tree.specs.declared.module.ItemBody.{ItemBody}
use Rattle.va_tree.specs.declared.module.ItemBody.TheVariants as item
use Rattle.va_tree.specs.declared.module.Item.{Item}
use Rattle.va_tree.specs.declared.module.Module.{Module}
use Rattle.va_tree.specs.declared.source.AttributeGroup.{AttributeGroup}
use Rattle.va_tree.specs.declared.source.Source.{Source}
use Rattle.va_tree.specs.Expressions.{Expression, literal, name as named, group, unary, binary, call, Arguments, no_more, text_then, expression_then}
use Rattle.alg_laws.specs.Residue.{residue_ops}
use Rattle.alg_laws.specs.Whole.{whole_ops}
use Rattle.first_form.specs.Form.{FirstForm, is_inout, is_electrical, parameter_name, flow_of, are_bare, is_free, IsSum, open_in, IsSourceOfForm}
use Rattle.first_form.specs.Residuals.{residuals}

-- a name at a token
abbrev pub at : ℕ → List ℕ → NameAt
at i bytes = record { at = i; name = bytes }

-- a whole number at a token
abbrev pub number : ℕ → ℕ → Expr
number i mantissa = let value : Decimal = record { mantissa = mantissa; power = pos 0 } in Literal i value true

-- an item without attributes
abbrev pub bare : ItemBody → Item
bare body = record { attributes = []; body = body }

-- a parameter without ranges
abbrev pub plain : NameAt → Expr → Parameter
plain n default = record { name = n; default = default; ranges = [] }

-- The items of `inout a, c; electrical a, c; parameter real r = 1; analog I(a, c) <+ V(a, c) / r;`, which begin at token 8.
abbrev pub directions : ItemBody
directions = item.Direction 8 Inout None (at 9 (codes "a") ∷ at 11 (codes "c") ∷ [])

abbrev pub disciplines : ItemBody
disciplines = item.Nodes 13 (codes "electrical") (at 14 (codes "a") ∷ at 16 (codes "c") ∷ [])

abbrev pub resistance : ItemBody
resistance = item.Parameters 18 false (Some Real) (plain (at 20 (codes "r")) (number 22 1) ∷ [])

abbrev pub quotient : Expr
quotient =
    Binary 32 (Call 32 Function (codes "V") (arg.Expr (Name 34 (codes "a")) ∷ arg.Expr (Name 36 (codes "c")) ∷ [])) Divide (Name 39 (codes "r"))

abbrev pub contribution : ItemBody
contribution = item.Analog 24 (Contribute 25 (codes "I") (at 27 (codes "a")) (Some (at 29 (codes "c"))) quotient)

-- module m(a, c); with these items, and endmodule
abbrev pub resistor_module : Module
resistor_module = record {
  attributes = [];
  at = 1;
  name = codes "m";
  ports = at 3 (codes "a") ∷ at 5 (codes "c") ∷ [];
  items = bare directions ∷ bare disciplines ∷ bare resistance ∷ bare contribution ∷ [];
}

abbrev pub resistor_source : Source
resistor_source = record { natures = []; disciplines = []; modules = resistor_module ∷ [] }

-- V(a, c) at a token, and names at tokens
abbrev pub pair : List ℕ → List ℕ → Arguments
pair first second = expression_then (named 2 first) (expression_then (named 4 second) no_more)

abbrev pub potential : ℕ → Expression
potential i = call i Function (codes "V") (expression_then (named 34 (codes "a")) (expression_then (named 36 (codes "c")) no_more))

-- a form with ports a and c and these parameters, whose flow is this sum
abbrev pub form_of : List (List ℕ) → Expression → FirstForm
form_of names flow = record { name = codes "m"; first = codes "a"; second = codes "c"; params = names; flow = flow }

-- V(a, c) / r
abbrev pub resistor : FirstForm
resistor = form_of (codes "r" ∷ []) (binary 32 (potential 32) Divide (named 39 (codes "r")))

-- the parameters p, q and r
abbrev pub three_names : List (List ℕ)
three_names = codes "p" ∷ codes "q" ∷ codes "r" ∷ []

abbrev pub p : Expression
p = named 0 (codes "p")

abbrev pub q : Expression
q = named 2 (codes "q")

abbrev pub r : Expression
r = named 4 (codes "r")

abbrev pub between : Expression → BinaryOp → Expression → Expression
between left op right = binary 0 left op right

-- p - q - r
abbrev pub differences : Expression
differences = between (between p Subtract q) Subtract r

-- p + q * r
abbrev pub product_added : Expression
product_added = between p Add (between q Multiply r)

-- (p + q) * r
abbrev pub sum_multiplied : Expression
sum_multiplied = between (group 0 (between p Add q)) Multiply r

-- p / q / r
abbrev pub quotients : Expression
quotients = between (between p Divide q) Divide r

-- values at the numbers 0, 1 and from 2 on
abbrev pub values : {V : Type 0} → V → V → V → ℕ → V
values x y z zero = x
values x y z (suc zero) = y
values x y z (suc (suc i)) = z

-- the rows of a flow of three parameters, in the whole numbers and between equal potentials
abbrev pub rows_of : Expression → ℤ → ℤ → ℤ → List ℤ
rows_of flow x y z = residuals (form_of three_names flow) ℤ whole_ops (values x y z) (λ _. pos 0)

-- an expression of the form between the ports a and c
abbrev pub IsFlow : Expression → Type 0
IsFlow = IsSum (codes "a") (codes "c") three_names

pub record WorkedSources : Type 0 where
  pub resistor_is_of_the_form : IsSourceOfForm resistor_source resistor
  -- 5 - 3 over 1 leaves the first port and enters the second
  pub resistor_rows : residuals resistor ℤ whole_ops (λ _. pos 1) (values (pos 5) (pos 3) (pos 9)) ≡ pos 2 ∷ negsuc 1 ∷ []

-- items that are no part of the form
pub record WorkedItems : Type 0 where
  pub ports_exchanged : is_inout (codes "c") (codes "a") directions ≡ false
  pub with_a_discipline : is_inout (codes "a") (codes "c") (item.Direction 8 Inout (Some (at 9 (codes "electrical"))) (at 10 (codes "a") ∷ at 12 (codes "c") ∷ [])) ≡ false
  pub input : is_inout (codes "a") (codes "c") (item.Direction 8 Input None (at 9 (codes "a") ∷ at 11 (codes "c") ∷ [])) ≡ false
  pub one_port : is_inout (codes "a") (codes "c") (item.Direction 8 Inout None (at 9 (codes "a") ∷ [])) ≡ false
  pub three_nodes : is_electrical (codes "a") (codes "c") (item.Nodes 13 (codes "electrical") (at 14 (codes "a") ∷ at 16 (codes "c") ∷ at 18 (codes "d") ∷ [])) ≡ false
  pub another_discipline : is_electrical (codes "a") (codes "c") (item.Nodes 13 (codes "thermal") (at 14 (codes "a") ∷ at 16 (codes "c") ∷ [])) ≡ false
  pub resistance_named : parameter_name resistance ≡ Some (codes "r")
  pub local : parameter_name (item.Parameters 18 true (Some Real) (plain (at 20 (codes "r")) (number 22 1) ∷ [])) ≡ None
  pub integer : parameter_name (item.Parameters 18 false (Some Integer) (plain (at 20 (codes "r")) (number 22 1) ∷ [])) ≡ None
  pub without_a_type : parameter_name (item.Parameters 18 false None (plain (at 19 (codes "r")) (number 21 1) ∷ [])) ≡ None
  pub two_in_one_item : parameter_name (item.Parameters 18 false (Some Real) (plain (at 20 (codes "r")) (number 22 1) ∷ plain (at 24 (codes "g")) (number 26 1) ∷ [])) ≡ None
  pub with_a_range : parameter_name (item.Parameters 18 false (Some Real) ((let p : Parameter = record { name = at 20 (codes "r"); default = number 22 1; ranges = range.ExcludeValue (number 24 0) ∷ [] } in p) ∷ [])) ≡ None
  pub a_name_as_default : parameter_name (item.Parameters 18 false (Some Real) (plain (at 20 (codes "r")) (Name 22 (codes "x")) ∷ [])) ≡ None
  pub a_real_default : parameter_name (item.Parameters 18 false (Some Real) (plain (at 20 (codes "r")) (let value : Decimal = record { mantissa = 1; power = pos 3 } in Literal 22 value false) ∷ [])) ≡ None
  pub potential_contributed : flow_of (codes "a") (codes "c") (item.Analog 24 (Contribute 25 (codes "V") (at 27 (codes "a")) (Some (at 29 (codes "c"))) (number 32 1))) ≡ None
  pub one_node : flow_of (codes "a") (codes "c") (item.Analog 24 (Contribute 25 (codes "I") (at 27 (codes "a")) None (number 30 1))) ≡ None
  pub nodes_exchanged : flow_of (codes "a") (codes "c") (item.Analog 24 (Contribute 25 (codes "I") (at 27 (codes "c")) (Some (at 29 (codes "a"))) (number 32 1))) ≡ None
  pub an_assignment : flow_of (codes "a") (codes "c") (item.Analog 24 (Assign 25 (codes "x") (number 27 1))) ≡ None
  pub an_attribute : are_bare ((let i : Item = record { attributes = (let g : AttributeGroup = record { attributes = [] } in g ∷ []); body = resistance } in i) ∷ []) ≡ false
  pub access : is_free (codes "V") ≡ false
  pub flow_access : is_free (codes "I") ≡ false
  pub discipline : is_free (codes "electrical") ≡ false
  pub other_case : is_free (codes "v") ≡ true

-- sums are read from left to right, products before sums, and a parameter by its number
pub record WorkedSums : Type 0 where
  pub differences_from_the_left : rows_of differences (pos 7) (pos 2) (pos 1) ≡ pos 4 ∷ negsuc 3 ∷ []
  pub product_first : rows_of product_added (pos 2) (pos 3) (pos 4) ≡ pos 14 ∷ negsuc 13 ∷ []
  pub parentheses_first : rows_of sum_multiplied (pos 2) (pos 3) (pos 4) ≡ pos 20 ∷ negsuc 19 ∷ []
  -- 12 / 2 / 3 modulo 1000003
  pub quotients_from_the_left : residuals (form_of three_names quotients) ℕ residue_ops (values 12 2 3) (λ _. 0) ≡ 2 ∷ 1000001 ∷ []
  pub is_of_the_form : IsFlow sum_multiplied
  pub another_name : IsFlow (named 0 (codes "s")) → ⊥
  pub a_number : IsFlow (literal 0 (record { mantissa = 2; power = pos 0 }) true) → ⊥
  pub a_sign : IsFlow (unary 0 sign.Minus p) → ⊥
  pub a_remainder : IsFlow (between p Remainder q) → ⊥
  pub the_potential : IsFlow (call 0 Function (codes "V") (pair (codes "a") (codes "c")))
  pub nodes_turned_round : IsFlow (call 0 Function (codes "V") (pair (codes "c") (codes "a"))) → ⊥
  pub the_flow : IsFlow (call 0 Function (codes "I") (pair (codes "a") (codes "c"))) → ⊥
  pub one_argument : IsFlow (call 0 Function (codes "V") (expression_then (named 2 (codes "a")) no_more)) → ⊥
  pub open_at_once : open_in (between (group 0 (group 0 p)) Add (group 0 q)) ≡ 2

-- The first form: a source of one module with two ports, real parameters with whole numbers as defaults, and one contribution
-- to the flow of the branch between the ports. Here are the parts of such a source, and the conditions that it keeps.
use Rattle.std.specs.Prelude.{◌≡◌, ◌≤◌, ◌+◌, ◌&&◌, ℕ, max, Bool, true, false, not, List, [], ◌∷◌, ◌++◌, map, length, Contains, Option, Some, None, IsTrue, codes, if◌then◌else◌}
use Rattle.std.specs.List.{IsDistinct, list_all, list_any}
use Rattle.std.specs.Str.{bytes_eq}
use Rattle.va_tree.specs.declared.name.NameAt.{NameAt}
use Rattle.va_tree.specs.declared.expr.Expr.{Expr, Literal}
use Rattle.va_tree.specs.declared.expr.BinaryOp.{BinaryOp}
use Rattle.va_tree.specs.declared.expr.BinaryOp.TheVariants.{Add, Subtract, Multiply, Divide}
use Rattle.va_tree.specs.declared.expr.Callee.{Callee}
use Rattle.va_tree.specs.declared.expr.Callee.TheVariants.{Function, System}
use Rattle.va_tree.specs.declared.module.Direction.{Direction}
use Rattle.va_tree.specs.declared.module.Direction.TheVariants.{Inout}
use Rattle.va_tree.specs.declared.module.Ty.{Ty}
use Rattle.va_tree.specs.declared.module.Ty.TheVariants.{Real}
use Rattle.va_tree.specs.declared.module.Parameter.{Parameter}
use Rattle.va_tree.specs.declared.module.ItemBody.{ItemBody}
use Rattle.va_tree.specs.declared.module.ItemBody.TheVariants as item
use Rattle.va_tree.specs.declared.module.Item.{Item}
use Rattle.va_tree.specs.declared.stmt.Stmt.{Stmt, Contribute}
use Rattle.va_tree.specs.declared.module.Module.{Module}
use Rattle.va_tree.specs.declared.source.Source.{Source}
use Rattle.va_tree.specs.Expressions.{Expression, literal, infinity, name, group, unary, binary, choose, call, Arguments, no_more, expression_then, expression_of}

-- the parts of a source of the first form
pub record FirstForm : Type 0 where
  -- the name of the module, and its ports in order
  pub name : List ℕ
  pub first : List ℕ
  pub second : List ℕ
  -- the names of the parameters, in order of declaration
  pub params : List (List ℕ)
  -- what is contributed to the flow
  pub flow : Expression

-- the names, without their indices
abbrev pub names_of : List NameAt → List (List ℕ)
names_of = map (λ n. n.name)

abbrev pub is_empty : {X : Type 0} → List X → Bool
is_empty [] = true
is_empty (x ∷ xs) = false

-- these names are the two ports, in order
abbrev pub are_ports : List ℕ → List ℕ → List (List ℕ) → Bool
are_ports first second (a ∷ c ∷ []) = bytes_eq a first && bytes_eq c second
are_ports first second others = false

-- a direction of ports without a discipline: `inout`
abbrev pub is_plain_inout : Direction → Option NameAt → Bool
is_plain_inout Inout None = true
is_plain_inout direction discipline = false

-- `inout`, and the ports
abbrev pub is_inout : List ℕ → List ℕ → ItemBody → Bool
is_inout first second (item.Direction at direction discipline names) = is_plain_inout direction discipline && are_ports first second (names_of names)
is_inout first second others = false

-- `electrical`, and the ports
abbrev pub is_electrical : List ℕ → List ℕ → ItemBody → Bool
is_electrical first second (item.Nodes at discipline names) = bytes_eq discipline (codes "electrical") && are_ports first second (names_of names)
is_electrical first second others = false

-- a whole number: a numeral of type integer (Numbers)
abbrev pub is_whole : Expr → Bool
is_whole (Literal at value integer) = integer
is_whole others = false

-- the name of the only one of some parameters, where its default is a whole number and it has no range
abbrev pub only_parameter : List Parameter → Option (List ℕ)
only_parameter (p ∷ []) = if is_whole p.default && is_empty p.ranges then Some p.name.name else None
only_parameter others = None

-- a parameter that is not local, of type real
abbrev pub is_real_parameter : Bool → Option Ty → Bool
is_real_parameter false (Some Real) = true
is_real_parameter local ty = false

-- `parameter real`, and a single parameter: its name
abbrev pub parameter_name : ItemBody → Option (List ℕ)
parameter_name (item.Parameters at local ty parameters) = if is_real_parameter local ty then only_parameter parameters else None
parameter_name others = None

-- this name is the second of a contribution's
abbrev pub is_second : List ℕ → Option NameAt → Bool
is_second second (Some n) = bytes_eq n.name second
is_second second None = false

-- a contribution to the flow of the branch between the ports: what is contributed (Contribution statements)
abbrev pub contributed : List ℕ → List ℕ → Stmt → Option Expression
contributed first second (Contribute at access a c value) =
    if bytes_eq access (codes "I") && bytes_eq a.name first && is_second second c then Some (expression_of value) else None
contributed first second others = None

-- `analog`, and such a contribution
abbrev pub flow_of : List ℕ → List ℕ → ItemBody → Option Expression
flow_of first second (item.Analog at body) = contributed first second body
flow_of first second others = None

-- no item has attributes
abbrev pub are_bare : List Item → Bool
are_bare = list_all (λ i. is_empty i.attributes)

-- The items of a module of the form, in their order: the directions of the ports, their discipline, parameters, and the
-- contribution to the flow.
pub record HasItems (items : List Item) (first second : List ℕ) (parameters : List Item) (flow : Expression) : Type 0 where
  pub directions : Item
  pub disciplines : Item
  pub contribution : Item
  pub listed : items ≡ directions ∷ disciplines ∷ parameters ++ contribution ∷ []
  pub bare : IsTrue (are_bare items)
  pub inout : IsTrue (is_inout first second directions.body)
  pub electrical : IsTrue (is_electrical first second disciplines.body)
  pub flow_is : flow_of first second contribution.body ≡ Some flow

-- A source of one module and nothing else, with this name, these two ports, parameters among these items, and this flow.
pub record HasShape (source : Source) (name first second : List ℕ) (parameters : List Item) (flow : Expression) : Type 0 where
  pub only : Module
  pub natures : source.natures ≡ []
  pub disciplines : source.disciplines ≡ []
  pub modules : source.modules ≡ only ∷ []
  pub attributes : only.attributes ≡ []
  pub name_is : only.name ≡ name
  pub ports : names_of only.ports ≡ first ∷ second ∷ []
  pub items : HasItems only.items first second parameters flow

-- the names that some items declare, each a single parameter
abbrev pub AreNamed : List Item → List (List ℕ) → Type 0
AreNamed items names = map (λ i. parameter_name i.body) items ≡ map Some names

-- a source has these parts
pub record HasParts (source : Source) (form : FirstForm) : Type 0 where
  pub parameters : List Item
  pub shape : HasShape source form.name form.first form.second parameters form.flow
  pub named : AreNamed parameters form.params

-- a name that the first form does not use itself
abbrev pub is_free : List ℕ → Bool
is_free bytes = not (list_any (bytes_eq bytes) (codes "V" ∷ codes "I" ∷ codes "electrical" ∷ []))

-- an operator of the first form (Operators)
abbrev pub is_arithmetic : BinaryOp → Bool
is_arithmetic Add = true
is_arithmetic Subtract = true
is_arithmetic Multiply = true
is_arithmetic Divide = true
is_arithmetic others = false

-- an expression is this name alone
abbrev pub is_name : List ℕ → Expression → Bool
is_name wanted (name at bytes) = bytes_eq bytes wanted
is_name wanted others = false

-- the arguments are the two ports, in order
abbrev pub are_port_names : List ℕ → List ℕ → Arguments → Bool
are_port_names first second (expression_then a (expression_then c no_more)) = is_name first a && is_name second c
are_port_names first second others = false

-- the call of a function `V` is the potential between the ports (Signal access functions)
abbrev pub is_potential : List ℕ → List ℕ → Callee → List ℕ → Arguments → Bool
is_potential first second Function access args = bytes_eq access (codes "V") && are_port_names first second args
is_potential first second System access args = false

-- An expression of the first form between these ports: parameters, the potential `V(first, second)`, parentheses, and the
-- operators `+ - * /` (Expressions).
module _ (first second : List ℕ) (params : List (List ℕ)) where
  abbrev pub IsSum : Expression → Type 0
  IsSum (name at bytes) = Contains params bytes
  IsSum (group at inner) = IsSum inner
  IsSum (binary at left op right) = IsTrue (is_arithmetic op) × IsSum left × IsSum right
  IsSum (call at callee access args) = IsTrue (is_potential first second callee access args)
  IsSum (literal at value integer) = ⊥
  IsSum (infinity at) = ⊥
  IsSum (unary at op operand) = ⊥
  IsSum (choose at test a b) = ⊥

-- how many parentheses of an expression of the form are open at once
abbrev pub open_in : Expression → ℕ
open_in (group at inner) = open_in inner + 1
open_in (binary at left op right) = max (open_in left) (open_in right)
open_in (name at bytes) = 0
open_in (call at callee access args) = 0
open_in (literal at value integer) = 0
open_in (infinity at) = 0
open_in (unary at op operand) = 0
open_in (choose at test a b) = 0

-- what the parts keep
pub record IsInOrder (form : FirstForm) : Type 0 where
  pub free : IsTrue (list_all is_free (form.name ∷ form.first ∷ form.second ∷ form.params))
  -- the ports and the parameters have distinct names
  pub distinct : IsDistinct bytes_eq (form.first ∷ form.second ∷ form.params)
  pub few : length form.params ≤ 4096
  pub sum : IsSum form.first form.second form.params form.flow
  pub shallow : open_in form.flow ≤ 100

-- a source is of the first form, and these are its parts
pub record IsSourceOfForm (source : Source) (form : FirstForm) : Type 0 where
  pub parts : HasParts source form
  pub in_order : IsInOrder form

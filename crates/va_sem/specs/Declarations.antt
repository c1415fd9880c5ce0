-- What a module declares: its nodes, branches, parameters, variables and functions, each with the token of its name, in the order
-- of the text. A number of one of these is its place here.
use Rattle.std.specs.Prelude.{Bool, not, List, [], ◌∷◌, ◌++◌, map, filter, find, flat_map, Option, Some, None, option_map, unwrap_or}
use Rattle.std.specs.List.{list_any}
use Rattle.std.specs.Str.{bytes_eq}
use Rattle.alg_laws.specs.declared.number.Ty.{Ty}
use Rattle.alg_laws.specs.declared.number.Ty.TheVariants.{Integer, Real}
use Rattle.va_tree.specs.declared.name.NameAt.{NameAt}
use Rattle.va_tree.specs.declared.module.Ty.{Ty as WrittenTy}
use Rattle.va_tree.specs.declared.module.Ty.TheVariants as written
use Rattle.va_tree.specs.declared.module.Declaration.{Declaration}
use Rattle.va_tree.specs.declared.module.Variable.{Variable}
use Rattle.va_tree.specs.declared.module.Range.{Range}
use Rattle.va_tree.specs.declared.module.Parameter.{Parameter}
use Rattle.va_tree.specs.declared.module.FunctionItem.{FunctionItem}
use Rattle.va_tree.specs.declared.module.FunctionItem.TheVariants.{Input, Variables as OfType}
use Rattle.va_tree.specs.declared.module.ItemBody.{ItemBody}
use Rattle.va_tree.specs.declared.module.ItemBody.TheVariants.{Nodes, Direction, Parameters, Variables, Function, Analog}
use Rattle.va_tree.specs.declared.module.Item.{Item}
use Rattle.va_tree.specs.declared.module.Module.{Module}
use Rattle.va_tree.specs.declared.source.AttributeGroup.{AttributeGroup}
use Rattle.va_tree.specs.Expressions.{Expression, expression_of}
use Rattle.va_tree.specs.Statements.{Statement, statement_of}
use Rattle.va_sem.specs.Lookup.{Bytes}
use Rattle.va_sem.specs.TextOrder.{in_text_order}
use Rattle.va_sem.specs.Walks.{statements_in, block_declarations}

-- a type as it is written
abbrev pub type_of_word : WrittenTy → Ty
type_of_word written.Integer = Integer
type_of_word written.Real = Real

-- a variable: its name, its type, and its initialiser if it has one
pub record VariableEntry : Type 0 where
  pub name : NameAt
  pub ty : Ty
  pub initialiser : Option Expression

abbrev pub variable : Ty → Variable → VariableEntry
variable ty v = record { name = v.name; ty = ty; initialiser = option_map expression_of v.initialiser }

-- a variable without an initialiser
abbrev pub plain_variable : Ty → NameAt → VariableEntry
plain_variable ty name = record { name = name; ty = ty; initialiser = None }

abbrev pub declared_variables : Declaration → List VariableEntry
declared_variables d = map (variable (type_of_word d.ty)) d.variables

-- the variables of a block, and those of all blocks in a statement (Block statements)
abbrev pub block_variables : Statement → List VariableEntry
block_variables s = flat_map declared_variables (block_declarations s)

abbrev pub variables_in_blocks : Statement → List VariableEntry
variables_in_blocks s = flat_map block_variables (statements_in s)

-- a parameter (Parameters), with the attributes of its declaration
pub record ParameterEntry : Type 0 where
  pub name : NameAt
  pub local : Bool
  -- the type, where one is written
  pub ty : Option Ty
  pub default : Expression
  pub ranges : List Range
  pub attributes : List AttributeGroup

abbrev pub parameter : List AttributeGroup → Bool → Option WrittenTy → Parameter → ParameterEntry
parameter attributes local ty p = record {
  name = p.name;
  local = local;
  ty = option_map type_of_word ty;
  default = expression_of p.default;
  ranges = p.ranges;
  attributes = attributes;
}

-- a function (User-defined analog functions)
pub record FunctionEntry : Type 0 where
  pub name : NameAt
  pub ty : Ty
  pub items : List FunctionItem
  pub body : Statement

-- the names after `input`, which are the arguments in order
abbrev pub input_names : FunctionItem → List NameAt
input_names (Input at names) = names
input_names (OfType at ty names) = []

abbrev pub argument_names : FunctionEntry → List NameAt
argument_names f = flat_map input_names f.items

-- whether a name is among some names
abbrev pub is_named : List NameAt → Bytes → Bool
is_named names name = list_any (λ (n : NameAt). bytes_eq n.name name) names

-- the names after `real` and `integer`
abbrev pub typed_names : FunctionItem → List VariableEntry
typed_names (Input at names) = []
typed_names (OfType at ty names) = map (plain_variable (type_of_word ty)) names

abbrev pub typed_in_function : FunctionEntry → List VariableEntry
typed_in_function f = in_text_order (λ (v : VariableEntry). v.name.at) (flat_map typed_names f.items)

-- The type that a declaration gives to an argument, before or after its `input`: the first counts, and without one it is real.
abbrev pub argument_type : FunctionEntry → Bytes → Ty
argument_type f name =
    unwrap_or (option_map (λ (v : VariableEntry). v.ty) (find (λ (v : VariableEntry). bytes_eq v.name.name name) (typed_in_function f))) Real

abbrev pub arguments_of_function : FunctionEntry → List VariableEntry
arguments_of_function f = map (λ (n : NameAt). plain_variable (argument_type f n.name) n) (argument_names f)

-- the result, which is a variable of the function's name, the arguments, and the variables declared besides
abbrev pub own_variables : FunctionEntry → List VariableEntry
own_variables f =
    plain_variable f.ty f.name ∷ arguments_of_function f
    ++ filter (λ (v : VariableEntry). not (is_named (argument_names f) v.name.name)) (typed_in_function f)

-- all variables that start anew at each call
abbrev pub variables_of_function : FunctionEntry → List VariableEntry
variables_of_function f = own_variables f ++ variables_in_blocks f.body

abbrev pub item_functions : ItemBody → List FunctionEntry
item_functions (Function at ty name items body) =
    record { name = name; ty = unwrap_or (option_map type_of_word ty) Real; items = items; body = statement_of body } ∷ []
item_functions other = []

abbrev pub body_parameters : List AttributeGroup → ItemBody → List ParameterEntry
body_parameters attributes (Parameters at local ty parameters) = map (parameter attributes local ty) parameters
body_parameters attributes other = []

abbrev pub body_variables : ItemBody → List VariableEntry
body_variables (Variables d) = declared_variables d
body_variables (Analog at body) = variables_in_blocks (statement_of body)
body_variables other = []

-- the functions of a module
abbrev pub functions_of : Module → List FunctionEntry
functions_of m = in_text_order (λ (f : FunctionEntry). f.name.at) (flat_map (λ (i : Item). item_functions i.body) m.items)

-- the parameters of a module, local ones too
abbrev pub parameters_of : Module → List ParameterEntry
parameters_of m = in_text_order (λ (p : ParameterEntry). p.name.at) (flat_map (λ (i : Item). body_parameters i.attributes i.body) m.items)

-- the variables of a module and of the blocks outside its functions, which start anew at each evaluation
abbrev pub variables_outside_functions : Module → List VariableEntry
variables_outside_functions m = flat_map (λ (i : Item). body_variables i.body) m.items

-- the variables of a module, of its blocks and of its functions
abbrev pub variables_of : Module → List VariableEntry
variables_of m =
    in_text_order (λ (v : VariableEntry). v.name.at) (variables_outside_functions m ++ flat_map variables_of_function (functions_of m))

-- the analogue blocks of a module, which are evaluated one after the other (Analog procedural block)
abbrev pub analog_body : ItemBody → List Statement
analog_body (Analog at body) = statement_of body ∷ []
analog_body other = []

abbrev pub analog_bodies : Module → List Statement
analog_bodies m = flat_map (λ (i : Item). analog_body i.body) m.items

-- The names that an item gives a discipline: those of a node declaration, and those after a direction with a discipline.
pub record DisciplineGiven : Type 0 where
  -- the discipline and its token
  pub discipline : NameAt
  pub node : NameAt

abbrev pub given : NameAt → List NameAt → List DisciplineGiven
given discipline = map (λ (n : NameAt). record { discipline = discipline; node = n })

abbrev pub disciplines_given : ItemBody → List DisciplineGiven
disciplines_given (Nodes at discipline names) = given (record { at = at; name = discipline }) names
disciplines_given (Direction at direction (Some discipline) names) = given discipline names
disciplines_given other = []

abbrev pub disciplines_given_in : Module → List DisciplineGiven
disciplines_given_in m = in_text_order (λ (g : DisciplineGiven). g.node.at) (flat_map (λ (i : Item). disciplines_given i.body) m.items)

-- the nodes besides the ports, once for each declaration
abbrev pub inner_nodes : Module → List NameAt
inner_nodes m =
    filter (λ (n : NameAt). not (is_named m.ports n.name)) (map (λ (g : DisciplineGiven). g.node) (disciplines_given_in m))

-- the nodes of a module: the ports in the order of the header, then the others
abbrev pub nodes_of : Module → List NameAt
nodes_of m = m.ports ++ inner_nodes m

-- Which names are declared in which scope, and what is seen where (Lexical conventions, Block statements, User-defined analog
-- functions). A module has one set of names; a block's variables are seen in the whole block, and hide outer names; a function
-- sees its own variables, and of the module the parameters and the functions. Where one scope has two declarations of a name,
-- the first in the text is its meaning everywhere.
use Rattle.std.specs.Prelude.{ℕ, zero, suc, Bool, true, false, not, ◌==◌, List, [], ◌∷◌, ◌++◌, map, filter, find, flat_map, length, Option, Some, None, option_and_then, if◌then◌else◌}
use Rattle.std.specs.Option.{is_some}
use Rattle.std.specs.List.{list_any}
use Rattle.std.specs.Str.{bytes_eq}
use Rattle.va_tree.specs.declared.name.NameAt.{NameAt}
use Rattle.va_tree.specs.declared.module.Variable.{Variable}
use Rattle.va_tree.specs.declared.module.Parameter.{Parameter}
use Rattle.va_tree.specs.declared.module.ItemBody.{ItemBody}
use Rattle.va_tree.specs.declared.module.ItemBody.TheVariants.{Nodes, Direction, Branch, Parameters, Alias, Variables, Function, Analog}
use Rattle.va_tree.specs.declared.module.Item.{Item}
use Rattle.va_tree.specs.declared.module.Module.{Module}
use Rattle.va_tree.specs.Statements.{Statement, statement_of}
use Rattle.va_sem.specs.Lookup.{Bytes}
use Rattle.va_sem.specs.Builtins.{builtin_of}
use Rattle.va_sem.specs.TextOrder.{in_text_order}
use Rattle.va_sem.specs.Walks.{statements_in, label_of}
use Rattle.va_sem.specs.Declarations.{VariableEntry, FunctionEntry, own_variables, block_variables, inner_nodes, functions_of, analog_bodies}

-- what a name is declared as
pub data Thing : Type 0 where
  node : Thing
  branch : Thing
  parameter : Thing
  variable : Thing
  function : Thing
  label : Thing
  -- an alias of what another name means (Aliasparam)
  alias : Bytes → Thing
  -- an alias that leads to no parameter
  nothing : Thing

-- a declaration of a name, with its token
pub record Declared : Type 0 where
  pub name : Bytes
  pub at : ℕ
  pub thing : Thing

abbrev pub declared_as : Thing → NameAt → Declared
declared_as thing n = record { name = n.name; at = n.at; thing = thing }

abbrev pub declared_variable : VariableEntry → Declared
declared_variable v = declared_as variable v.name

-- the labels of all blocks in a statement
abbrev pub labels_in : Statement → List Declared
labels_in s = map (declared_as label) (flat_map label_of (statements_in s))

-- the names that an item adds to the module's set; nodes are left to `module_names`
abbrev pub item_names : ItemBody → List Declared
item_names (Direction at direction discipline names) = []
item_names (Nodes at discipline names) = []
item_names (Branch at first second names) = map (declared_as branch) names
item_names (Parameters at local ty parameters) = map (λ (p : Parameter). declared_as parameter p.name) parameters
item_names (Alias at name target) = declared_as (alias target.name) name ∷ []
item_names (Variables declaration) = map (λ (v : Variable). declared_as variable v.name) declaration.variables
item_names (Function at ty name items body) = declared_as function name ∷ labels_in (statement_of body)
item_names (Analog at body) = labels_in (statement_of body)

-- the declarations of the module's one set of names; the header declares the ports
abbrev pub module_names : Module → List Declared
module_names m =
    in_text_order (λ (d : Declared). d.at)
    (map (declared_as node) (m.ports ++ inner_nodes m) ++ flat_map (λ (i : Item). item_names i.body) m.items)

abbrev pub block_names : Statement → List Declared
block_names s = map declared_variable (block_variables s)

abbrev pub function_names : FunctionEntry → List Declared
function_names f = in_text_order (λ (d : Declared). d.at) (map declared_variable (own_variables f))

-- what is declared under a name first
abbrev pub named : List Declared → Bytes → Option Declared
named names name = find (λ (d : Declared). bytes_eq d.name name) names

abbrev pub stands_at : ℕ → Option Declared → Bool
stands_at at None = false
stands_at at (Some d) = d.at == at

abbrev pub is_first : List Declared → Declared → Bool
is_first names d = stands_at d.at (named names d.name)

-- the tokens of names that stand before in their list
abbrev pub repeated : List Bytes → List NameAt → List ℕ
repeated before [] = []
repeated before (n ∷ rest) =
    if list_any (bytes_eq n.name) before then n.at ∷ repeated before rest else repeated (n.name ∷ before) rest

-- the name of a built-in function can't be declared
abbrev pub is_builtin : Bytes → Bool
is_builtin name = is_some (builtin_of name)

-- the declarations that count
abbrev pub counting : List Declared → List Declared
counting names = filter (is_first names) (filter (λ (d : Declared). not (is_builtin d.name)) names)

-- the parameter that a declaration leads to, where `follow` does so for a name
abbrev pub parameter_or : (Bytes → Option Declared) → Declared → Thing → Option Declared
parameter_or follow d parameter = Some d
parameter_or follow d (alias target) = follow target
parameter_or follow d other = None

-- the parameter that a name leads to over at most so many declarations; aliases in a circle lead to none
abbrev pub parameter_by : List Declared → ℕ → Bytes → Option Declared
parameter_by names zero name = None
parameter_by names (suc steps) name = option_and_then (λ (d : Declared). parameter_or (parameter_by names steps) d d.thing) (named names name)

-- an alias is seen as its parameter under another name
abbrev pub alias_seen : Declared → Option Declared → Declared
alias_seen d None = record { name = d.name; at = d.at; thing = nothing }
alias_seen d (Some p) = record { name = d.name; at = p.at; thing = parameter }

abbrev pub seen_by_thing : List Declared → Declared → Thing → Declared
seen_by_thing names d (alias target) = alias_seen d (parameter_by names (length names) target)
seen_by_thing names d other = d

-- what is seen in a module
abbrev pub module_scope : Module → List Declared
module_scope m =
    let names = counting (module_names m) in
    map (λ (d : Declared). seen_by_thing names d d.thing) names

-- what is seen in a block, within what is seen around it
abbrev pub block_scope : List Declared → Statement → List Declared
block_scope outer s = counting (block_names s) ++ outer

-- what a function sees of the module
abbrev pub is_seen_in_functions : Thing → Bool
is_seen_in_functions parameter = true
is_seen_in_functions function = true
is_seen_in_functions nothing = true
is_seen_in_functions other = false

-- what is seen in a function, within what is seen in the module
abbrev pub function_scope : List Declared → FunctionEntry → List Declared
function_scope outer f = counting (function_names f) ++ filter (λ (d : Declared). is_seen_in_functions d.thing) outer

abbrev pub name_of : Declared → NameAt
name_of d = record { at = d.at; name = d.name }

-- the sets of names in which a name is declared once: of the module, of each function, and of each block
abbrev pub scopes_of : Module → List (List NameAt)
scopes_of m =
    map (map name_of)
    (module_names m ∷ map function_names (functions_of m)
    ++ map block_names (flat_map statements_in (analog_bodies m ++ map (λ (f : FunctionEntry). f.body) (functions_of m))))

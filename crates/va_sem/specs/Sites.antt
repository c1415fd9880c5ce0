-- The names of a module, each with its token, with how it is used there, and with what is around it. Attributes, the items of
-- natures and disciplines, and strings have none. `inf` counts as a name here.
use Rattle.std.specs.Prelude.{ℕ, ◌+◌, Bool, true, false, not, ◌&&◌, List, [], ◌∷◌, ◌++◌, map, flat_map, Option, Some, None, if◌then◌else◌, codes, option_to_list}
use Rattle.std.specs.Option.{is_none}
use Rattle.std.specs.List.{list_any}
use Rattle.std.specs.Str.{bytes_eq}
use Rattle.va_tree.specs.declared.name.NameAt.{NameAt}
use Rattle.va_tree.specs.declared.expr.UnaryOp.TheVariants.{Plus, Minus}
use Rattle.va_tree.specs.declared.expr.Callee.TheVariants as callee
use Rattle.va_tree.specs.declared.module.Interval.{Interval}
use Rattle.va_tree.specs.declared.module.Range.{Range}
use Rattle.va_tree.specs.declared.module.Range.TheVariants.{From, ExcludeInterval, ExcludeValue}
use Rattle.va_tree.specs.declared.module.Parameter.{Parameter}
use Rattle.va_tree.specs.declared.module.Variable.{Variable}
use Rattle.va_tree.specs.declared.module.Declaration.{Declaration}
use Rattle.va_tree.specs.declared.module.FunctionItem.{FunctionItem}
use Rattle.va_tree.specs.declared.module.FunctionItem.TheVariants.{Input, Variables as OfType}
use Rattle.va_tree.specs.declared.module.ItemBody.{ItemBody}
use Rattle.va_tree.specs.declared.module.ItemBody.TheVariants.{Nodes, Direction, Branch, Parameters, Alias, Variables, Function, Analog}
use Rattle.va_tree.specs.declared.module.Item.{Item}
use Rattle.va_tree.specs.declared.module.Module.{Module}
use Rattle.va_tree.specs.Expressions.{Expression, Arguments, literal, infinity, name, group, unary, binary, choose, call, no_more, text_then, expression_then, expression_of}
use Rattle.va_tree.specs.Declarations.{if_there}
use Rattle.va_tree.specs.Statements.{Statement, Statements, Items, Defaults, null, block, only_if, if_else, cases, for_loop, while_loop, repeat_loop, event, assign, contribute, task, no_more as no_statement, statement_then, no_items, item_then, no_defaults, default_then, statement_of}
use Rattle.va_sem.specs.Lookup.{Bytes}
use Rattle.va_sem.specs.LookedAt.{call_looks}
use Rattle.va_sem.specs.Declarations.{FunctionEntry, item_functions}
use Rattle.va_sem.specs.Scopes.{Declared, named, is_builtin, module_scope, block_scope, function_scope}

-- what an access names in its parentheses (Signal access functions)
pub data Ends : Type 0 where
  -- a node or a named branch
  one : NameAt → Ends
  two : NameAt → NameAt → Ends
  -- anything else
  neither : Ends

-- how a name is used
pub data Role : Type 0 where
  -- declared, or given a discipline or a type
  declares : Role
  -- its value is read
  reads : Role
  -- a value is assigned to it
  assigns : Role
  -- before `(` in an expression
  calls : Role
  -- the same where it is an access
  accesses : Ends → Role
  -- before `(` on the left of `<+`
  contributes : Ends → Role
  -- one of the two nodes of a branch
  end : Role
  -- alone in the parentheses of an access
  alone : Role
  -- after a direction
  directs : Role
  -- the target of an alias
  aliased : Role
  -- before the names of nodes
  discipline : Role
  -- a system name in an expression, and as a statement
  calls_system : Role
  task_name : Role
  infinite : Role

-- what is around a name
pub record Around : Type 0 where
  -- the accesses of the natures of the text
  pub accesses : List Bytes
  -- what is seen there
  pub scope : List Declared
  pub in_function : Bool
  -- whether the expression is looked at
  pub looked_at : Bool

-- a name at a token
pub record Site : Type 0 where
  pub at : ℕ
  pub name : Bytes
  pub role : Role
  pub around : Around

abbrev pub site : ℕ → Bytes → Role → Around → Site
site at bytes role a = record { at = at; name = bytes; role = role; around = a }

abbrev pub site_of : Role → Around → NameAt → Site
site_of role a n = site n.at n.name role a

-- what is declared under the name and seen there
abbrev pub seen : Site → Option Declared
seen s = named s.around.scope s.name

-- a name before `(` is an access where nothing of this name is seen, it is no built-in function, and some nature has it
abbrev pub is_access : Around → Bytes → Bool
is_access a bytes = is_none (named a.scope bytes) && not (is_builtin bytes) && list_any (bytes_eq bytes) a.accesses

abbrev pub looked_at_where : Bool → Around → Around
looked_at_where looked a = record { accesses = a.accesses; scope = a.scope; in_function = a.in_function; looked_at = a.looked_at && looked }

abbrev pub seeing : List Declared → Around → Around
seeing scope a = record { accesses = a.accesses; scope = scope; in_function = a.in_function; looked_at = a.looked_at }

-- what an access names where it has one or two bare names
abbrev pub ends_of : Arguments → Ends
ends_of (expression_then (name at bytes) no_more) = one (record { at = at; name = bytes })
ends_of (expression_then (name at bytes) (expression_then (name at' bytes') no_more)) =
    two (record { at = at; name = bytes }) (record { at = at'; name = bytes' })
ends_of other = neither

abbrev pub ends_written : NameAt → Option NameAt → Ends
ends_written first None = one first
ends_written first (Some second) = two first second

-- the names in the parentheses of an access, where `else` are those of other arguments
abbrev pub end_sites : Around → Ends → List Site → List Site
end_sites a (one end') otherwise = site_of alone a end' ∷ []
end_sites a (two plus minus) otherwise = site_of end a plus ∷ site_of end a minus ∷ []
end_sites a neither otherwise = otherwise

-- a call, where its arguments have these names
abbrev pub call_sites : Around → ℕ → Bytes → Ends → List Site → List Site
call_sites a at bytes ends inner =
    if is_access a bytes then site at bytes (accesses ends) a ∷ end_sites a ends inner else site at bytes calls a ∷ inner

abbrev mutual
  pub expression_sites : Around → Expression → List Site
  expression_sites a (literal at value integer) = []
  expression_sites a (infinity at) = site at (codes "inf") infinite a ∷ []
  expression_sites a (name at bytes) = site at bytes reads a ∷ []
  expression_sites a (group at inner) = expression_sites a inner
  expression_sites a (unary at op operand) = expression_sites a operand
  expression_sites a (binary at left op right) = expression_sites a left ++ expression_sites a right
  expression_sites a (choose at test b c) = expression_sites a test ++ expression_sites a b ++ expression_sites a c
  expression_sites a (call at callee.Function bytes args) = call_sites a at bytes (ends_of args) (argument_sites a (call_looks callee.Function bytes) 0 args)
  expression_sites a (call at callee.System bytes args) = site at bytes calls_system a ∷ argument_sites a (call_looks callee.System bytes) 0 args

  -- the names in arguments, of which the first of the list stands at a place
  pub argument_sites : Around → (ℕ → Bool) → ℕ → Arguments → List Site
  argument_sites a looks place no_more = []
  argument_sites a looks place (text_then text rest) = argument_sites a looks (place + 1) rest
  argument_sites a looks place (expression_then e rest) =
      expression_sites (looked_at_where (looks place) a) e ++ argument_sites a looks (place + 1) rest

-- In a bound `inf` stands alone or under signs (Parameters).
abbrev pub bound_sites : Around → Expression → List Site
bound_sites a (infinity at) = []
bound_sites a (unary at Plus operand) = bound_sites a operand
bound_sites a (unary at Minus operand) = bound_sites a operand
bound_sites a e = expression_sites a e

abbrev pub variable_sites : Around → Variable → List Site
variable_sites a v = site_of declares a v.name ∷ flat_map (expression_sites a) (if_there v.initialiser)

abbrev pub declaration_sites : Around → Declaration → List Site
declaration_sites a d = flat_map (variable_sites a) d.variables

abbrev mutual
  pub statement_sites : Around → Statement → List Site
  statement_sites a (null at) = []
  statement_sites a (block at label declarations body) =
      let inner = seeing (block_scope a.scope (block at label declarations no_statement)) a in
      flat_map (declaration_sites inner) declarations ++ statements_sites inner body
  statement_sites a (only_if at test b) = expression_sites a test ++ statement_sites a b
  statement_sites a (if_else at test b c) = expression_sites a test ++ statement_sites a b ++ statement_sites a c
  statement_sites a (cases at selector items defaults) = expression_sites a selector ++ item_sites a items ++ default_sites a defaults
  statement_sites a (for_loop at target first test target' step body) =
      site_of assigns a target ∷ expression_sites a first ++ expression_sites a test
      ++ site_of assigns a target' ∷ expression_sites a step ++ statement_sites a body
  statement_sites a (while_loop at test body) = expression_sites a test ++ statement_sites a body
  statement_sites a (repeat_loop at count body) = expression_sites a count ++ statement_sites a body
  statement_sites a (event at kind analyses body) = statement_sites a body
  statement_sites a (assign at target value) = site at target assigns a ∷ expression_sites a value
  statement_sites a (contribute at access first second value) =
      site at access (contributes (ends_written first second)) a
      ∷ end_sites a (ends_written first second) [] ++ expression_sites a value
  statement_sites a (task at bytes args) = site at bytes task_name a ∷ argument_sites a (λ place. false) 0 args

  pub statements_sites : Around → Statements → List Site
  statements_sites a no_statement = []
  statements_sites a (statement_then s rest) = statement_sites a s ++ statements_sites a rest

  pub item_sites : Around → Items → List Site
  item_sites a no_items = []
  item_sites a (item_then at values body rest) = flat_map (expression_sites a) values ++ statement_sites a body ++ item_sites a rest

  pub default_sites : Around → Defaults → List Site
  default_sites a no_defaults = []
  default_sites a (default_then at body rest) = statement_sites a body ++ default_sites a rest

abbrev pub interval_sites : Around → Interval → List Site
interval_sites a i = bound_sites a (expression_of i.low.value) ++ bound_sites a (expression_of i.high.value)

abbrev pub range_sites : Around → Range → List Site
range_sites a (From interval) = interval_sites a interval
range_sites a (ExcludeInterval interval) = interval_sites a interval
range_sites a (ExcludeValue value) = expression_sites a (expression_of value)

abbrev pub parameter_sites : Around → Parameter → List Site
parameter_sites a p = site_of declares a p.name ∷ expression_sites a (expression_of p.default) ++ flat_map (range_sites a) p.ranges

-- what is around the names in a function
abbrev pub in_function : Around → FunctionEntry → Around
in_function a f = record { accesses = a.accesses; scope = function_scope a.scope f; in_function = true; looked_at = true }

abbrev pub function_item_sites : Around → FunctionItem → List Site
function_item_sites a (Input at names) = map (site_of declares a) names
function_item_sites a (OfType at ty names) = map (site_of declares a) names

abbrev pub function_sites : Around → FunctionEntry → List Site
function_sites a f = flat_map (function_item_sites a) f.items ++ statement_sites a f.body

-- the names of an item in a module
abbrev pub body_sites : Around → ItemBody → List Site
body_sites a (Direction at direction given names) = map (site_of discipline a) (option_to_list given) ++ map (site_of directs a) names
body_sites a (Nodes at given names) = site at given discipline a ∷ map (site_of declares a) names
body_sites a (Branch at first second names) = map (site_of end a) (first ∷ option_to_list second) ++ map (site_of declares a) names
body_sites a (Parameters at local ty parameters) = flat_map (parameter_sites a) parameters
body_sites a (Alias at second target) = site_of declares a second ∷ site_of aliased a target ∷ []
body_sites a (Variables declaration) = declaration_sites a declaration
body_sites a (Function at ty called items body) =
    site_of declares a called
    ∷ flat_map (λ (f : FunctionEntry). function_sites (in_function a f) f) (item_functions (Function at ty called items body))
body_sites a (Analog at body) = statement_sites a (statement_of body)

-- what is around the names of a module, where the natures of the text have these accesses
abbrev pub in_module : List Bytes → Module → Around
in_module all m = record { accesses = all; scope = module_scope m; in_function = false; looked_at = true }

-- the names of a module but its own
abbrev pub module_sites : List Bytes → Module → List Site
module_sites all m =
    let a = in_module all m in
    map (site_of declares a) m.ports ++ flat_map (λ (i : Item). body_sites a i.body) m.items

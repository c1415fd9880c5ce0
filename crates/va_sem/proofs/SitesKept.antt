-- What holds of the variables and functions of a module holds of all that is seen at its names.
use Rattle.std.specs.Prelude.{ℕ, ◌+◌, Bool, true, false, List, [], ◌∷◌, ◌++◌, map, flat_map, if◌then◌else◌, option_to_list}
use Rattle.std.specs.List.{AllByRecursion}
use Rattle.va_tree.specs.declared.expr.UnaryOp.TheVariants.{Plus, Minus, Not}
use Rattle.va_tree.specs.declared.expr.Callee.TheVariants as callee
use Rattle.va_tree.specs.declared.module.Interval.{Interval}
use Rattle.va_tree.specs.declared.module.Range.{Range}
use Rattle.va_tree.specs.declared.module.Range.TheVariants.{From, ExcludeInterval, ExcludeValue}
use Rattle.va_tree.specs.declared.module.Parameter.{Parameter}
use Rattle.va_tree.specs.declared.module.Variable.{Variable}
use Rattle.va_tree.specs.declared.module.Declaration.{Declaration}
use Rattle.va_tree.specs.declared.module.FunctionItem.{FunctionItem}
use Rattle.va_tree.specs.declared.module.FunctionItem.TheVariants.{Input, Variables as OfType}
use Rattle.va_tree.specs.declared.module.ItemBody.{ItemBody}
use Rattle.va_tree.specs.declared.module.ItemBody.TheVariants.{Nodes, Direction, Branch, Parameters, Alias, Variables, Function, Analog}
use Rattle.va_tree.specs.declared.module.Item.{Item}
use Rattle.va_tree.specs.declared.module.Module.{Module}
use Rattle.va_tree.specs.Declarations.{if_there}
use Rattle.va_tree.specs.Expressions.{Expression, Arguments, literal, infinity, name, group, unary, binary, choose, call, no_more, text_then, expression_then, expression_of}
use Rattle.va_tree.specs.Statements.{Statement, Statements, Items, Defaults, null, block, only_if, if_else, cases, for_loop, while_loop, repeat_loop, event, assign, contribute, task, no_more as no_statement, statement_then, no_items, item_then, no_defaults, default_then, statement_of}
use Rattle.va_sem.specs.Declarations.{VariableEntry, FunctionEntry, own_variables, block_variables, variables_in_blocks, variables_of_function, body_variables, item_functions, functions_of, variables_outside_functions}
use Rattle.va_sem.specs.LookedAt.{call_looks}
use Rattle.va_sem.specs.Lookup.{Bytes}
use Rattle.va_sem.specs.Scopes.{Thing, Declared, variable, function, module_scope, block_scope}
use Rattle.va_sem.specs.Sites.{Ends, one, two, neither, declares, assigns, calls, accesses, end, discipline, directs, Around, Site, site, site_of, is_access, looked_at_where, seeing, ends_of, ends_written, end_sites, expression_sites, argument_sites, bound_sites, variable_sites, declaration_sites, statement_sites, statements_sites, item_sites, default_sites, interval_sites, range_sites, parameter_sites, in_function, function_item_sites, function_sites, body_sites, in_module, module_sites}
use Rattle.va_sem.specs.Walks.{statements_in, in_statements, in_items, in_defaults}
use Rattle.va_sem.proofs.Contained.{Has, has_left, has_right, has_flat, all_of_has, all_left, all_right, all_join, all_flat_has, all_map, into_order}
use Rattle.va_sem.proofs.ScopesKept.{HoldsOfOthers, AreKept, IsKeptVariable, block_kept, function_kept, module_kept}

module _ (P : Thing → ℕ → Type 0) where
  abbrev pub KeptAt : Site → Type 0
  KeptAt x = AreKept P x.around.scope

  ends_kept : (a : Around) (ends : Ends) (inner : List Site) → AreKept P a.scope → AllByRecursion KeptAt inner → AllByRecursion KeptAt (end_sites a ends inner)
  ends_kept a (one end') inner h k = (h, tt)
  ends_kept a (two plus minus) inner h k = (h, (h, tt))
  ends_kept a neither inner h k = k

  call_kept : (a : Around) (at : ℕ) (bytes : Bytes) (ends : Ends) (inner : List Site) (b : Bool) → AreKept P a.scope → AllByRecursion KeptAt inner
      → AllByRecursion KeptAt (if b then site at bytes (accesses ends) a ∷ end_sites a ends inner else site at bytes calls a ∷ inner)
  call_kept a at bytes ends inner true h k = (h, ends_kept a ends inner h k)
  call_kept a at bytes ends inner false h k = (h, k)

  mutual
    expression_kept : (a : Around) (e : Expression) → AreKept P a.scope → AllByRecursion KeptAt (expression_sites a e)
    expression_kept a (literal at value integer) h = tt
    expression_kept a (infinity at) h = (h, tt)
    expression_kept a (name at bytes) h = (h, tt)
    expression_kept a (group at inner) h = expression_kept a inner h
    expression_kept a (unary at op operand) h = expression_kept a operand h
    expression_kept a (binary at left op right) h =
        all_join KeptAt (expression_sites a left) (expression_sites a right) (expression_kept a left h) (expression_kept a right h)
    expression_kept a (choose at test b c) h =
        all_join KeptAt (expression_sites a test ++ expression_sites a b) (expression_sites a c)
        (all_join KeptAt (expression_sites a test) (expression_sites a b) (expression_kept a test h) (expression_kept a b h)) (expression_kept a c h)
    expression_kept a (call at callee.Function bytes args) h =
        call_kept a at bytes (ends_of args) (argument_sites a (call_looks callee.Function bytes) 0 args) (is_access a bytes) h
        (arguments_kept a (call_looks callee.Function bytes) 0 args h)
    expression_kept a (call at callee.System bytes args) h = (h, arguments_kept a (call_looks callee.System bytes) 0 args h)

    arguments_kept : (a : Around) (looks : ℕ → Bool) (place : ℕ) (args : Arguments) → AreKept P a.scope → AllByRecursion KeptAt (argument_sites a looks place args)
    arguments_kept a looks place no_more h = tt
    arguments_kept a looks place (text_then text rest) h = arguments_kept a looks (place + 1) rest h
    arguments_kept a looks place (expression_then e rest) h =
        all_join KeptAt (expression_sites (looked_at_where (looks place) a) e) (argument_sites a looks (place + 1) rest)
        (expression_kept (looked_at_where (looks place) a) e h) (arguments_kept a looks (place + 1) rest h)

  expressions_kept : (a : Around) (es : List Expression) → AreKept P a.scope → AllByRecursion KeptAt (flat_map (expression_sites a) es)
  expressions_kept a es h = all_flat_has KeptAt (expression_sites a) es (λ e k. expression_kept a e h)

  bound_kept : (a : Around) (e : Expression) → AreKept P a.scope → AllByRecursion KeptAt (bound_sites a e)
  bound_kept a (infinity at) h = tt
  bound_kept a (unary at Plus operand) h = bound_kept a operand h
  bound_kept a (unary at Minus operand) h = bound_kept a operand h
  bound_kept a (unary at Not operand) h = expression_kept a (unary at Not operand) h
  bound_kept a (literal at value integer) h = expression_kept a (literal at value integer) h
  bound_kept a (name at bytes) h = expression_kept a (name at bytes) h
  bound_kept a (group at inner) h = expression_kept a (group at inner) h
  bound_kept a (binary at left op right) h = expression_kept a (binary at left op right) h
  bound_kept a (choose at test b c) h = expression_kept a (choose at test b c) h
  bound_kept a (call at callee bytes args) h = expression_kept a (call at callee bytes args) h

  variable_kept : (a : Around) (v : Variable) → AreKept P a.scope → AllByRecursion KeptAt (variable_sites a v)
  variable_kept a v h = (h, expressions_kept a (if_there v.initialiser) h)

  declaration_kept : (a : Around) (d : Declaration) → AreKept P a.scope → AllByRecursion KeptAt (declaration_sites a d)
  declaration_kept a d h = all_flat_has KeptAt (variable_sites a) d.variables (λ v k. variable_kept a v h)

  -- a block's scope keeps to the fact where the scope around it does
  abbrev pub Extends : Statement → Type 0
  Extends b = (outer : List Declared) → AreKept P outer → AreKept P (block_scope outer b)

  abbrev inside : Around → Statement → Around
  inside a s = seeing (block_scope a.scope s) a

  mutual
    statement_kept : (a : Around) (s : Statement) → AreKept P a.scope → AllByRecursion Extends (statements_in s) → AllByRecursion KeptAt (statement_sites a s)
    statement_kept a (null at) h k = tt
    statement_kept a (block at label declarations body) h k =
        let within = inside a (block at label declarations no_statement) in
        let h' : AreKept P within.scope = k.0 a.scope h in
        all_join KeptAt (flat_map (declaration_sites within) declarations) (statements_sites within body)
        (all_flat_has KeptAt (declaration_sites within) declarations (λ d j. declaration_kept within d h'))
        (statements_kept within body h' k.1)
    statement_kept a (only_if at test b) h k =
        all_join KeptAt (expression_sites a test) (statement_sites a b) (expression_kept a test h) (statement_kept a b h k.1)
    statement_kept a (if_else at test b c) h k =
        all_join KeptAt (expression_sites a test ++ statement_sites a b) (statement_sites a c)
        (all_join KeptAt (expression_sites a test) (statement_sites a b) (expression_kept a test h)
        (statement_kept a b h (all_left Extends (statements_in b) (statements_in c) k.1)))
        (statement_kept a c h (all_right Extends (statements_in b) (statements_in c) k.1))
    statement_kept a (cases at selector items defaults) h k =
        all_join KeptAt (expression_sites a selector ++ item_sites a items) (default_sites a defaults)
        (all_join KeptAt (expression_sites a selector) (item_sites a items) (expression_kept a selector h)
        (items_kept a items h (all_left Extends (in_items items) (in_defaults defaults) k.1)))
        (defaults_kept a defaults h (all_right Extends (in_items items) (in_defaults defaults) k.1))
    statement_kept a (for_loop at target first test target' step body) h k =
        let before = site_of assigns a target ∷ expression_sites a first in
        let later = site_of assigns a target' ∷ expression_sites a step in
        all_join KeptAt (before ++ expression_sites a test ++ later) (statement_sites a body)
        (all_join KeptAt (before ++ expression_sites a test) later
        (all_join KeptAt before (expression_sites a test) (h, expression_kept a first h) (expression_kept a test h)) (h, expression_kept a step h))
        (statement_kept a body h k.1)
    statement_kept a (while_loop at test body) h k =
        all_join KeptAt (expression_sites a test) (statement_sites a body) (expression_kept a test h) (statement_kept a body h k.1)
    statement_kept a (repeat_loop at count body) h k =
        all_join KeptAt (expression_sites a count) (statement_sites a body) (expression_kept a count h) (statement_kept a body h k.1)
    statement_kept a (event at kind analyses body) h k = statement_kept a body h k.1
    statement_kept a (assign at target value) h k = (h, expression_kept a value h)
    statement_kept a (contribute at bytes first second value) h k = (
      h,
      all_join KeptAt (end_sites a (ends_written first second) []) (expression_sites a value) (ends_kept a (ends_written first second) [] h tt) (expression_kept a value h),
    )
    statement_kept a (task at bytes args) h k = (h, arguments_kept a (λ place. false) 0 args h)

    statements_kept : (a : Around) (s : Statements) → AreKept P a.scope → AllByRecursion Extends (in_statements s) → AllByRecursion KeptAt (statements_sites a s)
    statements_kept a no_statement h k = tt
    statements_kept a (statement_then s rest) h k =
        all_join KeptAt (statement_sites a s) (statements_sites a rest)
        (statement_kept a s h (all_left Extends (statements_in s) (in_statements rest) k))
        (statements_kept a rest h (all_right Extends (statements_in s) (in_statements rest) k))

    items_kept : (a : Around) (items : Items) → AreKept P a.scope → AllByRecursion Extends (in_items items) → AllByRecursion KeptAt (item_sites a items)
    items_kept a no_items h k = tt
    items_kept a (item_then at values body rest) h k =
        all_join KeptAt (flat_map (expression_sites a) values ++ statement_sites a body) (item_sites a rest)
        (all_join KeptAt (flat_map (expression_sites a) values) (statement_sites a body) (expressions_kept a values h)
        (statement_kept a body h (all_left Extends (statements_in body) (in_items rest) k)))
        (items_kept a rest h (all_right Extends (statements_in body) (in_items rest) k))

    defaults_kept : (a : Around) (defaults : Defaults) → AreKept P a.scope → AllByRecursion Extends (in_defaults defaults) → AllByRecursion KeptAt (default_sites a defaults)
    defaults_kept a no_defaults h k = tt
    defaults_kept a (default_then at body rest) h k =
        all_join KeptAt (statement_sites a body) (default_sites a rest)
        (statement_kept a body h (all_left Extends (statements_in body) (in_defaults rest) k))
        (defaults_kept a rest h (all_right Extends (statements_in body) (in_defaults rest) k))

  -- the blocks of a statement, of whose variables the fact holds
  blocks_extend : (s : Statement) → ((v : VariableEntry) → Has (variables_in_blocks s) v → P variable v.name.at) → AllByRecursion Extends (statements_in s)
  blocks_extend s variables = all_of_has Extends (statements_in s) (λ b h outer k.
      block_kept P outer b (all_of_has (IsKeptVariable P) (block_variables b) (λ v j. variables v (has_flat block_variables (statements_in s) b v h j))) k)

  function_items_kept : (a : Around) (i : FunctionItem) → AreKept P a.scope → AllByRecursion KeptAt (function_item_sites a i)
  function_items_kept a (Input at names) h = all_map KeptAt (site_of declares a) names (λ n. h)
  function_items_kept a (OfType at ty names) h = all_map KeptAt (site_of declares a) names (λ n. h)

  names_in_function : (a : Around) (f : FunctionEntry) → AreKept P a.scope → ((v : VariableEntry) → Has (variables_of_function f) v → P variable v.name.at)
      → AllByRecursion KeptAt (function_sites (in_function a f) f)
  names_in_function a f h variables =
      let own = all_of_has (IsKeptVariable P) (own_variables f) (λ v k. variables v (has_left (own_variables f) (variables_in_blocks f.body) v k)) in
      let h' : AreKept P (in_function a f).scope = function_kept P a.scope f own h in
      all_join KeptAt (flat_map (function_item_sites (in_function a f)) f.items) (statement_sites (in_function a f) f.body)
      (all_flat_has KeptAt (function_item_sites (in_function a f)) f.items (λ i k. function_items_kept (in_function a f) i h'))
      (statement_kept (in_function a f) f.body h' (blocks_extend f.body (λ v k. variables v (has_right (own_variables f) (variables_in_blocks f.body) v k))))

  interval_kept : (a : Around) (i : Interval) → AreKept P a.scope → AllByRecursion KeptAt (interval_sites a i)
  interval_kept a i h =
      all_join KeptAt (bound_sites a (expression_of i.low.value)) (bound_sites a (expression_of i.high.value))
      (bound_kept a (expression_of i.low.value) h) (bound_kept a (expression_of i.high.value) h)

  range_kept : (a : Around) (r : Range) → AreKept P a.scope → AllByRecursion KeptAt (range_sites a r)
  range_kept a (From interval) h = interval_kept a interval h
  range_kept a (ExcludeInterval interval) h = interval_kept a interval h
  range_kept a (ExcludeValue value) h = expression_kept a (expression_of value) h

  parameter_kept : (a : Around) (p : Parameter) → AreKept P a.scope → AllByRecursion KeptAt (parameter_sites a p)
  parameter_kept a p h = (
    h,
    all_join KeptAt (expression_sites a (expression_of p.default)) (flat_map (range_sites a) p.ranges) (expression_kept a (expression_of p.default) h)
        (all_flat_has KeptAt (range_sites a) p.ranges (λ r k. range_kept a r h)),
  )

  body_kept : (a : Around) (body : ItemBody) → AreKept P a.scope → ((v : VariableEntry) → Has (body_variables body) v → P variable v.name.at)
      → ((f : FunctionEntry) → Has (item_functions body) f → (v : VariableEntry) → Has (variables_of_function f) v → P variable v.name.at)
      → AllByRecursion KeptAt (body_sites a body)
  body_kept a (Direction at direction given names) h variables functions =
      all_join KeptAt (map (site_of discipline a) (option_to_list given)) (map (site_of directs a) names)
      (all_map KeptAt (site_of discipline a) (option_to_list given) (λ n. h)) (all_map KeptAt (site_of directs a) names (λ n. h))
  body_kept a (Nodes at given names) h variables functions = (h, all_map KeptAt (site_of declares a) names (λ n. h))
  body_kept a (Branch at first second names) h variables functions =
      all_join KeptAt (map (site_of end a) (first ∷ option_to_list second)) (map (site_of declares a) names)
      (all_map KeptAt (site_of end a) (first ∷ option_to_list second) (λ n. h)) (all_map KeptAt (site_of declares a) names (λ n. h))
  body_kept a (Parameters at local ty parameters) h variables functions = all_flat_has KeptAt (parameter_sites a) parameters (λ p k. parameter_kept a p h)
  body_kept a (Alias at second target) h variables functions = (h, (h, tt))
  body_kept a (Variables declaration) h variables functions = declaration_kept a declaration h
  body_kept a (Function at ty called items body) h variables functions = (
    h,
    all_flat_has KeptAt (λ (f : FunctionEntry). function_sites (in_function a f) f) (item_functions (Function at ty called items body))
        (λ f k. names_in_function a f h (functions f k)),
  )
  body_kept a (Analog at body) h variables functions = statement_kept a (statement_of body) h (blocks_extend (statement_of body) variables)

  -- The fact holds of all that is seen at the names of a module, if it holds of what is seen in the module and of all variables.
  pub names_kept_in : (given : List Bytes) (m : Module) → AreKept P (module_scope m)
      → ((v : VariableEntry) → Has (variables_outside_functions m) v → P variable v.name.at)
      → ((f : FunctionEntry) → Has (functions_of m) f → (v : VariableEntry) → Has (variables_of_function f) v → P variable v.name.at)
      → AllByRecursion KeptAt (module_sites given m)
  names_kept_in given m h outside inner =
      let a = in_module given m in
      all_join KeptAt (map (site_of declares a) m.ports) (flat_map (λ (i : Item). body_sites a i.body) m.items)
      (all_map KeptAt (site_of declares a) m.ports (λ n. h))
      (all_flat_has KeptAt (λ (i : Item). body_sites a i.body) m.items (λ i k.
      body_kept a i.body h (λ v j. outside v (has_flat (λ (i : Item). body_variables i.body) m.items i v k j))
      (λ f j. inner f (into_order (λ (f : FunctionEntry). f.name.at) (flat_map (λ (i : Item). item_functions i.body) m.items) f
      (has_flat (λ (i : Item). item_functions i.body) m.items i f k j)))))

  -- The fact holds of all that is seen at the names of a module, if it holds of its functions and variables.
  pub names_kept : HoldsOfOthers P → (given : List Bytes) (m : Module) → ((f : FunctionEntry) → Has (functions_of m) f → P function f.name.at)
      → ((v : VariableEntry) → Has (variables_outside_functions m) v → P variable v.name.at)
      → ((f : FunctionEntry) → Has (functions_of m) f → (v : VariableEntry) → Has (variables_of_function f) v → P variable v.name.at)
      → AllByRecursion KeptAt (module_sites given m)
  names_kept others given m functions outside inner = names_kept_in given m (module_kept P others m functions outside) outside inner

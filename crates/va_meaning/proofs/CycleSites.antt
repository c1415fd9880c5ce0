-- What is called in a statement stands at one of its names, where it is looked at.
use Rattle.std.specs.Prelude.{◌≡◌, ◌⊎◌, ℕ, ◌+◌, ◌&&◌, Bool, true, false, List, [], ◌∷◌, ◌++◌, filter_map, flat_map, map, Option, Some, None, option_map, if◌then◌else◌}
use Rattle.std.specs.List.{AllByRecursion, cons_option}
use Rattle.std.proofs.Common.{refl, subst, inl, inr}
use Rattle.va_sem.specs.declared.builtin.SystemName.{SystemName}
use Rattle.va_sem.specs.declared.builtin.SystemName.TheVariants as system_name
use Rattle.va_sem.specs.Builtins.{system_name_of}
use Rattle.va_sem.specs.Declarations.{VariableEntry, FunctionEntry, variable, type_of_word, declared_variables, block_variables, variables_in_blocks}
use Rattle.va_sem.specs.LookedAt.{call_looks}
use Rattle.va_sem.specs.Lookup.{Bytes}
use Rattle.va_sem.specs.Scopes.{block_scope}
use Rattle.va_sem.specs.Sites.{Ends, neither, Role, calls, accesses, assigns, Around, Site, site, site_of, is_access, seeing, looked_at_where, ends_of, ends_written, end_sites, expression_sites, argument_sites, variable_sites, declaration_sites, statement_sites, statements_sites, item_sites, default_sites, function_item_sites, function_sites}
use Rattle.va_sem.specs.TextOrder.{number_at}
use Rattle.va_sem.specs.Walks.{statements_in, in_statements, in_items, in_defaults, in_effect, statements_in_effect, items_in_effect, defaults_in_effect}
use Rattle.va_tree.specs.declared.expr.Expr.{Expr}
use Rattle.va_tree.specs.declared.expr.Callee.TheVariants as callee
use Rattle.va_tree.specs.declared.module.Declaration.{Declaration}
use Rattle.va_tree.specs.declared.module.Variable.{Variable}
use Rattle.va_tree.specs.declared.stmt.EventKind.TheVariants.{InitialStep, FinalStep}
use Rattle.va_tree.specs.Declarations.{if_there}
use Rattle.va_tree.specs.Expressions.{Expression, Arguments, literal, infinity, name, group, unary, binary, choose, call, no_more, text_then, expression_then, expression_of}
use Rattle.va_tree.specs.Statements.{Statement, Statements, Items, Defaults, null, block, only_if, if_else, cases, for_loop, while_loop, repeat_loop, event, assign, contribute, task, no_more as no_statement, statement_then, no_items, item_then, no_defaults, default_then}
use Rattle.va_meaning.specs.Called.{called, system_called}
use Rattle.va_meaning.specs.Elaborated.{Elaborated, Initialiser}
use Rattle.va_meaning.specs.Elaboration.{initialiser_of, function_of}
use Rattle.va_meaning.specs.Nesting.{IfFunction, IfLookedAt, CallsOnly, ArgumentsCallOnly, AllCallOnly, RunsOnly, AllRunOnly, ItemsRunOnly, DefaultsRunOnly, InitialisersCallOnly, FunctionCallsOnly}
use Rattle.va_sem.proofs.Contained.{all_left, all_right, all_join, all_flat, all_in_order}
use Rattle.va_meaning.proofs.CycleScopes.{AreNumbered, block_numbered}

if_looked : (b : Bool) (P : Type 0) → (b ≡ true → P) → IfLookedAt b P
if_looked true P h = h refl
if_looked false P h = tt

module _ (M : Elaborated) (R : ℕ → Type 0) (tokens : List ℕ) where
  -- what is around a name is looked at, and sees functions of the module alone
  abbrev pub IsInside : Around → Type 0
  IsInside a = (a.looked_at ≡ true) × AreNumbered tokens a.scope

  -- if a function of the module is called at a name, R holds of it
  abbrev pub IfCalled : Role → Site → Type 0
  IfCalled calls s = IfFunction R (called (M.meaning s.at) callee.Function s.name)
  IfCalled (accesses ends) s = IfFunction R (called (M.meaning s.at) callee.Function s.name)
  IfCalled role s = Unit {0}

  abbrev pub Fits : Site → Type 0
  Fits s = IsInside s.around → IfCalled s.role s

  system_fits : (n : Option SystemName) → IfFunction R (system_called n)
  system_fits None = tt
  system_fits (Some system_name.Task) = tt
  system_fits (Some (system_name.Function f)) = tt

  -- the arguments of an access that names nodes or a branch are bare names
  bare : (args : Arguments) → (ends_of args ≡ neither) ⊎ ArgumentsCallOnly M (IfFunction R) (λ place. true) 0 args
  bare (expression_then (name at bytes) no_more) = inr (tt, tt)
  bare (expression_then (name at bytes) (expression_then (name at' bytes') no_more)) = inr (tt, (tt, tt))
  bare other = inl refl

  called_fits : (a : Around) (at : ℕ) (bytes : Bytes) (ends : Ends) (inner : List Site) (b : Bool) → IsInside a
      → AllByRecursion Fits (if b then site at bytes (accesses ends) a ∷ end_sites a ends inner else site at bytes calls a ∷ inner)
      → IfFunction R (called (M.meaning at) callee.Function bytes)
  called_fits a at bytes ends inner true w h = h.0 w
  called_fits a at bytes ends inner false w h = h.0 w

  inner_sites : (a : Around) (at : ℕ) (bytes : Bytes) (ends : Ends) (inner : List Site) (b : Bool) (X : Type 0)
      → AllByRecursion Fits (if b then site at bytes (accesses ends) a ∷ end_sites a ends inner else site at bytes calls a ∷ inner)
      → (ends ≡ neither) ⊎ X → (AllByRecursion Fits inner → X) → X
  inner_sites a at bytes ends inner true X h (inl e) go = go (subst (λ z. AllByRecursion Fits (end_sites a z inner)) e h.1)
  inner_sites a at bytes ends inner true X h (inr x) go = x
  inner_sites a at bytes ends inner false X h o go = go h.1

  looked : (a : Around) (b : Bool) → IsInside a → b ≡ true → IsInside (looked_at_where b a)
  looked a b w e = ((λ j. w.0 j && e j), w.1)

  mutual
    calls_only : (a : Around) (e : Expression) → IsInside a → AllByRecursion Fits (expression_sites a e) → CallsOnly M (IfFunction R) e
    calls_only a (literal at value integer) w h = tt
    calls_only a (infinity at) w h = tt
    calls_only a (name at bytes) w h = tt
    calls_only a (group at inner) w h = calls_only a inner w h
    calls_only a (unary at op operand) w h = calls_only a operand w h
    calls_only a (binary at left op right) w h = (
      calls_only a left w (all_left Fits (expression_sites a left) (expression_sites a right) h),
      calls_only a right w (all_right Fits (expression_sites a left) (expression_sites a right) h),
    )
    calls_only a (choose at test b c) w h =
        let first = all_left Fits (expression_sites a test ++ expression_sites a b) (expression_sites a c) h in (
          calls_only a test w (all_left Fits (expression_sites a test) (expression_sites a b) first),
          calls_only a b w (all_right Fits (expression_sites a test) (expression_sites a b) first),
          calls_only a c w (all_right Fits (expression_sites a test ++ expression_sites a b) (expression_sites a c) h),
        )
    calls_only a (call at callee.Function bytes args) w h = (
      called_fits a at bytes (ends_of args) (argument_sites a (λ place. true) 0 args) (is_access a bytes) w h,
      inner_sites a at bytes (ends_of args) (argument_sites a (λ place. true) 0 args) (is_access a bytes)
          (ArgumentsCallOnly M (IfFunction R) (λ place. true) 0 args) h (bare args) (λ k. arguments_call_only a (λ place. true) 0 args w k),
    )
    calls_only a (call at callee.System bytes args) w h =
        (system_fits (system_name_of bytes), arguments_call_only a (call_looks callee.System bytes) 0 args w h.1)

    arguments_call_only : (a : Around) (looks : ℕ → Bool) (place : ℕ) (args : Arguments) → IsInside a → AllByRecursion Fits (argument_sites a looks place args)
        → ArgumentsCallOnly M (IfFunction R) looks place args
    arguments_call_only a looks place no_more w h = tt
    arguments_call_only a looks place (text_then text rest) w h = arguments_call_only a looks (place + 1) rest w h
    arguments_call_only a looks place (expression_then e rest) w h = (
      if_looked (looks place) (CallsOnly M (IfFunction R) e) (λ is.
          calls_only (looked_at_where (looks place) a) e (looked a (looks place) w is)
          (all_left Fits (expression_sites (looked_at_where (looks place) a) e) (argument_sites a looks (place + 1) rest) h)),
      arguments_call_only a looks (place + 1) rest w
          (all_right Fits (expression_sites (looked_at_where (looks place) a) e) (argument_sites a looks (place + 1) rest) h),
    )

  all_call_only : (a : Around) (es : List Expression) → IsInside a → AllByRecursion Fits (flat_map (expression_sites a) es) → AllCallOnly M (IfFunction R) es
  all_call_only a [] w h = tt
  all_call_only a (e ∷ es) w h = (
    calls_only a e w (all_left Fits (expression_sites a e) (flat_map (expression_sites a) es) h),
    all_call_only a es w (all_right Fits (expression_sites a e) (flat_map (expression_sites a) es) h),
  )

  abbrev inside : Around → Statement → Around
  inside a s = seeing (block_scope a.scope s) a

  in_block : (a : Around) (s : Statement) → IsInside a → IsInside (inside a s)
  in_block a s w = (w.0, block_numbered tokens a.scope s w.1)

  mutual
    runs_only : (a : Around) (s : Statement) → IsInside a → AllByRecursion Fits (statement_sites a s) → RunsOnly M (IfFunction R) s
    runs_only a (null at) w h = tt
    runs_only a (block at label declarations body) w h =
        all_run_only (inside a (block at label declarations no_statement)) body (in_block a (block at label declarations no_statement) w)
        (all_right Fits (flat_map (declaration_sites (inside a (block at label declarations no_statement))) declarations)
        (statements_sites (inside a (block at label declarations no_statement)) body) h)
    runs_only a (only_if at test b) w h = (
      calls_only a test w (all_left Fits (expression_sites a test) (statement_sites a b) h),
      runs_only a b w (all_right Fits (expression_sites a test) (statement_sites a b) h),
    )
    runs_only a (if_else at test b c) w h =
        let first = all_left Fits (expression_sites a test ++ statement_sites a b) (statement_sites a c) h in (
          calls_only a test w (all_left Fits (expression_sites a test) (statement_sites a b) first),
          runs_only a b w (all_right Fits (expression_sites a test) (statement_sites a b) first),
          runs_only a c w (all_right Fits (expression_sites a test ++ statement_sites a b) (statement_sites a c) h),
        )
    runs_only a (cases at selector items defaults) w h =
        let first = all_left Fits (expression_sites a selector ++ item_sites a items) (default_sites a defaults) h in (
          calls_only a selector w (all_left Fits (expression_sites a selector) (item_sites a items) first),
          items_run_only a items w (all_right Fits (expression_sites a selector) (item_sites a items) first),
          defaults_run_only a defaults w (all_right Fits (expression_sites a selector ++ item_sites a items) (default_sites a defaults) h),
        )
    runs_only a (for_loop at target first test target' step body) w h =
        let before = site_of assigns a target ∷ expression_sites a first in
        let later = site_of assigns a target' ∷ expression_sites a step in
        let head = all_left Fits (before ++ expression_sites a test ++ later) (statement_sites a body) h in
        let tests = all_left Fits (before ++ expression_sites a test) later head in (
          calls_only a first w (all_left Fits before (expression_sites a test) tests).1,
          calls_only a test w (all_right Fits before (expression_sites a test) tests),
          calls_only a step w (all_right Fits (before ++ expression_sites a test) later head).1,
          runs_only a body w (all_right Fits (before ++ expression_sites a test ++ later) (statement_sites a body) h),
        )
    runs_only a (while_loop at test body) w h = (
      calls_only a test w (all_left Fits (expression_sites a test) (statement_sites a body) h),
      runs_only a body w (all_right Fits (expression_sites a test) (statement_sites a body) h),
    )
    runs_only a (repeat_loop at count body) w h = (
      calls_only a count w (all_left Fits (expression_sites a count) (statement_sites a body) h),
      runs_only a body w (all_right Fits (expression_sites a count) (statement_sites a body) h),
    )
    runs_only a (event at kind analyses body) w h = runs_only a body w h
    runs_only a (assign at target value) w h = calls_only a value w h.1
    runs_only a (contribute at bytes first second value) w h =
        calls_only a value w (all_right Fits (end_sites a (ends_written first second) []) (expression_sites a value) h.1)
    runs_only a (task at bytes args) w h = tt

    all_run_only : (a : Around) (s : Statements) → IsInside a → AllByRecursion Fits (statements_sites a s) → AllRunOnly M (IfFunction R) s
    all_run_only a no_statement w h = tt
    all_run_only a (statement_then s rest) w h = (
      runs_only a s w (all_left Fits (statement_sites a s) (statements_sites a rest) h),
      all_run_only a rest w (all_right Fits (statement_sites a s) (statements_sites a rest) h),
    )

    items_run_only : (a : Around) (items : Items) → IsInside a → AllByRecursion Fits (item_sites a items) → ItemsRunOnly M (IfFunction R) items
    items_run_only a no_items w h = tt
    items_run_only a (item_then at values body rest) w h =
        let first = all_left Fits (flat_map (expression_sites a) values ++ statement_sites a body) (item_sites a rest) h in (
          all_call_only a values w (all_left Fits (flat_map (expression_sites a) values) (statement_sites a body) first),
          runs_only a body w (all_right Fits (flat_map (expression_sites a) values) (statement_sites a body) first),
          items_run_only a rest w (all_right Fits (flat_map (expression_sites a) values ++ statement_sites a body) (item_sites a rest) h),
        )

    defaults_run_only : (a : Around) (defaults : Defaults) → IsInside a → AllByRecursion Fits (default_sites a defaults) → DefaultsRunOnly M (IfFunction R) defaults
    defaults_run_only a no_defaults w h = tt
    defaults_run_only a (default_then at body rest) w h = (
      runs_only a body w (all_left Fits (statement_sites a body) (default_sites a rest) h),
      defaults_run_only a rest w (all_right Fits (statement_sites a body) (default_sites a rest) h),
    )

  -- what the initialisers of a statement's blocks call
  abbrev IfInitialised : Option Expression → Type 0
  IfInitialised None = Unit {0}
  IfInitialised (Some e) = CallsOnly M (IfFunction R) e

  abbrev Begins : VariableEntry → Type 0
  Begins v = IfInitialised v.initialiser

  begins_with : (a : Around) (e : Option Expr) → IsInside a → AllByRecursion Fits (flat_map (expression_sites a) (if_there e)) → IfInitialised (option_map expression_of e)
  begins_with a None w h = tt
  begins_with a (Some e) w h = calls_only a (expression_of e) w (all_left Fits (expression_sites a (expression_of e)) [] h)

  variables_begin : (a : Around) (d : Declaration) (vs : List Variable) → IsInside a → AllByRecursion Fits (flat_map (variable_sites a) vs)
      → AllByRecursion Begins (map (variable (type_of_word d.ty)) vs)
  variables_begin a d [] w h = tt
  variables_begin a d (v ∷ vs) w h = (
    begins_with a v.initialiser w (all_left Fits (variable_sites a v) (flat_map (variable_sites a) vs) h).1,
    variables_begin a d vs w (all_right Fits (variable_sites a v) (flat_map (variable_sites a) vs) h),
  )

  declarations_begin : (a : Around) (ds : List Declaration) → IsInside a → AllByRecursion Fits (flat_map (declaration_sites a) ds)
      → AllByRecursion Begins (flat_map declared_variables ds)
  declarations_begin a [] w h = tt
  declarations_begin a (d ∷ ds) w h =
      all_join Begins (declared_variables d) (flat_map declared_variables ds)
      (variables_begin a d d.variables w (all_left Fits (declaration_sites a d) (flat_map (declaration_sites a) ds) h))
      (declarations_begin a ds w (all_right Fits (declaration_sites a d) (flat_map (declaration_sites a) ds) h))

  abbrev BlockBegins : Statement → Type 0
  BlockBegins s = AllByRecursion Begins (block_variables s)

  mutual
    blocks_begin : (a : Around) (s : Statement) → IsInside a → AllByRecursion Fits (statement_sites a s) → AllByRecursion BlockBegins (statements_in (in_effect s))
    blocks_begin a (null at) w h = (tt, tt)
    blocks_begin a (block at label declarations body) w h =
        let within = inside a (block at label declarations no_statement) in
        let w' = in_block a (block at label declarations no_statement) w in (
          declarations_begin within declarations w' (all_left Fits (flat_map (declaration_sites within) declarations) (statements_sites within body) h),
          all_blocks_begin within body w' (all_right Fits (flat_map (declaration_sites within) declarations) (statements_sites within body) h),
        )
    blocks_begin a (only_if at test b) w h = (tt, blocks_begin a b w (all_right Fits (expression_sites a test) (statement_sites a b) h))
    blocks_begin a (if_else at test b c) w h =
        let first = all_left Fits (expression_sites a test ++ statement_sites a b) (statement_sites a c) h in (
          tt,
          all_join BlockBegins (statements_in (in_effect b)) (statements_in (in_effect c))
              (blocks_begin a b w (all_right Fits (expression_sites a test) (statement_sites a b) first))
              (blocks_begin a c w (all_right Fits (expression_sites a test ++ statement_sites a b) (statement_sites a c) h)),
        )
    blocks_begin a (cases at selector items defaults) w h =
        let first = all_left Fits (expression_sites a selector ++ item_sites a items) (default_sites a defaults) h in (
          tt,
          all_join BlockBegins (in_items (items_in_effect items)) (in_defaults (defaults_in_effect defaults))
              (items_begin a items w (all_right Fits (expression_sites a selector) (item_sites a items) first))
              (defaults_begin a defaults w (all_right Fits (expression_sites a selector ++ item_sites a items) (default_sites a defaults) h)),
        )
    blocks_begin a (for_loop at target first test target' step body) w h =
        let before = site_of assigns a target ∷ expression_sites a first in
        let later = site_of assigns a target' ∷ expression_sites a step in
        (tt, blocks_begin a body w (all_right Fits (before ++ expression_sites a test ++ later) (statement_sites a body) h))
    blocks_begin a (while_loop at test body) w h = (tt, blocks_begin a body w (all_right Fits (expression_sites a test) (statement_sites a body) h))
    blocks_begin a (repeat_loop at count body) w h = (tt, blocks_begin a body w (all_right Fits (expression_sites a count) (statement_sites a body) h))
    blocks_begin a (event at InitialStep analyses body) w h = (tt, blocks_begin a body w h)
    blocks_begin a (event at FinalStep analyses body) w h = (tt, tt)
    blocks_begin a (assign at target value) w h = (tt, tt)
    blocks_begin a (contribute at bytes first second value) w h = (tt, tt)
    blocks_begin a (task at bytes args) w h = (tt, tt)

    all_blocks_begin : (a : Around) (s : Statements) → IsInside a → AllByRecursion Fits (statements_sites a s)
        → AllByRecursion BlockBegins (in_statements (statements_in_effect s))
    all_blocks_begin a no_statement w h = tt
    all_blocks_begin a (statement_then s rest) w h =
        all_join BlockBegins (statements_in (in_effect s)) (in_statements (statements_in_effect rest))
        (blocks_begin a s w (all_left Fits (statement_sites a s) (statements_sites a rest) h))
        (all_blocks_begin a rest w (all_right Fits (statement_sites a s) (statements_sites a rest) h))

    items_begin : (a : Around) (items : Items) → IsInside a → AllByRecursion Fits (item_sites a items) → AllByRecursion BlockBegins (in_items (items_in_effect items))
    items_begin a no_items w h = tt
    items_begin a (item_then at values body rest) w h =
        let first = all_left Fits (flat_map (expression_sites a) values ++ statement_sites a body) (item_sites a rest) h in
        all_join BlockBegins (statements_in (in_effect body)) (in_items (items_in_effect rest))
        (blocks_begin a body w (all_right Fits (flat_map (expression_sites a) values) (statement_sites a body) first))
        (items_begin a rest w (all_right Fits (flat_map (expression_sites a) values ++ statement_sites a body) (item_sites a rest) h))

    defaults_begin : (a : Around) (defaults : Defaults) → IsInside a → AllByRecursion Fits (default_sites a defaults)
        → AllByRecursion BlockBegins (in_defaults (defaults_in_effect defaults))
    defaults_begin a no_defaults w h = tt
    defaults_begin a (default_then at body rest) w h =
        all_join BlockBegins (statements_in (in_effect body)) (in_defaults (defaults_in_effect rest))
        (blocks_begin a body w (all_left Fits (statement_sites a body) (default_sites a rest) h))
        (defaults_begin a rest w (all_right Fits (statement_sites a body) (default_sites a rest) h))

  initialised : (numbers : List ℕ) (v : VariableEntry) (e : Option Expression) (is : List Initialiser) → IfInitialised e → InitialisersCallOnly M (IfFunction R) is
      → InitialisersCallOnly M (IfFunction R) (cons_option (option_map (λ e. record { variable = number_at numbers v.name.at; value = e }) e) is)
  initialised numbers v None is h k = k
  initialised numbers v (Some e) is h k = (h, k)

  initialisers_call_only : (numbers : List ℕ) (vs : List VariableEntry) → AllByRecursion Begins vs
      → InitialisersCallOnly M (IfFunction R) (filter_map (initialiser_of numbers) vs)
  initialisers_call_only numbers [] h = tt
  initialisers_call_only numbers (v ∷ vs) h =
      initialised numbers v v.initialiser (filter_map (initialiser_of numbers) vs) h.0 (initialisers_call_only numbers vs h.1)

  -- what a function calls, where each of its names fits
  pub function_calls_only : (numbers : List ℕ) (a : Around) (f : FunctionEntry) → IsInside a → AllByRecursion Fits (function_sites a f)
      → FunctionCallsOnly M (IfFunction R) (Some (function_of numbers f))
  function_calls_only numbers a f w h =
      let body = all_right Fits (flat_map (function_item_sites a) f.items) (statement_sites a f.body) h in
      let entries = variables_in_blocks (in_effect f.body) in (
        initialisers_call_only numbers _ (all_in_order (λ (v : VariableEntry). v.name.at) Begins entries
            (all_flat Begins block_variables (statements_in (in_effect f.body)) (blocks_begin a f.body w body))),
        runs_only a f.body w body,
      )

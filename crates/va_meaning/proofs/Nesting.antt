-- Functions that are seen deeper mean the same, where their calls are not nested so deep.
use Rattle.std.specs.Prelude.{◌≡◌, ℕ, zero, suc, ◌+◌, ◌≤◌, Bool, true, false, if◌then◌else◌, List, [], ◌∷◌, Option, Some, None}
use Rattle.std.specs.List.{slice_get}
use Rattle.std.proofs.Common.{refl, ◌∙◌, arith}
use Rattle.alg_laws.specs.declared.number.Number.{Number}
use Rattle.alg_laws.specs.declared.number.Reason.TheVariants.{Turns}
use Rattle.alg_laws.specs.Loop.{while_turns}
use Rattle.alg_laws.specs.NumberOps.{joined, converted, to_integer, is_true, is_same}
use Rattle.alg_laws.specs.Operations.{Operations}
use Rattle.alg_laws.specs.Outcome.{Outcome, gives, ◌>>=◌}
use Rattle.va_sem.specs.declared.builtin.SystemFunction.TheVariants.{Temperature, ThermalVoltage, Limit, SimParam, ParamGiven}
use Rattle.va_sem.specs.declared.builtin.SystemName.{SystemName}
use Rattle.va_sem.specs.declared.builtin.SystemName.TheVariants as system_name
use Rattle.va_sem.specs.declared.names.Meaning.{Meaning}
use Rattle.va_sem.specs.declared.names.Meaning.TheVariants.{Var}
use Rattle.va_sem.specs.Builtins.{system_name_of}
use Rattle.va_sem.specs.LookedAt.{looks, call_looks}
use Rattle.va_tree.specs.declared.expr.Callee.TheVariants as callee_of
use Rattle.va_tree.specs.declared.stmt.EventKind.TheVariants.{InitialStep, FinalStep}
use Rattle.va_tree.specs.Declarations.{declared}
use Rattle.va_tree.specs.Expressions.{Expression, Arguments, literal, infinity, name, group, unary, binary, choose, call, no_more, text_then, expression_then}
use Rattle.va_tree.specs.Statements.{Statement, Statements, Items, Defaults, null, block, only_if, if_else, cases, for_loop, while_loop, repeat_loop, event, assign, contribute, task, no_more as no_statement, statement_then, no_items, item_then, no_defaults, default_then}
use Rattle.va_meaning.specs.Called.{Called, builtin, system, function, access, none, called, system_called}
use Rattle.va_meaning.specs.Elaborated.{Elaborated, Initialiser, Function}
use Rattle.va_meaning.specs.Evaluation.{zeros, started, initialised, passed, function_or_none, run_blocks, functions_to}
use Rattle.va_meaning.specs.Nesting.{IfFunction, IfLookedAt, CallsOnly, ArgumentsCallOnly, AllCallOnly, RunsOnly, AllRunOnly, ItemsRunOnly, DefaultsRunOnly, InitialisersCallOnly, FunctionCallsOnly, IsNested}
use Rattle.va_meaning.specs.Points.{Context, Result, Store, State, with_variable, at_unknowns, told}
use Rattle.va_meaning.specs.Runs.{sizes, statement_size, items_size, under_all, item_values, repeated, test_of, assigned, assign_value, contributed, is_among, under, run, run_all, run_case, run_default}
use Rattle.va_meaning.specs.Values.{Functions, argument, size, unary_value, binary_value, call_value, value_of, outcomes_of}

-- two lists of outcomes are the same at the places that are looked at
abbrev Agree : {X : Type 0} → (ℕ → Bool) → ℕ → List X → List X → Type 0
Agree looked place [] [] = Unit {0}
Agree looked place [] (y ∷ ys) = ⊥
Agree looked place (x ∷ xs) [] = ⊥
Agree looked place (x ∷ xs) (y ∷ ys) = (looked place ≡ true → x ≡ y) × Agree looked (place + 1) xs ys

all_agree : {X : Type 0} (looked : ℕ → Bool) → ((place : ℕ) → looked place ≡ true) → (place : ℕ) (xs ys : List X) → Agree looked place xs ys → xs ≡ ys
all_agree looked all place [] [] h = refl
all_agree looked all place [] (y ∷ ys) h = absurd h
all_agree looked all place (x ∷ xs) [] h = absurd h
all_agree looked all place (x ∷ xs) (y ∷ ys) h = λ j. h.0 (all place) j ∷ all_agree looked all (place + 1) xs ys h.1 j

first_agrees : {E V : Type 0} (o : Operations V) (looked : ℕ → Bool) → looked 0 ≡ true → (xs ys : List (Result E V)) → Agree looked 0 xs ys
    → argument o 0 xs ≡ argument o 0 ys
first_agrees o looked is [] [] h = refl
first_agrees o looked is [] (y ∷ ys) h = absurd h
first_agrees o looked is (x ∷ xs) [] h = absurd h
first_agrees o looked is (x ∷ xs) (y ∷ ys) h = h.0 is

pub said : (b : Bool) (X : Type 0) → b ≡ true → IfLookedAt b X → X
said true X is x = x
said false X is x = absurd (cc (is))

-- P holds of all that some statements call
abbrev pub BlocksRunOnly : Elaborated → (Called → Type 0) → List Statement → Type 0
BlocksRunOnly M P [] = Unit {0}
BlocksRunOnly M P (s ∷ rest) = RunsOnly M P s × BlocksRunOnly M P rest

module _ {E V : Type 0} (M : Elaborated) (c : Context E V) (u : ℕ → V) (P : Called → Type 0) (F G : Functions E V)
    (agree : (what : Called) (place : ℕ) (args : Arguments) (outs : List (Result E V)) → P what
    → call_value M c F what place args outs ≡ call_value M (at_unknowns c u) G what place args outs) where
  call_same : (what : Called) (place : ℕ) (args : Arguments) (outs outs' : List (Result E V)) → P what → outs ≡ outs'
      → call_value M c F what place args outs ≡ call_value M (at_unknowns c u) G what place args outs'
  call_same what place args outs outs' h e =
      agree what place args outs h ∙ (λ j. call_value M (at_unknowns c u) G what place args (e j))

  system_same : (name : Option SystemName) (place : ℕ) (args : Arguments) (outs outs' : List (Result E V)) → P (system_called name)
      → Agree (looks name) 0 outs outs' → call_value M c F (system_called name) place args outs ≡ call_value M (at_unknowns c u) G (system_called name) place args outs'
  system_same None place args outs outs' h e = refl
  system_same (Some system_name.Task) place args outs outs' h e = refl
  system_same (Some (system_name.Function Temperature)) place args outs outs' h e =
      call_same (system Temperature) place args outs outs' h (all_agree (looks (Some (system_name.Function Temperature))) (λ k. refl) 0 outs outs' e)
  system_same (Some (system_name.Function ThermalVoltage)) place args outs outs' h e =
      call_same (system ThermalVoltage) place args outs outs' h (all_agree (looks (Some (system_name.Function ThermalVoltage))) (λ k. refl) 0 outs outs' e)
  system_same (Some (system_name.Function Limit)) place args outs outs' h e =
      agree (system Limit) place args outs h ∙ first_agrees c.ops (looks (Some (system_name.Function Limit))) refl outs outs' e
  system_same (Some (system_name.Function SimParam)) place args outs outs' h e =
      call_same (system SimParam) place args outs outs' h (all_agree (looks (Some (system_name.Function SimParam))) (λ k. refl) 0 outs outs' e)
  system_same (Some (system_name.Function ParamGiven)) place args outs outs' h e =
      call_same (system ParamGiven) place args outs outs' h (all_agree (looks (Some (system_name.Function ParamGiven))) (λ k. refl) 0 outs outs' e)

  mutual
    value_same : (place : ℕ) (e : Expression) (s : Store V) → CallsOnly M P e → value_of M c F place e s ≡ value_of M (at_unknowns c u) G place e s
    value_same place (literal at value integer) s h = refl
    value_same place (infinity at) s h = refl
    value_same place (name at bytes) s h = refl
    value_same place (group at inner) s h = value_same (place + 1) inner s h
    value_same place (unary at op operand) s h = λ j. value_same (place + 1) operand s h j >>= unary_value c op
    value_same place (binary at left op right) s h = λ j.
        value_same (place + 1) left s h.0 j >>= λ v. binary_value c op v (value_same (place + 1 + size left) right s h.1 j)
    value_same place (choose at test a b) s h = λ j.
        value_same (place + 1) test s h.0 j
        >>= λ t. (if is_true c.ops t then value_same (place + 1 + size test) a s h.1 j else value_same (place + 1 + size test + size a) b s h.2 j)
        >>= λ v. told c (converted c.ops (joined (M.type_of a) (M.type_of b)) v)
    value_same place (call at callee_of.Function bytes args) s h =
        call_same (called (M.meaning at) callee_of.Function bytes) place args _ _ h.0
        (all_agree (call_looks callee_of.Function bytes) (λ k. refl) 0 _ _ (outcomes_agree (call_looks callee_of.Function bytes) 0 (place + 1) args s h.1))
    value_same place (call at callee_of.System bytes args) s h =
        system_same (system_name_of bytes) place args _ _ h.0 (outcomes_agree (call_looks callee_of.System bytes) 0 (place + 1) args s h.1)

    outcomes_agree : (looked : ℕ → Bool) (k place : ℕ) (args : Arguments) (s : Store V) → ArgumentsCallOnly M P looked k args
        → Agree looked k (outcomes_of M c F place args s) (outcomes_of M (at_unknowns c u) G place args s)
    outcomes_agree looked k place no_more s h = tt
    outcomes_agree looked k place (text_then text rest) s h = ((λ _. refl), outcomes_agree looked (k + 1) place rest s h)
    outcomes_agree looked k place (expression_then e rest) s h =
        ((λ is. value_same place e s (said (looked k) (CallsOnly M P e) is h.0)), outcomes_agree looked (k + 1) (place + size e) rest s h.1)

  test_same : (place : ℕ) (e : Expression) (s : State V) → CallsOnly M P e → test_of M c F place e s ≡ test_of M (at_unknowns c u) G place e s
  test_same place e s h = λ j. value_same place e s.variables h j >>= λ v. gives (is_true c.ops v)

  assigned_same : (m : Option Meaning) (v : Number V) (s : State V) → assigned M c F m v s ≡ assigned M (at_unknowns c u) G m v s
  assigned_same (Some (Var x)) v s = refl
  assigned_same m v s = refl

  assign_same : (m : Option Meaning) (place : ℕ) (e : Expression) (s : State V) → CallsOnly M P e
      → assign_value M c F m place e s ≡ assign_value M (at_unknowns c u) G m place e s
  assign_same m place e s h = λ j. value_same place e s.variables h j >>= λ v. assigned_same m v s j

  contributed_same : (m : Option Meaning) (biased : Bool) (v : Number V) (s : State V) → contributed M c F m biased v s ≡ contributed M (at_unknowns c u) G m biased v s
  contributed_same m biased v s = refl

  among_same : (place : ℕ) (es : List Expression) (v : Number V) (s : State V) → AllCallOnly M P es
      → is_among M c F place es v s ≡ is_among M (at_unknowns c u) G place es v s
  among_same place [] v s h = refl
  among_same place (e ∷ es) v s h = λ j.
      value_same place e s.variables h.0 j >>= λ w. if is_same c.ops v w then gives true else among_same (place + size e) es v s h.1 j

  mutual
    run_same : (biased : Bool) (place : ℕ) (p : Statement) (s : State V) → RunsOnly M P p → run M c F biased place p s ≡ run M (at_unknowns c u) G biased place p s
    run_same biased place (null at) s h = refl
    run_same biased place (block at label declarations body) s h = run_all_same biased (place + sizes (declared declarations)) body s h
    run_same biased place (only_if at test a) s h = λ j.
        test_same place test s h.0 j >>= λ b. if b then run_same (under M biased test) (place + size test) a s h.1 j else gives s
    run_same biased place (if_else at test a b) s h = λ j.
        test_same place test s h.0 j
        >>= λ x. if x then run_same (under M biased test) (place + size test) a s h.1 j
        else run_same (under M biased test) (place + size test + statement_size a) b s h.2 j
    run_same biased place (cases at selector items defaults) s h = λ j.
        value_same place selector s.variables h.0 j
        >>= λ v. run_case_same (under_all M biased (selector ∷ item_values items)) (place + size selector) v items _ _
        (λ t. run_default_same (under_all M biased (selector ∷ item_values items)) (place + size selector + items_size items) defaults t h.2) s h.1 j
    run_same biased place (for_loop at target first test target' step body) s h = λ j.
        assign_same (M.meaning target.at) place first s h.0 j
        >>= while_turns (c.stops Turns) (λ t. test_same (place + size first) test t h.1 j)
        (λ t. run_same (under M biased test) (place + size first + size test + size step) body t h.3 j
        >>= λ t. assign_same (M.meaning target'.at) (place + size first + size test) step t h.2 j) c.bound
    run_same biased place (while_loop at test body) s h = λ j.
        while_turns (c.stops Turns) (λ t. test_same place test t h.0 j) (λ t. run_same (under M biased test) (place + size test) body t h.1 j) c.bound s
    run_same biased place (repeat_loop at count body) s h = λ j.
        value_same place count s.variables h.0 j
        >>= λ v. told c (to_integer c.ops v) >>= λ k. repeated (c.stops Turns) c.bound k (λ t. run_same (under M biased count) (place + size count) body t h.1 j) s
    run_same biased place (event at InitialStep analyses body) s h = run_same biased place body s h
    run_same biased place (event at FinalStep analyses body) s h = refl
    run_same biased place (assign at target value) s h = assign_same (M.meaning at) place value s h
    run_same biased place (contribute at bytes first second value) s h = λ j.
        value_same place value s.variables h j >>= λ v. gives (contributed M c F (M.meaning at) biased v s)
    run_same biased place (task at bytes args) s h = refl

    run_all_same : (biased : Bool) (place : ℕ) (ps : Statements) (s : State V) → AllRunOnly M P ps
        → run_all M c F biased place ps s ≡ run_all M (at_unknowns c u) G biased place ps s
    run_all_same biased place no_statement s h = refl
    run_all_same biased place (statement_then p ps) s h = λ j.
        run_same biased place p s h.0 j >>= λ t. run_all_same biased (place + statement_size p) ps t h.1 j

    run_case_same : (biased : Bool) (place : ℕ) (v : Number V) (items : Items) (otherwise otherwise' : State V → Outcome E (State V))
        → ((s : State V) → otherwise s ≡ otherwise' s) → (s : State V) → ItemsRunOnly M P items
        → run_case M c F biased place v items otherwise s ≡ run_case M (at_unknowns c u) G biased place v items otherwise' s
    run_case_same biased place v no_items otherwise otherwise' k s h = k s
    run_case_same biased place v (item_then at values body rest) otherwise otherwise' k s h = λ j.
        among_same place values v s h.0 j
        >>= λ b. if b then run_same biased (place + sizes values) body s h.1 j
        else run_case_same biased (place + sizes values + statement_size body) v rest otherwise otherwise' k s h.2 j

    run_default_same : (biased : Bool) (place : ℕ) (defaults : Defaults) (s : State V) → DefaultsRunOnly M P defaults
        → run_default M c F biased place defaults s ≡ run_default M (at_unknowns c u) G biased place defaults s
    run_default_same biased place no_defaults s h = refl
    run_default_same biased place (default_then at body rest) s h = run_same biased place body s h.0

  pub initialised_same : (is : List Initialiser) (s : Store V) → InitialisersCallOnly M P is
      → initialised M c F is s ≡ initialised M (at_unknowns c u) G is s
  initialised_same [] s h = refl
  initialised_same (i ∷ is) s h = λ j.
      value_same 0 i.value s h.0 j
      >>= λ v. told c (converted c.ops (M.variable_type i.variable) v) >>= λ w. initialised_same is (with_variable s i.variable w) h.1 j

  passed_same : (xs : List ℕ) (outs : List (Result E V)) (s : Store V) → passed M c F xs outs s ≡ passed M (at_unknowns c u) G xs outs s
  passed_same [] outs s = refl
  passed_same (x ∷ xs) [] s = refl
  passed_same (x ∷ xs) (out ∷ outs) s = λ j.
      out >>= λ v. told c (converted c.ops (M.variable_type x) v) >>= λ w. passed_same xs outs (with_variable s x w) j

  pub function_same : (f : Option Function) (outs : List (Result E V)) → FunctionCallsOnly M P f
      → function_or_none M c F f outs ≡ function_or_none M (at_unknowns c u) G f outs
  function_same None outs h = refl
  function_same (Some f) outs h = λ j.
      passed_same f.arguments outs (zeros M c.ops) j
      >>= λ s. initialised_same f.initialisers s h.0 j
      >>= λ t. run_same false 0 f.body (started M c.ops t) h.1 j >>= λ last. told c (converted c.ops f.ty (last.variables f.result))

  pub blocks_same : (place : ℕ) (ps : List Statement) (s : State V) → BlocksRunOnly M P ps → run_blocks M c F place ps s ≡ run_blocks M (at_unknowns c u) G place ps s
  blocks_same place [] s h = refl
  blocks_same place (p ∷ ps) s h = λ j. run_same false place p s h.0 j >>= λ t. blocks_same (place + statement_size p) ps t h.1 j

-- what is called, where all functions that are called agree
pub called_agree : {E V : Type 0} (M : Elaborated) (c : Context E V) (P : ℕ → Type 0) (F G : Functions E V)
    → ((f : ℕ) → P f → (outs : List (Result E V)) → F f outs ≡ G f outs)
    → (what : Called) (place : ℕ) (args : Arguments) (outs : List (Result E V)) → IfFunction P what
    → call_value M c F what place args outs ≡ call_value M c G what place args outs
called_agree M c P F G agree (function f) place args outs h = agree f h outs
called_agree M c P F G agree (builtin b) place args outs h = refl
called_agree M c P F G agree (system s) place args outs h = refl
called_agree M c P F G agree (access b turned flow) place args outs h = refl
called_agree M c P F G agree none place args outs h = refl

-- A function in which calls are nested at most so deep means the same at each greater depth.
pub functions_same : {E V : Type 0} (M : Elaborated) (c : Context E V) (depth more f : ℕ) (outs : List (Result E V)) → depth ≤ more → IsNested M depth f
    → functions_to M c more f outs ≡ functions_to M c depth f outs
functions_same M c zero more f outs le h = absurd h
functions_same M c (suc depth) zero f outs le h = absurd (omega (arith, le))
functions_same M c (suc depth) (suc more) f outs le h =
    function_same M c c.point.unknowns (IfFunction (IsNested M depth)) (functions_to M c more) (functions_to M c depth)
    (called_agree M c (IsNested M depth) (functions_to M c more) (functions_to M c depth)
    (λ g k outs. functions_same M c depth more g outs (omega (arith, le)) k)) (slice_get M.functions f) outs h

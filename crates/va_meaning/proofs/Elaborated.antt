-- Every module of a text has its types, and keeps to its biased variables.
use Rattle.std.specs.Prelude.{◌≡◌, ℕ, zero, suc, ◌+◌, ◌==◌, ◌&&◌, ◌||◌, Bool, true, false, not, nat_le, if◌then◌else◌, List, [], ◌∷◌, ◌++◌, map, filter, filter_map, Option, Some, None, unwrap_or, ◌≤◌, get_or, length}
use Rattle.std.specs.List.{slice_get, list_any, list_all, cons_option, enumerate_from}
use Rattle.std.proofs.lemmas.List.{length-map, get_or_past}
use Rattle.std.proofs.lemmas.List.FromFn.{length-enumerate_from}
use Rattle.std.proofs.Common.{refl, ap, sym, ◌∙◌, subst, arith}
use Rattle.std.proofs.lemmas.List.Folds.{list_any-append}
use Rattle.std.proofs.lemmas.Bool.{eq-eqb}
use Rattle.alg_laws.specs.declared.number.Ty.TheVariants.{Real}
use Rattle.va_sem.specs.declared.branch.BranchKind.{BranchKind}
use Rattle.va_sem.specs.declared.branch.BranchKind.TheVariants as kind
use Rattle.va_sem.specs.declared.builtin.Builtin.{Builtin}
use Rattle.va_sem.specs.declared.builtin.SystemFunction.TheVariants.{Temperature, ThermalVoltage, Limit, SimParam, ParamGiven}
use Rattle.va_sem.specs.declared.builtin.SystemName.{SystemName}
use Rattle.va_sem.specs.declared.builtin.SystemName.TheVariants as system_name
use Rattle.va_sem.specs.declared.names.Meaning.{Meaning}
use Rattle.va_sem.specs.declared.names.Meaning.TheVariants as means
use Rattle.va_sem.specs.declared.names.ModuleNames.{ModuleNames}
use Rattle.va_sem.specs.Builtins.{builtin_at, system_name_of}
use Rattle.va_sem.specs.Declarations.{FunctionEntry, ParameterEntry, analog_bodies, functions_of, parameters_of}
use Rattle.va_sem.specs.Lookup.{Bytes}
use Rattle.va_sem.specs.LookedAt.{looked_at, looked_at_in_arguments, call_looks, looks}
use Rattle.va_sem.specs.TextOrder.{put_in, in_text_order}
use Rattle.va_sem.specs.Typing.{Typing, parameter_types, meaning_at, signature_of, signature_at, typing_of}
use Rattle.va_sem.specs.rules.Biased.{Analysis, analysis_of, is_biased, is_assigned_to}
use Rattle.va_sem.specs.rules.BranchKinds.{Contribution, is_zero, contribution_by, contribution_for, contributions, potentials_to, flows_to, may_collapse, is_flow_read, is_empty, always_contributes}
use Rattle.va_sem.specs.Meanings.{names_of_module}
use Rattle.va_sem.specs.MeaningsLaws.{AreNumbered}
use Rattle.va_sem.proofs.NumberedNames.{names_are_numbered}
use Rattle.va_sem.proofs.RuleLaws.{biased_least}
use Rattle.va_sem.specs.rules.Uses.{meaning_of, is_access, is_variable_in}
use Rattle.va_sem.specs.rules.Values.{Purpose, assigned, contributed, tested, initial, Around, Value, value_for, under as within, looped, tests_of, values_in, values_in_statements, values_in_items, values_in_defaults, values_of}
use Rattle.va_tree.specs.declared.expr.Callee.TheVariants.{Function, System}
use Rattle.va_tree.specs.declared.module.Module.{Module}
use Rattle.va_tree.specs.declared.stmt.EventKind.TheVariants.{InitialStep, FinalStep}
use Rattle.va_tree.specs.Declarations.{declared}
use Rattle.va_tree.specs.Expressions.{Expression, Arguments, literal, infinity, name, group, unary, binary, choose, call, no_more, text_then, expression_then}
use Rattle.va_tree.specs.Statements.{Statement, Statements, Items, Defaults, null, block, only_if, if_else, cases, for_loop, while_loop, repeat_loop, event, assign, contribute, task, no_more as no_statement, statement_then, no_items, item_then, no_defaults, default_then}
use Rattle.va_meaning.specs.Bias.{IsCallFixed, IsNameFixed, IsFixed, AreFixed, IsFirstFixed, AssignmentKeeps, ContributionKeeps, Keeps, AllKeep, ItemsKeep, DefaultsKeep, BlocksKeep}
use Rattle.va_meaning.specs.Called.{builtin_called, system_called, called}
use Rattle.va_meaning.specs.Elaborated.{Elaborated}
use Rattle.va_meaning.specs.Elaboration.{elaborated, function_of, parameter_of}
use Rattle.va_meaning.specs.ElaborationLaws.{ElaborationLaws}
use Rattle.va_meaning.specs.Runs.{under, under_all, item_values}
use Rattle.va_meaning.specs.SetUpLaws.{parameter_type}
use Rattle.va_meaning.specs.Types.{result_type}

-- answers of tests
pub left_false : (a b : Bool) → (a || b) ≡ false → a ≡ false
left_false true b h = h
left_false false b h = refl

right_false : (a b : Bool) → (a || b) ≡ false → b ≡ false
right_false true b h = cc (h)
right_false false b h = h

any_left : {T : Type 0} (f : T → Bool) (xs ys : List T) → list_any f (xs ++ ys) ≡ false → list_any f xs ≡ false
any_left f xs ys h = left_false (list_any f xs) (list_any f ys) (sym (list_any-append f xs ys) ∙ h)

any_right : {T : Type 0} (f : T → Bool) (xs ys : List T) → list_any f (xs ++ ys) ≡ false → list_any f ys ≡ false
any_right f xs ys h = right_false (list_any f xs) (list_any f ys) (sym (list_any-append f xs ys) ∙ h)

pub or_swap : (a b : Bool) → (a || b) ≡ (b || a)
or_swap true true = refl
or_swap true false = refl
or_swap false true = refl
or_swap false false = refl

or_last : (a b c : Bool) → (a || (b || c)) ≡ ((c || b) || a)
or_last true true true = refl
or_last true true false = refl
or_last true false true = refl
or_last true false false = refl
or_last false true true = refl
or_last false true false = refl
or_last false false true = refl
or_last false false false = refl

or_move : (a b c : Bool) → (a || (b || c)) ≡ ((b || a) || c)
or_move true true true = refl
or_move true true false = refl
or_move true false true = refl
or_move true false false = refl
or_move false true true = refl
or_move false true false = refl
or_move false false true = refl
or_move false false false = refl

-- what is not biased is fixed
module _ (M : Elaborated) (biased : ℕ → Bool) where
  abbrev reads : Expression → Bool
  reads part = is_access (meaning_of M.meaning part) || is_variable_in biased (meaning_of M.meaning part)

  name_fixed : (m : Option Meaning) → ((is_access m || is_variable_in biased m) || false) ≡ false → IsNameFixed M biased m
  name_fixed (Some (means.Var x)) h = left_false (biased x) false h
  name_fixed None h = tt
  name_fixed (Some (means.Node k)) h = tt
  name_fixed (Some (means.Branch k)) h = tt
  name_fixed (Some (means.Param k)) h = tt
  name_fixed (Some (means.Function k)) h = tt
  name_fixed (Some (means.Discipline k)) h = tt
  name_fixed (Some (means.Nature k)) h = tt
  name_fixed (Some (means.Module k)) h = tt
  name_fixed (Some (means.Builtin k)) h = tt
  name_fixed (Some (means.Access b turned flow)) h = tt

  builtin_fixed : (b : Option Builtin) (A B : Type 0) → B → IsCallFixed (builtin_called b) A B
  builtin_fixed None A B h = tt
  builtin_fixed (Some b) A B h = h

  word_fixed : (m : Option Meaning) (bytes : Bytes) (A B : Type 0) → (is_access m || is_variable_in biased m) ≡ false → B
      → IsCallFixed (called m Function bytes) A B
  word_fixed (Some (means.Builtin row)) bytes A B h k = builtin_fixed (builtin_at row) A B k
  word_fixed (Some (means.Function f)) bytes A B h k = k
  word_fixed (Some (means.Access b turned flow)) bytes A B h k = cc (h)
  word_fixed None bytes A B h k = tt
  word_fixed (Some (means.Node b)) bytes A B h k = tt
  word_fixed (Some (means.Branch b)) bytes A B h k = tt
  word_fixed (Some (means.Param b)) bytes A B h k = tt
  word_fixed (Some (means.Var b)) bytes A B h k = tt
  word_fixed (Some (means.Discipline b)) bytes A B h k = tt
  word_fixed (Some (means.Nature b)) bytes A B h k = tt
  word_fixed (Some (means.Module b)) bytes A B h k = tt

  system_fixed : (s : Option SystemName) (args : Arguments) (A B : Type 0)
      → ((test : ℕ → Bool) → ((i : ℕ) → test i ≡ true) → list_any reads (looked_at_in_arguments test 0 args) ≡ false → B)
      → ((test : ℕ → Bool) → test 0 ≡ true → list_any reads (looked_at_in_arguments test 0 args) ≡ false → A)
      → list_any reads (looked_at_in_arguments (looks s) 0 args) ≡ false → IsCallFixed (system_called s) A B
  system_fixed (Some (system_name.Function Temperature)) args A B all first h = all (looks (Some (system_name.Function Temperature))) (λ i. refl) h
  system_fixed (Some (system_name.Function ThermalVoltage)) args A B all first h = all (looks (Some (system_name.Function ThermalVoltage))) (λ i. refl) h
  system_fixed (Some (system_name.Function Limit)) args A B all first h = first (looks (Some (system_name.Function Limit))) refl h
  system_fixed (Some (system_name.Function SimParam)) args A B all first h = all (looks (Some (system_name.Function SimParam))) (λ i. refl) h
  system_fixed (Some (system_name.Function ParamGiven)) args A B all first h = all (looks (Some (system_name.Function ParamGiven))) (λ i. refl) h
  system_fixed (Some system_name.Task) args A B all first h = tt
  system_fixed None args A B all first h = tt

  mutual
    pub unbiased_fixed : (e : Expression) → list_any reads (looked_at e) ≡ false
        → IsFixed M biased e
    unbiased_fixed (literal at value integer) h = tt
    unbiased_fixed (infinity at) h = tt
    unbiased_fixed (name at bytes) h = name_fixed (M.meaning at) h
    unbiased_fixed (group at inner) h = unbiased_fixed inner h
    unbiased_fixed (unary at op operand) h = unbiased_fixed operand h
    unbiased_fixed (binary at left op right) h = (
      unbiased_fixed left (any_left reads (looked_at left) (looked_at right) h),
      unbiased_fixed right (any_right reads (looked_at left) (looked_at right) h),
    )
    unbiased_fixed (choose at test a b) h =
        let first = any_left reads (looked_at test ++ looked_at a) (looked_at b) h in
        (unbiased_fixed test (any_left reads (looked_at test) (looked_at a) first), unbiased_fixed a (any_right reads (looked_at test) (looked_at a) first), unbiased_fixed b (any_right reads (looked_at test ++ looked_at a) (looked_at b) h))
    unbiased_fixed (call at Function bytes args) h =
        word_fixed (M.meaning at) bytes (IsFirstFixed M biased args) (AreFixed M biased args)
        (left_false (is_access (M.meaning at) || is_variable_in biased (M.meaning at)) (list_any reads (looked_at_in_arguments (call_looks Function bytes) 0 args)) h)
        (arguments_fixed (call_looks Function bytes) (λ i. refl) 0 args (right_false (is_access (M.meaning at) || is_variable_in biased (M.meaning at)) _ h))
    unbiased_fixed (call at System bytes args) h =
        system_fixed (system_name_of bytes) args (IsFirstFixed M biased args) (AreFixed M biased args)
        (λ test all k. arguments_fixed test all 0 args k) (λ test first k. first_fixed test first args k)
        (right_false (is_access (M.meaning at) || is_variable_in biased (M.meaning at)) _ h)

    arguments_fixed : (test : ℕ → Bool) → ((i : ℕ) → test i ≡ true) → (i : ℕ) (args : Arguments)
        → list_any reads (looked_at_in_arguments test i args) ≡ false
        → AreFixed M biased args
    arguments_fixed test all i no_more h = tt
    arguments_fixed test all i (text_then text rest) h = arguments_fixed test all (i + 1) rest h
    arguments_fixed test all i (expression_then e rest) h = (
      unbiased_fixed e
          (subst (λ (b : Bool). list_any reads (if b then looked_at e else []) ≡ false) (all i)
          (any_left reads (if test i then looked_at e else []) (looked_at_in_arguments test (i + 1) rest) h)),
      arguments_fixed test all (i + 1) rest (any_right reads (if test i then looked_at e else []) (looked_at_in_arguments test (i + 1) rest) h),
    )

    first_fixed : (test : ℕ → Bool) → test 0 ≡ true → (args : Arguments)
        → list_any reads (looked_at_in_arguments test 0 args) ≡ false
        → IsFirstFixed M biased args
    first_fixed test first no_more h = tt
    first_fixed test first (text_then text rest) h = tt
    first_fixed test first (expression_then e rest) h =
        unbiased_fixed e
        (subst (λ (b : Bool). list_any reads (if b then looked_at e else []) ≡ false) first
        (any_left reads (if test 0 then looked_at e else []) (looked_at_in_arguments test 1 rest) h))

-- What the values in a statement keep, the statement keeps.
module _ (M : Elaborated) (biased : ℕ → Bool) where
  abbrev ClosedFor : Purpose → List Expression → Expression → Type 0
  ClosedFor (assigned at) conditions e = AssignmentKeeps M biased (list_any M.is_biased (e ∷ conditions)) (M.meaning at)
  ClosedFor (contributed at) conditions e = ContributionKeeps M biased (list_any M.is_biased conditions) (M.meaning at)
  ClosedFor tested conditions e = Unit {0}
  ClosedFor initial conditions e = Unit {0}

  abbrev AllClosed : List Value → Type 0
  AllClosed [] = Unit {0}
  AllClosed (v ∷ vs) = ClosedFor v.purpose v.around.conditions v.expression × AllClosed vs

  closed_parts : (vs ws : List Value) → AllClosed (vs ++ ws) → AllClosed vs × AllClosed ws
  closed_parts [] ws h = (tt, h)
  closed_parts (v ∷ vs) ws h = let rest = closed_parts vs ws h.1 in ((h.0, rest.0), rest.1)

  exchange : (b i y : Bool) → ((b || i) || y) ≡ ((b || y) || i)
  exchange true i y = refl
  exchange false true true = refl
  exchange false true false = refl
  exchange false false true = refl
  exchange false false false = refl

  pub one_more_under : (b i : Bool) (es : List Expression) → under_all M (b || i) es ≡ (i || under_all M b es)
  one_more_under b i [] = or_swap b i
  one_more_under b i (e ∷ es) = ap (λ x. under_all M x es) (exchange b i (M.is_biased e)) ∙ one_more_under (b || M.is_biased e) i es

  conditions_under : (b : Bool) (es conditions : List Expression) → list_any M.is_biased conditions ≡ b
      → list_any M.is_biased (es ++ conditions) ≡ under_all M b es
  conditions_under b [] conditions h = h
  conditions_under b (e ∷ es) conditions h =
      (λ j. M.is_biased e || conditions_under b es conditions h j) ∙ sym (one_more_under b (M.is_biased e) es)

  pub tests_are_values : (items : Items) → tests_of items ≡ item_values items
  tests_are_values no_items = refl
  tests_are_values (item_then at values body rest) = ap (λ es. values ++ es) (tests_are_values rest)

  mutual
    keeps_from : (b : Bool) (around : Around) → list_any M.is_biased around.conditions ≡ b → (p : Statement) → AllClosed (values_in around p)
        → Keeps M biased b p
    keeps_from b around e (null at) h = tt
    keeps_from b around e (block at label declarations body) h =
        all_keep_from b around e body (closed_parts (map (value_for around initial) (declared declarations)) (values_in_statements around body) h).1
    keeps_from b around e (only_if at test first) h =
        keeps_from (under M b test) (within (test ∷ []) around) ((λ j. M.is_biased test || e j) ∙ or_swap (M.is_biased test) b) first h.1
    keeps_from b around e (if_else at test first second) h =
        let arms = closed_parts (values_in (within (test ∷ []) around) first) (values_in (within (test ∷ []) around) second) h.1 in (
          keeps_from (under M b test) (within (test ∷ []) around) ((λ j. M.is_biased test || e j) ∙ or_swap (M.is_biased test) b) first arms.0,
          keeps_from (under M b test) (within (test ∷ []) around) ((λ j. M.is_biased test || e j) ∙ or_swap (M.is_biased test) b) second arms.1,
        )
    keeps_from b around e (cases at selector items defaults) h =
        let tests = selector ∷ tests_of items in
        let flag = conditions_under b tests around.conditions e ∙ ap (λ es. under_all M b (selector ∷ es)) (tests_are_values items) in
        let parts = closed_parts (map (value_for around tested) tests ++ values_in_items (within tests around) items) (values_in_defaults (within tests around) defaults) h in
        let arms = closed_parts (map (value_for around tested) tests) (values_in_items (within tests around) items) parts.0 in (
          items_keep_from (under_all M b (selector ∷ item_values items)) (within tests around) flag items arms.1,
          defaults_keep_from (under_all M b (selector ∷ item_values items)) (within tests around) flag defaults parts.1,
        )
    keeps_from b around e (for_loop at target first test target' step body) h = (
      subst (λ (x : Bool). AssignmentKeeps M biased x (M.meaning target.at)) ((λ j. M.is_biased first || (M.is_biased test || e j)) ∙ or_last (M.is_biased first) (M.is_biased test) b) h.1.0,
      subst (λ (x : Bool). AssignmentKeeps M biased x (M.meaning target'.at)) ((λ j. M.is_biased step || (M.is_biased test || e j)) ∙ or_last (M.is_biased step) (M.is_biased test) b) h.1.1.0,
      keeps_from (under M b test) (looped test around) ((λ j. M.is_biased test || e j) ∙ or_swap (M.is_biased test) b) body h.1.1.1,
    )
    keeps_from b around e (while_loop at test body) h =
        keeps_from (under M b test) (looped test around) ((λ j. M.is_biased test || e j) ∙ or_swap (M.is_biased test) b) body h.1
    keeps_from b around e (repeat_loop at count body) h =
        keeps_from (under M b count) (looped count around) ((λ j. M.is_biased count || e j) ∙ or_swap (M.is_biased count) b) body h.1
    keeps_from b around e (event at InitialStep analyses body) h = keeps_from b around e body h
    keeps_from b around e (event at FinalStep analyses body) h = tt
    keeps_from b around e (assign at target value) h =
        subst (λ (x : Bool). AssignmentKeeps M biased x (M.meaning at)) ((λ j. M.is_biased value || e j) ∙ or_swap (M.is_biased value) b) h.0
    keeps_from b around e (contribute at bytes first second value) h = subst (λ (x : Bool). ContributionKeeps M biased x (M.meaning at)) e h.0
    keeps_from b around e (task at bytes args) h = tt

    all_keep_from : (b : Bool) (around : Around) → list_any M.is_biased around.conditions ≡ b → (ps : Statements) → AllClosed (values_in_statements around ps)
        → AllKeep M biased b ps
    all_keep_from b around e no_statement h = tt
    all_keep_from b around e (statement_then p ps) h =
        let parts = closed_parts (values_in around p) (values_in_statements around ps) h in
        (keeps_from b around e p parts.0, all_keep_from b around e ps parts.1)

    items_keep_from : (b : Bool) (around : Around) → list_any M.is_biased around.conditions ≡ b → (items : Items) → AllClosed (values_in_items around items)
        → ItemsKeep M biased b items
    items_keep_from b around e no_items h = tt
    items_keep_from b around e (item_then at values body rest) h =
        let parts = closed_parts (values_in around body) (values_in_items around rest) h in
        (keeps_from b around e body parts.0, items_keep_from b around e rest parts.1)

    defaults_keep_from : (b : Bool) (around : Around) → list_any M.is_biased around.conditions ≡ b → (defaults : Defaults) → AllClosed (values_in_defaults around defaults)
        → DefaultsKeep M biased b defaults
    defaults_keep_from b around e no_defaults h = tt
    defaults_keep_from b around e (default_then at body rest) h =
        let parts = closed_parts (values_in around body) (values_in_defaults around rest) h in
        (keeps_from b around e body parts.0, defaults_keep_from b around e rest parts.1)

  blocks_keep_from : (blocks : List Statement) → AllClosed (values_of blocks) → BlocksKeep M biased blocks
  blocks_keep_from [] h = tt
  blocks_keep_from (p ∷ ps) h =
      let parts = closed_parts (values_in (record { conditions = []; in_loop = false }) p) (values_of ps) h in
      (keeps_from false (record { conditions = []; in_loop = false }) refl p parts.0, blocks_keep_from ps parts.1)

-- Lists by tests.
or_keeps_right : (a b : Bool) → b ≡ true → (a || b) ≡ true
or_keeps_right true b h = refl
or_keeps_right false b h = h

and_parts : (a b : Bool) → (a && b) ≡ true → (a ≡ true) × (b ≡ true)
and_parts true b h = (refl, h)
and_parts false b h = cc (h)

not_parts : (a : Bool) → not a ≡ true → a ≡ false
not_parts true h = cc (h)
not_parts false h = refl

both_pass : (a b : Bool) → (a && not b) ≡ false → a ≡ true → b ≡ true
both_pass true true h k = refl
both_pass true false h k = cc (h)
both_pass false b h k = cc (k)

or_exchange : (a b c : Bool) → (a || (b || c)) ≡ (b || (a || c))
or_exchange true true c = refl
or_exchange true false c = refl
or_exchange false true c = refl
or_exchange false false c = refl

-- those that a filter leaves all pass, so none that it leaves fails
filtered_pass : {T : Type 0} (p q : T → Bool) (x : T) (xs : List T) (b : Bool) → list_all p (if b then x ∷ filter q xs else filter q xs) ≡ true
    → (list_all p (filter q xs) ≡ true → list_any (λ y. q y && not (p y)) xs ≡ false)
    → ((b && not (p x)) || list_any (λ y. q y && not (p y)) xs) ≡ false
filtered_pass p q x xs true h k =
    let parts = and_parts (p x) (list_all p (filter q xs)) h in
    (λ j. not (parts.0 j) || k parts.1 j)
filtered_pass p q x xs false h k = k h

none_fails : {T : Type 0} (p q : T → Bool) (xs : List T) → list_all p (filter q xs) ≡ true → list_any (λ y. q y && not (p y)) xs ≡ false
none_fails p q [] h = refl
none_fails p q (x ∷ xs) h = filtered_pass p q x xs (q x) h (none_fails p q xs)

-- a test of some is one of them in another order
any_put_at : {T : Type 0} (token : T → ℕ) (g : T → Bool) (x y : T) (ys : List T) (b : Bool) → list_any g (put_in token x ys) ≡ (g x || list_any g ys)
    → list_any g (if b then x ∷ y ∷ ys else y ∷ put_in token x ys) ≡ (g x || (g y || list_any g ys))
any_put_at token g x y ys true h = refl
any_put_at token g x y ys false h = (λ j. g y || h j) ∙ or_exchange (g y) (g x) (list_any g ys)

any_put_in : {T : Type 0} (token : T → ℕ) (g : T → Bool) (x : T) (xs : List T) → list_any g (put_in token x xs) ≡ (g x || list_any g xs)
any_put_in token g x [] = refl
any_put_in token g x (y ∷ ys) = any_put_at token g x y ys (nat_le (token x) (token y)) (any_put_in token g x ys)

any_in_order : {T : Type 0} (token : T → ℕ) (g : T → Bool) (xs : List T) → list_any g (in_text_order token xs) ≡ list_any g xs
any_in_order token g [] = refl
any_in_order token g (x ∷ xs) = any_put_in token g x (in_text_order token xs) ∙ (λ j. g x || any_in_order token g xs j)

-- a test of what may be there
abbrev passes : {T : Type 0} → (T → Bool) → Option T → Bool
passes g None = false
passes g (Some x) = g x

any_of_those : {S T : Type 0} (h : S → Option T) (g : T → Bool) (x : S) (xs : List S) (o : Option T)
    → list_any g (cons_option o (filter_map h xs)) ≡ (passes g o || list_any g (filter_map h xs))
any_of_those h g x xs None = refl
any_of_those h g x xs (Some y) = refl

any_filter_map : {S T : Type 0} (h : S → Option T) (g : T → Bool) (xs : List S) → list_any g (filter_map h xs) ≡ list_any (λ x. passes g (h x)) xs
any_filter_map h g [] = refl
any_filter_map h g (x ∷ xs) = any_of_those h g x xs (h x) ∙ (λ j. passes g (h x) || any_filter_map h g xs j)

-- The values of a module are closed: its biased variables are the least set, and its collapsing branches stand under fixed conditions.
module _ (names : ModuleNames) (m : Module) (numbered : AreNumbered names) where
  abbrev a : Analysis
  a = analysis_of names (analog_bodies m)

  -- Where a branch collapses, no potential of it is contributed under a biased condition.
  collapses_if : (p q r : Bool) (k : BranchKind) → k ≡ kind.Collapsing
      → unwrap_or (if p then Some kind.Flow else (if q then Some kind.Collapsing else (if r then Some kind.Potential else None))) kind.Flow ≡ k → q ≡ true
  collapses_if true q r k e h = cc (e, h)
  collapses_if false true r k e h = refl
  collapses_if false false true k e h = cc (e, h)
  collapses_if false false false k e h = cc (e, h)

  abbrev is_bad : ℕ → Contribution → Bool
  is_bad b c = (c.branch == b && not c.is_flow) && not (may_collapse a c)

  no_bad : (b : ℕ) → (elaborated names m).kind b ≡ kind.Collapsing → list_any (λ v. passes (is_bad b) (contribution_for a.meaning v v.purpose)) a.values ≡ false
  no_bad b h =
      let pass = and_parts (list_all (may_collapse a) (potentials_to a b)) (not (is_flow_read a b))
      (collapses_if (is_empty (potentials_to a b)) (list_all (may_collapse a) (potentials_to a b) && not (is_flow_read a b))
      (is_empty (flows_to a b) && list_any (always_contributes a.meaning b) a.blocks) kind.Collapsing refl h) in
      sym (any_filter_map (λ v. contribution_for a.meaning v v.purpose) (is_bad b) a.values)
      ∙ sym (any_in_order (λ (c : Contribution). c.at) (is_bad b) (filter_map (λ v. contribution_for a.meaning v v.purpose) a.values))
      ∙ none_fails (may_collapse a) (λ c. c.branch == b && not c.is_flow) (contributions a) pass.0

  and_no : (z : Bool) → (z && false) ≡ false
  and_no true = refl
  and_no false = refl

  biased_is_bad : (z : Bool) (b : ℕ) (d : Bool) → d ≡ true → ((b == b && not false) && not (z && not d)) ≡ true
  biased_is_bad z b d h = (λ j. (eq-eqb b b refl j && true) && not (z && not (h j))) ∙ ap not (and_no z)

  contribution_closed : (v : Value) (at b : ℕ) (turned : Bool) → v.purpose ≡ contributed at → meaning_at names.uses at ≡ Some (means.Access b turned false)
      → ((f : Value → Bool) → f v ≡ true → list_any f a.values ≡ true) → (elaborated names m).kind b ≡ kind.Collapsing
      → (d : Bool) → list_any (elaborated names m).is_biased v.around.conditions ≡ d → d ≡ false
  contribution_closed v at b turned p e is_in h false g = refl
  contribution_closed v at b turned p e is_in h true g =
      let found = (λ j. contribution_for a.meaning v (p j)) ∙ ap (contribution_by at v) e in
      let bad = is_in (λ w. passes (is_bad b) (contribution_for a.meaning w w.purpose))
      (ap (passes (is_bad b)) found ∙ biased_is_bad (is_zero v.expression) b (list_any (elaborated names m).is_biased v.around.conditions) g) in
      sym bad ∙ no_bad b h

  assignment_closed : (v : Value) (at x : ℕ) → v.purpose ≡ assigned at → meaning_at names.uses at ≡ Some (means.Var x)
      → ((f : Value → Bool) → f v ≡ true → list_any f a.values ≡ true)
      → list_any (elaborated names m).is_biased (v.expression ∷ v.around.conditions) ≡ true → a.biased x ≡ true
  assignment_closed v at x p e is_in h =
      (biased_least names numbered (analog_bodies m)).closed x (numbered at x e)
      (is_in (λ w. is_assigned_to a.meaning x w.purpose && list_any (is_biased a.meaning a.biased) (w.expression ∷ w.around.conditions))
      (λ j. ((λ i. is_assigned_to a.meaning x (p i)) ∙ ap (is_variable_in (λ other. other == x)) e ∙ eq-eqb x x refl) j && h j))

  -- a value that is among those of the module
  assigned_is_closed : (v : Value) (at : ℕ) (n : Option Meaning) → v.purpose ≡ assigned at → meaning_at names.uses at ≡ n
      → ((f : Value → Bool) → f v ≡ true → list_any f a.values ≡ true)
      → AssignmentKeeps (elaborated names m) a.biased (list_any (elaborated names m).is_biased (v.expression ∷ v.around.conditions)) n
  assigned_is_closed v at (Some (means.Var x)) p e is_in = assignment_closed v at x p e is_in
  assigned_is_closed v at None p e is_in = tt
  assigned_is_closed v at (Some (means.Node k)) p e is_in = tt
  assigned_is_closed v at (Some (means.Branch k)) p e is_in = tt
  assigned_is_closed v at (Some (means.Param k)) p e is_in = tt
  assigned_is_closed v at (Some (means.Function k)) p e is_in = tt
  assigned_is_closed v at (Some (means.Discipline k)) p e is_in = tt
  assigned_is_closed v at (Some (means.Nature k)) p e is_in = tt
  assigned_is_closed v at (Some (means.Module k)) p e is_in = tt
  assigned_is_closed v at (Some (means.Builtin k)) p e is_in = tt
  assigned_is_closed v at (Some (means.Access b turned flow)) p e is_in = tt

  contributed_is_closed : (v : Value) (at : ℕ) (n : Option Meaning) → v.purpose ≡ contributed at → meaning_at names.uses at ≡ n
      → ((f : Value → Bool) → f v ≡ true → list_any f a.values ≡ true)
      → ContributionKeeps (elaborated names m) a.biased (list_any (elaborated names m).is_biased v.around.conditions) n
  contributed_is_closed v at (Some (means.Access b turned true)) p e is_in = tt
  contributed_is_closed v at (Some (means.Access b turned false)) p e is_in = λ h. contribution_closed v at b turned p e is_in h _ refl
  contributed_is_closed v at None p e is_in = tt
  contributed_is_closed v at (Some (means.Node k)) p e is_in = tt
  contributed_is_closed v at (Some (means.Branch k)) p e is_in = tt
  contributed_is_closed v at (Some (means.Param k)) p e is_in = tt
  contributed_is_closed v at (Some (means.Var k)) p e is_in = tt
  contributed_is_closed v at (Some (means.Function k)) p e is_in = tt
  contributed_is_closed v at (Some (means.Discipline k)) p e is_in = tt
  contributed_is_closed v at (Some (means.Nature k)) p e is_in = tt
  contributed_is_closed v at (Some (means.Module k)) p e is_in = tt
  contributed_is_closed v at (Some (means.Builtin k)) p e is_in = tt

  value_closed : (v : Value) (p : Purpose) → v.purpose ≡ p → ((f : Value → Bool) → f v ≡ true → list_any f a.values ≡ true)
      → ClosedFor (elaborated names m) a.biased p v.around.conditions v.expression
  value_closed v (assigned at) p is_in = assigned_is_closed v at (meaning_at names.uses at) p refl is_in
  value_closed v (contributed at) p is_in = contributed_is_closed v at (meaning_at names.uses at) p refl is_in
  value_closed v tested p is_in = tt
  value_closed v initial p is_in = tt

  values_closed : (vs : List Value) → ((f : Value → Bool) → list_any f vs ≡ true → list_any f a.values ≡ true)
      → AllClosed (elaborated names m) a.biased vs
  values_closed [] are_in = tt
  values_closed (v ∷ vs) are_in = (
    value_closed v v.purpose refl (λ f h. are_in f (λ j. h j || list_any f vs)),
    values_closed vs (λ f h. are_in f (or_keeps_right (f v) (list_any f vs) h)),
  )

-- the types of functions
functions_have_types : (tokens : List ℕ) (fs : List FunctionEntry) (f : ℕ)
    → result_type (slice_get (map (function_of tokens) fs) f) ≡ (signature_at (map signature_of fs) f).result
functions_have_types tokens [] f = refl
functions_have_types tokens (entry ∷ fs) zero = refl
functions_have_types tokens (entry ∷ fs) (suc f) = functions_have_types tokens fs f

-- the types of parameters
types_long : (reads : List (List ℕ)) (ps : List ParameterEntry) (t : Typing) (depth : ℕ) → length (parameter_types reads ps t depth) ≡ length ps
types_long reads ps t zero = length-map ps _
types_long reads ps t (suc depth) = length-map (enumerate_from 0 ps) _ ∙ length-enumerate_from 0 ps

parameters_have_types : (t : Typing) (k : ℕ) (ps : List ParameterEntry) (p : ℕ) → length t.parameters ≡ k + length ps
    → parameter_type (slice_get (map (parameter_of t) (enumerate_from k ps)) p) ≡ get_or t.parameters (k + p) Real
parameters_have_types t k [] p h = sym (get_or_past t.parameters (k + p) Real (let le : length t.parameters ≤ k + p = omega (arith, h) in le))
parameters_have_types t k (q ∷ ps) zero h = ap (λ i. get_or t.parameters i Real) (let same : k ≡ k + 0 = omega arith in same)
parameters_have_types t k (q ∷ ps) (suc p) h =
    parameters_have_types t (k + 1) ps p (let long : length t.parameters ≡ k + 1 + length ps = omega (arith, h) in long)
    ∙ ap (λ i. get_or t.parameters i Real) (let same : k + 1 + p ≡ k + suc p = omega arith in same)

pub elaboration_laws : ElaborationLaws
elaboration_laws = record {
  typing = λ names m. record {
    meaning = λ at. refl;
    types = λ e. refl;
    variables = λ x. refl;
    functions = functions_have_types _ (functions_of m);
  };
  parameters = λ names m p.
      parameters_have_types (typing_of names.uses m) 0 (parameters_of m) p
      (types_long _ (parameters_of m) (record (typing_of names.uses m) { parameters = [] }) (length (parameters_of m)) ∙ (let same : length (parameters_of m) ≡ 0 + length (parameters_of m) = omega arith in same))
      ∙ ap (λ i. get_or (typing_of names.uses m).parameters i Real) (let same : 0 + p ≡ p = omega arith in same);
  bias = λ s number m. let names : ModuleNames = names_of_module s number m in let numbered = names_are_numbered.variables s number m in record {
    expressions = λ e h. unbiased_fixed (elaborated names m) (analysis_of names (analog_bodies m)).biased e h;
    blocks = blocks_keep_from (elaborated names m) (analysis_of names (analog_bodies m)).biased (analog_bodies m) (values_closed names m numbered (values_of (analog_bodies m)) (λ f h. h));
  };
}

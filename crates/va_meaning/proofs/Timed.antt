-- What is untimed, and where time derivatives stand, in every module of a text without faults.
use Rattle.std.specs.Prelude.{◌≡◌, ℕ, ◌+◌, ◌&&◌, ◌||◌, Bool, true, false, not, if◌then◌else◌, List, [], ◌∷◌, ◌++◌, map, filter, flat_map, Option, Some, None, get_or}
use Rattle.std.specs.List.{AllByRecursion, list_any}
use Rattle.std.proofs.Common.{refl, ap, sym, ◌∙◌, subst}
use Rattle.alg_laws.specs.declared.number.Ty.{Ty}
use Rattle.alg_laws.specs.declared.number.Ty.TheVariants.{Integer, Real}
use Rattle.va_sem.specs.declared.builtin.Builtin.{Builtin}
use Rattle.va_sem.specs.declared.builtin.Builtin.TheVariants.{Ddt}
use Rattle.va_sem.specs.declared.builtin.SystemFunction.TheVariants.{Limit}
use Rattle.va_sem.specs.declared.builtin.SystemName.{SystemName}
use Rattle.va_sem.specs.declared.builtin.SystemName.TheVariants as system_name
use Rattle.va_sem.specs.declared.names.Meaning.{Meaning}
use Rattle.va_sem.specs.declared.names.Meaning.TheVariants as means
use Rattle.va_sem.specs.declared.names.ModuleNames.{ModuleNames}
use Rattle.va_sem.specs.Builtins.{builtin_at, system_name_of}
use Rattle.va_sem.specs.Declarations.{analog_bodies}
use Rattle.va_sem.specs.LookedAt.{looked_at, looked_at_in_arguments, call_looks, looks}
use Rattle.va_sem.specs.Lookup.{Bytes}
use Rattle.va_sem.specs.Typing.{Typing, typing_of}
use Rattle.va_sem.specs.rules.Biased.{Analysis, analysis_of, is_biased, is_timed}
use Rattle.va_sem.specs.rules.TimeDerivatives.{is_plain, strict_parts, is_integer_variable, strict_value, biased_arms, biased_right_side, looped_right_side, arguments_of_ddt, ddt_nonlinear, ddt_under_bias, ddt_in_loop, ddt_twice}
use Rattle.va_sem.specs.rules.Uses.{meaning_of, is_ddt, is_ddt_function, is_integer, is_variable_in, arguments_at, arguments_of_call}
use Rattle.va_sem.specs.rules.Values.{Purpose, assigned, contributed, tested, initial, Around, Value, value_for, evaluated, under as within, looped, tests_of, values_in, values_in_statements, values_in_items, values_in_defaults, values_of}
use Rattle.va_sem.proofs.Contained.{Has, all_of_has, all_left, all_right, has_left, has_right, has_flat, has_filter, map_empty}
use Rattle.va_tree.specs.declared.expr.Callee.TheVariants.{Function, System}
use Rattle.va_tree.specs.declared.module.Module.{Module}
use Rattle.va_tree.specs.declared.stmt.EventKind.TheVariants.{InitialStep, FinalStep}
use Rattle.va_tree.specs.declared.expr.BinaryOp.TheVariants.{Add, Subtract, Multiply, Divide}
use Rattle.va_tree.specs.declared.expr.UnaryOp.TheVariants.{Plus, Minus, Not}
use Rattle.va_tree.specs.Declarations.{declared}
use Rattle.va_tree.specs.Expressions.{Expression, Arguments, literal, infinity, name, group, unary, binary, choose, call, no_more, text_then, expression_then, at_of}
use Rattle.va_tree.specs.Statements.{Statement, Statements, Items, Defaults, null, block, only_if, if_else, cases, for_loop, while_loop, repeat_loop, event, assign, contribute, task, no_more as no_statement, statement_then, no_items, item_then, no_defaults, default_then}
use Rattle.va_meaning.specs.Called.{builtin, builtin_called, system_called, called}
use Rattle.va_meaning.specs.EachValue.{EachTested, EachValue, EachValueOfAll, EachValueOfItems, EachValueOfDefaults, EachValueOfBlocks}
use Rattle.va_meaning.specs.Elaborated.{Elaborated}
use Rattle.va_meaning.specs.Elaboration.{elaborated}
use Rattle.va_meaning.specs.Runs.{under, under_all, item_values}
use Rattle.va_meaning.specs.Timed.{IsCallUntimed, IsNameUntimed, IsUntimed, AreUntimed, IsFirstUntimed, IsPlain, IsLinear, untimed, variable as timed_variable, derivative, parentheses, plus, minus, sum, difference, plain_times, times_plain, over_plain, chosen, RightSide, OfType, AssignmentIsLinear, ValueIsLinear}
use Rattle.va_meaning.proofs.Elaborated.{left_false, or_swap, one_more_under, tests_are_values, unbiased_fixed}

all_false : {T : Type 0} (f : T → Bool) (xs : List T) → list_any f xs ≡ false → AllByRecursion (λ x. f x ≡ false) xs
all_false f [] h = tt
all_false f (x ∷ xs) h = (left_false (f x) (list_any f xs) h, all_false f xs (after (f x) (list_any f xs) h))
  where
    after : (a b : Bool) → (a || b) ≡ false → b ≡ false
    after true b h = cc (h)
    after false b h = h

-- none of some things passes a test by which nothing is left of them
pub none_left : {T : Type 0} (f : T → Bool) (xs : List T) (x : T) → filter f xs ≡ [] → Has xs x → (b : Bool) → f x ≡ b → b ≡ false
none_left f xs x e h false k = refl
none_left {T} f xs x e h true k = absurd (subst (λ (ys : List T). Has ys x) e (has_filter f xs x h k))

-- Calls, by what is known of the arguments that are looked at.
builtin_untimed : (b : Option Builtin) (A B : Type 0) → is_ddt_function b ≡ false → B → IsCallUntimed (builtin_called b) A B
builtin_untimed None A B h k = tt
builtin_untimed (Some Ddt) A B h k = cc (h)
builtin_untimed (Some b) A B h k = k

word_untimed : (m : Option Meaning) (bytes : Bytes) (A B : Type 0) → is_ddt m ≡ false → B → IsCallUntimed (called m Function bytes) A B
word_untimed (Some (means.Builtin row)) bytes A B h k = builtin_untimed (builtin_at row) A B h k
word_untimed (Some (means.Function f)) bytes A B h k = k
word_untimed (Some (means.Access b turned flow)) bytes A B h k = tt
word_untimed m bytes A B h k = tt

system_untimed : (s : Option SystemName) (A B : Type 0) (Q : (ℕ → Bool) → Type 0) → ((test : ℕ → Bool) → ((i : ℕ) → test i ≡ true) → Q test → B)
    → ((test : ℕ → Bool) → test 0 ≡ true → Q test → A) → Q (looks s) → IsCallUntimed (system_called s) A B
system_untimed (Some (system_name.Function Limit)) A B Q all first h = first (looks (Some (system_name.Function Limit))) refl h
system_untimed (Some (system_name.Function s)) A B Q all first h = all (looks (Some (system_name.Function s))) (λ i. refl) h
system_untimed (Some system_name.Task) A B Q all first h = tt
system_untimed None A B Q all first h = tt

builtin_is_ddt : (b : Option Builtin) → is_ddt_function b ≡ true → builtin_called b ≡ builtin Ddt
builtin_is_ddt (Some Ddt) h = refl
builtin_is_ddt None h = cc (h)
builtin_is_ddt (Some b) h = cc (h)

word_is_ddt : (m : Option Meaning) (bytes : Bytes) → is_ddt m ≡ true → called m Function bytes ≡ builtin Ddt
word_is_ddt (Some (means.Builtin row)) bytes h = builtin_is_ddt (builtin_at row) h
word_is_ddt m bytes h = cc (h)

-- What holds neither `ddt` nor a timed variable is untimed: told by P of what is looked at.
module _ (M : Elaborated) (timed : ℕ → Bool) (P : Expression → Type 0)
    (at_name : (at : ℕ) (bytes : Bytes) → P (name at bytes) → IsNameUntimed M timed (M.meaning at))
    (at_call : (at : ℕ) (bytes : Bytes) (args : Arguments) → P (call at Function bytes args) → is_ddt (M.meaning at) ≡ false) where
  mutual
    pub untimed_from : (e : Expression) → AllByRecursion P (looked_at e) → IsUntimed M timed e
    untimed_from (literal at value integer) h = tt
    untimed_from (infinity at) h = tt
    untimed_from (name at bytes) h = at_name at bytes h.0
    untimed_from (group at inner) h = untimed_from inner h.1
    untimed_from (unary at op operand) h = untimed_from operand h.1
    untimed_from (binary at left op right) h = (
      untimed_from left (all_left P (looked_at left) (looked_at right) h.1),
      untimed_from right (all_right P (looked_at left) (looked_at right) h.1),
    )
    untimed_from (choose at test a b) h =
        let first = all_left P (looked_at test ++ looked_at a) (looked_at b) h.1 in
        (untimed_from test (all_left P (looked_at test) (looked_at a) first), untimed_from a (all_right P (looked_at test) (looked_at a) first), untimed_from b (all_right P (looked_at test ++ looked_at a) (looked_at b) h.1))
    untimed_from (call at Function bytes args) h =
        word_untimed (M.meaning at) bytes (IsFirstUntimed M timed args) (AreUntimed M timed args) (at_call at bytes args h.0)
        (arguments_untimed (call_looks Function bytes) (λ i. refl) 0 args h.1)
    untimed_from (call at System bytes args) h =
        system_untimed (system_name_of bytes) (IsFirstUntimed M timed args) (AreUntimed M timed args)
        (λ test. AllByRecursion P (looked_at_in_arguments test 0 args))
        (λ test all k. arguments_untimed test all 0 args k) (λ test first k. first_untimed test first args k) h.1

    arguments_untimed : (test : ℕ → Bool) → ((i : ℕ) → test i ≡ true) → (i : ℕ) (args : Arguments)
        → AllByRecursion P (looked_at_in_arguments test i args) → AreUntimed M timed args
    arguments_untimed test all i no_more h = tt
    arguments_untimed test all i (text_then text rest) h = arguments_untimed test all (i + 1) rest h
    arguments_untimed test all i (expression_then e rest) h = (
      untimed_from e
          (subst (λ (b : Bool). AllByRecursion P (if b then looked_at e else [])) (all i)
          (all_left P (if test i then looked_at e else []) (looked_at_in_arguments test (i + 1) rest) h)),
      arguments_untimed test all (i + 1) rest (all_right P (if test i then looked_at e else []) (looked_at_in_arguments test (i + 1) rest) h),
    )

    first_untimed : (test : ℕ → Bool) → test 0 ≡ true → (args : Arguments)
        → AllByRecursion P (looked_at_in_arguments test 0 args) → IsFirstUntimed M timed args
    first_untimed test first no_more h = tt
    first_untimed test first (text_then text rest) h = tt
    first_untimed test first (expression_then e rest) h =
        untimed_from e
        (subst (λ (b : Bool). AllByRecursion P (if b then looked_at e else [])) first
        (all_left P (if test 0 then looked_at e else []) (looked_at_in_arguments test 1 rest) h))

-- What isn't timed is untimed.
module _ (M : Elaborated) (timed : ℕ → Bool) where
  abbrev holds_time : Expression → Bool
  holds_time part = is_ddt (meaning_of M.meaning part) || is_variable_in timed (meaning_of M.meaning part)

  name_untimed : (m : Option Meaning) → (is_ddt m || is_variable_in timed m) ≡ false → IsNameUntimed M timed m
  name_untimed (Some (means.Var x)) h = h
  name_untimed m h = tt

  pub untimed_of : (e : Expression) → is_timed M.meaning timed e ≡ false → IsUntimed M timed e
  untimed_of e h =
      untimed_from M timed (λ part. holds_time part ≡ false) (λ at bytes k. name_untimed (M.meaning at) k)
      (λ at bytes args k. left_false (is_ddt (M.meaning at)) (is_variable_in timed (M.meaning at)) k) e (all_false holds_time (looked_at e) h)

  abbrev Calm : Expression → Type 0
  Calm e = is_timed M.meaning timed e ≡ false

  args_untimed : (test : ℕ → Bool) → ((i : ℕ) → test i ≡ true) → (i : ℕ) (args : Arguments) → AllByRecursion Calm (arguments_at test i args)
      → AreUntimed M timed args
  args_untimed test all i no_more h = tt
  args_untimed test all i (text_then text rest) h = args_untimed test all (i + 1) rest h
  args_untimed test all i (expression_then e rest) h = (
    untimed_of e
        (subst (λ (b : Bool). AllByRecursion Calm (if b then e ∷ [] else [])) (all i)
        (all_left Calm (if test i then e ∷ [] else []) (arguments_at test (i + 1) rest) h)).0,
    args_untimed test all (i + 1) rest (all_right Calm (if test i then e ∷ [] else []) (arguments_at test (i + 1) rest) h),
  )

  first_arg_untimed : (test : ℕ → Bool) → test 0 ≡ true → (args : Arguments) → AllByRecursion Calm (arguments_at test 0 args) → IsFirstUntimed M timed args
  first_arg_untimed test first no_more h = tt
  first_arg_untimed test first (text_then text rest) h = tt
  first_arg_untimed test first (expression_then e rest) h =
      untimed_of e
      (subst (λ (b : Bool). AllByRecursion Calm (if b then e ∷ [] else [])) first
      (all_left Calm (if test 0 then e ∷ [] else []) (arguments_at test 1 rest) h)).0

abbrev pub nothing_around : Around
nothing_around = record { conditions = []; in_loop = false }

-- What holds of each value that a statement asks for, in its list of values.
module _ (M : Elaborated) (P : Bool → Purpose → Expression → Type 0) where
  abbrev pub is_under : Around → Bool
  is_under around = around.in_loop || list_any M.is_biased around.conditions

  abbrev pub Holds : Value → Type 0
  Holds v = P (is_under v.around) v.purpose v.expression

  one_more_over : (l t c : Bool) → (l || (t || c)) ≡ ((l || c) || t)
  one_more_over true t c = refl
  one_more_over false t c = or_swap t c

  or_between : (l t c : Bool) → (l || (t || c)) ≡ (t || (l || c))
  or_between true true c = refl
  or_between true false c = refl
  or_between false t c = refl

  under_one : (around : Around) (b : Bool) (test : Expression) → is_under around ≡ b → is_under (within (test ∷ []) around) ≡ under M b test
  under_one around b test e =
      one_more_over around.in_loop (M.is_biased test) (list_any M.is_biased around.conditions) ∙ (λ j. e j || M.is_biased test)

  under_more : (around : Around) (b : Bool) (tests : List Expression) → is_under around ≡ b → is_under (within tests around) ≡ under_all M b tests
  under_more around b [] e = e
  under_more around b (test ∷ tests) e =
      or_between around.in_loop (M.is_biased test) (list_any M.is_biased (tests ++ around.conditions))
      ∙ (λ j. M.is_biased test || under_more around b tests e j) ∙ sym (one_more_under M (λ x. false) b (M.is_biased test) tests)

  tested_from : (b : Bool) (around : Around) → is_under around ≡ b → (tests : List Expression) → AllByRecursion Holds (map (value_for around tested) tests)
      → EachTested M P b tests
  tested_from b around e [] h = tt
  tested_from b around e (test ∷ tests) h = (subst (λ (x : Bool). P x tested test) e h.0, tested_from b around e tests h.1)

  mutual
    pub each_from : (b : Bool) (around : Around) → is_under around ≡ b → (p : Statement) → AllByRecursion Holds (values_in around p) → EachValue M P b p
    each_from b around e (null at) h = tt
    each_from b around e (block at label declarations body) h =
        all_from b around e body (all_right Holds (map (value_for around initial) (declared declarations)) (values_in_statements around body) h)
    each_from b around e (only_if at test first) h =
        (subst (λ (x : Bool). P x tested test) e h.0, each_from (under M b test) (within (test ∷ []) around) (under_one around b test e) first h.1)
    each_from b around e (if_else at test first second) h = (
      subst (λ (x : Bool). P x tested test) e h.0,
      each_from (under M b test) (within (test ∷ []) around) (under_one around b test e) first
          (all_left Holds (values_in (within (test ∷ []) around) first) (values_in (within (test ∷ []) around) second) h.1),
      each_from (under M b test) (within (test ∷ []) around) (under_one around b test e) second
          (all_right Holds (values_in (within (test ∷ []) around) first) (values_in (within (test ∷ []) around) second) h.1),
    )
    each_from b around e (cases at selector items defaults) h =
        let tests = selector ∷ tests_of items in
        let flag = under_more around b tests e ∙ ap (λ es. under_all M b (selector ∷ es)) (tests_are_values M (λ x. false) items) in
        let before = all_left Holds (map (value_for around tested) tests ++ values_in_items (within tests around) items) (values_in_defaults (within tests around) defaults) h in (
          subst (λ (es : List Expression). EachTested M P b (selector ∷ es)) (tests_are_values M (λ x. false) items)
              (tested_from b around e tests (all_left Holds (map (value_for around tested) tests) (values_in_items (within tests around) items) before)),
          items_from (under_all M b (selector ∷ item_values items)) (within tests around) flag items
              (all_right Holds (map (value_for around tested) tests) (values_in_items (within tests around) items) before),
          defaults_from (under_all M b (selector ∷ item_values items)) (within tests around) flag defaults
              (all_right Holds (map (value_for around tested) tests ++ values_in_items (within tests around) items) (values_in_defaults (within tests around) defaults) h),
        )
    each_from b around e (for_loop at target first test target' step body) h =
        (subst (λ (x : Bool). P x tested test) e h.0, h.1.0, h.1.1.0, each_from true (looped test around) refl body h.1.1.1)
    each_from b around e (while_loop at test body) h =
        (subst (λ (x : Bool). P x tested test) e h.0, each_from true (looped test around) refl body h.1)
    each_from b around e (repeat_loop at count body) h =
        (subst (λ (x : Bool). P x tested count) e h.0, each_from true (looped count around) refl body h.1)
    each_from b around e (event at InitialStep analyses body) h = each_from b around e body h
    each_from b around e (event at FinalStep analyses body) h = tt
    each_from b around e (assign at target value) h = subst (λ (x : Bool). P x (assigned at) value) e h.0
    each_from b around e (contribute at bytes first second value) h = subst (λ (x : Bool). P x (contributed at) value) e h.0
    each_from b around e (task at bytes args) h = tt

    all_from : (b : Bool) (around : Around) → is_under around ≡ b → (ps : Statements) → AllByRecursion Holds (values_in_statements around ps)
        → EachValueOfAll M P b ps
    all_from b around e no_statement h = tt
    all_from b around e (statement_then p ps) h = (
      each_from b around e p (all_left Holds (values_in around p) (values_in_statements around ps) h),
      all_from b around e ps (all_right Holds (values_in around p) (values_in_statements around ps) h),
    )

    items_from : (b : Bool) (around : Around) → is_under around ≡ b → (items : Items) → AllByRecursion Holds (values_in_items around items)
        → EachValueOfItems M P b items
    items_from b around e no_items h = tt
    items_from b around e (item_then at values body rest) h = (
      each_from b around e body (all_left Holds (values_in around body) (values_in_items around rest) h),
      items_from b around e rest (all_right Holds (values_in around body) (values_in_items around rest) h),
    )

    defaults_from : (b : Bool) (around : Around) → is_under around ≡ b → (defaults : Defaults) → AllByRecursion Holds (values_in_defaults around defaults)
        → EachValueOfDefaults M P b defaults
    defaults_from b around e no_defaults h = tt
    defaults_from b around e (default_then at body rest) h = (
      each_from b around e body (all_left Holds (values_in around body) (values_in_defaults around rest) h),
      defaults_from b around e rest (all_right Holds (values_in around body) (values_in_defaults around rest) h),
    )

  pub blocks_from : (blocks : List Statement) → AllByRecursion Holds (values_of blocks) → EachValueOfBlocks M P blocks
  blocks_from [] h = tt
  blocks_from (p ∷ ps) h = (
    each_from false nothing_around refl p (all_left Holds (values_in nothing_around p) (values_of ps) h),
    blocks_from ps (all_right Holds (values_in nothing_around p) (values_of ps) h),
  )

-- IsLinearHere places, by the parts of an expression that the rules look at.
module _ (names : ModuleNames) (m : Module) where
  abbrev types : Typing
  types = typing_of names.uses m

  abbrev a : Analysis
  a = analysis_of names (analog_bodies m)

  abbrev seen : Elaborated
  seen = elaborated names m

  abbrev IsQuiet : Expression → Type 0
  IsQuiet e = is_timed a.meaning a.timed e ≡ false

  abbrev IsUntimedHere : Expression → Type 0
  IsUntimedHere e = IsUntimed seen a.timed e

  abbrev IsLinearHere : Expression → Type 0
  IsLinearHere e = IsLinear seen a.biased a.timed e

  abbrev AreQuiet : List Expression → Type 0
  AreQuiet = AllByRecursion IsQuiet

  -- what the rules say of an expression by itself
  abbrev IsSound : Expression → Type 0
  IsSound e = AreQuiet (strict_parts types a e) × AreQuiet (biased_arms types a e) × AreQuiet (arguments_of_ddt types a e)

  quiet : (e : Expression) → IsQuiet e → IsUntimedHere e
  quiet e h = untimed_of seen a.timed e h

  plain_parts : (b t : Bool) → (not b && not t) ≡ true → (b ≡ false) × (t ≡ false)
  plain_parts false false h = (refl, refl)
  plain_parts false true h = cc (h)
  plain_parts true t h = cc (h)

  plain : (e : Expression) → is_plain types a e ≡ true → IsPlain seen a.biased a.timed e
  plain e h =
      let parts = plain_parts (is_biased a.meaning a.biased e) (is_timed a.meaning a.timed e) h in
      (unbiased_fixed seen a.biased e parts.0, quiet e parts.1)

  product : (at : ℕ) (left right : Expression) (p q : Bool) → is_plain types a left ≡ p → is_plain types a right ≡ q
      → AreQuiet ((if q then [] else left ∷ []) ++ (if p then [] else right ∷ [])) → IsLinearHere left → IsLinearHere right → IsLinearHere (binary at left Multiply right)
  product at left right p true e f h k l = times_plain k (plain right f)
  product at left right true false e f h k l = plain_times (plain left e) l
  product at left right false false e f h k l = untimed (quiet left h.0, quiet right h.1.0)

  ratio : (at : ℕ) (left right : Expression) (q : Bool) → is_plain types a right ≡ q → AreQuiet ((if q then [] else left ∷ []) ++ right ∷ [])
      → IsLinearHere left → IsLinearHere (binary at left Divide right)
  ratio at left right true f h k = over_plain k (plain right f)
  ratio at left right false f h k = untimed (quiet left h.0, quiet right h.1.0)

  choice : (at : ℕ) (test first second : Expression) (b : Bool) → is_biased a.meaning a.biased test ≡ b → IsQuiet test
      → AreQuiet (if b then first ∷ second ∷ [] else []) → IsLinearHere first → IsLinearHere second → IsLinearHere (choose at test first second)
  choice at test first second true e q h k l = untimed (quiet test q, quiet first h.0, quiet second h.1.0)
  choice at test first second false e q h k l = chosen (unbiased_fixed seen a.biased test e, quiet test q) k l

  word_linear : (at : ℕ) (bytes : Bytes) (args : Arguments) (d : Bool) → is_ddt (seen.meaning at) ≡ d
      → AreQuiet (if d then [] else arguments_of_call Function bytes args) → AreQuiet (if d then arguments_of_call Function bytes args else [])
      → IsLinearHere (call at Function bytes args)
  word_linear at bytes args true e h k =
      derivative (word_is_ddt (seen.meaning at) bytes e) (args_untimed seen a.timed (call_looks Function bytes) (λ i. refl) 0 args k)
  word_linear at bytes args false e h k =
      untimed (word_untimed (seen.meaning at) bytes (IsFirstUntimed seen a.timed args) (AreUntimed seen a.timed args) e
      (args_untimed seen a.timed (call_looks Function bytes) (λ i. refl) 0 args h))

  either_quiet : (d : Bool) (es : List Expression) → AreQuiet (if d then [] else es) → AreQuiet (if d then es else []) → AreQuiet es
  either_quiet true es h k = k
  either_quiet false es h k = h

  linear : (e : Expression) → AllByRecursion IsSound (looked_at e) → IsLinearHere e
  linear (literal at value integer) h = untimed tt
  linear (infinity at) h = untimed tt
  linear (name at bytes) h = timed_variable
  linear (group at inner) h = parentheses (linear inner h.1)
  linear (unary at Plus operand) h = plus (linear operand h.1)
  linear (unary at Minus operand) h = minus (linear operand h.1)
  linear (unary at Not operand) h = untimed (quiet operand h.0.0.0)
  linear (binary at left Add right) h =
      sum (linear left (all_left IsSound (looked_at left) (looked_at right) h.1)) (linear right (all_right IsSound (looked_at left) (looked_at right) h.1))
  linear (binary at left Subtract right) h =
      difference (linear left (all_left IsSound (looked_at left) (looked_at right) h.1)) (linear right (all_right IsSound (looked_at left) (looked_at right) h.1))
  linear (binary at left Multiply right) h =
      product at left right (is_plain types a left) (is_plain types a right) refl refl h.0.0
      (linear left (all_left IsSound (looked_at left) (looked_at right) h.1)) (linear right (all_right IsSound (looked_at left) (looked_at right) h.1))
  linear (binary at left Divide right) h =
      ratio at left right (is_plain types a right) refl h.0.0 (linear left (all_left IsSound (looked_at left) (looked_at right) h.1))
  linear (binary at left op right) h = untimed (quiet left h.0.0.0, quiet right h.0.0.1.0)
  linear (choose at test first second) h =
      let before = all_left IsSound (looked_at test ++ looked_at first) (looked_at second) h.1 in
      choice at test first second (is_biased a.meaning a.biased test) refl h.0.0.0 h.0.1
      (linear first (all_right IsSound (looked_at test) (looked_at first) before))
      (linear second (all_right IsSound (looked_at test ++ looked_at first) (looked_at second) h.1))
  linear (call at Function bytes args) h = word_linear at bytes args (is_ddt (seen.meaning at)) refl h.0.0 h.0.2
  linear (call at System bytes args) h =
      untimed (system_untimed (system_name_of bytes) (IsFirstUntimed seen a.timed args) (AreUntimed seen a.timed args)
      (λ test. AreQuiet (arguments_at test 0 args))
      (λ test all k. args_untimed seen a.timed test all 0 args k) (λ test first k. first_arg_untimed seen a.timed test first args k)
      (either_quiet (is_ddt (seen.meaning at)) (arguments_of_call System bytes args) h.0.0 h.0.2))

  -- values, by their purpose
  right_side : (l c : Bool) (e : Expression) → AreQuiet (if l then e ∷ [] else []) → AreQuiet (if c then e ∷ [] else []) → IsLinearHere e
      → RightSide seen a.biased a.timed (l || c) e
  right_side true c e h k n = quiet e h.0
  right_side false true e h k n = quiet e k.0
  right_side false false e h k n = n

  of_type : (ty : Ty) (here : Bool) (e : Expression) → AreQuiet (if not (is_integer ty) then [] else e ∷ []) → RightSide seen a.biased a.timed here e
      → OfType seen a.biased a.timed ty here e
  of_type Integer here e h k = quiet e h.0
  of_type Real here e h k = k

  assignment_linear : (n : Option Meaning) (here : Bool) (e : Expression) → AreQuiet (if not (is_integer_variable types a n) then [] else e ∷ [])
      → RightSide seen a.biased a.timed here e → AssignmentIsLinear seen a.biased a.timed n here e
  assignment_linear (Some (means.Var x)) here e h k = of_type (get_or types.variables x Real) here e h k
  assignment_linear n here e h k = k

  abbrev SoundValue : Value → Type 0
  SoundValue v =
      AllByRecursion IsSound (looked_at v.expression)
      × AreQuiet (strict_value types a v) × AreQuiet (biased_right_side types a v) × AreQuiet (looped_right_side types a v)

  value_linear : (p : Purpose) (around : Around) (e : Expression) → SoundValue (record { purpose = p; expression = e; around = around })
      → ValueIsLinear seen a.biased a.timed (is_under seen (ValueIsLinear seen a.biased a.timed) around) p e
  value_linear (assigned at) around e h =
      assignment_linear (seen.meaning at) (around.in_loop || list_any seen.is_biased around.conditions) e h.1
      (right_side around.in_loop (list_any seen.is_biased around.conditions) e h.3 h.2 (linear e h.0))
  value_linear (contributed at) around e h =
      right_side around.in_loop (list_any seen.is_biased around.conditions) e h.3 h.2 (linear e h.0)
  value_linear tested around e h = quiet e h.1.0
  value_linear initial around e h = quiet e h.1.0

  values_linear : (vs : List Value) → AllByRecursion SoundValue vs → AllByRecursion (Holds seen (ValueIsLinear seen a.biased a.timed)) vs
  values_linear [] h = tt
  values_linear (v ∷ vs) h = (value_linear v.purpose v.around v.expression h.0, values_linear vs h.1)

  -- where no rule on time derivatives is broken
  module _ (nonlinear : ddt_nonlinear types a ≡ []) (under_bias : ddt_under_bias types a ≡ []) (in_loop : ddt_in_loop types a ≡ []) (twice : ddt_twice types a ≡ []) where
    abbrev timed_there : Expression → Bool
    timed_there e = is_timed a.meaning a.timed e

    all_quiet : (xs all : List Expression) → map at_of (filter timed_there all) ≡ [] → ((x : Expression) → Has xs x → Has all x) → AreQuiet xs
    all_quiet xs all e within_all =
        all_of_has IsQuiet xs (λ x h. none_left timed_there all x (map_empty at_of (filter timed_there all) e) (within_all x h) (timed_there x) refl)

    sound_part : (v : Value) → Has a.values v → (e : Expression) → Has (looked_at v.expression) e → IsSound e
    sound_part v h e k =
        let found = has_flat (λ (v : Value). looked_at v.expression) a.values v e h k in (
          all_quiet (strict_parts types a e) (flat_map (strict_parts types a) (evaluated a.values) ++ flat_map (strict_value types a) a.values) nonlinear
              (λ x l. has_left _ _ x (has_flat (strict_parts types a) (evaluated a.values) e x found l)),
          all_quiet (biased_arms types a e) (flat_map (biased_right_side types a) a.values ++ flat_map (biased_arms types a) (evaluated a.values)) under_bias
              (λ x l. has_right (flat_map (biased_right_side types a) a.values) _ x (has_flat (biased_arms types a) (evaluated a.values) e x found l)),
          all_quiet (arguments_of_ddt types a e) (flat_map (arguments_of_ddt types a) (evaluated a.values)) twice
              (λ x l. has_flat (arguments_of_ddt types a) (evaluated a.values) e x found l),
        )

    sound_value : (v : Value) → Has a.values v → SoundValue v
    sound_value v h = (
      all_of_has IsSound (looked_at v.expression) (λ e k. sound_part v h e k),
      all_quiet (strict_value types a v) (flat_map (strict_parts types a) (evaluated a.values) ++ flat_map (strict_value types a) a.values) nonlinear
          (λ x l. has_right (flat_map (strict_parts types a) (evaluated a.values)) _ x (has_flat (strict_value types a) a.values v x h l)),
      all_quiet (biased_right_side types a v) (flat_map (biased_right_side types a) a.values ++ flat_map (biased_arms types a) (evaluated a.values)) under_bias
          (λ x l. has_left _ _ x (has_flat (biased_right_side types a) a.values v x h l)),
      all_quiet (looped_right_side types a v) (flat_map (looped_right_side types a) a.values) in_loop
          (λ x l. has_flat (looped_right_side types a) a.values v x h l),
    )

    pub linear_module : EachValueOfBlocks seen (ValueIsLinear seen a.biased a.timed) (analog_bodies m)
    linear_module =
        blocks_from seen (ValueIsLinear seen a.biased a.timed) (analog_bodies m)
        (values_linear a.values (all_of_has SoundValue a.values sound_value))

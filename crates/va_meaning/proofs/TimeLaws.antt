-- A module of a text without faults keeps to its timed variables: these are the least set, functions hold no `ddt`, and initialisers are
-- constant.
use Rattle.std.specs.Prelude.{◌≡◌, ℕ, zero, suc, ◌+◌, ◌==◌, ◌&&◌, ◌||◌, Bool, true, false, not, List, [], ◌∷◌, ◌++◌, map, filter, filter_map, flat_map, zip, Option, Some, None, option_map}
use Rattle.std.specs.List.{AllByRecursion, slice_get, list_any, cons_option, enumerate_from}
use Rattle.std.proofs.Common.{refl, ap, sym, ◌∙◌, subst, arith, inl, inr}
use Rattle.std.proofs.lemmas.Bool.{eq-eqb}
use Rattle.va_base.specs.declared.fault.FaultCode.TheVariants.{NotConstant, DdtNonLinear, DdtUnderBias, DdtInLoop, DdtInFunction, DdtTwice}
use Rattle.va_sem.specs.declared.builtin.Builtin.{Builtin}
use Rattle.va_sem.specs.declared.builtin.Builtin.TheVariants.{Ddt}
use Rattle.va_sem.specs.declared.names.Meaning.{Meaning}
use Rattle.va_sem.specs.declared.names.Meaning.TheVariants as means
use Rattle.va_sem.specs.declared.names.ModuleNames.{ModuleNames}
use Rattle.va_sem.specs.Builtins.{builtin_at}
use Rattle.va_sem.specs.Declarations.{FunctionEntry, VariableEntry, variable, type_of_word, declared_variables, block_variables, variables_in_blocks, analog_bodies, analog_body, functions_of}
use Rattle.va_sem.specs.Faults.{module_rules_faults}
use Rattle.va_sem.specs.LookedAt.{looked_at}
use Rattle.va_sem.specs.Meanings.{names_of, names_of_module}
use Rattle.va_sem.specs.NamesFaults.{FaultAt, fault_if, all_statements, all_at}
use Rattle.va_sem.specs.TextOrder.{number_at}
use Rattle.va_sem.specs.Typing.{Typing, meaning_at, modules_with, typing_of}
use Rattle.va_sem.specs.TypesFaults.{module_types_faults, constant_faults, is_constant, call_is_constant, builtin_may_be_called, item_initialisers, initialisers_of as initialisers_written}
use Rattle.va_sem.specs.Walks.{statements_in, in_statements, in_items, in_defaults, in_effect, statements_in_effect, items_in_effect, defaults_in_effect, block_declarations}
use Rattle.va_sem.specs.rules.Biased.{Analysis, analysis_of, is_timed, is_assigned_to}
use Rattle.va_sem.specs.rules.Limits.{limits}
use Rattle.va_sem.specs.rules.TimeDerivatives.{ddt_nonlinear, ddt_under_bias, ddt_in_loop, ddt_twice, ddt_in_function}
use Rattle.va_sem.specs.rules.Uses.{meaning_of, is_ddt, is_ddt_function, is_variable_in}
use Rattle.va_sem.specs.rules.Values.{Purpose, assigned, Value, evaluated, values_in, values_of}
use Rattle.va_sem.proofs.Contained.{Has, all_of_has, all_left, all_right, all_join, all_flat, all_flat_has, all_in_order, has_left, has_right, has_flat, has_map, each_empty, left_empty, right_empty, map_empty}
use Rattle.va_sem.proofs.NumberedNames.{names_are_numbered}
use Rattle.va_sem.proofs.RuleLaws.{rules_give_least_sets}
use Rattle.va_tree.specs.declared.expr.Expr.{Expr}
use Rattle.va_tree.specs.declared.module.Declaration.{Declaration}
use Rattle.va_tree.specs.declared.module.Item.{Item}
use Rattle.va_tree.specs.declared.module.ItemBody.{ItemBody}
use Rattle.va_tree.specs.declared.module.ItemBody.TheVariants.{Variables, Analog}
use Rattle.va_tree.specs.declared.module.Module.{Module}
use Rattle.va_tree.specs.declared.module.Ty.{Ty as WrittenTy}
use Rattle.va_tree.specs.declared.module.Variable.{Variable}
use Rattle.va_tree.specs.declared.source.Source.{Source}
use Rattle.va_tree.specs.declared.stmt.EventKind.TheVariants.{InitialStep, FinalStep}
use Rattle.va_tree.specs.Declarations.{declared, initialisers, if_there}
use Rattle.va_tree.specs.Expressions.{Expression, at_of, expression_of}
use Rattle.va_tree.specs.Statements.{Statement, Statements, Items, Defaults, null, block, only_if, if_else, cases, for_loop, while_loop, repeat_loop, event, assign, contribute, task, no_more as no_statement, statement_then, no_items, item_then, no_defaults, default_then, statement_of}
use Rattle.va_meaning.specs.EachValue.{EachValue, EachValueOfBlocks}
use Rattle.va_meaning.specs.Elaborated.{Elaborated, Initialiser}
use Rattle.va_meaning.specs.Elaboration.{elaborated, initialiser_of, initialisers_of, function_of, evaluated_variables}
use Rattle.va_meaning.specs.TimeLaws.{IsOfSoundText, TimeLaws}
use Rattle.va_meaning.specs.Timed.{IsNameUntimed, IsUntimed, InitialisersUntimed, AssignmentKeepsTime, ValueKeepsTime, HoldsNoDdt, FunctionHoldsNoDdt, KeepsToTime, HasLinearTime}
use Rattle.va_meaning.proofs.Timed.{none_left, untimed_from, untimed_of, Holds, nothing_around, is_under, each_from, blocks_from, linear_module}

pub any_has : {T : Type 0} (f : T → Bool) (xs : List T) (x : T) → Has xs x → f x ≡ true → list_any f xs ≡ true
any_has f [] x h e = absurd h
any_has f (y ∷ ys) x (inl is) e = (λ j. (ap f is ∙ e) j || list_any f ys)
any_has f (y ∷ ys) x (inr h) e = behind (f y) (list_any f ys) (any_has f ys x h e)
  where
    behind : (a b : Bool) → b ≡ true → (a || b) ≡ true
    behind true b h = refl
    behind false b h = h

all_weaker : {T : Type 0} (P Q : T → Type 0) → ((x : T) → P x → Q x) → (xs : List T) → AllByRecursion P xs → AllByRecursion Q xs
all_weaker P Q h [] k = tt
all_weaker P Q h (x ∷ xs) k = (h x k.0, all_weaker P Q h xs k.1)

-- what is constant holds no `ddt`
builtin_calm : (b : Option Builtin) (at : ℕ) → fault_if (not (builtin_may_be_called b)) at NotConstant ≡ [] → is_ddt_function b ≡ false
builtin_calm (Some Ddt) at h = cc (h)
builtin_calm b at h = refl

call_calm : (n : Option Meaning) (at : ℕ) → fault_if (not (call_is_constant n)) at NotConstant ≡ [] → is_ddt n ≡ false
call_calm (Some (means.Builtin row)) at h = builtin_calm (builtin_at row) at h
call_calm n at h = refl

-- In a module whose initialisers are constant and whose functions hold no `ddt`.
module _ (names : ModuleNames) (m : Module) where
  abbrev types : Typing
  types = typing_of names.uses m

  abbrev a : Analysis
  a = analysis_of names (analog_bodies m)

  abbrev seen : Elaborated
  seen = elaborated names m

  abbrev bodies : List Statement
  bodies = map (λ (f : FunctionEntry). f.body) (functions_of m)

  abbrev Free : Expression → Type 0
  Free e = IsUntimed seen (λ x. false) e

  no_name : (n : Option Meaning) → IsNameUntimed seen (λ x. false) n
  no_name (Some (means.Var x)) = refl
  no_name n = tt

  -- the initialisers of blocks and of variables
  abbrev IfFree : Option Expression → Type 0
  IfFree None = Unit {0}
  IfFree (Some e) = Free e

  abbrev Begins : VariableEntry → Type 0
  Begins v = IfFree v.initialiser

  begins_with : (e : Option Expr) → AllByRecursion Free (if_there e) → IfFree (option_map expression_of e)
  begins_with None h = tt
  begins_with (Some e) h = h.0

  variables_begin : (ty : WrittenTy) (vs : List Variable) → AllByRecursion Free (initialisers vs) → AllByRecursion Begins (map (variable (type_of_word ty)) vs)
  variables_begin ty [] h = tt
  variables_begin ty (v ∷ vs) h = (
    begins_with v.initialiser (all_left Free (if_there v.initialiser) (initialisers vs) h),
    variables_begin ty vs (all_right Free (if_there v.initialiser) (initialisers vs) h),
  )

  declarations_begin : (ds : List Declaration) → AllByRecursion Free (declared ds) → AllByRecursion Begins (flat_map declared_variables ds)
  declarations_begin [] h = tt
  declarations_begin (d ∷ ds) h =
      all_join Begins (declared_variables d) (flat_map declared_variables ds)
      (variables_begin d.ty d.variables (all_left Free (initialisers d.variables) (declared ds) h))
      (declarations_begin ds (all_right Free (initialisers d.variables) (declared ds) h))

  abbrev BlockFree : Statement → Type 0
  BlockFree s = AllByRecursion Free (declared (block_declarations s))

  mutual
    effect_free : (s : Statement) → AllByRecursion BlockFree (statements_in s) → AllByRecursion BlockFree (statements_in (in_effect s))
    effect_free (null at) h = h
    effect_free (block at label declarations body) h = (h.0, effects_free body h.1)
    effect_free (only_if at test b) h = (tt, effect_free b h.1)
    effect_free (if_else at test b c) h = (
      tt,
      all_join BlockFree (statements_in (in_effect b)) (statements_in (in_effect c))
          (effect_free b (all_left BlockFree (statements_in b) (statements_in c) h.1))
          (effect_free c (all_right BlockFree (statements_in b) (statements_in c) h.1)),
    )
    effect_free (cases at selector items defaults) h = (
      tt,
      all_join BlockFree (in_items (items_in_effect items)) (in_defaults (defaults_in_effect defaults))
          (items_free items (all_left BlockFree (in_items items) (in_defaults defaults) h.1))
          (defaults_free defaults (all_right BlockFree (in_items items) (in_defaults defaults) h.1)),
    )
    effect_free (for_loop at target first test target' step body) h = (tt, effect_free body h.1)
    effect_free (while_loop at test body) h = (tt, effect_free body h.1)
    effect_free (repeat_loop at count body) h = (tt, effect_free body h.1)
    effect_free (event at InitialStep analyses body) h = (tt, effect_free body h.1)
    effect_free (event at FinalStep analyses body) h = (tt, tt)
    effect_free (assign at target value) h = (tt, tt)
    effect_free (contribute at bytes first second value) h = (tt, tt)
    effect_free (task at bytes args) h = (tt, tt)

    effects_free : (s : Statements) → AllByRecursion BlockFree (in_statements s) → AllByRecursion BlockFree (in_statements (statements_in_effect s))
    effects_free no_statement h = tt
    effects_free (statement_then s rest) h =
        all_join BlockFree (statements_in (in_effect s)) (in_statements (statements_in_effect rest))
        (effect_free s (all_left BlockFree (statements_in s) (in_statements rest) h))
        (effects_free rest (all_right BlockFree (statements_in s) (in_statements rest) h))

    items_free : (items : Items) → AllByRecursion BlockFree (in_items items) → AllByRecursion BlockFree (in_items (items_in_effect items))
    items_free no_items h = tt
    items_free (item_then at values body rest) h =
        all_join BlockFree (statements_in (in_effect body)) (in_items (items_in_effect rest))
        (effect_free body (all_left BlockFree (statements_in body) (in_items rest) h))
        (items_free rest (all_right BlockFree (statements_in body) (in_items rest) h))

    defaults_free : (defaults : Defaults) → AllByRecursion BlockFree (in_defaults defaults) → AllByRecursion BlockFree (in_defaults (defaults_in_effect defaults))
    defaults_free no_defaults h = tt
    defaults_free (default_then at body rest) h =
        all_join BlockFree (statements_in (in_effect body)) (in_defaults (defaults_in_effect rest))
        (effect_free body (all_left BlockFree (statements_in body) (in_defaults rest) h))
        (defaults_free rest (all_right BlockFree (statements_in body) (in_defaults rest) h))

  blocks_begin : (s : Statement) → AllByRecursion BlockFree (statements_in s) → AllByRecursion Begins (variables_in_blocks (in_effect s))
  blocks_begin s h =
      all_flat Begins block_variables (statements_in (in_effect s))
      (all_weaker BlockFree (λ s. AllByRecursion Begins (block_variables s)) (λ s k. declarations_begin (block_declarations s) k)
      (statements_in (in_effect s)) (effect_free s h))

  item_begins : (body : ItemBody) → ((e : Expression) → Has (item_initialisers body) e → Free e)
      → ((s : Statement) → Has (analog_body body) s → AllByRecursion BlockFree (statements_in s)) → AllByRecursion Begins (evaluated_variables body)
  item_begins (Variables d) h k = variables_begin d.ty d.variables (all_of_has Free (initialisers d.variables) h)
  item_begins (Analog at body) h k = blocks_begin (statement_of body) (k (statement_of body) (inl refl))
  item_begins other h k = tt

  entry_free : (numbers : List ℕ) (v : VariableEntry) (e : Option Expression) (is : List Initialiser) → IfFree e → InitialisersUntimed seen (λ x. false) is
      → InitialisersUntimed seen (λ x. false) (cons_option (option_map (λ e. record { variable = number_at numbers v.name.at; value = e }) e) is)
  entry_free numbers v None is h k = k
  entry_free numbers v (Some e) is h k = (h, k)

  initialisers_free : (numbers : List ℕ) (vs : List VariableEntry) → AllByRecursion Begins vs
      → InitialisersUntimed seen (λ x. false) (filter_map (initialiser_of numbers) vs)
  initialisers_free numbers [] h = tt
  initialisers_free numbers (v ∷ vs) h =
      entry_free numbers v v.initialiser (filter_map (initialiser_of numbers) vs) h.0 (initialisers_free numbers vs h.1)

  in_order_free : (numbers : List ℕ) (vs : List VariableEntry) → AllByRecursion Begins vs
      → InitialisersUntimed seen (λ x. false) (initialisers_of numbers vs)
  in_order_free numbers vs h = initialisers_free numbers _ (all_in_order (λ (v : VariableEntry). v.name.at) Begins vs h)

  abbrev IsFunctionFree : FunctionEntry → Type 0
  IsFunctionFree f = AllByRecursion Begins (variables_in_blocks (in_effect f.body)) × EachValue seen (HoldsNoDdt seen) false f.body

  functions_free : (numbers : List ℕ) (fs : List FunctionEntry) → AllByRecursion IsFunctionFree fs → (f : ℕ)
      → FunctionHoldsNoDdt seen (slice_get (map (function_of numbers) fs) f)
  functions_free numbers [] h f = tt
  functions_free numbers (x ∷ fs) h zero = (in_order_free numbers (variables_in_blocks (in_effect x.body)) h.0.0, h.0.1)
  functions_free numbers (x ∷ fs) h (suc f) = functions_free numbers fs h.1 f

  module _ (constant : flat_map (constant_faults names.uses (λ n. true)) (initialisers_written m) ≡ []) (in_function : ddt_in_function types a bodies ≡ []) where
    abbrev constant_part : Expression → List FaultAt
    constant_part inner = fault_if (not (is_constant names.uses (λ n. true) inner)) (at_of inner) NotConstant

    constant_free : (e : Expression) → Has (initialisers_written m) e → Free e
    constant_free e h =
        let none = each_empty (constant_faults names.uses (λ n. true)) (initialisers_written m) e constant h in
        untimed_from seen (λ x. false) (λ inner. constant_part inner ≡ []) (λ at bytes k. no_name (seen.meaning at)) (λ at bytes args k. call_calm (seen.meaning at) at k) e
        (all_of_has (λ inner. constant_part inner ≡ []) (looked_at e) (λ inner k. each_empty constant_part (looked_at e) inner none k))

    block_free : (s : Statement) → Has (analog_bodies m ++ bodies) s → AllByRecursion BlockFree (statements_in s)
    block_free s h =
        all_of_has BlockFree (statements_in s)
        (λ inner k. all_of_has Free (declared (block_declarations inner))
        (λ e l. constant_free e
        (has_right (flat_map (λ (i : Item). item_initialisers i.body) m.items) _ e
        (has_flat (λ s. declared (block_declarations s)) (all_statements m) inner e (has_flat statements_in (analog_bodies m ++ bodies) s inner h k) l))))

    items_begin : AllByRecursion Begins (flat_map (λ (i : Item). evaluated_variables i.body) m.items)
    items_begin =
        all_flat_has Begins (λ (i : Item). evaluated_variables i.body) m.items
        (λ i h. item_begins i.body
        (λ e k. constant_free e (has_left _ _ e (has_flat (λ (i : Item). item_initialisers i.body) m.items i e h k)))
        (λ s k. block_free s (has_left (analog_bodies m) bodies s (has_flat (λ (i : Item). analog_body i.body) m.items i s h k))))

    abbrev is_derivative : Expression → Bool
    is_derivative e = is_ddt (meaning_of a.meaning e)

    part_free : (e : Expression) → Has (evaluated (values_of bodies)) e → is_derivative e ≡ false
    part_free e h =
        none_left is_derivative (evaluated (values_of bodies)) e (map_empty at_of (filter is_derivative (evaluated (values_of bodies))) in_function) h (is_derivative e) refl

    value_free : (v : Value) → Has (values_of bodies) v → Free v.expression
    value_free v h =
        untimed_from seen (λ x. false) (λ e. is_derivative e ≡ false) (λ at bytes k. no_name (seen.meaning at)) (λ at bytes args k. k) v.expression
        (all_of_has (λ e. is_derivative e ≡ false) (looked_at v.expression)
        (λ e k. part_free e (has_flat (λ (v : Value). looked_at v.expression) (values_of bodies) v e h k)))

    body_free : (s : Statement) → Has bodies s → EachValue seen (HoldsNoDdt seen) false s
    body_free s h =
        each_from seen (HoldsNoDdt seen) false nothing_around refl s
        (all_of_has (Holds seen (HoldsNoDdt seen)) (values_in nothing_around s) (λ v k. value_free v (has_flat (values_in nothing_around) bodies s v h k)))

    function_free : (f : FunctionEntry) → Has (functions_of m) f → IsFunctionFree f
    function_free f h =
        let there = has_map (λ (f : FunctionEntry). f.body) (functions_of m) f h in
        (blocks_begin f.body (block_free f.body (has_right (analog_bodies m) bodies f.body there)), body_free f.body there)

-- Timed variables are closed under assignments.
module _ (s : Source) (number : ℕ) (m : Module) where
  abbrev its_names : ModuleNames
  its_names = names_of_module s number m

  abbrev its : Analysis
  its = analysis_of its_names (analog_bodies m)

  timed_closed : (v : Value) → Has its.values v → (at x : ℕ) → v.purpose ≡ assigned at → meaning_at its_names.uses at ≡ Some (means.Var x)
      → its.timed x ≡ false → (d : Bool) → is_timed its.meaning its.timed v.expression ≡ d → d ≡ false
  timed_closed v h at x p e is false g = refl
  timed_closed v h at x p e is true g =
      sym
      ((rules_give_least_sets.timed s number m (analog_bodies m)).closed x (names_are_numbered.variables s number m at x e)
      (any_has (λ (w : Value). is_assigned_to its.meaning x w.purpose && is_timed its.meaning its.timed w.expression) its.values v h
      (λ j. ((λ i. is_assigned_to its.meaning x (p i)) ∙ ap (is_variable_in (λ other. other == x)) e ∙ eq-eqb x x refl) j && g j)))
      ∙ is

  assignment_keeps : (v : Value) → Has its.values v → (at : ℕ) → v.purpose ≡ assigned at → (n : Option Meaning) → meaning_at its_names.uses at ≡ n
      → AssignmentKeepsTime (elaborated its_names m) its.timed n v.expression
  assignment_keeps v h at p (Some (means.Var x)) e =
      λ is. untimed_of (elaborated its_names m) its.timed v.expression (timed_closed v h at x p e is (is_timed its.meaning its.timed v.expression) refl)
  assignment_keeps v h at p n e = tt

  value_keeps : (here : Bool) (v : Value) → Has its.values v → (p : Purpose) → v.purpose ≡ p
      → ValueKeepsTime (elaborated its_names m) its.timed here p v.expression
  value_keeps here v h (assigned at) p = assignment_keeps v h at p (meaning_at its_names.uses at) refl
  value_keeps here v h other p = tt

  blocks_keep : EachValueOfBlocks (elaborated its_names m) (ValueKeepsTime (elaborated its_names m) its.timed) (analog_bodies m)
  blocks_keep =
      blocks_from (elaborated its_names m) (ValueKeepsTime (elaborated its_names m) its.timed) (analog_bodies m)
      (all_of_has (Holds (elaborated its_names m) (ValueKeepsTime (elaborated its_names m) its.timed)) its.values
      (λ v h. value_keeps (is_under (elaborated its_names m) (ValueKeepsTime (elaborated its_names m) its.timed) v.around) v h v.purpose refl))

-- The faults of a module are among those of its text.
zip_has : (s : Source) (k : ℕ) (ms : List Module) (i : ℕ) (m : Module) → slice_get ms i ≡ Some m
    → Has (zip ms (map (λ (e : ℕ × Module). names_of_module s e.0 e.1) (enumerate_from k ms))) (m, names_of_module s (k + i) m)
zip_has s k [] i m e = absurd (cc (e))
zip_has s k (x ∷ xs) zero m e =
    let is : x ≡ m = cc (e) in
    let same : k ≡ k + 0 = omega arith in
    inl (λ j. (is j, names_of_module s (same j) (is j)))
zip_has s k (x ∷ xs) (suc i) m e =
    inr
    (subst (λ (n : ℕ). Has (zip xs (map (λ (e : ℕ × Module). names_of_module s e.0 e.1) (enumerate_from (k + 1) xs))) (m, names_of_module s n m))
    (let same : k + 1 + i ≡ k + suc i = omega arith in same) (zip_has s (k + 1) xs i m e))

module_there : (s : Source) (number : ℕ) (m : Module) → slice_get s.modules number ≡ Some m
    → Has (modules_with s (names_of s)) (m, names_of_module s number m)
module_there s number m e =
    subst (λ (n : ℕ). Has (modules_with s (names_of s)) (m, names_of_module s n m)) (let same : 0 + number ≡ number = omega arith in same)
    (zip_has s 0 s.modules number m e)

-- the first five of eleven lists that are empty together
record FirstFive {X : Type 0} (a b c d e : List X) : Type 0 where
  first : a ≡ []
  second : b ≡ []
  third : c ≡ []
  fourth : d ≡ []
  fifth : e ≡ []

first_five : {X : Type 0} (a b c d e f g h i j k : List X) → a ++ b ++ c ++ d ++ e ++ f ++ g ++ h ++ i ++ j ++ k ≡ [] → FirstFive a b c d e
first_five a b c d e f g h i j k none =
    let at_i = left_empty (a ++ b ++ c ++ d ++ e ++ f ++ g ++ h ++ i) j (left_empty (a ++ b ++ c ++ d ++ e ++ f ++ g ++ h ++ i ++ j) k none) in
    let at_g = left_empty (a ++ b ++ c ++ d ++ e ++ f ++ g) h (left_empty (a ++ b ++ c ++ d ++ e ++ f ++ g ++ h) i at_i) in
    let at_e = left_empty (a ++ b ++ c ++ d ++ e) f (left_empty (a ++ b ++ c ++ d ++ e ++ f) g at_g) in
    let at_d = left_empty (a ++ b ++ c ++ d) e at_e in
    let at_c = left_empty (a ++ b ++ c) d at_d in
    let at_b = left_empty (a ++ b) c at_c in
    record {
      first = left_empty a b at_b;
      second = right_empty a b at_b;
      third = right_empty (a ++ b) c at_c;
      fourth = right_empty (a ++ b ++ c) d at_d;
      fifth = right_empty (a ++ b ++ c ++ d) e at_e;
    }

module _ (s : Source) (number : ℕ) (m : Module) (sound : IsOfSoundText s number m) where
  abbrev of_names : ModuleNames
  of_names = names_of_module s number m

  abbrev of_types : Typing
  of_types = typing_of of_names.uses m

  abbrev rules : Analysis
  rules = analysis_of of_names (analog_bodies m)

  no_rule_broken : FirstFive (all_at DdtNonLinear (ddt_nonlinear of_types rules)) (all_at DdtUnderBias (ddt_under_bias of_types rules))
      (all_at DdtInLoop (ddt_in_loop of_types rules)) (all_at DdtInFunction (ddt_in_function of_types rules (bodies of_names m)))
      (all_at DdtTwice (ddt_twice of_types rules))
  no_rule_broken =
      first_five _ _ _ _ _ _ _ _ _ _ _
      (each_empty (module_rules_faults limits) (modules_with s (names_of s)) (m, of_names) sound.keeps.rules (module_there s number m sound.stands))

  all_constant : flat_map (constant_faults of_names.uses (λ n. true)) (initialisers_written m) ≡ []
  all_constant =
      right_empty _ _ (each_empty module_types_faults (modules_with s (names_of s)) (m, of_names) sound.keeps.types (module_there s number m sound.stands))

  free_of : ddt_in_function of_types rules (bodies of_names m) ≡ []
  free_of = map_empty (λ at. (at, DdtInFunction)) (ddt_in_function of_types rules (bodies of_names m)) no_rule_broken.fourth

  keeps_to_time : KeepsToTime (elaborated of_names m) rules.timed
  keeps_to_time = record {
    initialisers = in_order_free of_names m _ _ (items_begin of_names m all_constant free_of);
    functions = functions_free of_names m _ (functions_of m) (all_of_has (IsFunctionFree of_names m) (functions_of m) (function_free of_names m all_constant free_of));
    blocks = blocks_keep s number m;
  }

  has_linear_time : HasLinearTime (elaborated of_names m) rules.biased rules.timed
  has_linear_time =
      linear_module of_names m
      (map_empty (λ at. (at, DdtNonLinear)) (ddt_nonlinear of_types rules) no_rule_broken.first)
      (map_empty (λ at. (at, DdtUnderBias)) (ddt_under_bias of_types rules) no_rule_broken.second)
      (map_empty (λ at. (at, DdtInLoop)) (ddt_in_loop of_types rules) no_rule_broken.third)
      (map_empty (λ at. (at, DdtTwice)) (ddt_twice of_types rules) no_rule_broken.fifth)

pub time_laws : TimeLaws
time_laws = record {
  keeps = λ s number m sound. keeps_to_time s number m sound;
  linear = λ s number m sound. has_linear_time s number m sound;
}

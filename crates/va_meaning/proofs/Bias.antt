-- Two defined evaluations at points that differ in unknowns alone end with the same fixed variables and the same marks: what is fixed is
-- of the one class of equal values, and nothing is known of what is biased.
use Rattle.std.specs.Prelude.{◌≡◌, ℕ, ◌||◌, Bool, true, false, List, [], ◌∷◌, Option, Some, None}
use Rattle.std.specs.List.{slice_get}
use Rattle.std.proofs.Common.{refl, ap, sym, subst, inl, inr}
use Rattle.alg_laws.specs.declared.number.Number.{Number}
use Rattle.alg_laws.specs.declared.number.Ty.{Ty}
use Rattle.alg_laws.specs.declared.number.Ty.TheVariants.{Integer, Real as RealTy}
use Rattle.alg_laws.specs.Outcome.{gives, ends}
use Rattle.alg_laws.specs.Related.{ListsRelated, no_more as none_more, one_more}
use Rattle.alg_laws.proofs.Outcomes.{numbers_equal}
use Rattle.va_sem.specs.declared.branch.BranchKind.{BranchKind}
use Rattle.va_sem.specs.declared.branch.BranchKind.TheVariants.{Collapsing, Flow, Potential}
use Rattle.va_sem.specs.declared.builtin.Builtin.TheVariants.{One, Two, Abs, Min, Max, LimExp, Ddt, LeftOut}
use Rattle.va_sem.specs.declared.builtin.SystemFunction.TheVariants.{Temperature, ThermalVoltage, Limit, SimParam, ParamGiven}
use Rattle.va_sem.specs.declared.names.Meaning.{Meaning}
use Rattle.va_sem.specs.declared.names.Meaning.TheVariants.{Var, Access}
use Rattle.va_tree.specs.declared.expr.UnaryOp.TheVariants.{Plus, Minus, Not}
use Rattle.va_tree.specs.declared.stmt.EventKind.TheVariants.{InitialStep, FinalStep}
use Rattle.va_tree.specs.Expressions.{Expression, Arguments, literal, infinity, name, group, unary, binary, choose, call, no_more, text_then, expression_then}
use Rattle.va_tree.specs.Statements.{Statement, Statements, Items, Defaults, null, block, only_if, if_else, cases, for_loop, while_loop, repeat_loop, event, assign, contribute, task, no_more as no_statement, statement_then, no_items, item_then, no_defaults, default_then}
use Rattle.va_meaning.specs.Bias.{IsCallFixed, IsNameFixed, IsFixed, AreFixed, IsFirstFixed, KeepsToBias, SameFixed}
use Rattle.va_meaning.specs.Bias as bias
use Rattle.va_meaning.specs.Called.{Called, builtin, system, function, access, none, called}
use Rattle.va_meaning.specs.Classes.{Classes, AreOrdered, Slots, IfSure, in_place, FunctionIn, argument_types, VariableIn, NameIn, CallIn, IsIn, AllIn, FirstIn, ArgumentsIn, AreIn, Fits, AssignmentIn, ContributionIn, Under, Keeps, AllKeep, ItemsKeep, DefaultsKeep, BlocksKeep, KeepsToClasses, ContextsInClasses, ValuesIn, StatesInClasses}
use Rattle.va_meaning.specs.Elaborated.{Elaborated}
use Rattle.va_meaning.specs.Evaluation.{evaluated}
use Rattle.va_meaning.specs.Points.{Context, Result, State, at_unknowns}
use Rattle.va_meaning.specs.Related.{same_ends, any_ends, Alike, both_give, both_end, first_ends, second_ends, ResultsRelated}
use Rattle.va_meaning.specs.Runs.{under, under_all, item_values}
use Rattle.va_meaning.specs.Types.{result_type}
use Rattle.va_meaning.proofs.ClassFunctions.{evaluated_in}
use Rattle.va_meaning.proofs.Endings.{same_closed, any_closed, weaker_any, itself, alike_itself, alike_weaker, same_itself}
use Rattle.va_meaning.proofs.Classes.{same_integers}
use Rattle.va_meaning.proofs.Everything.{operator_any, initialisers_any, function_any_keeps}

-- one class, in which everything is
abbrev pub single : Classes (Unit {0})
single = record {
  below = λ k l. Unit {0};
  closed = λ k. Unit {0};
  times = λ k l m. Unit {0};
  derives = λ k l. Unit {0};
  rest = tt;
  top = tt;
  answer = tt;
}

pub single_ordered : AreOrdered single
single_ordered = record {
  itself = λ k. tt;
  further = λ k l m h i. tt;
  from_rest = λ k. tt;
  to_top = λ k. tt;
  rest_closed = tt;
  top_closed = tt;
  products = λ k l h i. tt;
  derivatives = λ k l m h i. tt;
}

abbrev is_collapsing : BranchKind → Bool
is_collapsing Collapsing = true
is_collapsing Flow = false
is_collapsing Potential = false

collapses : (kind : BranchKind) → is_collapsing kind ≡ true → kind ≡ Collapsing
collapses Collapsing h = refl
collapses Flow h = absurd (cc (h))
collapses Potential h = absurd (cc (h))

-- tests of two flags
first_false : (a b : Bool) → (a || b) ≡ false → a ≡ false
first_false true b h = h
first_false false b h = refl

second_false : (a b : Bool) → (a || b) ≡ false → b ≡ false
second_false true b h = absurd (cc (h))
second_false false b h = h

still_true : (a b : Bool) → a ≡ true → (a || b) ≡ true
still_true a b h = λ j. h j || b

either_true : (a b c : Bool) → (a || b) ≡ true → ((a || c) || b) ≡ true
either_true true b c h = refl
either_true false true true h = refl
either_true false true false h = refl
either_true false false c h = absurd (cc (h))

module _ (M : Elaborated) (biased : ℕ → Bool) where
  abbrev if_fixed : Bool → Option (Unit {0})
  if_fixed true = None
  if_fixed false = Some tt

  abbrev fixed_slots : Slots (Unit {0})
  fixed_slots = record { variable = λ x. if_fixed (biased x); held = λ b. None; unknown = λ i. None; mark = λ b. is_collapsing (M.kind b); unsure = true }

  abbrev In : Expression → Type 0
  In e = IsIn M single fixed_slots tt e

  variable_fixed : (b : Bool) → b ≡ false → (ty : Ty) → VariableIn M single fixed_slots tt ty (if_fixed b)
  variable_fixed true h ty = absurd (cc (h))
  variable_fixed false h Integer = tt
  variable_fixed false h RealTy = tt

  name_fixed : (m : Option Meaning) → IsNameFixed M biased m → NameIn M single fixed_slots tt m
  name_fixed (Some (Var x)) h = variable_fixed (biased x) h (M.variable_type x)
  name_fixed m h = tt

  function_fixed : (ty : Ty) (arguments : Unit {0} → Type 0) → arguments tt → FunctionIn single tt ty arguments
  function_fixed Integer arguments h = h
  function_fixed RealTy arguments h = (tt, tt, tt, h)

  call_fixed : (what : Called) (A B : Type 0) → IsCallFixed what A B → (first all : Unit {0} → Type 0) (arguments : List Ty → Unit {0} → Type 0)
      → (A → first tt) → (B → all tt) → ((types : List Ty) → B → arguments types tt) → CallIn M single fixed_slots tt what first all arguments
  call_fixed (builtin Ddt) A B h first all arguments f g a = (tt, tt, g h)
  call_fixed (builtin LeftOut) A B h first all arguments f g a = (tt, g h)
  call_fixed (builtin (One b)) A B h first all arguments f g a = (tt, tt, tt, g h)
  call_fixed (builtin (Two b)) A B h first all arguments f g a = (tt, tt, tt, g h)
  call_fixed (builtin Abs) A B h first all arguments f g a = (tt, tt, tt, g h)
  call_fixed (builtin Min) A B h first all arguments f g a = (tt, tt, tt, g h)
  call_fixed (builtin Max) A B h first all arguments f g a = (tt, tt, tt, g h)
  call_fixed (builtin LimExp) A B h first all arguments f g a = (tt, tt, tt, g h)
  call_fixed (system Limit) A B h first all arguments f g a = f h
  call_fixed (system SimParam) A B h first all arguments f g a = g h
  call_fixed (system ThermalVoltage) A B h first all arguments f g a = (tt, tt, tt, g h)
  call_fixed (system Temperature) A B h first all arguments f g a = tt
  call_fixed (system ParamGiven) A B h first all arguments f g a = tt
  call_fixed (function n) A B h first all arguments f g a =
      function_fixed (result_type (slice_get M.functions n)) (arguments (argument_types M (slice_get M.functions n))) (a (argument_types M (slice_get M.functions n)) h)
  call_fixed (access b turned flow) A B h first all arguments f g a = absurd h
  call_fixed none A B h first all arguments f g a = tt

  mutual
    fixed_in : (e : Expression) → IsFixed M biased e → In e
    fixed_in (literal at value integer) h = tt
    fixed_in (infinity at) h = tt
    fixed_in (name at bytes) h = name_fixed (M.meaning at) h
    fixed_in (group at inner) h = fixed_in inner h
    fixed_in (unary at Plus operand) h = fixed_in operand h
    fixed_in (unary at Minus operand) h = fixed_in operand h
    fixed_in (unary at Not operand) h = fixed_in operand h
    fixed_in (binary at left op right) h =
        operator_any single single_ordered tt tt tt tt op _ _ (λ l up. fixed_in left h.0) (λ l up. fixed_in right h.1)
    fixed_in (choose at test a b) h = (fixed_in test h.0, fixed_in a h.1, fixed_in b h.2)
    fixed_in (call at callee bytes args) h =
        call_fixed (called (M.meaning at) callee bytes) (IsFirstFixed M biased args) (AreFixed M biased args) h _ _ _ (λ h. first_in args h) (λ h. all_in args h) (λ types h. arguments_in types args h)

    all_in : (args : Arguments) → AreFixed M biased args → AllIn M single fixed_slots tt args
    all_in no_more h = tt
    all_in (text_then text rest) h = all_in rest h
    all_in (expression_then e rest) h = (fixed_in e h.0, all_in rest h.1)

    first_in : (args : Arguments) → IsFirstFixed M biased args → FirstIn M single fixed_slots tt args
    first_in no_more h = tt
    first_in (text_then text rest) h = tt
    first_in (expression_then e rest) h = fixed_in e h

    arguments_in : (types : List Ty) (args : Arguments) → AreFixed M biased args → ArgumentsIn M single fixed_slots types tt args
    arguments_in types no_more h = tt
    arguments_in [] (text_then text rest) h = tt
    arguments_in (ty ∷ types) (text_then text rest) h = arguments_in types rest h
    arguments_in [] (expression_then e rest) h = tt
    arguments_in (ty ∷ types) (expression_then e rest) h = (fixed_in e h.0, arguments_in types rest h.1)

  module _ (fixed : (e : Expression) → M.is_biased e ≡ false → IsFixed M biased e) where
    are_fixed : (b : Bool) (es : List Expression) → under_all M b es ≡ false → (b ≡ false) × AreIn M single fixed_slots tt es
    are_fixed b [] h = (h, tt)
    are_fixed b (e ∷ es) h =
        let rest = are_fixed (under M b e) es h in
        (first_false b (M.is_biased e) rest.0, (fixed_in e (fixed e (second_false b (M.is_biased e) rest.0)), rest.1))

    all_true : (b : Bool) (es : List Expression) → b ≡ true → under_all M b es ≡ true
    all_true b [] h = h
    all_true b (e ∷ es) h = all_true (under M b e) es (still_true b (M.is_biased e) h)

    -- what stands under conditions, by whether one of them is biased
    under_fixed : (b : Bool) (conditions : List Expression) (inside : Bool → Type 0) → inside (under_all M b conditions) → Under M single fixed_slots b conditions inside
    under_fixed b conditions inside i = by_all (under_all M b conditions) refl i
      where
        by_all : (x : Bool) → under_all M b conditions ≡ x → inside x → Under M single fixed_slots b conditions inside
        by_all true e i = inr (refl, i)
        by_all false e i =
            let both = are_fixed b conditions e in
            inl (both.1, subst (λ x. inside x) (sym both.0) i)

    assignment_fixed : (b : Bool) (m : Option Meaning) (e : Expression) → bias.AssignmentKeeps M biased (b || M.is_biased e) m → AssignmentIn M single fixed_slots b m e
    assignment_fixed b (Some (Var x)) e h = by_variable (biased x) refl
      where
        never : (c d : Bool) → (c ≡ true → d ≡ true) → d ≡ false → c ≡ false
        never true d f e = absurd (let g = f refl in cc (e, g))
        never false d f e = refl

        by_variable : (v : Bool) → biased x ≡ v → Fits M single fixed_slots e (λ k. (b ≡ false) × IsIn M single fixed_slots (in_place single (M.variable_type x) k) e) (if_fixed v)
        by_variable true d = inr refl
        by_variable false d =
            let neither = never (b || M.is_biased e) (biased x) h d in
            (first_false b (M.is_biased e) neither, fixed_in e (fixed e (second_false b (M.is_biased e) neither)))
    assignment_fixed b m e h = inr refl

    contribution_fixed : (b : Bool) (m : Option Meaning) (e : Expression) → bias.ContributionKeeps M biased b m → ContributionIn M single fixed_slots b b m e
    contribution_fixed b (Some (Access a turned true)) e h = (inr refl, λ i d. (refl, d))
    contribution_fixed b (Some (Access a turned false)) e h =
        (inr refl, λ i d. absurd (let f : b ≡ false = h (collapses (M.kind a) i) in cc (d, f)))
    contribution_fixed b m e h = inr refl

    mutual
      keeps_fixed : (b : Bool) (p : Statement) → bias.Keeps M biased b p → Keeps M single fixed_slots b b p
      keeps_fixed b (null at) h = tt
      keeps_fixed b (block at label declarations body) h = all_fixed b body h
      keeps_fixed b (only_if at test first) h =
          under_fixed b (test ∷ []) (λ inside. Keeps M single fixed_slots (under M b test) inside first) (keeps_fixed (under M b test) first h)
      keeps_fixed b (if_else at test first second) h =
          under_fixed b (test ∷ []) (λ inside. Keeps M single fixed_slots (under M b test) inside first × Keeps M single fixed_slots (under M b test) inside second)
          (keeps_fixed (under M b test) first h.0, keeps_fixed (under M b test) second h.1)
      keeps_fixed b (cases at selector items defaults) h =
          let below = under_all M b (selector ∷ item_values items) in
          under_fixed b (selector ∷ item_values items) (λ inside. ItemsKeep M single fixed_slots below inside items × DefaultsKeep M single fixed_slots below inside defaults)
          (items_fixed below items h.0, defaults_fixed below defaults h.1)
      keeps_fixed b (for_loop at target first test target' step body) h = (
        assignment_fixed b (M.meaning target.at) first (weaker_target (M.meaning target.at) h.0),
        under_fixed b (test ∷ []) (λ inside. AssignmentIn M single fixed_slots inside (M.meaning target'.at) step × Keeps M single fixed_slots (under M b test) inside body)
            (assignment_fixed (under M b test) (M.meaning target'.at) step h.1, keeps_fixed (under M b test) body h.2),
      )
        where
          weaker_target : (m : Option Meaning) → bias.AssignmentKeeps M biased (under M b test || M.is_biased first) m → bias.AssignmentKeeps M biased (b || M.is_biased first) m
          weaker_target (Some (Var x)) h = λ e. h (either_true b (M.is_biased first) (M.is_biased test) e)
          weaker_target m h = tt
      keeps_fixed b (while_loop at test body) h =
          under_fixed b (test ∷ []) (λ inside. Keeps M single fixed_slots (under M b test) inside body) (keeps_fixed (under M b test) body h)
      keeps_fixed b (repeat_loop at count body) h =
          under_fixed b (count ∷ []) (λ inside. Keeps M single fixed_slots (under M b count) inside body) (keeps_fixed (under M b count) body h)
      keeps_fixed b (event at InitialStep analyses body) h = keeps_fixed b body h
      keeps_fixed b (event at FinalStep analyses body) h = tt
      keeps_fixed b (assign at target value) h = assignment_fixed b (M.meaning at) value h
      keeps_fixed b (contribute at bytes first second value) h = contribution_fixed b (M.meaning at) value h
      keeps_fixed b (task at bytes args) h = tt

      all_fixed : (b : Bool) (ps : Statements) → bias.AllKeep M biased b ps → AllKeep M single fixed_slots b b ps
      all_fixed b no_statement h = tt
      all_fixed b (statement_then p ps) h = (keeps_fixed b p h.0, all_fixed b ps h.1)

      items_fixed : (b : Bool) (items : Items) → bias.ItemsKeep M biased b items → ItemsKeep M single fixed_slots b b items
      items_fixed b no_items h = tt
      items_fixed b (item_then at values body rest) h = (keeps_fixed b body h.0, items_fixed b rest h.1)

      defaults_fixed : (b : Bool) (defaults : Defaults) → bias.DefaultsKeep M biased b defaults → DefaultsKeep M single fixed_slots b b defaults
      defaults_fixed b no_defaults h = tt
      defaults_fixed b (default_then at body rest) h = keeps_fixed b body h.0

    blocks_fixed : (blocks : List Statement) → bias.BlocksKeep M biased blocks → BlocksKeep M single fixed_slots blocks
    blocks_fixed [] h = tt
    blocks_fixed (p ∷ ps) h = (keeps_fixed false p h.0, blocks_fixed ps h.1)

  fixed_classes : KeepsToBias M biased → KeepsToClasses M single fixed_slots
  fixed_classes h = record {
    functions = λ f k closed. function_any_keeps M single single_ordered k tt tt tt (slice_get M.functions f);
    initialisers = initialisers_any M single single_ordered tt tt tt tt M.initialisers;
    blocks = blocks_fixed h.expressions M.blocks h.blocks;
  }

  -- equal arguments have equal answers
  arguments_equal : {E V : Type 0} {outs outs' : List (Result E V)} → ListsRelated (ResultsRelated same_ends ◌≡◌) outs outs' → outs ≡ outs'
  arguments_equal none_more = refl
  arguments_equal (one_more h hs) = λ j. result_equal h j ∷ arguments_equal hs j
    where
      result_equal : {E V : Type 0} {a b : Result E V} → ResultsRelated same_ends ◌≡◌ a b → a ≡ b
      result_equal (both_give h) = ap gives (numbers_equal h)
      result_equal (both_end h) = ap ends h
      result_equal (first_ends h) = absurd h
      result_equal (second_ends h) = absurd h

  equal_context : {E V : Type 0} (c : Context E V) (u : ℕ → V) → ContextsInClasses same_ends single (λ k x y. x ≡ y) fixed_slots c (at_unknowns c u)
  equal_context {E} {V} c u = record {
    ops = λ k h. same_itself c.ops;
    weaker = λ k l up x y h. h;
    sum = λ k x y v w h i. (λ j. c.ops.sum (h j) (i j));
    negative = λ k x y h. (λ j. c.ops.negative (h j));
    product = λ k l m t x y v w h i. (λ j. c.ops.product (h j) (i j));
    derivative = λ k l t x y h. (λ j. c.ops.product c.derivative (h j));
    parameters = λ p. itself (c.point.parameters p);
    given = λ p. refl;
    temperature = refl;
    unknowns = λ i. tt;
    bound = inl refl;
    stops = λ reason. refl;
    answers = λ number outs outs' h.
        subst (λ (xs : List (Result E V)). Alike same_ends ◌≡◌ (c.answers number outs) (c.answers number xs)) (arguments_equal h) (alike_itself (c.answers number outs));
  }

  same_fixed : {V : Type 0} (s t : State V) → StatesInClasses M (λ k x y. x ≡ y) fixed_slots s t → SameFixed M biased s t
  same_fixed s t n = record {
    variables = λ x e. equal_variable (biased x) e (M.variable_type x) (s.variables x) (t.variables x) (n.variables x);
    marks = λ b e. n.marks b (ap is_collapsing e);
  }
    where
      equal_variable : {V : Type 0} (b : Bool) → b ≡ false → (ty : Ty) (v w : Number V) → IfSure (λ k. ValuesIn (λ k x y. x ≡ y) ty k v w) (if_fixed b) → v ≡ w
      equal_variable true e ty v w h = absurd (cc (e))
      equal_variable false e Integer v w h = numbers_equal (same_integers ◌≡◌ h)
      equal_variable false e RealTy v w h = numbers_equal h

  pub evaluated_fixed : {E V : Type 0} → KeepsToBias M biased → (c : Context E V) (u : ℕ → V)
      → Alike any_ends (SameFixed M biased) (evaluated M c) (evaluated M (at_unknowns c u))
  evaluated_fixed h c u =
      alike_weaker any_ends (StatesInClasses M (λ k x y. x ≡ y) fixed_slots) (SameFixed M biased) (λ s t n. same_fixed s t n)
      (evaluated_in same_ends same_closed M single single_ordered (λ k x y. x ≡ y) fixed_slots c (at_unknowns c u) (equal_context c u) (fixed_classes h)
      any_ends any_closed (weaker_any same_ends) (λ e. ((λ d. tt), (λ d. tt))))

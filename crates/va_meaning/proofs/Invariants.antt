-- What an evaluation keeps of the values of expressions and variables and of what branches hold, where each may be kept something of
-- its own: it is kept wherever each expression, assignment and contribution that is looked at keeps it by itself.
use Rattle.std.specs.Prelude.{◌≡◌, ℕ, ◌+◌, ◌==◌, Bool, true, false, ℤ, if◌then◌else◌, List, [], ◌∷◌, ◌++◌, Option, Some}
use Rattle.std.proofs.Common.{refl, sym, subst}
use Rattle.std.proofs.lemmas.Map.Views.{exact_unsigned_eq}
use Rattle.alg_laws.specs.declared.number.Number.{Number}
use Rattle.alg_laws.specs.declared.number.Reason.TheVariants.{Turns}
use Rattle.alg_laws.specs.Loop.{turns}
use Rattle.alg_laws.specs.NumberOps.{joined, converted, is_true, to_real, to_integer}
use Rattle.alg_laws.specs.Outcome.{Outcome, gives, ends, ◌>>=◌}
use Rattle.va_sem.specs.declared.names.Meaning.{Meaning}
use Rattle.va_sem.specs.declared.names.Meaning.TheVariants.{Var, Access}
use Rattle.va_sem.specs.LookedAt.{looked_at, looked_at_in_arguments, call_looks}
use Rattle.va_tree.specs.declared.source.Quantity.{Quantity}
use Rattle.va_tree.specs.declared.source.Quantity.TheVariants.{Potential, Flow}
use Rattle.va_tree.specs.declared.stmt.EventKind.TheVariants.{InitialStep, FinalStep}
use Rattle.va_tree.specs.Expressions.{Expression, Arguments, literal, infinity, name, group, unary, binary, choose, call, no_more, text_then, expression_then}
use Rattle.va_tree.specs.Statements.{Statement, Statements, Items, Defaults, null, block, only_if, if_else, cases, for_loop, while_loop, repeat_loop, event, assign, contribute, task, no_more as no_statement, statement_then, no_items, item_then, no_defaults, default_then}
use Rattle.va_meaning.specs.Called.{called}
use Rattle.va_meaning.specs.Elaborated.{Elaborated, Initialiser}
use Rattle.va_meaning.specs.Evaluation.{initialised, run_blocks}
use Rattle.va_meaning.specs.Points.{Context, Result, Store, State, Held, with_variable, held_of, told}
use Rattle.va_meaning.specs.Runs.{statement_size, quantity_of, Counted, turns_left, count_down, repeated, test_of, assigned, assign_value, contributed, is_among, run, run_all, run_case, run_default}
use Rattle.va_meaning.specs.Unknowns.{signed}
use Rattle.va_meaning.specs.Values.{Functions, size, no_value, numeral, unary_value, binary_value, named, call_value, value_of, outcomes_of}
use Rattle.va_meaning.proofs.Partial.{IfGives, anything, then_if, chosen_if, turns_if, while_if}

-- Q is kept of expressions' values, S of variables, H of what branches hold of a quantity.
module _ {E V : Type 0} (M : Elaborated) (c : Context E V) (F : Functions E V) (Q : Expression → Number V → Type 0) (S : ℕ → Number V → Type 0)
    (H : ℕ → Quantity → V → Type 0) where
  abbrev pub StoreKept : Store V → Type 0
  StoreKept vars = (x : ℕ) → S x (vars x)

  pub record StateKept (s : State V) : Type 0 where
    pub variables : (x : ℕ) → S x (s.variables x)
    pub held : (b : ℕ) → H b (s.held b).quantity (s.held b).sum

  -- of arguments, for those places that pass a test
  abbrev pub ArgumentsKept : (ℕ → Bool) → ℕ → Arguments → List (Result E V) → Type 0
  ArgumentsKept test i no_more outs = Unit {0}
  ArgumentsKept test i (text_then text rest) [] = Unit {0}
  ArgumentsKept test i (text_then text rest) (out ∷ outs) = ArgumentsKept test (i + 1) rest outs
  ArgumentsKept test i (expression_then e rest) [] = Unit {0}
  ArgumentsKept test i (expression_then e rest) (out ∷ outs) = (test i ≡ true → IfGives (Q e) out) × ArgumentsKept test (i + 1) rest outs

  -- an expression keeps it, if those in it do
  abbrev pub Keeps : Expression → Type 0
  Keeps (literal at value integer) = Q (literal at value integer) (numeral c.ops value integer)
  Keeps (infinity at) = Q (infinity at) (no_value c.ops)
  Keeps (name at bytes) = (vars : Store V) → ((x : ℕ) → S x (vars x)) → Q (name at bytes) (named M c vars (M.meaning at))
  Keeps (group at inner) = (v : Number V) → Q inner v → Q (group at inner) v
  Keeps (unary at op operand) = (v : Number V) → Q operand v → IfGives (Q (unary at op operand)) (unary_value c op v)
  Keeps (binary at left op right) =
      (v : Number V) (w : Result E V) → Q left v → IfGives (Q right) w → IfGives (Q (binary at left op right)) (binary_value c op v w)
  Keeps (choose at test a b) =
      ((v : Number V) → Q a v → IfGives (Q (choose at test a b)) (told c (converted c.ops (joined (M.type_of a) (M.type_of b)) v)))
      × ((v : Number V) → Q b v → IfGives (Q (choose at test a b)) (told c (converted c.ops (joined (M.type_of a) (M.type_of b)) v)))
  Keeps (call at callee bytes args) =
      (place : ℕ) (outs : List (Result E V)) → ArgumentsKept (call_looks callee bytes) 0 args outs
      → IfGives (Q (call at callee bytes args)) (call_value M c F (called (M.meaning at) callee bytes) place args outs)

  abbrev pub AllKeep : List Expression → Type 0
  AllKeep [] = Unit {0}
  AllKeep (e ∷ es) = Keeps e × AllKeep es

  keep_parts : (es fs : List Expression) → AllKeep (es ++ fs) → AllKeep es × AllKeep fs
  keep_parts [] fs h = (tt, h)
  keep_parts (e ∷ es) fs h = let rest = keep_parts es fs h.1 in ((h.0, rest.0), rest.1)

  mutual
    pub value_kept : (place : ℕ) (e : Expression) (vars : Store V) → AllKeep (looked_at e) → ((x : ℕ) → S x (vars x)) → IfGives (Q e) (value_of M c F place e vars)
    value_kept place (literal at value integer) vars h k = h.0
    value_kept place (infinity at) vars h k = h.0
    value_kept place (name at bytes) vars h k = h.0 vars k
    value_kept place (group at inner) vars h k = then_gives (value_of M c F (place + 1) inner vars) (value_kept (place + 1) inner vars h.1 k) h.0
      where
        then_gives : (out : Result E V) → IfGives (Q inner) out → ((v : Number V) → Q inner v → Q (group at inner) v) → IfGives (Q (group at inner)) out
        then_gives (gives v) p q = q v p
        then_gives (ends e) p q = tt
    value_kept place (unary at op operand) vars h k =
        then_if (Q operand) (Q (unary at op operand)) (value_of M c F (place + 1) operand vars) _ (value_kept (place + 1) operand vars h.1 k) h.0
    value_kept place (binary at left op right) vars h k =
        let parts = keep_parts (looked_at left) (looked_at right) h.1 in
        then_if (Q left) (Q (binary at left op right)) (value_of M c F (place + 1) left vars) _ (value_kept (place + 1) left vars parts.0 k)
        (λ v q. h.0 v (value_of M c F (place + 1 + size left) right vars) q (value_kept (place + 1 + size left) right vars parts.1 k))
    value_kept place (choose at test a b) vars h k =
        let parts = keep_parts (looked_at test ++ looked_at a) (looked_at b) h.1 in
        let first = keep_parts (looked_at test) (looked_at a) parts.0 in
        then_if (λ (v : Number V). Unit {0}) (Q (choose at test a b)) (value_of M c F (place + 1) test vars) _ (anything (value_of M c F (place + 1) test vars))
        (λ t i. arm (is_true c.ops t) _ _ (value_kept (place + 1 + size test) a vars first.1 k) (value_kept (place + 1 + size test + size a) b vars parts.1 k))
      where
        arm : (t : Bool) (x y : Result E V) → IfGives (Q a) x → IfGives (Q b) y
            → IfGives (Q (choose at test a b)) ((if t then x else y) >>= λ v. told c (converted c.ops (joined (M.type_of a) (M.type_of b)) v))
        arm true x y p q = then_if (Q a) (Q (choose at test a b)) x (λ v. told c (converted c.ops (joined (M.type_of a) (M.type_of b)) v)) p h.0.0
        arm false x y p q = then_if (Q b) (Q (choose at test a b)) y (λ v. told c (converted c.ops (joined (M.type_of a) (M.type_of b)) v)) q h.0.1
    value_kept place (call at callee bytes args) vars h k =
        h.0 place (outcomes_of M c F (place + 1) args vars) (arguments_kept (call_looks callee bytes) 0 (place + 1) args vars h.1 k)

    pub arguments_kept : (test : ℕ → Bool) (i place : ℕ) (args : Arguments) (vars : Store V) → AllKeep (looked_at_in_arguments test i args)
        → ((x : ℕ) → S x (vars x)) → ArgumentsKept test i args (outcomes_of M c F place args vars)
    arguments_kept test i place no_more vars h k = tt
    arguments_kept test i place (text_then text rest) vars h k = arguments_kept test (i + 1) place rest vars h k
    arguments_kept test i place (expression_then e rest) vars h k =
        let parts = keep_parts (if test i then looked_at e else []) (looked_at_in_arguments test (i + 1) rest) h in (
          λ l. value_kept place e vars (subst (λ (b : Bool). AllKeep (if b then looked_at e else [])) l parts.0) k,
          arguments_kept test (i + 1) (place + size e) rest vars parts.1 k,
        )

  -- an assignment keeps it, and a contribution
  abbrev pub AssignmentKeeps : Option Meaning → Expression → Type 0
  AssignmentKeeps (Some (Var x)) e = (v : Number V) → Q e v → IfGives (S x) (told c (converted c.ops (M.variable_type x) v))
  AssignmentKeeps m e = Unit {0}

  abbrev pub ContributionKeeps : Option Meaning → Expression → Type 0
  ContributionKeeps (Some (Access b turned flow)) e =
      (v : Number V) (x : V) → Q e v → H b (quantity_of flow) x → H b (quantity_of flow) (c.ops.sum x (signed c.ops turned (to_real c.ops v)))
  ContributionKeeps m e = Unit {0}

  abbrev mutual
    -- all that is looked at in a statement keeps it
    pub StatementKeeps : Statement → Type 0
    StatementKeeps (null at) = Unit {0}
    StatementKeeps (block at label declarations body) = StatementsKeep body
    StatementKeeps (only_if at test a) = StatementKeeps a
    StatementKeeps (if_else at test a b) = StatementKeeps a × StatementKeeps b
    StatementKeeps (cases at selector items defaults) = ItemsKeep items × DefaultsKeep defaults
    StatementKeeps (for_loop at target first test target' step body) =
        (AllKeep (looked_at first) × AssignmentKeeps (M.meaning target.at) first)
        × (AllKeep (looked_at step) × AssignmentKeeps (M.meaning target'.at) step) × StatementKeeps body
    StatementKeeps (while_loop at test body) = StatementKeeps body
    StatementKeeps (repeat_loop at count body) = StatementKeeps body
    StatementKeeps (event at InitialStep analyses body) = StatementKeeps body
    StatementKeeps (event at FinalStep analyses body) = Unit {0}
    StatementKeeps (assign at target value) = AllKeep (looked_at value) × AssignmentKeeps (M.meaning at) value
    StatementKeeps (contribute at bytes first second value) = AllKeep (looked_at value) × ContributionKeeps (M.meaning at) value
    StatementKeeps (task at bytes args) = Unit {0}

    pub StatementsKeep : Statements → Type 0
    StatementsKeep no_statement = Unit {0}
    StatementsKeep (statement_then s rest) = StatementKeeps s × StatementsKeep rest

    pub ItemsKeep : Items → Type 0
    ItemsKeep no_items = Unit {0}
    ItemsKeep (item_then at values body rest) = StatementKeeps body × ItemsKeep rest

    pub DefaultsKeep : Defaults → Type 0
    DefaultsKeep no_defaults = Unit {0}
    DefaultsKeep (default_then at body rest) = StatementKeeps body × DefaultsKeep rest

  set_kept : (x : ℕ) (v : Number V) (vars : Store V) → S x v → ((y : ℕ) → S y (vars y)) → (y : ℕ) → S y (with_variable vars x v y)
  set_kept x v vars h k y = by_test (y == x) refl
    where
      by_test : (b : Bool) → (y == x) ≡ b → S y (if b then v else vars y)
      by_test true e = subst (λ z. S z v) (sym (exact_unsigned_eq y x e)) h
      by_test false e = k y

  assigned_kept : (m : Option Meaning) (e : Expression) → AssignmentKeeps m e → (v : Number V) → Q e v → (s : State V) → StateKept s
      → IfGives StateKept (assigned M c F m v s)
  assigned_kept (Some (Var x)) e h v q s k =
      then_if (S x) StateKept (told c (converted c.ops (M.variable_type x) v)) _ (h v q) (λ w p. record { variables = set_kept x w s.variables p k.variables; held = k.held })
  assigned_kept m e h v q s k = k

  assign_kept : (m : Option Meaning) (place : ℕ) (e : Expression) → AllKeep (looked_at e) → AssignmentKeeps m e → (s : State V) → StateKept s
      → IfGives StateKept (assign_value M c F m place e s)
  assign_kept m place e h l s k = then_if (Q e) StateKept (value_of M c F place e s.variables) _ (value_kept place e s.variables h k.variables) (λ v q. assigned_kept m e l v q s k)

  module _ (nothing : (b : ℕ) (q : Quantity) → H b q c.ops.zero) where
    held_kept : (b : ℕ) (wanted : Quantity) (h : Held V) → H b h.quantity h.sum → H b wanted (held_of c.ops wanted h)
    held_kept b wanted h k = by_quantities wanted h.quantity h.sum k
      where
        by_quantities : (p q : Quantity) (x : V) → H b q x → H b p (held_of c.ops p (record { quantity = q; sum = x }))
        by_quantities Potential Potential x k = k
        by_quantities Flow Flow x k = k
        by_quantities Potential Flow x k = nothing b Potential
        by_quantities Flow Potential x k = nothing b Flow

    contributed_kept : (m : Option Meaning) (e : Expression) → ContributionKeeps m e → (biased : Bool) (v : Number V) → Q e v → (s : State V) → StateKept s
        → StateKept (contributed M c F m biased v s)
    contributed_kept (Some (Access b turned flow)) e h biased v q s k = record {
      variables = k.variables;
      held = λ a. by_test a (a == b) refl;
    }
      where
        by_test : (a : ℕ) (t : Bool) → (a == b) ≡ t
            → H a (if t then (let new : Held V = record { quantity = quantity_of flow; sum = c.ops.sum (held_of c.ops (quantity_of flow) (s.held a)) (signed c.ops turned (to_real c.ops v)) } in new) else s.held a).quantity
            (if t then (let new : Held V = record { quantity = quantity_of flow; sum = c.ops.sum (held_of c.ops (quantity_of flow) (s.held a)) (signed c.ops turned (to_real c.ops v)) } in new) else s.held a).sum
        by_test a true d =
            let same : a ≡ b = exact_unsigned_eq a b d in
            subst (λ z. H z (quantity_of flow) (c.ops.sum (held_of c.ops (quantity_of flow) (s.held a)) (signed c.ops turned (to_real c.ops v)))) (sym same)
            (h v _ q (subst (λ z. H z (quantity_of flow) (held_of c.ops (quantity_of flow) (s.held a))) same (held_kept a (quantity_of flow) (s.held a) (k.held a))))
        by_test a false d = k.held a
    contributed_kept m e h biased v q s k = k

    repeated_kept : (n : ℕ) (i : ℤ) (turn : State V → Outcome E (State V)) → ((s : State V) → StateKept s → IfGives StateKept (turn s))
        → (s : State V) → StateKept s → IfGives StateKept (repeated (c.stops Turns) n i turn s)
    repeated_kept n i turn h s k =
        let P = λ (at : Counted (State V)). StateKept at.state in
        then_if P StateKept (turns (c.stops Turns) gives turns_left (count_down turn) n (record { left = i; state = s })) _
        (turns_if P P (c.stops Turns) gives turns_left (count_down turn) (λ at q. q) (λ at q. then_if StateKept P (turn at.state) _ (h at.state q) (λ t p. p)) n _ k)
        (λ at q. q)

    mutual
      pub run_kept : (b : Bool) (place : ℕ) (p : Statement) → StatementKeeps p → (s : State V) → StateKept s → IfGives StateKept (run M c F b place p s)
      run_kept b place (null at) h s k = k
      run_kept b place (block at label declarations body) h s k = run_all_kept b _ body h s k
      run_kept b place (only_if at test first) h s k =
          then_if (λ (x : Bool). Unit {0}) StateKept (test_of M c F place test s) _ (anything (test_of M c F place test s)) (λ x i. chosen_if StateKept x _ _ (run_kept _ _ first h s k) k)
      run_kept b place (if_else at test first second) h s k =
          then_if (λ (x : Bool). Unit {0}) StateKept (test_of M c F place test s) _ (anything (test_of M c F place test s))
          (λ x i. chosen_if StateKept x _ _ (run_kept _ _ first h.0 s k) (run_kept _ _ second h.1 s k))
      run_kept b place (cases at selector items defaults) h s k =
          then_if (λ (v : Number V). Unit {0}) StateKept (value_of M c F place selector s.variables) _ (anything (value_of M c F place selector s.variables))
          (λ v i. run_case_kept _ _ v items h.0 _ (λ s k. run_default_kept _ _ defaults h.1 s k) s k)
      run_kept b place (for_loop at target first test target' step body) h s k =
          then_if StateKept StateKept (assign_value M c F (M.meaning target.at) place first s) _ (assign_kept (M.meaning target.at) place first h.0.0 h.0.1 s k)
          (λ s k. while_if StateKept (c.stops Turns) _ _ (λ s k. then_if StateKept StateKept _ _ (run_kept _ _ body h.2 s k) (λ s k. assign_kept _ _ step h.1.0 h.1.1 s k)) c.bound s k)
      run_kept b place (while_loop at test body) h s k = while_if StateKept (c.stops Turns) _ _ (λ s k. run_kept _ _ body h s k) c.bound s k
      run_kept b place (repeat_loop at count body) h s k =
          then_if (λ (v : Number V). Unit {0}) StateKept (value_of M c F place count s.variables) _ (anything (value_of M c F place count s.variables))
          (λ v i. then_if (λ (z : ℤ). Unit {0}) StateKept (told c (to_integer c.ops v)) _ (anything (told c (to_integer c.ops v))) (λ z i. repeated_kept c.bound z _ (λ s k. run_kept _ _ body h s k) s k))
      run_kept b place (event at InitialStep analyses body) h s k = run_kept b place body h s k
      run_kept b place (event at FinalStep analyses body) h s k = k
      run_kept b place (assign at target value) h s k = assign_kept (M.meaning at) place value h.0 h.1 s k
      run_kept b place (contribute at bytes first second value) h s k =
          then_if (Q value) StateKept (value_of M c F place value s.variables) _ (value_kept place value s.variables h.0 k.variables) (λ v q. contributed_kept (M.meaning at) value h.1 b v q s k)
      run_kept b place (task at bytes args) h s k = k

      run_all_kept : (b : Bool) (place : ℕ) (ps : Statements) → StatementsKeep ps → (s : State V) → StateKept s → IfGives StateKept (run_all M c F b place ps s)
      run_all_kept b place no_statement h s k = k
      run_all_kept b place (statement_then p ps) h s k = then_if StateKept StateKept (run M c F b place p s) _ (run_kept b place p h.0 s k) (λ s k. run_all_kept b _ ps h.1 s k)

      run_case_kept : (b : Bool) (place : ℕ) (v : Number V) (items : Items) → ItemsKeep items → (otherwise : State V → Outcome E (State V))
          → ((s : State V) → StateKept s → IfGives StateKept (otherwise s)) → (s : State V) → StateKept s → IfGives StateKept (run_case M c F b place v items otherwise s)
      run_case_kept b place v no_items h otherwise o s k = o s k
      run_case_kept b place v (item_then at values body rest) h otherwise o s k =
          then_if (λ (x : Bool). Unit {0}) StateKept (is_among M c F place values v s) _ (anything (is_among M c F place values v s))
          (λ x i. chosen_if StateKept x _ _ (run_kept b _ body h.0 s k) (run_case_kept b _ v rest h.1 otherwise o s k))

      run_default_kept : (b : Bool) (place : ℕ) (defaults : Defaults) → DefaultsKeep defaults → (s : State V) → StateKept s → IfGives StateKept (run_default M c F b place defaults s)
      run_default_kept b place no_defaults h s k = k
      run_default_kept b place (default_then at body rest) h s k = run_kept b place body h.0 s k

    abbrev pub InitialisersKeep : List Initialiser → Type 0
    InitialisersKeep [] = Unit {0}
    InitialisersKeep (i ∷ is) =
        (AllKeep (looked_at i.value) × ((v : Number V) → Q i.value v → IfGives (S i.variable) (told c (converted c.ops (M.variable_type i.variable) v))))
        × InitialisersKeep is

    abbrev pub BlocksKeep : List Statement → Type 0
    BlocksKeep [] = Unit {0}
    BlocksKeep (p ∷ ps) = StatementKeeps p × BlocksKeep ps

    pub initialised_kept : (is : List Initialiser) → InitialisersKeep is → (vars : Store V) → ((x : ℕ) → S x (vars x))
        → IfGives (λ (vars : Store V). (x : ℕ) → S x (vars x)) (initialised M c F is vars)
    initialised_kept [] h vars k = k
    initialised_kept (i ∷ is) h vars k =
        then_if (Q i.value) _ (value_of M c F 0 i.value vars) _ (value_kept 0 i.value vars h.0.0 k)
        (λ v q. then_if (S i.variable) _ (told c (converted c.ops (M.variable_type i.variable) v)) _ (h.0.1 v q)
        (λ w p. initialised_kept is h.1 (with_variable vars i.variable w) (set_kept i.variable w vars p k)))

    pub blocks_kept : (place : ℕ) (blocks : List Statement) → BlocksKeep blocks → (s : State V) → StateKept s → IfGives StateKept (run_blocks M c F place blocks s)
    blocks_kept place [] h s k = k
    blocks_kept place (p ∷ ps) h s k =
        then_if StateKept StateKept (run M c F false place p s) _ (run_kept false place p h.0 s k) (λ s k. blocks_kept (place + statement_size p) ps h.1 s k)

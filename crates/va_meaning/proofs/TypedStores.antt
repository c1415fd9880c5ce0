-- Each variable has a value of its type: what is assigned is converted.
use Rattle.std.specs.Prelude.{◌≡◌, ℕ, zero, suc, ◌+◌, ◌==◌, Bool, true, false, ℤ, if◌then◌else◌, List, [], ◌∷◌, Option, Some, None}
use Rattle.std.specs.List.{slice_get}
use Rattle.std.proofs.Common.{refl, ap, sym, ◌∙◌}
use Rattle.std.proofs.lemmas.Map.Views.{exact_unsigned_eq}
use Rattle.alg_laws.specs.declared.number.Number.{Number}
use Rattle.alg_laws.specs.declared.number.Reason.TheVariants.{Turns}
use Rattle.alg_laws.specs.Loop.{turns}
use Rattle.alg_laws.specs.NumberOps.{type_of as type_of_number, converted, to_integer}
use Rattle.alg_laws.specs.Outcome.{Outcome, gives}
use Rattle.va_sem.specs.declared.names.Meaning.{Meaning}
use Rattle.va_sem.specs.declared.names.Meaning.TheVariants.{Var, Access}
use Rattle.va_tree.specs.declared.stmt.EventKind.TheVariants.{InitialStep, FinalStep}
use Rattle.va_tree.specs.Expressions.{Expression}
use Rattle.va_tree.specs.Statements.{Statement, Statements, Items, Defaults, null, block, only_if, if_else, cases, for_loop, while_loop, repeat_loop, event, assign, contribute, task, no_more, statement_then, no_items, item_then, no_defaults, default_then}
use Rattle.va_meaning.specs.Elaborated.{Elaborated, Initialiser, Function}
use Rattle.va_meaning.specs.Evaluation.{zeros, started, initialised, passed, function_or_none, run_blocks, functions_to, functions, evaluated}
use Rattle.va_meaning.specs.Points.{Context, Result, Store, State, with_variable, without_unknowns, told}
use Rattle.va_meaning.specs.Runs.{statement_size, Counted, turns_left, count_down, repeated, test_of, assigned, assign_value, contributed, is_among, run, run_all, run_case, run_default}
use Rattle.va_meaning.specs.Types.{result_type, IsTypedStore}
use Rattle.va_meaning.specs.Values.{Functions, value_of}
use Rattle.va_meaning.proofs.Partial.{IfGives, anything, then_if, chosen_if, turns_if, while_if}
use Rattle.va_meaning.proofs.Types.{told_typed, zero_typed}

module _ {V : Type 0} (M : Elaborated) where
  -- a variable with a value of its type
  set_typed : (x : ℕ) (v : Number V) (vars : Store V) → type_of_number v ≡ M.variable_type x → IsTypedStore M vars → IsTypedStore M (with_variable vars x v)
  set_typed x v vars h k y = by_test (y == x) refl
    where
      by_test : (b : Bool) → (y == x) ≡ b → type_of_number (if b then v else vars y) ≡ M.variable_type y
      by_test true e = h ∙ ap M.variable_type (sym (exact_unsigned_eq y x e))
      by_test false e = k y

  -- states in which each variable has a value of its type
  abbrev IsTypedState : State V → Type 0
  IsTypedState s = IsTypedStore M s.variables

  module _ {E : Type 0} (c : Context E V) (F : Functions E V) where
    assigned_typed : (m : Option Meaning) (v : Number V) (s : State V) → IsTypedState s → IfGives IsTypedState (assigned M c F m v s)
    assigned_typed (Some (Var x)) v s k =
        then_if (λ (w : Number V). type_of_number w ≡ M.variable_type x) IsTypedState (told c (converted c.ops (M.variable_type x) v)) _ (told_typed c (M.variable_type x) v)
        (λ w e. set_typed x w s.variables e k)
    assigned_typed m v s k = k

    assign_typed : (m : Option Meaning) (place : ℕ) (e : Expression) (s : State V) → IsTypedState s → IfGives IsTypedState (assign_value M c F m place e s)
    assign_typed m place e s k =
        then_if (λ (v : Number V). Unit {0}) IsTypedState (value_of M c F place e s.variables) _ (anything (value_of M c F place e s.variables)) (λ v i. assigned_typed m v s k)

    contributed_typed : (m : Option Meaning) (biased : Bool) (v : Number V) (s : State V) → IsTypedState s → IsTypedState (contributed M c F m biased v s)
    contributed_typed (Some (Access b turned flow)) biased v s k = k
    contributed_typed m biased v s k = k

    repeated_typed : (n : ℕ) (i : ℤ) (turn : State V → Outcome E (State V)) → ((s : State V) → IsTypedState s → IfGives IsTypedState (turn s))
        → (s : State V) → IsTypedState s → IfGives IsTypedState (repeated (c.stops Turns) n i turn s)
    repeated_typed n i turn h s k =
        let Q = λ (at : Counted (State V)). IsTypedState at.state in
        then_if Q IsTypedState (turns (c.stops Turns) gives turns_left (count_down turn) n (record { left = i; state = s })) _
        (turns_if Q Q (c.stops Turns) gives turns_left (count_down turn) (λ at q. q) (λ at q. then_if IsTypedState Q (turn at.state) _ (h at.state q) (λ t p. p)) n _ k)
        (λ at q. q)

    mutual
      run_typed : (b : Bool) (place : ℕ) (p : Statement) (s : State V) → IsTypedState s → IfGives IsTypedState (run M c F b place p s)
      run_typed b place (null at) s k = k
      run_typed b place (block at label declarations body) s k = run_all_typed b _ body s k
      run_typed b place (only_if at test first) s k =
          then_if (λ (x : Bool). Unit {0}) IsTypedState (test_of M c F place test s) _ (anything (test_of M c F place test s))
          (λ x i. chosen_if IsTypedState x _ _ (run_typed _ _ first s k) k)
      run_typed b place (if_else at test first second) s k =
          then_if (λ (x : Bool). Unit {0}) IsTypedState (test_of M c F place test s) _ (anything (test_of M c F place test s))
          (λ x i. chosen_if IsTypedState x _ _ (run_typed _ _ first s k) (run_typed _ _ second s k))
      run_typed b place (cases at selector items defaults) s k =
          then_if (λ (v : Number V). Unit {0}) IsTypedState (value_of M c F place selector s.variables) _ (anything (value_of M c F place selector s.variables))
          (λ v i. run_case_typed _ _ v items _ (λ s k. run_default_typed _ _ defaults s k) s k)
      run_typed b place (for_loop at target first test target' step body) s k =
          then_if IsTypedState IsTypedState (assign_value M c F (M.meaning target.at) place first s) _ (assign_typed (M.meaning target.at) place first s k)
          (λ s k. while_if IsTypedState (c.stops Turns) _ _ (λ s k. then_if IsTypedState IsTypedState _ _ (run_typed _ _ body s k) (λ s k. assign_typed _ _ step s k)) c.bound s k)
      run_typed b place (while_loop at test body) s k = while_if IsTypedState (c.stops Turns) _ _ (λ s k. run_typed _ _ body s k) c.bound s k
      run_typed b place (repeat_loop at count body) s k =
          then_if (λ (v : Number V). Unit {0}) IsTypedState (value_of M c F place count s.variables) _ (anything (value_of M c F place count s.variables))
          (λ v i. then_if (λ (z : ℤ). Unit {0}) IsTypedState (told c (to_integer c.ops v)) _ (anything (told c (to_integer c.ops v)))
          (λ z i. repeated_typed c.bound z _ (λ s k. run_typed _ _ body s k) s k))
      run_typed b place (event at InitialStep analyses body) s k = run_typed b place body s k
      run_typed b place (event at FinalStep analyses body) s k = k
      run_typed b place (assign at target value) s k = assign_typed (M.meaning at) place value s k
      run_typed b place (contribute at bytes first second value) s k =
          then_if (λ (v : Number V). Unit {0}) IsTypedState (value_of M c F place value s.variables) _ (anything (value_of M c F place value s.variables))
          (λ v i. contributed_typed (M.meaning at) b v s k)
      run_typed b place (task at bytes args) s k = k

      run_all_typed : (b : Bool) (place : ℕ) (ps : Statements) (s : State V) → IsTypedState s → IfGives IsTypedState (run_all M c F b place ps s)
      run_all_typed b place no_more s k = k
      run_all_typed b place (statement_then p ps) s k =
          then_if IsTypedState IsTypedState (run M c F b place p s) _ (run_typed b place p s k) (λ s k. run_all_typed b _ ps s k)

      run_case_typed : (b : Bool) (place : ℕ) (v : Number V) (items : Items) (otherwise : State V → Outcome E (State V))
          → ((s : State V) → IsTypedState s → IfGives IsTypedState (otherwise s)) → (s : State V) → IsTypedState s
          → IfGives IsTypedState (run_case M c F b place v items otherwise s)
      run_case_typed b place v no_items otherwise o s k = o s k
      run_case_typed b place v (item_then at values body rest) otherwise o s k =
          then_if (λ (x : Bool). Unit {0}) IsTypedState (is_among M c F place values v s) _ (anything (is_among M c F place values v s))
          (λ x i. chosen_if IsTypedState x _ _ (run_typed b _ body s k) (run_case_typed b _ v rest otherwise o s k))

      run_default_typed : (b : Bool) (place : ℕ) (defaults : Defaults) (s : State V) → IsTypedState s → IfGives IsTypedState (run_default M c F b place defaults s)
      run_default_typed b place no_defaults s k = k
      run_default_typed b place (default_then at body rest) s k = run_typed b place body s k

    initialised_typed : (is : List Initialiser) (vars : Store V) → IsTypedStore M vars → IfGives (IsTypedStore M) (initialised M c F is vars)
    initialised_typed [] vars k = k
    initialised_typed (i ∷ is) vars k =
        then_if (λ (v : Number V). Unit {0}) (IsTypedStore M) (value_of M c F 0 i.value vars) _ (anything (value_of M c F 0 i.value vars))
        (λ v e. then_if (λ (w : Number V). type_of_number w ≡ M.variable_type i.variable) (IsTypedStore M) (told c (converted c.ops (M.variable_type i.variable) v)) _ (told_typed c (M.variable_type i.variable) v)
        (λ w d. initialised_typed is (with_variable vars i.variable w) (set_typed i.variable w vars d k)))

    passed_typed : (xs : List ℕ) (outs : List (Result E V)) (vars : Store V) → IsTypedStore M vars → IfGives (IsTypedStore M) (passed M c F xs outs vars)
    passed_typed [] outs vars k = k
    passed_typed (x ∷ xs) [] vars k = k
    passed_typed (x ∷ xs) (out ∷ outs) vars k =
        then_if (λ (v : Number V). Unit {0}) (IsTypedStore M) out _ (anything out)
        (λ v e. then_if (λ (w : Number V). type_of_number w ≡ M.variable_type x) (IsTypedStore M) (told c (converted c.ops (M.variable_type x) v)) _ (told_typed c (M.variable_type x) v)
        (λ w d. passed_typed xs outs (with_variable vars x w) (set_typed x w vars d k)))

    zeros_typed : IsTypedStore M (zeros M c.ops)
    zeros_typed x = zero_typed c.ops (M.variable_type x)

    function_typed : (f : Option Function) (outs : List (Result E V)) → IfGives (λ v. type_of_number v ≡ result_type f) (function_or_none M c F f outs)
    function_typed None outs = refl
    function_typed (Some f) outs =
        then_if (IsTypedStore M) _ (passed M c F f.arguments outs (zeros M c.ops)) _ (passed_typed f.arguments outs (zeros M c.ops) zeros_typed)
        (λ vars k. then_if (IsTypedStore M) _ (initialised M c F f.initialisers vars) _ (initialised_typed f.initialisers vars k)
        (λ begun k. then_if IsTypedState _ (run M c F false 0 f.body (started M c.ops begun)) _ (run_typed false 0 f.body (started M c.ops begun) k) (λ last k. told_typed c f.ty (last.variables f.result))))

    blocks_typed : (place : ℕ) (blocks : List Statement) (s : State V) → IsTypedState s → IfGives IsTypedState (run_blocks M c F place blocks s)
    blocks_typed place [] s k = k
    blocks_typed place (p ∷ ps) s k =
        then_if IsTypedState IsTypedState (run M c F false place p s) _ (run_typed false place p s k) (λ s k. blocks_typed (place + statement_size p) ps s k)

  -- what functions give has the type of their results
  pub functions_typed : {E : Type 0} (c : Context E V) (depth f : ℕ) (outs : List (Result E V)) → IfGives (λ v. type_of_number v ≡ result_type (slice_get M.functions f)) (functions_to M c depth f outs)
  functions_typed c zero f outs = tt
  functions_typed c (suc depth) f outs = function_typed c (functions_to M c depth) (slice_get M.functions f) outs

  pub evaluated_typed : {E : Type 0} (c : Context E V) → IfGives IsTypedState (evaluated M c)
  evaluated_typed c =
      let F = functions M c in
      then_if (IsTypedStore M) IsTypedState (initialised M (without_unknowns c) F M.initialisers (zeros M c.ops)) _ (initialised_typed (without_unknowns c) F M.initialisers (zeros M c.ops) (zeros_typed (without_unknowns c) F))
      (λ vars k. blocks_typed c F 0 M.blocks (started M c.ops vars) k)

-- A run of some calls and then others, and runs that may make more turns.
use Rattle.std.specs.Prelude.{◌≡◌, ◌≤◌, ℕ, zero, suc, ◌+◌, ◌==◌, Bool, true, false, if◌then◌else◌, List, [], ◌∷◌, ◌++◌, None}
use Rattle.std.proofs.Common.{refl, ap, sym, subst, ◌∙◌, arith, inl, inr}
use Rattle.alg_laws.specs.declared.number.Number.{Number}
use Rattle.alg_laws.specs.declared.number.Reason.TheVariants.{Turns}
use Rattle.alg_laws.specs.Loop.{turns}
use Rattle.alg_laws.specs.Operations.{Operations}
use Rattle.alg_laws.specs.Outcome.{Outcome, gives, ends, ◌>>=◌}
use Rattle.c_tree.specs.declared.body.CAtom.{CAtom}
use Rattle.c_tree.specs.declared.body.CAtom.TheVariants as atom
use Rattle.c_tree.specs.declared.body.CCallee.{CCallee}
use Rattle.c_tree.specs.declared.body.CCallee.TheVariants as callee
use Rattle.c_tree.specs.declared.body.CRight.{CRight}
use Rattle.c_tree.specs.declared.body.CRight.TheVariants as right
use Rattle.c_tree.specs.declared.body.CSimple.{CSimple}
use Rattle.c_tree.specs.declared.body.CSimple.TheVariants.{Constant, Join, Head, Assign, SetCell, SetCollapse, Report}
use Rattle.c_tree.specs.declared.body.CStatement.{CStatement}
use Rattle.c_tree.specs.declared.file.CFunction.{CFunction}
use Rattle.c_tree.specs.declared.file.CModule.{CModule}
use Rattle.c_tree.specs.Blocks.{Block, done, simple, choice, loop, block_of}
use Rattle.c_machine.specs.Execution.{Calls, Scope, State, atom_value, atom_values, called, right_value, step, test_value, run_block, arguments_of, call_function, calls_from, calls_of, no_locals}
use Rattle.c_machine.specs.Machine.{Stop, undefined, Machine, no_machine}
use Rattle.c_machine.specs.MachineLaws.{RunsFollow, SameWithTurns, TurnsSuffice}
use Rattle.c_machine.specs.Runs.{HostCall, set_parameter, setup_model, setup_instance, evaluate, load_residual_resist, load_residual_react, load_jacobian_resist, load_jacobian_react, load_jacobian_tran, load_rhs_dc, load_rhs_tran, run_body, run_call, run_calls, run_to_end, last_machine, with_temperature, model_scope, instance_scope, eval_scope}

-- a sequence can be regrouped
pub grouped : {E U V W : Type 0} (a : Outcome E U) (f : U → Outcome E V) (g : V → Outcome E W)
    → ((a >>= f) >>= g) ≡ (a >>= λ u. f u >>= g)
grouped (gives u) f g = refl
grouped (ends e) f g = refl

-- what follows a first computation
pub then_same : {E V W : Type 0} (a : Outcome E V) (f g : V → Outcome E W) → ((v : V) → f v ≡ g v) → (a >>= f) ≡ (a >>= g)
then_same (gives v) f g h = h v
then_same (ends e) f g h = refl

last-append : {V : Type 0} (s : Machine V) (xs ys : List (Machine V))
    → last_machine s (xs ++ ys) ≡ last_machine (last_machine s xs) ys
last-append s [] ys = refl
last-append s (x ∷ xs) ys = last-append x xs ys

module _ {V : Type 0} (o : Operations V) (n : ℕ) (m : CModule) where
  none_first : (second : List (HostCall V)) (s : Machine V)
      → run_calls o n m second s ≡ (run_calls o n m second s >>= λ ys. gives ([] ++ ys))
  none_first second s = itself (run_calls o n m second s)
    where
      itself : (a : Outcome Stop (List (Machine V))) → a ≡ (a >>= λ ys. gives ([] ++ ys))
      itself (gives ys) = refl
      itself (ends e) = refl

  runs_follow : (first second : List (HostCall V)) (s : Machine V)
      → run_calls o n m (first ++ second) s
      ≡ (run_calls o n m first s >>= λ xs. run_calls o n m second (last_machine s xs) >>= λ ys. gives (xs ++ ys))
  runs_follow [] second s = none_first second s
  runs_follow (call ∷ rest) second s = from (λ next. runs_follow rest second next) (run_call o n m call s)
    where
      behind : (next : Machine V) (xs : List (Machine V)) → Outcome Stop (List (Machine V))
      behind next xs = run_calls o n m second (last_machine next xs) >>= λ ys. gives (xs ++ ys)

      with_first : (next : Machine V) (a : Outcome Stop (List (Machine V)))
          → ((a >>= behind next) >>= λ later. gives (next ∷ later))
          ≡ ((a >>= λ later. gives (next ∷ later)) >>= λ xs. run_calls o n m second (last_machine s xs) >>= λ ys. gives (xs ++ ys))
      with_first next (gives xs) = grouped (run_calls o n m second (last_machine next xs)) _ _
      with_first next (ends e) = refl

      from : ((next : Machine V) → run_calls o n m (rest ++ second) next ≡ (run_calls o n m rest next >>= behind next))
          → (a : Outcome Stop (Machine V))
          → (a >>= λ next. run_calls o n m (rest ++ second) next >>= λ later. gives (next ∷ later))
          ≡ ((a >>= λ next. run_calls o n m rest next >>= λ later. gives (next ∷ later))
          >>= λ xs. run_calls o n m second (last_machine s xs) >>= λ ys. gives (xs ++ ys))
      from h (gives next) =
          ap (λ a. a >>= λ later. gives (next ∷ later)) (h next) ∙ with_first next (run_calls o n m rest next)
      from h (ends e) = refl

  ends_follow : (first second : List (HostCall V)) (s : Machine V)
      → run_to_end o n m (first ++ second) s ≡ (run_to_end o n m first s >>= run_to_end o n m second)
  ends_follow first second s =
      ap (λ a. a >>= λ later. gives (last_machine s later)) (runs_follow first second s) ∙ from (run_calls o n m first s)
    where
      to_last : (xs : List (Machine V)) (a : Outcome Stop (List (Machine V)))
          → ((a >>= λ ys. gives (xs ++ ys)) >>= λ later. gives (last_machine s later))
          ≡ (a >>= λ later. gives (last_machine (last_machine s xs) later))
      to_last xs (gives ys) = ap gives (last-append s xs ys)
      to_last xs (ends e) = refl

      from : (a : Outcome Stop (List (Machine V)))
          → ((a >>= λ xs. run_calls o n m second (last_machine s xs) >>= λ ys. gives (xs ++ ys)) >>= λ later. gives (last_machine s later))
          ≡ ((a >>= λ later. gives (last_machine s later)) >>= run_to_end o n m second)
      from (gives xs) = to_last xs (run_calls o n m second (last_machine s xs))
      from (ends e) = refl

pub following : (V : Type 0) (o : Operations V) (valid : V → Type 0) → RunsFollow V o valid
following V o valid = record { machines = runs_follow o; end = ends_follow o }

-- one after the other
then_with : {U V : Type 0} (a b : Outcome Stop U) (f g : U → Outcome Stop V) → SameWithTurns a b
    → ((u : U) → SameWithTurns (f u) (g u)) → SameWithTurns (a >>= f) (b >>= g)
then_with {U} a b f g (inl e) h = subst (λ c. SameWithTurns (a >>= f) (c >>= g)) e (same_first a)
  where
    same_first : (c : Outcome Stop U) → SameWithTurns (c >>= f) (c >>= g)
    same_first (gives u) = h u
    same_first (ends e) = inl refl
then_with a b f g (inr e) h = inr (ap (λ c. c >>= f) e)

-- the same first
then_alike : {U V : Type 0} (a : Outcome Stop U) (f g : U → Outcome Stop V) → ((u : U) → SameWithTurns (f u) (g u))
    → SameWithTurns (a >>= f) (a >>= g)
then_alike a f g h = then_with a a f g (inl refl) h

-- the same behind
then_equal : {U V : Type 0} (a b : Outcome Stop U) (f : U → Outcome Stop V) → SameWithTurns a b → SameWithTurns (a >>= f) (b >>= f)
then_equal a b f h = then_with a b f f h (λ u. inl refl)

by_test : {V : Type 0} (test : Bool) (a a' b b' : Outcome Stop V) → SameWithTurns a a' → SameWithTurns b b'
    → SameWithTurns (if test then a else b) (if test then a' else b')
by_test true a a' b b' h k = h
by_test false a a' b b' h k = k

module _ {S T : Type 0} (before before' : S → Outcome Stop T) (goes : T → Bool) (turn turn' : T → Outcome Stop S)
    (same_before : (s : S) → SameWithTurns (before s) (before' s)) (same_turn : (t : T) → SameWithTurns (turn t) (turn' t)) where
  turns_with : (n more : ℕ) → n ≤ more → (s : S)
      → SameWithTurns (turns (undefined Turns) before goes turn n s) (turns (undefined Turns) before' goes turn' more s)
  turns_with zero zero h s =
      then_with (before s) (before' s) _ _ (same_before s) (λ t. inl refl)
  turns_with zero (suc more) h s =
      then_with (before s) (before' s) _ _ (same_before s)
      (λ t. by_test (goes t) (ends (undefined Turns)) (turn' t >>= turns (undefined Turns) before' goes turn' more) (gives t) (gives t)
      (inr refl) (inl refl))
  turns_with (suc n) zero h s = absurd (let no : ⊥ = omega arith in no)
  turns_with (suc n) (suc more) h s =
      then_with (before s) (before' s) _ _ (same_before s)
      (λ t. by_test (goes t) (turn t >>= turns (undefined Turns) before goes turn n)
      (turn' t >>= turns (undefined Turns) before' goes turn' more) (gives t) (gives t)
      (then_with (turn t) (turn' t) _ _ (same_turn t) (turns_with n more (omega arith))) (inl refl))

module _ {V : Type 0} (o : Operations V) where
  abbrev with_calls : Scope V → Calls V → Scope V
  with_calls c k = record c { calls = k }

  atom_same : (c : Scope V) (k k' : Calls V) (s : State V) (a : CAtom)
      → atom_value o (with_calls c k) s a ≡ atom_value o (with_calls c k') s a
  atom_same c k k' s (atom.Local i) = refl
  atom_same c k k' s (atom.Argument i) = refl
  atom_same c k k' s (atom.Integer i) = refl
  atom_same c k k' s (atom.Real d) = refl
  atom_same c k k' s (atom.Cell cell) = refl
  atom_same c k k' s (atom.Unknown i) = refl

  atoms_same : (c : Scope V) (k k' : Calls V) (s : State V) (args : List CAtom)
      → atom_values o (with_calls c k) s args ≡ atom_values o (with_calls c k') s args
  atoms_same c k k' s [] = refl
  atoms_same c k k' s (a ∷ rest) = λ i. atom_same c k k' s a i >>= λ v. atoms_same c k k' s rest i >>= λ vs. gives (v ∷ vs)

  abbrev CallsSame : Calls V → Calls V → Type 0
  CallsSame k k' = (j : ℕ) (args : List (Number V)) → SameWithTurns (k j args) (k' j args)

  called_with : (k k' : Calls V) → CallsSame k k' → (f : CCallee) (args : List (Number V))
      → SameWithTurns (called o k f args) (called o k' f args)
  called_with k k' h (callee.Fun1 f) [] = inl refl
  called_with k k' h (callee.Fun1 f) (v ∷ []) = inl refl
  called_with k k' h (callee.Fun1 f) (v ∷ w ∷ rest) = inl refl
  called_with k k' h (callee.Fun2 f) [] = inl refl
  called_with k k' h (callee.Fun2 f) (v ∷ []) = inl refl
  called_with k k' h (callee.Fun2 f) (v ∷ w ∷ []) = inl refl
  called_with k k' h (callee.Fun2 f) (v ∷ w ∷ x ∷ rest) = inl refl
  called_with k k' h (callee.Function j) [] = h j []
  called_with k k' h (callee.Function j) (v ∷ []) = h j (v ∷ [])
  called_with k k' h (callee.Function j) (v ∷ w ∷ []) = h j (v ∷ w ∷ [])
  called_with k k' h (callee.Function j) (v ∷ w ∷ x ∷ rest) = h j (v ∷ w ∷ x ∷ rest)

  module _ (c : Scope V) (k k' : Calls V) (h : CallsSame k k') where
    right_with : (s : State V) (side : CRight)
        → SameWithTurns (right_value o (with_calls c k) s side) (right_value o (with_calls c k') s side)
    right_with s (right.Same a) = inl (atom_same c k k' s a)
    right_with s (right.Negated a) = then_equal _ _ _ (inl (atom_same c k k' s a))
    right_with s (right.Contrary a) = then_equal _ _ _ (then_equal _ _ _ (inl (atom_same c k k' s a)))
    right_with s (right.ToReal a) = then_equal _ _ _ (then_equal _ _ _ (inl (atom_same c k k' s a)))
    right_with s (right.ToInteger a) = then_equal _ _ _ (inl (atom_same c k k' s a))
    right_with s (right.Call f args) =
        then_with _ _ _ _ (inl (atoms_same c k k' s args)) (called_with k k' h f)
    right_with s (right.Binary a op b) =
        then_with _ _ _ _ (inl (atom_same c k k' s a)) (λ v. then_equal _ _ _ (inl (atom_same c k k' s b)))

    step_with : (x : CSimple) (s : State V) → SameWithTurns (step o (with_calls c k) x s) (step o (with_calls c k') x s)
    step_with (Constant ty i side) s = then_equal _ _ _ (right_with s side)
    step_with (Join ty i) s = inl refl
    step_with (Head ty i first) s = then_equal _ _ _ (inl (atom_same c k k' s first))
    step_with (Assign i value) s = then_equal _ _ _ (inl (atom_same c k k' s value))
    step_with (SetCell cell value) s = then_equal _ _ _ (inl (atom_same c k k' s value))
    step_with (SetCollapse pair value) s = then_equal _ _ _ (inl (atom_same c k k' s value))
    step_with (Report id) s = inl refl

    test_with : (s : State V) (a : CAtom) → SameWithTurns (test_value o (with_calls c k) s a) (test_value o (with_calls c k') s a)
    test_with s a = then_equal _ _ _ (then_equal _ _ _ (inl (atom_same c k k' s a)))

    block_with : (n more : ℕ) → n ≤ more → (b : Block) (s : State V)
        → SameWithTurns (run_block o n (with_calls c k) b s) (run_block o more (with_calls c k') b s)
    block_with n more le done s = inl refl
    block_with n more le (simple x rest) s = then_with _ _ _ _ (step_with x s) (block_with n more le rest)
    block_with n more le (choice a first second rest) s =
        then_with _ _ _ _ (test_with s a)
        (λ goes. then_with _ _ _ _ (by_test goes _ _ _ _ (block_with n more le first s) (block_with n more le second s))
        (block_with n more le rest))
    block_with n more le (loop before a turn rest) s =
        then_with _ _ _ _
        (turns_with _ _ _ _ _ (λ head. then_with _ _ _ _ (block_with n more le before head) (λ at. then_equal _ _ _ (test_with at a)))
        (λ at. block_with n more le turn at.state) n more le s)
        (λ last. block_with n more le rest last.state)

  call_with : (n more : ℕ) → n ≤ more → (m : CModule) (k k' : Calls V) → CallsSame k k' → (f : CFunction) (args : List (Number V))
      → SameWithTurns (call_function o n m k f args) (call_function o more m k' f args)
  call_with n more le m k k' h f args =
      then_alike (arguments_of o f.arguments args) _ _ (λ arguments.
      let c : Scope V = record { tree = m; has_model = false; has_instance = false; reports = false; solution = None; arguments = arguments; calls = k } in
      then_with _ _ _ _ (block_with c k k' h n more le (block_of f.body) (record { locals = no_locals; machine = no_machine }))
      (λ last. then_equal _ _ _ (inl (atom_same c k k' last f.value))))

  calls_with : (n more : ℕ) → n ≤ more → (m : CModule) (j : ℕ) (k k' : Calls V) → CallsSame k k' → (fs : List CFunction)
      → CallsSame (calls_from o n m j k fs) (calls_from o more m j k' fs)
  calls_with n more le m j k k' h [] = h
  calls_with n more le m j k k' h (f ∷ rest) =
      calls_with n more le m (j + 1) _ _
      (λ i args. by_test (i == j) _ _ _ _ (call_with n more le m k k' h f args) (h i args)) rest

  module _ (n more : ℕ) (le : n ≤ more) (m : CModule) where
    all_calls : CallsSame (calls_of o n m) (calls_of o more m)
    all_calls = calls_with n more le m 0 _ _ (λ j args. inl refl) m.functions

    body_with : (c : Scope V) (body : List CStatement) (s : Machine V)
        → SameWithTurns (run_body o n m (with_calls c (calls_of o n m)) body s) (run_body o more m (with_calls c (calls_of o more m)) body s)
    body_with c body s = then_equal _ _ _
        (block_with c (calls_of o n m) (calls_of o more m) all_calls n more le (block_of body) (record { locals = no_locals; machine = s }))

    one_call_with : (call : HostCall V) (s : Machine V) → SameWithTurns (run_call o n m call s) (run_call o more m call s)
    one_call_with (set_parameter instance id v) s = inl refl
    one_call_with setup_model s = body_with (model_scope o n m) m.setup_model s
    one_call_with (setup_instance t) s =
        then_alike (with_temperature m t s) _ _ (body_with (instance_scope o n m) m.setup_instance)
    one_call_with (evaluate solution) s = body_with (eval_scope o n m solution) m.eval s
    one_call_with load_residual_resist s = inl refl
    one_call_with load_residual_react s = inl refl
    one_call_with load_jacobian_resist s = inl refl
    one_call_with (load_jacobian_react alpha) s = inl refl
    one_call_with (load_jacobian_tran alpha) s = inl refl
    one_call_with (load_rhs_dc x) s = inl refl
    one_call_with (load_rhs_tran x alpha) s = inl refl

    calls_suffice : (calls : List (HostCall V)) (s : Machine V) → SameWithTurns (run_calls o n m calls s) (run_calls o more m calls s)
    calls_suffice [] s = inl refl
    calls_suffice (call ∷ rest) s =
        then_with _ _ _ _ (one_call_with call s) (λ next. then_equal _ _ _ (calls_suffice rest next))

defined_too : {V : Type 0} (a b : Outcome Stop V) (v : V) → SameWithTurns a b → a ≡ gives v → b ≡ gives v
defined_too a b v (inl e) h = sym e ∙ h
defined_too a b v (inr e) h = cc (sym e ∙ h)

pub sufficing : (V : Type 0) (o : Operations V) (valid : V → Type 0) → TurnsSuffice V o valid
sufficing V o valid = record {
  same = λ m calls s n more le. calls_suffice o n more le m calls s;
  defined = λ m calls s n more machines le h. defined_too _ _ machines (calls_suffice o n more le m calls s) h;
}

-- What statements and blocks do to a local: its type stays, a value stays, and a block that sets it once gives it a value.
use Rattle.std.specs.Prelude.{◌≡◌, ℕ, ◌==◌, Bool, true, false, if◌then◌else◌, List, [], ◌∷◌, ◌++◌}
use Rattle.std.specs.List.{flat_map}
use Rattle.std.proofs.Common.{refl, sym, ap, ◌∙◌}
use Rattle.std.proofs.lemmas.Grind.{flat_map-append}
use Rattle.alg_laws.specs.declared.number.Number.{Number}
use Rattle.alg_laws.specs.declared.number.Reason.TheVariants.{Turns}
use Rattle.alg_laws.specs.declared.number.Ty.{Ty}
use Rattle.alg_laws.specs.Loop.{Tested, turns, tested}
use Rattle.alg_laws.specs.NumberOps.{type_of}
use Rattle.alg_laws.specs.Operations.{Operations}
use Rattle.alg_laws.specs.Outcome.{gives, ◌>>=◌}
use Rattle.c_tree.specs.declared.body.CAtom.{CAtom}
use Rattle.c_tree.specs.declared.body.CSimple.{CSimple}
use Rattle.c_tree.specs.declared.body.CSimple.TheVariants.{Constant, Join, Head, Assign, SetCell, SetCollapse, Report}
use Rattle.c_tree.specs.Blocks.{Block}
use Rattle.c_machine.specs.Execution.{Scope, State, Local, empty, holds, Locals, with_local, local_type, has, atom_value, right_value, test_value, step, run_block}
use Rattle.c_tree.specs.FileOf.{simple_of, test_of, block_in, before_test, behind_test}
use Rattle.c_machine.specs.Machine.{undefined, typed, write_cell, write_flag}
use Rattle.c_tree.specs.Raw.{At, RawSimple, constant, join, head, assign, set_cell, set_flag, report, RawBlock, closed, simple, leave, choice, loop}
use Rattle.c_tree.specs.rules.Bodies.{Item, items_in, of_statement, tokens_of}
use Rattle.c_tree.specs.rules.Locals.{declared}
use Rattle.c_tree.specs.rules.Settings.{sets_in, set_once, first_counts, still_wanted}
use Rattle.c_tree.proofs.Blameless.{no_parts, tokens_split, tokens_head, turned_test, turned_true, same_test}
use Rattle.c_machine.proofs.Endings.{then_gives, only_if_gives, value_given}
use Rattle.c_machine.proofs.Keeping.{typed_gives, Each, run_keeps, loop_keeps}

-- a statement that doesn't declare a local
abbrev pub Undeclared : ℕ → CSimple → Type 0
Undeclared i (Constant ty j side) = (i == j) ≡ false
Undeclared i (Join ty j) = (i == j) ≡ false
Undeclared i (Head ty j first) = (i == j) ≡ false
Undeclared i (Assign j value) = Unit {0}
Undeclared i (SetCell cell value) = Unit {0}
Undeclared i (SetCollapse pair value) = Unit {0}
Undeclared i (Report id) = Unit {0}

-- the local is there, with a type
abbrev pub Slot : {V : Type 0} → Locals V → ℕ → Ty → Type 0
Slot locals i ty = local_type (locals i) ≡ gives ty

-- and it has a value
pub record Ready {V : Type 0} (locals : Locals V) (i : ℕ) (ty : Ty) : Type 0 where
  pub value : Number V
  pub is : locals i ≡ holds value
  pub fits : type_of value ≡ ty

pub ready_slot : {V : Type 0} (locals : Locals V) (i : ℕ) (ty : Ty) → Ready locals i ty → Slot locals i ty
ready_slot locals i ty r = ap local_type r.is ∙ ap gives r.fits

-- how a statement changes the locals
pub data Put {V : Type 0} (x : CSimple) (s t : Locals V) : Type 0 where
  kept : t ≡ s → Put x s t
  declares_one : (j : ℕ) (l : Local V) → t ≡ with_local s j l → ((i : ℕ) → Undeclared i x → (i == j) ≡ false) → Put x s t
  assigns_one : (j : ℕ) (w : Number V) → t ≡ with_local s j (holds w) → local_type (s j) ≡ gives (type_of w) → Put x s t

module _ {V : Type 0} (o : Operations V) (c : Scope V) where
  pub step_puts : (x : CSimple) (s t : State V) → step o c x s ≡ gives t → Put x s.locals t.locals
  step_puts (Constant ty i side) s t h =
      let a = then_gives (right_value o c s side) _ t h in
      let b = then_gives (typed ty a.0) _ t a.2 in
      declares_one i (holds b.0) (ap (λ u. State.locals u) (sym (value_given _ _ b.2))) (λ j u. u)
  step_puts (Join ty i) s t h = declares_one i (empty ty) (ap (λ u. State.locals u) (sym (value_given _ _ h))) (λ j u. u)
  step_puts (Head ty i first) s t h =
      let a = then_gives (atom_value o c s first) _ t h in
      let b = then_gives (typed ty a.0) _ t a.2 in
      declares_one i (holds b.0) (ap (λ u. State.locals u) (sym (value_given _ _ b.2))) (λ j u. u)
  step_puts (Assign i value) s t h =
      let a = then_gives (atom_value o c s value) _ t h in
      let b = then_gives (local_type (s.locals i)) _ t a.2 in
      let d = then_gives (typed b.0 a.0) _ t b.2 in
      let e = typed_gives b.0 a.0 d.0 d.1 in
      assigns_one i d.0 (ap (λ u. State.locals u) (sym (value_given _ _ d.2)))
      (b.1 ∙ ap gives (sym (ap (λ u. type_of u) e.0 ∙ e.1)))
  step_puts (SetCell cell value) s t h =
      let a = then_gives (atom_value o c s value) _ t h in
      let b = only_if_gives (has c cell.level) _ t a.2 in
      let d = then_gives (write_cell c.tree cell a.0 s.machine) _ t b.1 in
      kept (ap (λ u. State.locals u) (sym (value_given _ _ d.2)))
  step_puts (SetCollapse pair value) s t h =
      let a = then_gives (atom_value o c s value) _ t h in
      let b = only_if_gives c.has_instance _ t a.2 in
      let d = then_gives (write_flag c.tree pair a.0 s.machine) _ t b.1 in
      kept (ap (λ u. State.locals u) (sym (value_given _ _ d.2)))
  step_puts (Report id) s t h =
      let a = only_if_gives c.reports _ t h in
      kept (ap (λ u. State.locals u) (sym (value_given _ _ a.1)))

module _ {V : Type 0} where
  other_local : (s : Locals V) (i j : ℕ) (l : Local V) → (i == j) ≡ false → with_local s j l i ≡ s i
  other_local s i j l e = ap (λ test. if test then l else s i) e

  pub this_local : (s : Locals V) (i j : ℕ) (l : Local V) → (i == j) ≡ true → with_local s j l i ≡ l
  this_local s i j l e = ap (λ test. if test then l else s i) e

  pub put_slot : (x : CSimple) (s t : Locals V) (i : ℕ) (ty : Ty) → Undeclared i x → Put x s t → Slot s i ty → Slot t i ty
  put_slot x s t i ty u (kept e) h = ap (λ l. local_type (l i)) e ∙ h
  put_slot x s t i ty u (declares_one j l e k) h = ap (λ z. local_type (z i)) e ∙ ap local_type (other_local s i j l (k i u)) ∙ h
  put_slot x s t i ty u (assigns_one j w e k) h = ap (λ z. local_type (z i)) e ∙ by_test (i == j) refl
    where
      by_test : (test : Bool) → (i == j) ≡ test → local_type (with_local s j (holds w) i) ≡ gives ty
      by_test true q =
          ap local_type (this_local s i j (holds w) q) ∙ sym k ∙ ap (λ n. local_type (s n)) (sym (same_test i j q)) ∙ h
      by_test false q = ap local_type (other_local s i j (holds w) q) ∙ h

  pub put_ready : (x : CSimple) (s t : Locals V) (i : ℕ) (ty : Ty) → Undeclared i x → Put x s t → Ready s i ty → Ready t i ty
  put_ready x s t i ty u (kept e) r = record { value = r.value; is = ap (λ l. l i) e ∙ r.is; fits = r.fits }
  put_ready x s t i ty u (declares_one j l e k) r =
      record { value = r.value; is = ap (λ z. z i) e ∙ other_local s i j l (k i u) ∙ r.is; fits = r.fits }
  put_ready x s t i ty u (assigns_one j w e k) r = by_test (i == j) refl
    where
      by_test : (test : Bool) → (i == j) ≡ test → Ready t i ty
      by_test true q = record {
        value = w;
        is = ap (λ z. z i) e ∙ this_local s i j (holds w) q;
        fits = value_given _ _ (sym k ∙ ap (λ n. local_type (s n)) (sym (same_test i j q)) ∙ ready_slot s i ty r);
      }
      by_test false q = record { value = r.value; is = ap (λ z. z i) e ∙ other_local s i j (holds w) q ∙ r.is; fits = r.fits }

-- the declarations of a block and its blocks
abbrev pub declared_in : RawBlock → List (At ℕ)
declared_in x = flat_map (of_statement declared) (items_in x)

-- the parts of a list of items
pub two_parts : (f : Item → List (At ℕ)) (i : ℕ) (xs ys : List Item) → tokens_of i (flat_map f (xs ++ ys)) ≡ []
    → (tokens_of i (flat_map f xs) ≡ []) × (tokens_of i (flat_map f ys) ≡ [])
two_parts f i xs ys h =
    tokens_split i (flat_map f xs) (flat_map f ys) (ap (tokens_of i) (sym (flat_map-append f xs ys)) ∙ h)

pub three_parts : (f : Item → List (At ℕ)) (i : ℕ) (xs ys zs : List Item) → tokens_of i (flat_map f (xs ++ ys ++ zs)) ≡ []
    → (tokens_of i (flat_map f xs) ≡ []) × (tokens_of i (flat_map f ys) ≡ []) × (tokens_of i (flat_map f zs) ≡ [])
three_parts f i xs ys zs h =
    let a = two_parts f i (xs ++ ys) zs h in
    let b = two_parts f i xs ys a.0 in
    (b.0, b.1, a.1)

pub undeclared_simple : (i : ℕ) (s : RawSimple) → tokens_of i (declared s) ≡ [] → Undeclared i (simple_of s)
undeclared_simple i (constant ty j side) h = turned_test j.value i (tokens_head i j [] h).0
undeclared_simple i (join ty j) h = turned_test j.value i (tokens_head i j [] h).0
undeclared_simple i (head ty j first) h = turned_test j.value i (tokens_head i j [] h).0
undeclared_simple i (assign j value) h = tt
undeclared_simple i (set_cell cell value) h = tt
undeclared_simple i (set_flag pair value) h = tt
undeclared_simple i (report id) h = tt

mutual
  pub undeclared_block : (i : ℕ) (x : RawBlock) → tokens_of i (declared_in x) ≡ [] → Each (Undeclared i) (block_in x)
  undeclared_block i (closed at) h = tt
  undeclared_block i (simple s rest) h =
      let a = tokens_split i (declared s) (declared_in rest) h in
      (undeclared_simple i s a.0, undeclared_block i rest a.1)
  undeclared_block i (leave at a rest) h = undeclared_block i rest h
  undeclared_block i (choice a x y rest) h =
      let p = three_parts (of_statement declared) i (items_in x) (items_in y) (items_in rest) h in
      (undeclared_block i x p.0, undeclared_block i y p.1, undeclared_block i rest p.2)
  undeclared_block i (loop x rest) h =
      let p = two_parts (of_statement declared) i (items_in x) (items_in rest) h in
      (undeclared_before i x p.0, undeclared_behind i x p.0, undeclared_block i rest p.1)

  pub undeclared_before : (i : ℕ) (x : RawBlock) → tokens_of i (declared_in x) ≡ [] → Each (Undeclared i) (before_test x)
  undeclared_before i (closed at) h = tt
  undeclared_before i (simple s rest) h =
      let a = tokens_split i (declared s) (declared_in rest) h in
      (undeclared_simple i s a.0, undeclared_before i rest a.1)
  undeclared_before i (leave at a rest) h = tt
  undeclared_before i (choice a x y rest) h =
      let p = three_parts (of_statement declared) i (items_in x) (items_in y) (items_in rest) h in
      (undeclared_block i x p.0, undeclared_block i y p.1, undeclared_before i rest p.2)
  undeclared_before i (loop x rest) h =
      let p = two_parts (of_statement declared) i (items_in x) (items_in rest) h in
      (undeclared_before i x p.0, undeclared_behind i x p.0, undeclared_before i rest p.1)

  pub undeclared_behind : (i : ℕ) (x : RawBlock) → tokens_of i (declared_in x) ≡ [] → Each (Undeclared i) (behind_test x)
  undeclared_behind i (closed at) h = tt
  undeclared_behind i (simple s rest) h = undeclared_behind i rest (tokens_split i (declared s) (declared_in rest) h).1
  undeclared_behind i (leave at a rest) h = undeclared_block i rest h
  undeclared_behind i (choice a x y rest) h =
      undeclared_behind i rest (three_parts (of_statement declared) i (items_in x) (items_in y) (items_in rest) h).2
  undeclared_behind i (loop x rest) h =
      undeclared_behind i rest (two_parts (of_statement declared) i (items_in x) (items_in rest) h).1

module _ {V : Type 0} (o : Operations V) (n : ℕ) (c : Scope V) (i : ℕ) (ty : Ty) where
  pub block_slot : (b : Block) → Each (Undeclared i) b → (s t : State V) → Slot s.locals i ty → run_block o n c b s ≡ gives t
      → Slot t.locals i ty
  block_slot b q s t p h =
      run_keeps o n c (λ u. Slot (State.locals u) i ty) (Undeclared i)
      (λ x u v q' r e. put_slot x u.locals v.locals i ty q' (step_puts o c x u v e) r) b q s t p h

  pub block_ready : (b : Block) → Each (Undeclared i) b → (s t : State V) → Ready s.locals i ty → run_block o n c b s ≡ gives t
      → Ready t.locals i ty
  block_ready b q s t p h =
      run_keeps o n c (λ u. Ready (State.locals u) i ty) (Undeclared i)
      (λ x u v q' r e. put_ready x u.locals v.locals i ty q' (step_puts o c x u v e) r) b q s t p h

  -- a setting gives the local a value
  set_ready : (j : ℕ) (value : CAtom) (s t : State V) → (j == i) ≡ true → Slot s.locals i ty → step o c (Assign j value) s ≡ gives t
      → Ready t.locals i ty
  set_ready j value s t e p h =
      let a = then_gives (atom_value o c s value) _ t h in
      let b = then_gives (local_type (s.locals j)) _ t a.2 in
      let d = then_gives (typed b.0 a.0) _ t b.2 in
      let f = typed_gives b.0 a.0 d.0 d.1 in
      record {
        value = d.0;
        is = ap (λ u. State.locals u i) (sym (value_given _ _ d.2)) ∙ this_local s.locals i j (holds d.0) (turned_true j i e);
        fits = ap (λ u. type_of u) f.0 ∙ f.1 ∙ value_given _ _ (sym b.1 ∙ ap (λ k. local_type (s.locals k)) (same_test j i e) ∙ p);
      }

  -- behind a statement
  onward : (r : RawSimple) (rest : RawBlock) → tokens_of i (declared_in (simple r rest)) ≡ []
      → ((u t : State V) → Slot u.locals i ty → run_block o n c (block_in rest) u ≡ gives t → Ready t.locals i ty)
      → (s t : State V) → Slot s.locals i ty → run_block o n c (block_in (simple r rest)) s ≡ gives t → Ready t.locals i ty
  onward r rest d later s t p h =
      let q = tokens_split i (declared r) (declared_in rest) d in
      let a = then_gives (step o c (simple_of r) s) _ t h in
      later a.0 t
      (put_slot (simple_of r) s.locals (State.locals a.0) i ty (undeclared_simple i r q.0) (step_puts o c (simple_of r) s a.0 a.1) p) a.2

  -- a block whose direct statements set a local once gives it a value
  pub set_once_ready : (x : RawBlock) → tokens_of i (declared_in x) ≡ [] → set_once true i x ≡ [] → (s t : State V)
      → Slot s.locals i ty → run_block o n c (block_in x) s ≡ gives t → Ready t.locals i ty
  set_once_ready (closed at) d h s t p k = cc (h)
  set_once_ready (simple (constant ty' j side) rest) d h s t p k =
      onward (constant ty' j side) rest d
      (set_once_ready rest (tokens_split i (declared (constant ty' j side)) (declared_in rest) d).1 h) s t p k
  set_once_ready (simple (join ty' j) rest) d h s t p k =
      onward (join ty' j) rest d (set_once_ready rest (tokens_split i (declared (join ty' j)) (declared_in rest) d).1 h) s t p k
  set_once_ready (simple (head ty' j first) rest) d h s t p k =
      onward (head ty' j first) rest d
      (set_once_ready rest (tokens_split i (declared (head ty' j first)) (declared_in rest) d).1 h) s t p k
  set_once_ready (simple (set_cell cell value) rest) d h s t p k =
      onward (set_cell cell value) rest d (set_once_ready rest d h) s t p k
  set_once_ready (simple (set_flag pair value) rest) d h s t p k =
      onward (set_flag pair value) rest d (set_once_ready rest d h) s t p k
  set_once_ready (simple (report id) rest) d h s t p k = onward (report id) rest d (set_once_ready rest d h) s t p k
  set_once_ready (simple (assign j value) rest) d h s t p k =
      by_test (j.value == i) refl h (λ q. onward (assign j value) rest d (set_once_ready rest d q) s t p k)
    where
      by_test : (test : Bool) → (j.value == i) ≡ test
          → first_counts true (if test then j.at ∷ [] else []) ++ set_once (still_wanted true (if test then j.at ∷ [] else [])) i rest ≡ []
          → (set_once true i rest ≡ [] → Ready t.locals i ty) → Ready t.locals i ty
      by_test true e q later =
          let a = then_gives (step o c (Assign j.value value.value) s) _ t k in
          block_ready (block_in rest) (undeclared_block i rest d) a.0 t (set_ready j.value value.value s a.0 e p a.1) a.2
      by_test false e q later = later q
  set_once_ready (leave at a rest) d h s t p k = set_once_ready rest d h s t p k
  set_once_ready (choice test x y rest) d h s t p k =
      let q = three_parts (of_statement declared) i (items_in x) (items_in y) (items_in rest) d in
      let w = no_parts (sets_in i x ++ sets_in i y) (set_once true i rest) h in
      let a = then_gives (test_value o c s test.value) _ t k in
      let b = then_gives (if a.0 then run_block o n c (block_in x) s else run_block o n c (block_in y) s) _ t a.2 in
      set_once_ready rest q.2 w.1 b.0 t
      (by_test a.0 b.0 (block_slot (block_in x) (undeclared_block i x q.0) s b.0 p) (block_slot (block_in y) (undeclared_block i y q.1) s b.0 p)
      b.1) b.2
    where
      by_test : (goes : Bool) (u : State V) → (run_block o n c (block_in x) s ≡ gives u → Slot (State.locals u) i ty)
          → (run_block o n c (block_in y) s ≡ gives u → Slot (State.locals u) i ty)
          → (if goes then run_block o n c (block_in x) s else run_block o n c (block_in y) s) ≡ gives u → Slot (State.locals u) i ty
      by_test true u f g e = f e
      by_test false u f g e = g e
  set_once_ready (loop x rest) d h s t p k =
      let q = two_parts (of_statement declared) i (items_in x) (items_in rest) d in
      let w = no_parts (sets_in i x) (set_once true i rest) h in
      let a = then_gives
      (turns (undefined Turns) (λ first. run_block o n c (before_test x) first >>= tested (λ at. test_value o c at (test_of x))) (λ at. at.goes)
      (λ at. run_block o n c (behind_test x) at.state) n s) (λ last. run_block o n c (block_in rest) last.state) t k in
      set_once_ready rest q.1 w.1 (Tested.state a.0) t
      (loop_keeps o n c (λ u. Slot (State.locals u) i ty) (Undeclared i)
      (λ z u v q' r e. put_slot z u.locals v.locals i ty q' (step_puts o c z u v e) r) (before_test x) (behind_test x) (test_of x)
      (λ u v r e. block_slot (before_test x) (undeclared_before i x q.0) u v r e)
      (λ u v r e. block_slot (behind_test x) (undeclared_behind i x q.0) u v r e) s a.0 p a.1) a.2

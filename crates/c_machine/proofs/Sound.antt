-- Bodies that obey the rules of form are never stuck.
use Rattle.std.specs.Prelude.{◌≡◌, ℕ, zero, suc, ◌==◌, ◌⊎◌, ◌||◌, Bool, true, false, if◌then◌else◌, nat_lt, List, [], ◌∷◌, ◌++◌, map, set, slice_get, Option, Some, None}
use Rattle.std.specs.List.{flat_map, list_any}
use Rattle.std.proofs.Common.{refl, sym, ap, ◌∙◌, subst, inl, inr, append_assoc, arith}
use Rattle.std.proofs.lemmas.Bool.Decides.{nat_tests}
use Rattle.std.proofs.lemmas.Grind.{flat_map-append}
use Rattle.std.proofs.lemmas.List.{append-nil}
use Rattle.alg_laws.specs.declared.number.Number.{Number}
use Rattle.alg_laws.specs.declared.number.Reason.TheVariants.{Turns}
use Rattle.alg_laws.specs.declared.number.Ty.{Ty}
use Rattle.alg_laws.specs.declared.number.Ty.TheVariants.{Integer}
use Rattle.alg_laws.specs.Loop.{Tested, turns, tested}
use Rattle.alg_laws.specs.NumberOps.{type_of}
use Rattle.alg_laws.specs.Operations.{Operations}
use Rattle.alg_laws.specs.Outcome.{Outcome, gives, ends, ◌>>=◌}
use Rattle.c_tree.specs.declared.body.CAtom.{CAtom}
use Rattle.c_tree.specs.declared.body.CAtom.TheVariants as atom
use Rattle.c_tree.specs.declared.body.CCell.{CCell}
use Rattle.c_tree.specs.declared.body.Level.{Level}
use Rattle.c_tree.specs.declared.body.Level.TheVariants.{Instance, Model}
use Rattle.c_tree.specs.Blocks.{Block}
use Rattle.c_machine.specs.Execution.{Scope, State, empty, holds, Locals, local_type, has, set_local, on_machine, atom_value, right_value, test_value, step, run_block}
use Rattle.c_tree.specs.FileOf.{right_of, simple_of, test_of, block_in, before_test, behind_test}
use Rattle.c_machine.specs.Machine.{Stop, undefined, found, typed, put_at, only_if, Machine, cells_of, with_cells, flag_count, write_cell, write_flag}
use Rattle.c_machine.specs.MachineLaws.{SameMappings, SameTypes}
use Rattle.c_tree.specs.Raw.{At, word_at, RawSimple, constant, join, head, assign, set_cell, set_flag, report, RawBlock, closed, simple, leave, choice, loop, RawArgument, RawModule}
use Rattle.c_tree.specs.Spelling.{EachHas}
use Rattle.c_tree.specs.rules.Bodies.{Declared, Item, of_simple, of_test, of_value, Scoped, scoped, declares, locals_of, RawBody, items_in, atoms_of, atoms_of_simple, local_of, argument_of, cell_of, assigned, set_cells, of_statement, tokens_of, repeated}
use Rattle.c_tree.specs.rules.Breaks.{breaks_in}
use Rattle.c_tree.specs.rules.Fields.{cell_type, missing, cell_missing, cells_in}
use Rattle.c_tree.specs.rules.Locals.{locals_used, unless_among, used_locals, used_arguments, declared}
use Rattle.c_tree.specs.rules.Settings.{sets, sets_in, reads, reads_in, set_once, after_join, declaration, declarations}
use Rattle.c_tree.specs.rules.Types.{type_of_local, type_of_argument, wanted_by, item_differs, item_calls}
use Rattle.c_tree.proofs.Blameless.{no_parts, flat_none, each_split, tokens_split, repeated_split, turned_true, same_test}
use Rattle.c_machine.proofs.Declarations.{IsKept}
use Rattle.c_machine.proofs.Endings.{then_gives, value_given}
use Rattle.c_machine.proofs.Keeping.{typed_gives, Each, each_any, run_keeps, loop_keeps, step_writes, write_types, write_maps}
use Rattle.c_machine.proofs.Operands.{ScopeOk, MachineOk, UnknownOk, Valued, atom_valued, wanted_type, test_goes, right_fits}
use Rattle.c_machine.proofs.Slots.{Undeclared, Slot, Ready, ready_slot, put_slot, put_ready, step_puts, declared_in, two_parts, three_parts, undeclared_block, undeclared_before, undeclared_behind, undeclared_simple, this_local, block_slot, block_ready, set_once_ready}
use Rattle.c_machine.proofs.Unstuck.{Goes, goes_gives, goes_given, goes_then, only_if_true, typed_as}

-- a local that is declared
known_local : (at i : ℕ) (known : List Declared) → unless_among (map (λ d. Declared.number d) known) (record { at = at; value = i }) ≡ []
    → (ty : Ty) × (type_of_local i known ≡ Some ty)
known_local at i [] h = cc (h)
known_local at i (d ∷ rest) h = by_test (d.number == i) h (λ k. known_local at i rest k)
  where
    by_test : (test : Bool)
        → (if test || list_any (λ number. number == i) (map (λ x. Declared.number x) rest) then (let none : List ℕ = [] in none) else at ∷ []) ≡ []
        → (unless_among (map (λ x. Declared.number x) rest) (record { at = at; value = i }) ≡ [] → (ty : Ty) × (type_of_local i rest ≡ Some ty))
        → (ty : Ty) × ((if test then Some d.ty else type_of_local i rest) ≡ Some ty)
    by_test true k later = (d.ty, refl)
    by_test false k later = later k

known_argument : (at i : ℕ) (args : List RawArgument)
    → unless_among (map (λ a. At.value (RawArgument.number a)) args) (record { at = at; value = i }) ≡ []
    → (ty : Ty) × (type_of_argument i args ≡ Some ty)
known_argument at i [] h = cc (h)
known_argument at i (a ∷ rest) h = by_test (a.number.value == i) h (λ k. known_argument at i rest k)
  where
    by_test : (test : Bool)
        → (if test || list_any (λ number. number == i) (map (λ x. At.value (RawArgument.number x)) rest) then (let none : List ℕ = [] in none) else at ∷ []) ≡ []
        → (unless_among (map (λ x. At.value (RawArgument.number x)) rest) (record { at = at; value = i }) ≡ [] → (ty : Ty) × (type_of_argument i rest ≡ Some ty))
        → (ty : Ty) × ((if test then Some a.ty else type_of_argument i rest) ≡ Some ty)
    by_test true k later = (a.ty, refl)
    by_test false k later = later k

there : (x : Option Ty) (at : ℕ) → missing x at ≡ [] → (ty : Ty) × (x ≡ Some ty)
there None at h = cc (h)
there (Some ty) at h = (ty, refl)

-- a write of a value of the type that is there
pub put_gives : {V : Type 0} (cells : List (Number V)) (i : ℕ) (old v : Number V) → slice_get cells i ≡ Some old → type_of v ≡ type_of old
    → put_at cells i v ≡ gives (set cells i v)
put_gives cells i old v h e =
    (λ z. found (h z) >>= λ was. typed (type_of was) v >>= λ new. gives (set cells i new))
    ∙ (λ z. typed_as (type_of old) v e z >>= λ new. gives (set cells i new))

-- an element of cells that have the same types as before
same_element : {V : Type 0} (xs ys : List (Number V)) (p : ℕ) (v : Number V)
    → map (λ u. type_of u) xs ≡ map (λ u. type_of u) ys → slice_get ys p ≡ Some v
    → (w : Number V) × (slice_get xs p ≡ Some w) × (type_of w ≡ type_of v)
same_element xs [] p v e h = cc (h)
same_element [] (y ∷ ys) p v e h = cc (e)
same_element (x ∷ xs) (y ∷ ys) zero v e h =
    let here : y ≡ v = cc (h) in
    let same : type_of x ≡ type_of y = cc (e) in
    (x, refl, same ∙ ap (λ u. type_of u) here)
same_element (x ∷ xs) (y ∷ ys) (suc p) v e h =
    let rest : map (λ u. type_of u) xs ≡ map (λ u. type_of u) ys = cc (e) in
    same_element xs ys p v rest h

three_repeated : (f : Item → List (At ℕ)) (xs ys zs : List Item) → repeated (flat_map f (xs ++ ys ++ zs)) ≡ []
    → (repeated (flat_map f xs) ≡ []) × (repeated (flat_map f ys) ≡ []) × (repeated (flat_map f zs) ≡ [])
three_repeated f xs ys zs h =
    let a = repeated_split (flat_map f (xs ++ ys)) (flat_map f zs) (ap repeated (sym (flat_map-append f (xs ++ ys) zs)) ∙ h) in
    let b = repeated_split (flat_map f xs) (flat_map f ys) (ap repeated (sym (flat_map-append f xs ys)) ∙ a.0) in
    (b.0, b.1, a.1)

two_repeated : (f : Item → List (At ℕ)) (xs ys : List Item) → repeated (flat_map f (xs ++ ys)) ≡ []
    → (repeated (flat_map f xs) ≡ []) × (repeated (flat_map f ys) ≡ [])
two_repeated f xs ys h = repeated_split (flat_map f xs) (flat_map f ys) (ap repeated (sym (flat_map-append f xs ys)) ∙ h)

-- turns that aren't stuck
turns_go : {S T : Type 0} (P : S → Type 0) (R : T → Type 0) (before : S → Outcome Stop T) (goes : T → Bool) (turn : T → Outcome Stop S)
    → ((s : S) → P s → Goes (before s)) → ((s : S) (t : T) → P s → before s ≡ gives t → R t) → ((t : T) → R t → Goes (turn t))
    → ((t : T) (s : S) → R t → turn t ≡ gives s → P s) → (n : ℕ) (s : S) → P s → Goes (turns (undefined Turns) before goes turn n s)
turns_go {S} {T} P R before goes turn first reach second back zero s p =
    goes_then (before s) _ (first s p) (λ t e. by_test t (goes t))
  where
    by_test : (t : T) (test : Bool) → Goes (if test then ends (undefined Turns) else gives t)
    by_test t true h = cc (h)
    by_test t false h = cc (h)
turns_go {S} {T} P R before goes turn first reach second back (suc n) s p =
    goes_then (before s) _ (first s p)
    (λ t e. by_test t (reach s t p e) (λ next q. turns_go P R before goes turn first reach second back n next q) (goes t))
  where
    by_test : (t : T) → R t → ((next : S) → P next → Goes (turns (undefined Turns) before goes turn n next)) → (test : Bool)
        → Goes (if test then (turn t >>= turns (undefined Turns) before goes turn n) else gives t)
    by_test t r again true = goes_then (turn t) _ (second t r) (λ next e. again next (back t next r e))
    by_test t r again false = goes_gives t

-- parts of a list of items in which a local isn't read
no_reads : (i : ℕ) (item : Item) (rest : List Item) → reads i (flat_map atoms_of (item ∷ rest)) ≡ []
    → (reads i (atoms_of item) ≡ []) × (reads i (flat_map atoms_of rest) ≡ [])
no_reads i item rest h =
    tokens_split i (flat_map local_of (atoms_of item)) (flat_map local_of (flat_map atoms_of rest))
    (ap (tokens_of i) (sym (flat_map-append local_of (atoms_of item) (flat_map atoms_of rest))) ∙ h)

two_reads : (i : ℕ) (xs ys : List Item) → reads i (flat_map atoms_of (xs ++ ys)) ≡ []
    → (reads i (flat_map atoms_of xs) ≡ []) × (reads i (flat_map atoms_of ys) ≡ [])
two_reads i xs ys h =
    tokens_split i (flat_map local_of (flat_map atoms_of xs)) (flat_map local_of (flat_map atoms_of ys))
    (ap (tokens_of i) (sym (flat_map-append local_of (flat_map atoms_of xs) (flat_map atoms_of ys)))
    ∙ ap (λ l. tokens_of i (flat_map local_of l)) (sym (flat_map-append atoms_of xs ys)) ∙ h)

three_reads : (i : ℕ) (xs ys zs : List Item) → reads i (flat_map atoms_of (xs ++ ys ++ zs)) ≡ []
    → (reads i (flat_map atoms_of xs) ≡ []) × (reads i (flat_map atoms_of ys) ≡ []) × (reads i (flat_map atoms_of zs) ≡ [])
three_reads i xs ys zs h =
    let a = two_reads i (xs ++ ys) zs h in
    let b = two_reads i xs ys a.0 in
    (b.0, b.1, a.1)

module _ {V : Type 0} (o : Operations V) (n : ℕ) (m : RawModule) (b : RawBody) (c : Scope V) (nodes : List ℕ) where
  -- what an atom may reach
  abbrev pub AtomReach : CAtom → Type 0
  AtomReach (atom.Cell cell) = has c cell.level ≡ true
  AtomReach (atom.Unknown i) = UnknownOk o m b c nodes i
  AtomReach (atom.Local i) = Unit {0}
  AtomReach (atom.Argument i) = Unit {0}
  AtomReach (atom.Integer i) = Unit {0}
  AtomReach (atom.Real d) = Unit {0}

  -- and a statement
  abbrev pub StatementReach : RawSimple → Type 0
  StatementReach (set_cell cell value) = has c (CCell.level cell.value) ≡ true
  StatementReach (set_flag pair value) = (c.has_instance ≡ true) × (nat_lt pair.value (flag_count c.tree) ≡ true)
  StatementReach (report id) = c.reports ≡ true
  StatementReach (constant ty i side) = Unit {0}
  StatementReach (join ty i) = Unit {0}
  StatementReach (head ty i first) = Unit {0}
  StatementReach (assign i value) = Unit {0}

  abbrev pub ItemReach : Item → Type 0
  ItemReach (of_simple s) = StatementReach s
  ItemReach (of_test a) = Unit {0}
  ItemReach (of_value ty a) = Unit {0}

  -- what the rules say of an item
  pub record ItemOk (s : Scoped) : Type 0 where
    pub locals : used_locals s ≡ []
    pub arguments : used_arguments b s ≡ []
    pub types : item_differs m b s.known s.item ≡ []
    pub calls : item_calls m b s ≡ []
    pub cells : flat_map (cell_missing m) (cells_in s) ≡ []
    pub atoms : EachHas (λ a. AtomReach (At.value a)) (atoms_of s.item)
    pub statement : ItemReach s.item

  -- a local that is read has a value
  abbrev pub ReadReady : List Declared → State V → List (At CAtom) → Type 0
  ReadReady known st atoms = (i : ℕ) (ty : Ty) → type_of_local i known ≡ Some ty → Ready st.locals i ty ⊎ (reads i atoms ≡ [])

  one_valued : (known : List Declared) (st : State V) → ScopeOk o m b c nodes → MachineOk o m b c nodes st.machine → (at : ℕ) (a : CAtom)
      → EachHas (λ x. unless_among (map (λ d. Declared.number d) known) x ≡ []) (local_of (record { at = at; value = a }))
      → EachHas (λ x. unless_among (map (λ g. At.value (RawArgument.number g)) b.arguments) x ≡ []) (argument_of (record { at = at; value = a }))
      → EachHas (λ x. cell_missing m x ≡ []) (cell_of (record { at = at; value = a }))
      → AtomReach a → ReadReady known st ((record { at = at; value = a }) ∷ []) → Valued o m b c nodes known st a
  one_valued known st sc ma at (atom.Local i) l g d r ready =
      let k = known_local at i known l.0 in
      by_ready k.0 k.1 (ready i k.0 k.1)
    where
      by_ready : (ty : Ty) → type_of_local i known ≡ Some ty
          → Ready st.locals i ty ⊎ (reads i ((record { at = at; value = atom.Local i }) ∷ []) ≡ [])
          → Valued o m b c nodes known st (atom.Local i)
      by_ready ty e (inl q) = atom_valued o m b c nodes known st sc ma (atom.Local i) (ty, q.value, e, q.is, q.fits)
      by_ready ty e (inr q) = absurd (read_here (i == i) (let s : (i == i) ≡ true = grind (arith, nat_tests) in s) q)
        where
          read_here : (test : Bool) → test ≡ true → (if test then at ∷ [] else []) ≡ [] → ⊥
          read_here true s k = cc (k)
          read_here false s k = cc (s)
  one_valued known st sc ma at (atom.Argument i) l g d r ready =
      atom_valued o m b c nodes known st sc ma (atom.Argument i) (known_argument at i b.arguments g.0)
  one_valued known st sc ma at (atom.Integer i) l g d r ready = atom_valued o m b c nodes known st sc ma (atom.Integer i) tt
  one_valued known st sc ma at (atom.Real x) l g d r ready = atom_valued o m b c nodes known st sc ma (atom.Real x) tt
  one_valued known st sc ma at (atom.Cell cell) l g d r ready =
      let t = there (cell_type m cell) _ d.0 in
      atom_valued o m b c nodes known st sc ma (atom.Cell cell) (t.0, r, t.1)
  one_valued known st sc ma at (atom.Unknown i) l g d r ready = atom_valued o m b c nodes known st sc ma (atom.Unknown i) r

  -- parts of what isn't read
  unread_parts : (i : ℕ) (a : At CAtom) (rest : List (At CAtom)) → reads i (a ∷ rest) ≡ [] → (reads i (a ∷ []) ≡ []) × (reads i rest ≡ [])
  unread_parts i a rest h =
      let p = tokens_split i (local_of a) (flat_map local_of rest) h in
      (ap (tokens_of i) (append-nil (local_of a)) ∙ p.0, p.1)

  ready_first : (locals : Locals V) (i : ℕ) (ty : Ty) (a : At CAtom) (rest : List (At CAtom))
      → Ready locals i ty ⊎ (reads i (a ∷ rest) ≡ []) → Ready locals i ty ⊎ (reads i (a ∷ []) ≡ [])
  ready_first locals i ty a rest (inl r) = inl r
  ready_first locals i ty a rest (inr h) = inr (unread_parts i a rest h).0

  ready_rest : (locals : Locals V) (i : ℕ) (ty : Ty) (a : At CAtom) (rest : List (At CAtom))
      → Ready locals i ty ⊎ (reads i (a ∷ rest) ≡ []) → Ready locals i ty ⊎ (reads i rest ≡ [])
  ready_rest locals i ty a rest (inl r) = inl r
  ready_rest locals i ty a rest (inr h) = inr (unread_parts i a rest h).1

  all_valued : (known : List Declared) (st : State V) → ScopeOk o m b c nodes → MachineOk o m b c nodes st.machine → (atoms : List (At CAtom))
      → EachHas (λ x. unless_among (map (λ d. Declared.number d) known) x ≡ []) (flat_map local_of atoms)
      → EachHas (λ x. unless_among (map (λ g. At.value (RawArgument.number g)) b.arguments) x ≡ []) (flat_map argument_of atoms)
      → EachHas (λ x. cell_missing m x ≡ []) (flat_map cell_of atoms)
      → EachHas (λ a. AtomReach (At.value a)) atoms → ReadReady known st atoms → EachHas (λ a. Valued o m b c nodes known st (At.value a)) atoms
  all_valued known st sc ma [] l g d r ready = tt
  all_valued known st sc ma (a ∷ rest) l g d r ready =
      let ls = each_split _ (local_of a) (flat_map local_of rest) l in
      let gs = each_split _ (argument_of a) (flat_map argument_of rest) g in
      let ds = each_split _ (cell_of a) (flat_map cell_of rest) d in (
        one_valued known st sc ma a.at a.value ls.0 gs.0 ds.0 r.0 (λ i ty e. ready_first st.locals i ty a rest (ready i ty e)),
        all_valued known st sc ma rest ls.1 gs.1 ds.1 r.1 (λ i ty e. ready_rest st.locals i ty a rest (ready i ty e)),
      )

  -- the atoms of an item have values
  pub item_valued : (s : Scoped) → ItemOk s → (st : State V) → ScopeOk o m b c nodes → MachineOk o m b c nodes st.machine
      → ReadReady s.known st (atoms_of s.item) → EachHas (λ a. Valued o m b c nodes s.known st (At.value a)) (atoms_of s.item)
  item_valued s ok st sc ma ready =
      let l = each_split _ (flat_map local_of (atoms_of s.item)) (of_statement assigned s.item)
      (flat_none (unless_among (map (λ d. Declared.number d) s.known)) (locals_used s.item) ok.locals) in
      let d = each_split _ (flat_map cell_of (atoms_of s.item)) (of_statement set_cells s.item)
      (flat_none (cell_missing m) (cells_in s) ok.cells) in
      all_valued s.known st sc ma (atoms_of s.item) l.0
      (flat_none (unless_among (map (λ g. At.value (RawArgument.number g)) b.arguments)) (flat_map argument_of (atoms_of s.item)) ok.arguments)
      d.0 ok.atoms ready

  -- each local of a scope is there with its type
  abbrev AllSlots : List Declared → State V → Type 0
  AllSlots known st = (i : ℕ) (ty : Ty) → type_of_local i known ≡ Some ty → Slot st.locals i ty

  value_typed : (ty : Ty) (a : Outcome Stop (Number V)) (v : Number V) → a ≡ gives v → type_of v ≡ ty → Goes (a >>= typed ty)
  value_typed ty a v e k =
      goes_then a (typed ty) (goes_given a v e) (λ w g. goes_given _ w (typed_as ty w (ap (λ u. type_of u) (value_given _ _ (sym g ∙ e)) ∙ k)))

  -- a cell that is there takes a value of its type
  cell_written : (st : State V) → MachineOk o m b c nodes st.machine → (cell : CCell) (ty : Ty) (v : Number V) → has c cell.level ≡ true
      → cell_type m cell ≡ Some ty → type_of v ≡ ty → Goes (write_cell c.tree cell v st.machine)
  cell_written st ma cell ty v h k e =
      let a = ma.cells cell ty h k in
      goes_given _ (with_cells st.machine cell.level (set (cells_of st.machine cell.level) a.0 v))
      ((λ z. found (a.2 z) >>= λ place. put_at (cells_of st.machine cell.level) place v
      >>= λ cells. gives (with_cells st.machine cell.level cells))
      ∙ (λ z. put_gives (cells_of st.machine cell.level) a.0 a.1 v a.3 (e ∙ sym a.4) z
      >>= λ cells. gives (with_cells st.machine cell.level cells)))

  flag_written : (st : State V) → MachineOk o m b c nodes st.machine → (pair : ℕ) (v : Number V) → c.has_instance ≡ true
      → nat_lt pair (flag_count c.tree) ≡ true → type_of v ≡ Integer → Goes (write_flag c.tree pair v st.machine)
  flag_written st ma pair v h k e =
      let a = ma.flags h pair k in
      goes_given _ (record st.machine { instance = set st.machine.instance pair v })
      (only_if_true (nat_lt pair (flag_count c.tree)) _ k
      ∙ (λ z. put_gives st.machine.instance pair a.0 v a.1 (e ∙ sym a.2) z
      >>= λ cells. gives (record st.machine { instance = cells })))

  on_machine_goes : (st : State V) (next : Outcome Stop (Machine V)) → Goes next → Goes (on_machine st next)
  on_machine_goes st next h = goes_then next _ h (λ s e. goes_gives _)

  only_if_goes : {T : Type 0} (test : Bool) (a : Outcome Stop T) → test ≡ true → Goes a → Goes (only_if test a)
  only_if_goes test a e h = subst Goes (sym (only_if_true test a e)) h

  -- a statement isn't stuck
  pub step_goes : (known : List Declared) (s : RawSimple) → ItemOk (record { known = known; item = of_simple s }) → (st : State V)
      → ScopeOk o m b c nodes → MachineOk o m b c nodes st.machine → ReadReady known st (atoms_of_simple s) → AllSlots known st
      → Goes (step o c (simple_of s) st)
  step_goes known (constant ty i side) ok st sc ma ready slots =
      let vs = item_valued (record { known = known; item = of_simple (constant ty i side) }) ok st sc ma ready in
      let fits = right_fits o m b c nodes known st sc ty side ok.types ok.calls vs in
      goes_then (right_value o c st (right_of side.value)) _ fits.goes
      (λ v e. goes_then (typed ty v) _ (goes_given _ v (typed_as ty v (fits.typed v e))) (λ w k. goes_gives _))
  step_goes known (join ty i) ok st sc ma ready slots = goes_gives _
  step_goes known (head ty i first) ok st sc ma ready slots =
      let vs = item_valued (record { known = known; item = of_simple (head ty i first) }) ok st sc ma ready in
      let k = wanted_type o m b c nodes known st ty first vs.0 ok.types in
      goes_then (atom_value o c st first.value) _ (goes_given _ _ vs.0.given)
      (λ v e. goes_then (typed ty v) _
      (goes_given _ v (typed_as ty v (ap (λ u. type_of u) (value_given _ _ (sym e ∙ vs.0.given)) ∙ k))) (λ w g. goes_gives _))
  step_goes known (assign i value) ok st sc ma ready slots =
      let vs = item_valued (record { known = known; item = of_simple (assign i value) }) ok st sc ma ready in
      let l = each_split _ (flat_map local_of (value ∷ [])) (i ∷ [])
      (flat_none (unless_among (map (λ d. Declared.number d) known)) (locals_used (of_simple (assign i value))) ok.locals) in
      let t = known_local i.at i.value known l.1.0 in
      let differ : wanted_by m b known (Some t.0) value ≡ [] = (λ z. wanted_by m b known (sym t.1 z) value) ∙ ok.types in
      let k = wanted_type o m b c nodes known st t.0 value vs.0 differ in
      goes_then (atom_value o c st value.value) _ (goes_given _ _ vs.0.given)
      (λ v e. goes_then (local_type (st.locals i.value)) _ (goes_given _ _ (slots i.value t.0 t.1))
      (λ ty g. goes_then (typed ty v) _
      (goes_given _ v (typed_as ty v (ap (λ u. type_of u) (value_given _ _ (sym e ∙ vs.0.given)) ∙ k ∙ value_given _ _ (sym (slots i.value t.0 t.1) ∙ g))))
      (λ w q. goes_gives _)))
  step_goes known (set_cell cell value) ok st sc ma ready slots =
      let vs = item_valued (record { known = known; item = of_simple (set_cell cell value) }) ok st sc ma ready in
      let d = each_split _ (flat_map cell_of (value ∷ [])) (cell ∷ [])
      (flat_none (cell_missing m) (cells_in (record { known = known; item = of_simple (set_cell cell value) })) ok.cells) in
      let t = there (cell_type m cell.value) (word_at cell) d.1.0 in
      let differ : wanted_by m b known (Some t.0) value ≡ [] = (λ z. wanted_by m b known (sym t.1 z) value) ∙ ok.types in
      let k = wanted_type o m b c nodes known st t.0 value vs.0 differ in
      goes_then (atom_value o c st value.value) _ (goes_given _ _ vs.0.given)
      (λ v e. only_if_goes (has c (CCell.level cell.value)) _ ok.statement
      (on_machine_goes st _ (cell_written st ma cell.value t.0 v ok.statement t.1
      (ap (λ u. type_of u) (value_given _ _ (sym e ∙ vs.0.given)) ∙ k))))
  step_goes known (set_flag pair value) ok st sc ma ready slots =
      let vs = item_valued (record { known = known; item = of_simple (set_flag pair value) }) ok st sc ma ready in
      let k = wanted_type o m b c nodes known st Integer value vs.0 ok.types in
      goes_then (atom_value o c st value.value) _ (goes_given _ _ vs.0.given)
      (λ v e. only_if_goes c.has_instance _ ok.statement.0
      (on_machine_goes st _ (flag_written st ma pair.value v ok.statement.0 ok.statement.1
      (ap (λ u. type_of u) (value_given _ _ (sym e ∙ vs.0.given)) ∙ k))))
  step_goes known (report id) ok st sc ma ready slots = only_if_goes c.reports _ ok.statement (goes_gives _)

  -- a test isn't stuck
  test_sound : (known : List Declared) (a : At CAtom) → ItemOk (record { known = known; item = of_test a }) → (st : State V)
      → ScopeOk o m b c nodes → MachineOk o m b c nodes st.machine → ReadReady known st (a ∷ []) → Goes (test_value o c st a.value)
  test_sound known a ok st sc ma ready =
      let vs = item_valued (record { known = known; item = of_test a }) ok st sc ma ready in
      test_goes o m b c nodes known st a vs.0 ok.types

  -- the machine keeps its cells
  machine_kept : (s t : Machine V) → MachineOk o m b c nodes s → SameTypes s t → SameMappings s t → MachineOk o m b c nodes t
  machine_kept s t ma types maps = record {
    cells = λ cell ty h k. (
        let a = ma.cells cell ty h k in
        let e = same_element (cells_of t cell.level) (cells_of s cell.level) a.0 a.1 (level_types cell.level) a.3 in
        (a.0, e.0, a.2, e.1, e.2 ∙ a.4));
    flags = λ h pair k. (
        let a = ma.flags h pair k in
        let e = same_element t.instance s.instance pair a.0 types.instance a.1 in
        (e.0, e.1, e.2 ∙ a.2));
    node = maps.node ∙ ma.node;
  }
    where
      level_types : (level : Level) → map (λ u. type_of u) (cells_of t level) ≡ map (λ u. type_of u) (cells_of s level)
      level_types Instance = types.instance
      level_types Model = types.model

  pub block_machine : (x : Block) (s t : State V) → MachineOk o m b c nodes s.machine → run_block o n c x s ≡ gives t
      → MachineOk o m b c nodes t.machine
  block_machine x s t ma h =
      run_keeps o n c (λ u. MachineOk o m b c nodes (State.machine u)) (λ y. Unit {0})
      (λ y u v q r e. (
      let w = step_writes o c y u v e in
      machine_kept u.machine v.machine r (write_types c y u.machine v.machine w) (write_maps c y u.machine v.machine w)))
      x (each_any x) s t ma h

  -- A local of the scope whose value isn't there yet isn't read in what is left of the block, until an `if` has set it; a local of
  -- an enclosing block isn't read there at all.
  abbrev Unread : (ℕ → Type 0) → ℕ → RawBlock → Type 0
  Unread outer i x = (outer i × (reads_in i x ≡ [])) ⊎ (after_join i x ≡ [])

  abbrev Status : (ℕ → Type 0) → Locals V → ℕ → Ty → RawBlock → Type 0
  Status outer locals i ty x = Ready locals i ty ⊎ (Slot locals i ty × Unread outer i x)

  abbrev pub Inv : (ℕ → Type 0) → List Declared → RawBlock → State V → Type 0
  Inv outer known x st = (i : ℕ) (ty : Ty) → type_of_local i known ≡ Some ty → Status outer st.locals i ty x

  -- what the rules say of a block
  pub record BlockOk (known : List Declared) (x : RawBlock) : Type 0 where
    pub items : EachHas ItemOk (scoped known x)
    pub settings : EachHas IsKept (declarations x)
    pub fresh : (i : ℕ) (ty : Ty) → type_of_local i known ≡ Some ty → tokens_of i (declared_in x) ≡ []
    pub distinct : repeated (declared_in x) ≡ []

  slots_of : (outer : ℕ → Type 0) (known : List Declared) (x : RawBlock) (st : State V) → Inv outer known x st → AllSlots known st
  slots_of outer known x st inv i ty e = by_status (inv i ty e)
    where
      by_status : Status outer st.locals i ty x → Slot st.locals i ty
      by_status (inl r) = ready_slot st.locals i ty r
      by_status (inr h) = h.0

  -- what isn't read in a block isn't read in its parts
  read_simple : (outer : ℕ → Type 0) (i : ℕ) (s : RawSimple) (rest : RawBlock) → Unread outer i (simple s rest)
      → (reads i (atoms_of_simple s) ≡ []) × Unread outer i rest
  read_simple outer i s rest (inl h) =
      let p = no_reads i (of_simple s) (items_in rest) h.1 in
      (p.0, inl (h.0, p.1))
  read_simple outer i s rest (inr h) =
      let p = no_parts (reads i (atoms_of_simple s) ++ sets i s) (after_join i rest) h in
      ((no_parts (reads i (atoms_of_simple s)) (sets i s) p.0).0, inr p.1)

  read_leave : (outer : ℕ → Type 0) (i at : ℕ) (a : At CAtom) (rest : RawBlock) → Unread outer i (leave at a rest)
      → (reads i (a ∷ []) ≡ []) × Unread outer i rest
  read_leave outer i at a rest (inl h) =
      let p = no_reads i (of_test a) (items_in rest) h.1 in
      (p.0, inl (h.0, p.1))
  read_leave outer i at a rest (inr h) =
      let p = no_parts (reads i (a ∷ [])) (after_join i rest) h in
      (p.0, inr p.1)

  -- of an `if`: its test, its blocks, and what follows, where the local has a value unless it is of an enclosing block
  read_choice : (outer : ℕ → Type 0) (i : ℕ) (a : At CAtom) (x y rest : RawBlock) → Unread outer i (choice a x y rest)
      → (reads i (a ∷ []) ≡ []) × (reads_in i x ≡ []) × (reads_in i y ≡ [])
      × (Unread outer i rest ⊎ ((set_once true i x ≡ []) × (set_once true i y ≡ [])))
  read_choice outer i a x y rest (inl h) =
      let p = no_reads i (of_test a) (items_in x ++ items_in y ++ items_in rest) h.1 in
      let q = three_reads i (items_in x) (items_in y) (items_in rest) p.1 in
      (p.0, q.0, q.1, inl (inl (h.0, q.2)))
  read_choice outer i a x y rest (inr h) =
      let p5 = no_parts (reads i (a ∷ []) ++ reads_in i x ++ reads_in i y ++ set_once true i x ++ set_once true i y) (sets_in i rest) h in
      let p4 = no_parts (reads i (a ∷ []) ++ reads_in i x ++ reads_in i y ++ set_once true i x) (set_once true i y) p5.0 in
      let p3 = no_parts (reads i (a ∷ []) ++ reads_in i x ++ reads_in i y) (set_once true i x) p4.0 in
      let p2 = no_parts (reads i (a ∷ []) ++ reads_in i x) (reads_in i y) p3.0 in
      let p1 = no_parts (reads i (a ∷ [])) (reads_in i x) p2.0 in
      (p1.0, p1.1, p2.1, inr (p3.1, p4.1))

  read_loop : (outer : ℕ → Type 0) (i : ℕ) (x rest : RawBlock) → Unread outer i (loop x rest)
      → (reads_in i x ≡ []) × Unread outer i rest
  read_loop outer i x rest (inl h) =
      let q = two_reads i (items_in x) (items_in rest) h.1 in
      (q.0, inl (h.0, q.1))
  read_loop outer i x rest (inr h) =
      let p = no_parts (reads_in i x ++ sets_in i x) (after_join i rest) h in
      ((no_parts (reads_in i x) (sets_in i x) p.0).0, inr p.1)

  abbrev anywhere : ℕ → Type 0
  anywhere i = Unit {0}

  -- the statuses of locals through a block
  ready_to_read : (outer : ℕ → Type 0) (known : List Declared) (x : RawBlock) (st : State V) (atoms : List (At CAtom)) → Inv outer known x st
      → ((i : ℕ) → Unread outer i x → reads i atoms ≡ []) → ReadReady known st atoms
  ready_to_read outer known x st atoms inv h i ty e = by_status (inv i ty e)
    where
      by_status : Status outer st.locals i ty x → Ready st.locals i ty ⊎ (reads i atoms ≡ [])
      by_status (inl r) = inl r
      by_status (inr s) = inr (h i s.1)

  into_block : (outer : ℕ → Type 0) (known : List Declared) (x y : RawBlock) (st : State V) → Inv outer known x st
      → ((i : ℕ) → Unread outer i x → reads_in i y ≡ []) → Inv anywhere known y st
  into_block outer known x y st inv h i ty e = by_status (inv i ty e)
    where
      by_status : Status outer st.locals i ty x → Status anywhere st.locals i ty y
      by_status (inl r) = inl r
      by_status (inr s) = inr (s.0, inl (tt, h i s.1))

  -- the statuses of the locals of a scope behind what leaves them
  behind : (outer : ℕ → Type 0) (known : List Declared) (x y : RawBlock) (s t : State V) → Inv outer known x s
      → ((i : ℕ) (ty : Ty) → type_of_local i known ≡ Some ty → Ready s.locals i ty → Ready t.locals i ty)
      → ((i : ℕ) (ty : Ty) → type_of_local i known ≡ Some ty → Slot s.locals i ty → Unread outer i x → Status outer t.locals i ty y)
      → Inv outer known y t
  behind outer known x y s t inv ready slot i ty e = by_status (inv i ty e)
    where
      by_status : Status outer s.locals i ty x → Status outer t.locals i ty y
      by_status (inl r) = inl (ready i ty e r)
      by_status (inr h) = slot i ty e h.0 h.1

  -- the rules on a block, for its parts
  fresh_declared : (known : List Declared) (j : At ℕ) (ty0 : Ty) (rest : List (At ℕ))
      → ((i : ℕ) (ty : Ty) → type_of_local i known ≡ Some ty → tokens_of i (j ∷ rest) ≡ []) → repeated (j ∷ rest) ≡ []
      → (i : ℕ) (ty : Ty) → type_of_local i ((record { number = j.value; ty = ty0 }) ∷ known) ≡ Some ty → tokens_of i rest ≡ []
  fresh_declared known j ty0 rest fresh distinct i ty e = by_test (j.value == i) refl e
    where
      by_test : (test : Bool) → (j.value == i) ≡ test → (if test then Some ty0 else type_of_local i known) ≡ Some ty → tokens_of i rest ≡ []
      by_test true q k =
          ap (λ z. tokens_of z rest) (sym (same_test j.value i q)) ∙ (no_parts (tokens_of j.value rest) (repeated rest) distinct).0
      by_test false q k = (tokens_split i (j ∷ []) rest (fresh i ty k)).1

  fresh_behind : (known : List Declared) (s : RawSimple) (rest : RawBlock)
      → ((i : ℕ) (ty : Ty) → type_of_local i known ≡ Some ty → tokens_of i (declared_in (simple s rest)) ≡ [])
      → repeated (declared_in (simple s rest)) ≡ []
      → (i : ℕ) (ty : Ty) → type_of_local i (declares s ++ known) ≡ Some ty → tokens_of i (declared_in rest) ≡ []
  fresh_behind known (constant ty j side) rest fresh distinct = fresh_declared known j ty (declared_in rest) fresh distinct
  fresh_behind known (join ty j) rest fresh distinct = fresh_declared known j ty (declared_in rest) fresh distinct
  fresh_behind known (head ty j first) rest fresh distinct = fresh_declared known j ty (declared_in rest) fresh distinct
  fresh_behind known (assign j value) rest fresh distinct = fresh
  fresh_behind known (set_cell cell value) rest fresh distinct = fresh
  fresh_behind known (set_flag pair value) rest fresh distinct = fresh
  fresh_behind known (report id) rest fresh distinct = fresh

  block_simple : (known : List Declared) (s : RawSimple) (rest : RawBlock) → BlockOk known (simple s rest)
      → ItemOk (record { known = known; item = of_simple s }) × BlockOk (declares s ++ known) rest
  block_simple known s rest ok = (
    ok.items.0,
    record {
      items = ok.items.1;
      settings = (each_split IsKept (map (declaration s rest) (declared s)) (declarations rest) ok.settings).1;
      fresh = fresh_behind known s rest ok.fresh ok.distinct;
      distinct = (repeated_split (declared s) (declared_in rest) ok.distinct).1;
    },
  )

  block_leave : (known : List Declared) (at : ℕ) (a : At CAtom) (rest : RawBlock) → BlockOk known (leave at a rest)
      → ItemOk (record { known = known; item = of_test a }) × BlockOk known rest
  block_leave known at a rest ok =
      (ok.items.0, record { items = ok.items.1; settings = ok.settings; fresh = ok.fresh; distinct = ok.distinct })

  block_choice : (known : List Declared) (a : At CAtom) (x y rest : RawBlock) → BlockOk known (choice a x y rest)
      → ItemOk (record { known = known; item = of_test a }) × BlockOk known x × BlockOk known y × BlockOk known rest
  block_choice known a x y rest ok =
      let p = each_split ItemOk (scoped known x ++ scoped known y) (scoped known rest) ok.items.1 in
      let q = each_split ItemOk (scoped known x) (scoped known y) p.0 in
      let s = each_split IsKept (declarations x ++ declarations y) (declarations rest) ok.settings in
      let t = each_split IsKept (declarations x) (declarations y) s.0 in
      let d = three_repeated (of_statement declared) (items_in x) (items_in y) (items_in rest) ok.distinct in (
        ok.items.0,
        record {
          items = q.0;
          settings = t.0;
          distinct = d.0;
          fresh = λ i ty e. (three_parts (of_statement declared) i (items_in x) (items_in y) (items_in rest) (ok.fresh i ty e)).0;
        },
        record {
          items = q.1;
          settings = t.1;
          distinct = d.1;
          fresh = λ i ty e. (three_parts (of_statement declared) i (items_in x) (items_in y) (items_in rest) (ok.fresh i ty e)).1;
        },
        record {
          items = p.1;
          settings = s.1;
          distinct = d.2;
          fresh = λ i ty e. (three_parts (of_statement declared) i (items_in x) (items_in y) (items_in rest) (ok.fresh i ty e)).2;
        },
      )

  block_loop : (known : List Declared) (x rest : RawBlock) → BlockOk known (loop x rest) → BlockOk known x × BlockOk known rest
  block_loop known x rest ok =
      let p = each_split ItemOk (scoped known x) (scoped known rest) ok.items in
      let s = each_split IsKept (declarations x) (declarations rest) ok.settings in
      let d = two_repeated (of_statement declared) (items_in x) (items_in rest) ok.distinct in (
        record {
          items = p.0;
          settings = s.0;
          distinct = d.0;
          fresh = λ i ty e. (two_parts (of_statement declared) i (items_in x) (items_in rest) (ok.fresh i ty e)).0;
        },
        record {
          items = p.1;
          settings = s.1;
          distinct = d.1;
          fresh = λ i ty e. (two_parts (of_statement declared) i (items_in x) (items_in rest) (ok.fresh i ty e)).1;
        },
      )

  -- a local that is declared with a value
  new_ready : (outer : ℕ → Type 0) (known : List Declared) (rest : RawBlock) (s t : State V) (j : ℕ) (ty0 : Ty) (w : Number V)
      → State.locals t ≡ State.locals (set_local s j (holds w)) → type_of w ≡ ty0 → Inv outer known rest t
      → Inv outer ((record { number = j; ty = ty0 }) ∷ known) rest t
  new_ready outer known rest s t j ty0 w is fits base i ty e = by_test (j == i) refl e
    where
      by_test : (test : Bool) → (j == i) ≡ test → (if test then Some ty0 else type_of_local i known) ≡ Some ty → Status outer t.locals i ty rest
      by_test true q k =
          let same : ty0 ≡ ty = cc (k) in
          inl (record { value = w; is = ap (λ l. l i) is ∙ this_local s.locals i j (holds w) (turned_true j i q); fits = fits ∙ same })
      by_test false q k = base i ty k

  new_slot : (outer : ℕ → Type 0) (known : List Declared) (rest : RawBlock) (s t : State V) (j : ℕ) (ty0 : Ty)
      → State.locals t ≡ State.locals (set_local s j (empty ty0)) → after_join j rest ≡ [] → Inv outer known rest t
      → Inv outer ((record { number = j; ty = ty0 }) ∷ known) rest t
  new_slot outer known rest s t j ty0 is later base i ty e = by_test (j == i) refl e
    where
      by_test : (test : Bool) → (j == i) ≡ test → (if test then Some ty0 else type_of_local i known) ≡ Some ty → Status outer t.locals i ty rest
      by_test true q k =
          let same : ty0 ≡ ty = cc (k) in
          inr (
            ap (λ l. local_type (l i)) is ∙ ap local_type (this_local s.locals i j (empty ty0) (turned_true j i q)) ∙ ap gives same,
            inr (ap (λ z. after_join z rest) (sym (same_test j i q)) ∙ later),
          )
      by_test false q k = base i ty k

  -- behind a statement
  inv_simple : (outer : ℕ → Type 0) (known : List Declared) (r : RawSimple) (rest : RawBlock) → BlockOk known (simple r rest) → (s t : State V)
      → Inv outer known (simple r rest) s → step o c (simple_of r) s ≡ gives t → Inv outer (declares r ++ known) rest t
  inv_simple outer known r rest ok s t inv h = by_statement r rest ok h (behind outer known (simple r rest) rest s t inv
      (λ i ty e q. put_ready (simple_of r) s.locals t.locals i ty (undeclared i ty e) (step_puts o c (simple_of r) s t h) q)
      (λ i ty e q u. inr (
        put_slot (simple_of r) s.locals t.locals i ty (undeclared i ty e) (step_puts o c (simple_of r) s t h) q,
        (read_simple outer i r rest u).1,
      )))
    where
      undeclared : (i : ℕ) (ty : Ty) → type_of_local i known ≡ Some ty → Undeclared i (simple_of r)
      undeclared i ty e = undeclared_simple i r (tokens_split i (declared r) (declared_in rest) (ok.fresh i ty e)).0

      by_statement : (x : RawSimple) (y : RawBlock) → BlockOk known (simple x y) → step o c (simple_of x) s ≡ gives t → Inv outer known y t
          → Inv outer (declares x ++ known) y t
      by_statement (constant ty j side) y k g base =
          let a = then_gives (right_value o c s (right_of side.value)) _ t g in
          let d = then_gives (typed ty a.0) _ t a.2 in
          let w = typed_gives ty a.0 d.0 d.1 in
          new_ready outer known y s t j.value ty d.0 (ap (λ u. State.locals u) (sym (value_given _ _ d.2))) (ap (λ u. type_of u) w.0 ∙ w.1) base
      by_statement (join ty j) y k g base =
          new_slot outer known y s t j.value ty (ap (λ u. State.locals u) (sym (value_given _ _ g))) k.settings.0 base
      by_statement (head ty j first) y k g base =
          let a = then_gives (atom_value o c s first.value) _ t g in
          let d = then_gives (typed ty a.0) _ t a.2 in
          let w = typed_gives ty a.0 d.0 d.1 in
          new_ready outer known y s t j.value ty d.0 (ap (λ u. State.locals u) (sym (value_given _ _ d.2))) (ap (λ u. type_of u) w.0 ∙ w.1) base
      by_statement (assign j value) y k g base = base
      by_statement (set_cell cell value) y k g base = base
      by_statement (set_flag pair value) y k g base = base
      by_statement (report id) y k g base = base

  inv_leave : (outer : ℕ → Type 0) (known : List Declared) (at : ℕ) (a : At CAtom) (rest : RawBlock) (s : State V)
      → Inv outer known (leave at a rest) s → Inv outer known rest s
  inv_leave outer known at a rest s inv =
      behind outer known (leave at a rest) rest s s inv (λ i ty e q. q) (λ i ty e q u. inr (q, (read_leave outer i at a rest u).1))

  -- behind the chosen block of an `if`
  inv_choice : (outer : ℕ → Type 0) (known : List Declared) (a : At CAtom) (x y rest : RawBlock) → BlockOk known (choice a x y rest)
      → (s t : State V) → Inv outer known (choice a x y rest) s → (goes : Bool)
      → (if goes then run_block o n c (block_in x) s else run_block o n c (block_in y) s) ≡ gives t → Inv outer known rest t
  inv_choice outer known a x y rest ok s t inv true h =
      let q = block_choice known a x y rest ok in
      behind outer known (choice a x y rest) rest s t inv
      (λ i ty e r. block_ready o n c i ty (block_in x) (undeclared_block i x (q.1.fresh i ty e)) s t r h)
      (λ i ty e r u. by_rule i ty (q.1.fresh i ty e) r (read_choice outer i a x y rest u).3)
    where
      by_rule : (i : ℕ) (ty : Ty) → tokens_of i (declared_in x) ≡ [] → Slot s.locals i ty
          → Unread outer i rest ⊎ ((set_once true i x ≡ []) × (set_once true i y ≡ [])) → Status outer t.locals i ty rest
      by_rule i ty d r (inl u) = inr (block_slot o n c i ty (block_in x) (undeclared_block i x d) s t r h, u)
      by_rule i ty d r (inr w) = inl (set_once_ready o n c i ty x d w.0 s t r h)
  inv_choice outer known a x y rest ok s t inv false h =
      let q = block_choice known a x y rest ok in
      behind outer known (choice a x y rest) rest s t inv
      (λ i ty e r. block_ready o n c i ty (block_in y) (undeclared_block i y (q.2.fresh i ty e)) s t r h)
      (λ i ty e r u. by_rule i ty (q.2.fresh i ty e) r (read_choice outer i a x y rest u).3)
    where
      by_rule : (i : ℕ) (ty : Ty) → tokens_of i (declared_in y) ≡ [] → Slot s.locals i ty
          → Unread outer i rest ⊎ ((set_once true i x ≡ []) × (set_once true i y ≡ [])) → Status outer t.locals i ty rest
      by_rule i ty d r (inl u) = inr (block_slot o n c i ty (block_in y) (undeclared_block i y d) s t r h, u)
      by_rule i ty d r (inr w) = inl (set_once_ready o n c i ty y d w.1 s t r h)

  abbrev loop_of : RawBlock → State V → Outcome Stop (Tested (State V))
  loop_of x s =
      turns (undefined Turns) (λ first. run_block o n c (before_test x) first >>= tested (λ at. test_value o c at (test_of x))) (λ at. at.goes)
      (λ at. run_block o n c (behind_test x) at.state) n s

  -- behind a loop
  inv_loop : (outer : ℕ → Type 0) (known : List Declared) (x rest : RawBlock) → BlockOk known (loop x rest) → (s : State V)
      (last : Tested (State V)) → Inv outer known (loop x rest) s → loop_of x s ≡ gives last → Inv outer known rest last.state
  inv_loop outer known x rest ok s last inv h =
      let q = block_loop known x rest ok in
      behind outer known (loop x rest) rest s last.state inv
      (λ i ty e r. loop_keeps o n c (λ u. Ready (State.locals u) i ty) (Undeclared i)
      (λ z u v q' p g. put_ready z u.locals v.locals i ty q' (step_puts o c z u v g) p) (before_test x) (behind_test x) (test_of x)
      (λ u v p g. block_ready o n c i ty (before_test x) (undeclared_before i x (q.0.fresh i ty e)) u v p g)
      (λ u v p g. block_ready o n c i ty (behind_test x) (undeclared_behind i x (q.0.fresh i ty e)) u v p g) s last r h)
      (λ i ty e r u. inr (
        loop_keeps o n c (λ z. Slot (State.locals z) i ty) (Undeclared i)
            (λ z w v q' p g. put_slot z w.locals v.locals i ty q' (step_puts o c z w v g) p) (before_test x) (behind_test x) (test_of x)
            (λ w v p g. block_slot o n c i ty (before_test x) (undeclared_before i x (q.0.fresh i ty e)) w v p g)
            (λ w v p g. block_slot o n c i ty (behind_test x) (undeclared_behind i x (q.0.fresh i ty e)) w v p g) s last r h,
        (read_loop outer i x rest u).1,
      ))

  -- behind a block that leaves the locals of a scope
  inv_kept : (outer : ℕ → Type 0) (known : List Declared) (x : RawBlock) (y : Block) (s t : State V) → Inv outer known x s
      → ((i : ℕ) (ty : Ty) → type_of_local i known ≡ Some ty → Each (Undeclared i) y) → run_block o n c y s ≡ gives t → Inv outer known x t
  inv_kept outer known x y s t inv d h =
      behind outer known x x s t inv (λ i ty e r. block_ready o n c i ty y (d i ty e) s t r h)
      (λ i ty e r u. inr (block_slot o n c i ty y (d i ty e) s t r h, u))

  -- where a loop's test is reached
  abbrev AtTest : (ℕ → Type 0) → List Declared → RawBlock → State V → Type 0
  AtTest outer known (closed at) t = ⊥
  AtTest outer known (simple s rest) t = AtTest outer (declares s ++ known) rest t
  AtTest outer known (leave at a rest) t = Inv outer known (leave at a rest) t
  AtTest outer known (choice a x y rest) t = AtTest outer known rest t
  AtTest outer known (loop x rest) t = AtTest outer known rest t

  -- breaks in the parts of an `if` and a loop
  choice_breaks : (wanted : Bool) (a : At CAtom) (x y rest : RawBlock) → breaks_in wanted (choice a x y rest) ≡ []
      → (breaks_in false x ≡ []) × (breaks_in false y ≡ []) × (breaks_in wanted rest ≡ [])
  choice_breaks true a x y rest h =
      let p = no_parts (breaks_in false x ++ breaks_in false y) (breaks_in true rest) h in
      let q = no_parts (breaks_in false x) (breaks_in false y) p.0 in
      (q.0, q.1, p.1)
  choice_breaks false a x y rest h =
      let p = no_parts (breaks_in false x ++ breaks_in false y) (breaks_in false rest) h in
      let q = no_parts (breaks_in false x) (breaks_in false y) p.0 in
      (q.0, q.1, p.1)

  loop_breaks : (wanted : Bool) (x rest : RawBlock) → breaks_in wanted (loop x rest) ≡ []
      → (breaks_in true x ≡ []) × (breaks_in wanted rest ≡ [])
  loop_breaks true x rest h = no_parts (breaks_in true x) (breaks_in true rest) h
  loop_breaks false x rest h = no_parts (breaks_in true x) (breaks_in false rest) h

  reach_test : (outer : ℕ → Type 0) (known : List Declared) (x : RawBlock) → BlockOk known x → breaks_in true x ≡ [] → (s t : State V)
      → Inv outer known x s → run_block o n c (before_test x) s ≡ gives t → AtTest outer known x t
  reach_test outer known (closed at) ok br s t inv h = cc (br)
  reach_test outer known (simple r rest) ok br s t inv h =
      let a = then_gives (step o c (simple_of r) s) _ t h in
      reach_test outer (declares r ++ known) rest (block_simple known r rest ok).1 br a.0 t
      (inv_simple outer known r rest ok s a.0 inv a.1) a.2
  reach_test outer known (leave at a rest) ok br s t inv h = subst (Inv outer known (leave at a rest)) (value_given _ _ h) inv
  reach_test outer known (choice a x y rest) ok br s t inv h =
      let g = then_gives (test_value o c s a.value) _ t h in
      let d = then_gives (if g.0 then run_block o n c (block_in x) s else run_block o n c (block_in y) s) _ t g.2 in
      reach_test outer known rest (block_choice known a x y rest ok).3 (choice_breaks true a x y rest br).2 d.0 t
      (inv_choice outer known a x y rest ok s d.0 inv g.0 d.1) d.2
  reach_test outer known (loop x rest) ok br s t inv h =
      let g = then_gives (loop_of x s) (λ last. run_block o n c (before_test rest) last.state) t h in
      reach_test outer known rest (block_loop known x rest ok).1 (loop_breaks true x rest br).1 (Tested.state g.0) t
      (inv_loop outer known x rest ok s g.0 inv g.1) g.2

  test_reached : (outer : ℕ → Type 0) (known : List Declared) (x : RawBlock) → BlockOk known x → (t : State V) → ScopeOk o m b c nodes
      → MachineOk o m b c nodes t.machine → AtTest outer known x t → Goes (test_value o c t (test_of x))
  test_reached outer known (closed at) ok t sc ma h = absurd h
  test_reached outer known (simple s rest) ok t sc ma h =
      test_reached outer (declares s ++ known) rest (block_simple known s rest ok).1 t sc ma h
  test_reached outer known (leave at a rest) ok t sc ma h =
      test_sound known a (block_leave known at a rest ok).0 t sc ma
      (ready_to_read outer known (leave at a rest) t (a ∷ []) h (λ i u. (read_leave outer i at a rest u).0))
  test_reached outer known (choice a x y rest) ok t sc ma h = test_reached outer known rest (block_choice known a x y rest ok).3 t sc ma h
  test_reached outer known (loop x rest) ok t sc ma h = test_reached outer known rest (block_loop known x rest ok).1 t sc ma h

  module _ (sc : ScopeOk o m b c nodes) where
    either : (test : Bool) (x y : Outcome Stop (State V)) → Goes x → Goes y → Goes (if test then x else y)
    either true x y h k = h
    either false x y h k = k

    step_machine : (r : RawSimple) (s t : State V) → MachineOk o m b c nodes s.machine → step o c (simple_of r) s ≡ gives t
        → MachineOk o m b c nodes t.machine
    step_machine r s t ma h =
        let w = step_writes o c (simple_of r) s t h in
        machine_kept s.machine t.machine ma (write_types c (simple_of r) s.machine t.machine w) (write_maps c (simple_of r) s.machine t.machine w)

    arm_machine : (goes : Bool) (x y : RawBlock) (s t : State V) → MachineOk o m b c nodes s.machine
        → (if goes then run_block o n c (block_in x) s else run_block o n c (block_in y) s) ≡ gives t → MachineOk o m b c nodes t.machine
    arm_machine true x y s t ma h = block_machine (block_in x) s t ma h
    arm_machine false x y s t ma h = block_machine (block_in y) s t ma h

    loop_machine : (x : RawBlock) (s : State V) (last : Tested (State V)) → MachineOk o m b c nodes s.machine → loop_of x s ≡ gives last
        → MachineOk o m b c nodes (State.machine last.state)
    loop_machine x s last ma h =
        loop_keeps o n c (λ u. MachineOk o m b c nodes (State.machine u)) (λ y. Unit {0})
        (λ y u v q r e. (
        let w = step_writes o c y u v e in
        machine_kept u.machine v.machine r (write_types c y u.machine v.machine w) (write_maps c y u.machine v.machine w)))
        (before_test x) (behind_test x) (test_of x)
        (λ u v r e. block_machine (before_test x) u v r e) (λ u v r e. block_machine (behind_test x) u v r e) s last ma h

    -- what holds at a loop's head, and at its test
    abbrev AtHead : List Declared → RawBlock → State V → Type 0
    AtHead known x u = Inv anywhere known x u × MachineOk o m b c nodes u.machine

    abbrev Reached : List Declared → RawBlock → Tested (State V) → Type 0
    Reached known x v = AtTest anywhere known x v.state × Inv anywhere known x v.state × MachineOk o m b c nodes (State.machine v.state)

    loop_goes : (known : List Declared) (x : RawBlock) → BlockOk known x
        → ((u : State V) → Inv anywhere known x u → MachineOk o m b c nodes u.machine → Goes (run_block o n c (before_test x) u))
        → ((u : State V) → AtTest anywhere known x u → MachineOk o m b c nodes u.machine → Goes (run_block o n c (behind_test x) u))
        → breaks_in true x ≡ [] → (s : State V) → Inv anywhere known x s → MachineOk o m b c nodes s.machine → Goes (loop_of x s)
    loop_goes known x ok first second br s inv ma =
        turns_go (AtHead known x) (Reached known x)
        (λ u. run_block o n c (before_test x) u >>= tested (λ at. test_value o c at (test_of x))) (λ at. at.goes)
        (λ at. run_block o n c (behind_test x) at.state)
        (λ u p. goes_then (run_block o n c (before_test x) u) _ (first u p.0 p.1)
        (λ t e. goes_then (test_value o c t (test_of x)) _
        (test_reached anywhere known x ok t sc (block_machine (before_test x) u t p.1 e) (reach_test anywhere known x ok br u t p.0 e))
        (λ g k. goes_gives _)))
        (λ u v p e. (
        let a = then_gives (run_block o n c (before_test x) u) _ v e in
        let d = then_gives (test_value o c a.0 (test_of x)) _ v a.2 in
        subst (Reached known x) (value_given _ _ d.2) (
          reach_test anywhere known x ok br u a.0 p.0 a.1,
          inv_kept anywhere known x (before_test x) u a.0 p.0 (λ i ty q. undeclared_before i x (ok.fresh i ty q)) a.1,
          block_machine (before_test x) u a.0 p.1 a.1,
        )))
        (λ v r. second v.state r.0 r.2)
        (λ v u r e. (
          inv_kept anywhere known x (behind_test x) v.state u r.1 (λ i ty q. undeclared_behind i x (ok.fresh i ty q)) e,
          block_machine (behind_test x) v.state u r.2 e,
        ))
        n s (inv, ma)

    mutual
      -- a block isn't stuck
      pub sound : (outer : ℕ → Type 0) (known : List Declared) (x : RawBlock) → BlockOk known x → breaks_in false x ≡ [] → (s : State V)
          → Inv outer known x s → MachineOk o m b c nodes s.machine → Goes (run_block o n c (block_in x) s)
      sound outer known (closed at) ok br s inv ma = goes_gives s
      sound outer known (simple r rest) ok br s inv ma =
          let q = block_simple known r rest ok in
          goes_then (step o c (simple_of r) s) _
          (step_goes known r q.0 s sc ma
          (ready_to_read outer known (simple r rest) s (atoms_of_simple r) inv (λ i u. (read_simple outer i r rest u).0))
          (slots_of outer known (simple r rest) s inv))
          (λ t e. sound outer (declares r ++ known) rest q.1 br t (inv_simple outer known r rest ok s t inv e) (step_machine r s t ma e))
      sound outer known (leave at a rest) ok br s inv ma = cc (br)
      sound outer known (choice a x y rest) ok br s inv ma =
          let q = block_choice known a x y rest ok in
          let w = choice_breaks false a x y rest br in
          goes_then (test_value o c s a.value) _
          (test_sound known a q.0 s sc ma
          (ready_to_read outer known (choice a x y rest) s (a ∷ []) inv (λ i u. (read_choice outer i a x y rest u).0)))
          (λ goes e. goes_then (if goes then run_block o n c (block_in x) s else run_block o n c (block_in y) s) _
          (either goes _ _
          (sound anywhere known x q.1 w.0 s (into_block outer known (choice a x y rest) x s inv (λ i u. (read_choice outer i a x y rest u).1)) ma)
          (sound anywhere known y q.2 w.1 s (into_block outer known (choice a x y rest) y s inv (λ i u. (read_choice outer i a x y rest u).2)) ma))
          (λ t k. sound outer known rest q.3 w.2 t (inv_choice outer known a x y rest ok s t inv goes k) (arm_machine goes x y s t ma k)))
      sound outer known (loop x rest) ok br s inv ma =
          let q = block_loop known x rest ok in
          let w = loop_breaks false x rest br in
          let inside = into_block outer known (loop x rest) x s inv (λ i u. (read_loop outer i x rest u).0) in
          goes_then (loop_of x s) (λ last. run_block o n c (block_in rest) last.state)
          (loop_goes known x q.0 (λ u i' a. sound_before anywhere known x q.0 w.0 u i' a)
          (λ u i' a. sound_behind anywhere known x q.0 w.0 u i' a) w.0 s inside ma)
          (λ last e. sound outer known rest q.1 w.1 last.state (inv_loop outer known x rest ok s last inv e) (loop_machine x s last ma e))

      -- nor is what stands before a loop's test
      pub sound_before : (outer : ℕ → Type 0) (known : List Declared) (x : RawBlock) → BlockOk known x → breaks_in true x ≡ [] → (s : State V)
          → Inv outer known x s → MachineOk o m b c nodes s.machine → Goes (run_block o n c (before_test x) s)
      sound_before outer known (closed at) ok br s inv ma = cc (br)
      sound_before outer known (simple r rest) ok br s inv ma =
          let q = block_simple known r rest ok in
          goes_then (step o c (simple_of r) s) _
          (step_goes known r q.0 s sc ma
          (ready_to_read outer known (simple r rest) s (atoms_of_simple r) inv (λ i u. (read_simple outer i r rest u).0))
          (slots_of outer known (simple r rest) s inv))
          (λ t e. sound_before outer (declares r ++ known) rest q.1 br t (inv_simple outer known r rest ok s t inv e) (step_machine r s t ma e))
      sound_before outer known (leave at a rest) ok br s inv ma = goes_gives s
      sound_before outer known (choice a x y rest) ok br s inv ma =
          let q = block_choice known a x y rest ok in
          let w = choice_breaks true a x y rest br in
          goes_then (test_value o c s a.value) _
          (test_sound known a q.0 s sc ma
          (ready_to_read outer known (choice a x y rest) s (a ∷ []) inv (λ i u. (read_choice outer i a x y rest u).0)))
          (λ goes e. goes_then (if goes then run_block o n c (block_in x) s else run_block o n c (block_in y) s) _
          (either goes _ _
          (sound anywhere known x q.1 w.0 s (into_block outer known (choice a x y rest) x s inv (λ i u. (read_choice outer i a x y rest u).1)) ma)
          (sound anywhere known y q.2 w.1 s (into_block outer known (choice a x y rest) y s inv (λ i u. (read_choice outer i a x y rest u).2)) ma))
          (λ t k. sound_before outer known rest q.3 w.2 t (inv_choice outer known a x y rest ok s t inv goes k) (arm_machine goes x y s t ma k)))
      sound_before outer known (loop x rest) ok br s inv ma =
          let q = block_loop known x rest ok in
          let w = loop_breaks true x rest br in
          let inside = into_block outer known (loop x rest) x s inv (λ i u. (read_loop outer i x rest u).0) in
          goes_then (loop_of x s) (λ last. run_block o n c (before_test rest) last.state)
          (loop_goes known x q.0 (λ u i' a. sound_before anywhere known x q.0 w.0 u i' a)
          (λ u i' a. sound_behind anywhere known x q.0 w.0 u i' a) w.0 s inside ma)
          (λ last e. sound_before outer known rest q.1 w.1 last.state (inv_loop outer known x rest ok s last inv e) (loop_machine x s last ma e))

      -- nor what stands behind it
      pub sound_behind : (outer : ℕ → Type 0) (known : List Declared) (x : RawBlock) → BlockOk known x → breaks_in true x ≡ [] → (s : State V)
          → AtTest outer known x s → MachineOk o m b c nodes s.machine → Goes (run_block o n c (behind_test x) s)
      sound_behind outer known (closed at) ok br s h ma = absurd h
      sound_behind outer known (simple r rest) ok br s h ma =
          sound_behind outer (declares r ++ known) rest (block_simple known r rest ok).1 br s h ma
      sound_behind outer known (leave at a rest) ok br s h ma =
          sound outer known rest (block_leave known at a rest ok).1 br s (inv_leave outer known at a rest s h) ma
      sound_behind outer known (choice a x y rest) ok br s h ma =
          sound_behind outer known rest (block_choice known a x y rest ok).3 (choice_breaks true a x y rest br).2 s h ma
      sound_behind outer known (loop x rest) ok br s h ma =
          sound_behind outer known rest (block_loop known x rest ok).1 (loop_breaks true x rest br).1 s h ma

  abbrev pub nowhere : ℕ → Type 0
  nowhere i = ⊥

  -- each local that the top block of a body declares has a value at its end
  pub ends_ready : (known : List Declared) (x : RawBlock) → BlockOk known x → breaks_in false x ≡ [] → (s t : State V)
      → Inv nowhere known x s → run_block o n c (block_in x) s ≡ gives t → (i : ℕ) (ty : Ty) → type_of_local i (locals_of x ++ known) ≡ Some ty
      → Ready t.locals i ty
  ends_ready known (closed at) ok br s t inv h i ty e =
      subst (λ u. Ready (State.locals u) i ty) (value_given _ _ h) (by_status (inv i ty e))
    where
      by_status : Status nowhere s.locals i ty (closed at) → Ready s.locals i ty
      by_status (inl r) = r
      by_status (inr w) = by_rule w.1
        where
          by_rule : Unread nowhere i (closed at) → Ready s.locals i ty
          by_rule (inl u) = absurd u.0
          by_rule (inr u) = cc (u)
  ends_ready known (simple r rest) ok br s t inv h i ty e =
      let a = then_gives (step o c (simple_of r) s) _ t h in
      ends_ready (declares r ++ known) rest (block_simple known r rest ok).1 br a.0 t (inv_simple nowhere known r rest ok s a.0 inv a.1) a.2
      i ty (ap (type_of_local i) (sym (append_assoc (locals_of rest) (declares r) known)) ∙ e)
  ends_ready known (leave at a rest) ok br s t inv h i ty e = cc (br)
  ends_ready known (choice a x y rest) ok br s t inv h i ty e =
      let g = then_gives (test_value o c s a.value) _ t h in
      let d = then_gives (if g.0 then run_block o n c (block_in x) s else run_block o n c (block_in y) s) _ t g.2 in
      ends_ready known rest (block_choice known a x y rest ok).3 (choice_breaks false a x y rest br).2 d.0 t
      (inv_choice nowhere known a x y rest ok s d.0 inv g.0 d.1) d.2 i ty e
  ends_ready known (loop x rest) ok br s t inv h i ty e =
      let g = then_gives (loop_of x s) (λ last. run_block o n c (block_in rest) last.state) t h in
      ends_ready known rest (block_loop known x rest ok).1 (loop_breaks false x rest br).1 (Tested.state g.0) t
      (inv_loop nowhere known x rest ok s g.0 inv g.1) g.2 i ty e

-- What the items of each body may speak of, by the rules of form.
use Rattle.std.specs.Prelude.{◌≡◌, ◌<◌, ℕ, zero, suc, ◌+◌, max, Bool, true, false, if◌then◌else◌, nat_lt, List, [], ◌∷◌, ◌++◌, length, map, slice_get, Some}
use Rattle.std.specs.List.{flat_map}
use Rattle.std.proofs.Common.{refl, ap, ◌∙◌, arith}
use Rattle.std.proofs.lemmas.Bool.Decides.{nat_tests}
use Rattle.alg_laws.specs.Operations.{Operations}
use Rattle.c_tree.specs.declared.body.CAtom.{CAtom}
use Rattle.c_tree.specs.declared.body.CAtom.TheVariants as atom
use Rattle.c_tree.specs.declared.body.CCell.{CCell}
use Rattle.c_tree.specs.declared.body.Level.{Level}
use Rattle.c_tree.specs.declared.body.Level.TheVariants.{Instance, Model}
use Rattle.c_machine.specs.Execution.{Scope, has}
use Rattle.c_machine.specs.Machine.{flag_count}
use Rattle.c_machine.specs.NeverStuck.{AreBelow}
use Rattle.c_tree.specs.Raw.{At, word_at, node_at, constant, join, head, assign, set_cell, set_flag, report, RawModule}
use Rattle.c_tree.specs.Spelling.{EachHas}
use Rattle.c_tree.specs.rules.Bodies.{Item, of_simple, of_test, of_value, Scoped, a_function, setup_of_model, setup_of_instance, evaluation, RawBody, atoms_of, cell_of, unknown_of, set_cells, of_statement}
use Rattle.c_tree.specs.rules.Reach.{words_of_cells, words_of_flags, of_fields, is_set_up, of_instance, unknowns_of, solution_tokens, solution_instances, reports_of, flags_of, out_of_reach}
use Rattle.c_tree.specs.rules.Fields.{cells_in}
use Rattle.c_tree.specs.rules.Tables.{below, item_numbers}
use Rattle.c_tree.proofs.Blameless.{no_parts, flat_none, each_split, each_get, each_weaker}
use Rattle.c_machine.proofs.Operands.{UnknownOk}
use Rattle.c_machine.proofs.Sound.{AtomReach, ItemReach}

pub map_none : {S T : Type 0} (f : S → T) (xs : List S) → map f xs ≡ [] → xs ≡ []
map_none f [] h = refl
map_none f (x ∷ xs) h = cc (h)

pub none_each : {T : Type 0} (P : T → Type 0) (xs : List T) → xs ≡ [] → EachHas P xs
none_each P [] h = tt
none_each P (x ∷ xs) h = cc (h)

pub below_none : (count number at : ℕ) → below count number at ≡ [] → nat_lt number count ≡ true
below_none count number at h = by_test (nat_lt number count) h
  where
    by_test : (test : Bool) → (if test then (let none : List ℕ = [] in none) else at ∷ []) ≡ [] → test ≡ true
    by_test true k = refl
    by_test false k = cc (k)

pub element_there : {T : Type 0} (xs : List T) (i : ℕ) → nat_lt i (length xs) ≡ true → (x : T) × (slice_get xs i ≡ Some x)
element_there [] i h = absurd (let no : ⊥ = grind (arith, nat_tests) in no)
element_there (x ∷ xs) zero h = (x, refl)
element_there (x ∷ xs) (suc i) h = element_there xs i (grind (arith, nat_tests))

pub is_below : (i n : ℕ) → i < n → nat_lt i n ≡ true
is_below i n h = grind (arith, nat_tests)

module _ {V : Type 0} (o : Operations V) (n : ℕ) (m : RawModule) (b : RawBody) (c : Scope V) (nodes : List ℕ) where
  one_reached : (P : At CCell → Type 0) (Q : At ℕ → Type 0) → ((x : At CCell) → P x → has c (CCell.level x.value) ≡ true)
      → ((x : At ℕ) → Q x → UnknownOk o m b c nodes x.value) → (at : ℕ) (a : CAtom)
      → EachHas P (cell_of (record { at = at; value = a })) → EachHas Q (unknown_of (record { at = at; value = a }))
      → AtomReach o n m b c nodes a
  one_reached P Q f g at (atom.Local i) p q = tt
  one_reached P Q f g at (atom.Argument i) p q = tt
  one_reached P Q f g at (atom.Integer i) p q = tt
  one_reached P Q f g at (atom.Real d) p q = tt
  one_reached P Q f g at (atom.Cell cell) p q = f _ p.0
  one_reached P Q f g at (atom.Unknown i) p q = g _ q.0

  atoms_reached : (P : At CCell → Type 0) (Q : At ℕ → Type 0) → ((x : At CCell) → P x → has c (CCell.level x.value) ≡ true)
      → ((x : At ℕ) → Q x → UnknownOk o m b c nodes x.value) → (atoms : List (At CAtom)) → EachHas P (flat_map cell_of atoms)
      → EachHas Q (flat_map unknown_of atoms) → EachHas (λ a. AtomReach o n m b c nodes (At.value a)) atoms
  atoms_reached P Q f g [] p q = tt
  atoms_reached P Q f g (a ∷ rest) p q =
      let p2 = each_split P (cell_of a) (flat_map cell_of rest) p in
      let q2 = each_split Q (unknown_of a) (flat_map unknown_of rest) q in
      (one_reached P Q f g a.at a.value p2.0 q2.0, atoms_reached P Q f g rest p2.1 q2.1)

  -- what an item may reach
  abbrev pub Reached : Scoped → Type 0
  Reached s = EachHas (λ a. AtomReach o n m b c nodes (At.value a)) (atoms_of s.item) × ItemReach o n m b c nodes s.item

  no_cell : (x : At CCell) → ⊥ → has c (CCell.level x.value) ≡ true
  no_cell x h = absurd h

  no_unknown : (x : At ℕ) → ⊥ → UnknownOk o m b c nodes x.value
  no_unknown x h = absurd h

  -- functions
  function_item : (item : Item) → of_statement set_cells item ≡ [] → flags_of item ≡ [] → reports_of item ≡ [] → ItemReach o n m b c nodes item
  function_item (of_simple (constant ty i side)) h k r = tt
  function_item (of_simple (join ty i)) h k r = tt
  function_item (of_simple (head ty i first)) h k r = tt
  function_item (of_simple (assign i value)) h k r = tt
  function_item (of_simple (set_cell cell value)) h k r = cc (h)
  function_item (of_simple (set_flag pair value)) h k r = cc (k)
  function_item (of_simple (report id)) h k r = cc (r)
  function_item (of_test a) h k r = tt
  function_item (of_value ty a) h k r = tt

  pub function_reached : (j : ℕ) (s : Scoped) → out_of_reach (a_function j) s ≡ [] → Reached s
  function_reached j s h =
      let p = no_parts (words_of_cells (cells_in s) ++ words_of_flags (flags_of s.item) ++ solution_tokens s.item) (reports_of s.item) h in
      let q = no_parts (words_of_cells (cells_in s) ++ words_of_flags (flags_of s.item)) (solution_tokens s.item) p.0 in
      let r = no_parts (words_of_cells (cells_in s)) (words_of_flags (flags_of s.item)) q.0 in
      let cells = no_parts (flat_map cell_of (atoms_of s.item)) (of_statement set_cells s.item) (map_none (λ x. word_at x) (cells_in s) r.0) in (
        atoms_reached (λ x. ⊥) (λ x. ⊥) no_cell no_unknown (atoms_of s.item) (none_each _ _ cells.0)
            (none_each _ _ (map_none (λ x. At.at x) (unknowns_of s.item) q.1)),
        function_item s.item cells.1 (map_none (λ x. word_at x) (flags_of s.item) r.1) p.1,
      )

  -- the set-up of the model
  of_model : c.has_model ≡ true → (x : At CCell) → of_instance x ≡ [] → has c (CCell.level x.value) ≡ true
  of_model h x k = by_level (CCell.level x.value) k
    where
      by_level : (level : Level)
          → (let tokens : Level → List ℕ = λ l. (elim l [ Instance ↦ x.at ∷ [] | Model ↦ [] ]) in tokens level) ≡ [] → has c level ≡ true
      by_level Instance e = cc (e)
      by_level Model e = h

  model_item : c.has_model ≡ true → c.reports ≡ true → (item : Item) → EachHas (λ x. of_instance x ≡ []) (of_statement set_cells item)
      → flags_of item ≡ [] → ItemReach o n m b c nodes item
  model_item h r (of_simple (constant ty i side)) d k = tt
  model_item h r (of_simple (join ty i)) d k = tt
  model_item h r (of_simple (head ty i first)) d k = tt
  model_item h r (of_simple (assign i value)) d k = tt
  model_item h r (of_simple (set_cell cell value)) d k = of_model h cell d.0
  model_item h r (of_simple (set_flag pair value)) d k = cc (k)
  model_item h r (of_simple (report id)) d k = r
  model_item h r (of_test a) d k = tt
  model_item h r (of_value ty a) d k = tt

  pub model_reached : c.has_model ≡ true → c.reports ≡ true → (s : Scoped) → out_of_reach setup_of_model s ≡ [] → Reached s
  model_reached h r s k =
      let p = no_parts (flat_map of_instance (cells_in s) ++ map (λ pair. At.at pair) (flags_of s.item) ++ solution_tokens s.item)
      (solution_instances s.item) k in
      let q = no_parts (flat_map of_instance (cells_in s) ++ map (λ pair. At.at pair) (flags_of s.item)) (solution_tokens s.item) p.0 in
      let t = no_parts (flat_map of_instance (cells_in s)) (map (λ pair. At.at pair) (flags_of s.item)) q.0 in
      let cells = each_split _ (flat_map cell_of (atoms_of s.item)) (of_statement set_cells s.item) (flat_none of_instance (cells_in s) t.0) in (
        atoms_reached (λ x. of_instance x ≡ []) (λ x. ⊥) (of_model h) no_unknown (atoms_of s.item) cells.0
            (none_each _ _ (map_none (λ x. At.at x) (unknowns_of s.item) q.1)),
        model_item h r s.item cells.1 (map_none (λ pair. At.at pair) (flags_of s.item) t.1),
      )

  -- bodies that have both structs
  both_levels : c.has_model ≡ true → c.has_instance ≡ true → (level : Level) → has c level ≡ true
  both_levels h k Instance = k
  both_levels h k Model = h

  abbrev FlagFits : At ℕ → Type 0
  FlagFits pair = nat_lt pair.value (flag_count c.tree) ≡ true

  both_item : c.has_model ≡ true → c.has_instance ≡ true → (item : Item) → EachHas FlagFits (flags_of item)
      → EachHas (λ at. c.reports ≡ true) (reports_of item) → ItemReach o n m b c nodes item
  both_item h k (of_simple (constant ty i side)) d r = tt
  both_item h k (of_simple (join ty i)) d r = tt
  both_item h k (of_simple (head ty i first)) d r = tt
  both_item h k (of_simple (assign i value)) d r = tt
  both_item h k (of_simple (set_cell cell value)) d r = both_levels h k (CCell.level cell.value)
  both_item h k (of_simple (set_flag pair value)) d r = (k, d.0)
  both_item h k (of_simple (report id)) d r = r.0
  both_item h k (of_test a) d r = tt
  both_item h k (of_value ty a) d r = tt

  -- the number of collapse flags is at least that of pairs
  flag_fits : length c.tree.collapse ≡ length m.collapse → (i : ℕ) → nat_lt i (length m.collapse) ≡ true → nat_lt i (flag_count c.tree) ≡ true
  flag_fits e i h =
      let fits : i < max (length c.tree.collapse) 1 =
      (let small : i < length m.collapse = grind (arith, nat_tests) in omega (arith, e, small)) in
      is_below i (flag_count c.tree) fits

  flags_fit : length c.tree.collapse ≡ length m.collapse → (s : Scoped) → item_numbers m s ≡ [] → EachHas FlagFits (flags_of s.item)
  flags_fit e s h =
      let p = no_parts (flat_map (λ x. below (length m.nodes) (At.value x) (node_at x)) (unknowns_of s.item)
      ++ flat_map (λ pair. below (length m.collapse) (At.value pair) (At.at pair + 4)) (flags_of s.item)) _ h in
      let q = no_parts (flat_map (λ x. below (length m.nodes) (At.value x) (node_at x)) (unknowns_of s.item)) _ p.0 in
      each_weaker _ _ (λ pair k. flag_fits e pair.value (below_none (length m.collapse) pair.value (pair.at + 4) k)) (flags_of s.item)
      (flat_none (λ pair. below (length m.collapse) (At.value pair) (At.at pair + 4)) (flags_of s.item) q.1)

  any_level : c.has_model ≡ true → c.has_instance ≡ true → (x : At CCell) → Unit {0} → has c (CCell.level x.value) ≡ true
  any_level h k x u = both_levels h k (CCell.level x.value)

  each_unit : {T : Type 0} (xs : List T) → EachHas (λ x. Unit {0}) xs
  each_unit [] = tt
  each_unit (x ∷ xs) = (tt, each_unit xs)

  each_true : {T : Type 0} (xs : List T) → c.reports ≡ true → EachHas (λ x. c.reports ≡ true) xs
  each_true [] r = tt
  each_true (x ∷ xs) r = (r, each_true xs r)

  -- the set-up of an instance
  pub instance_reached : c.has_model ≡ true → c.has_instance ≡ true → c.reports ≡ true → length c.tree.collapse ≡ length m.collapse → (s : Scoped)
      → out_of_reach setup_of_instance s ≡ [] → item_numbers m s ≡ [] → Reached s
  instance_reached h k r e s q w = (
    atoms_reached (λ x. Unit {0}) (λ x. ⊥) (any_level h k) no_unknown (atoms_of s.item) (each_unit (flat_map cell_of (atoms_of s.item)))
        (none_each _ _ (map_none (λ x. At.at x) (unknowns_of s.item) q)),
    both_item h k s.item (flags_fit e s w) (each_true (reports_of s.item) r),
  )

  -- the evaluation
  unknown_there : c.has_instance ≡ true → (solution : List V) → c.solution ≡ Some solution → length nodes ≡ length m.nodes
      → AreBelow (length solution) nodes → (x : At ℕ) → nat_lt x.value (length m.nodes) ≡ true → UnknownOk o m b c nodes x.value
  unknown_there k solution g e fits x h =
      let a = element_there nodes x.value (ap (λ z. nat_lt x.value z) e ∙ h) in
      let d = element_there solution a.0 (is_below a.0 (length solution) (each_get (λ p. p < length solution) nodes x.value a.0 fits a.1)) in
      record { reached = k; solution = solution; given = g; place = a.0; mapped = a.1; value = d.0; there = d.1 }

  pub eval_reached : c.has_model ≡ true → c.has_instance ≡ true → length c.tree.collapse ≡ length m.collapse → (solution : List V)
      → c.solution ≡ Some solution → length nodes ≡ length m.nodes → AreBelow (length solution) nodes → (s : Scoped)
      → out_of_reach evaluation s ≡ [] → item_numbers m s ≡ [] → Reached s
  eval_reached h k e solution g l fits s q w =
      let p = no_parts (of_fields is_set_up (of_statement set_cells s.item) ++ words_of_flags (flags_of s.item)) (reports_of s.item) q in
      let u = no_parts (flat_map (λ x. below (length m.nodes) (At.value x) (node_at x)) (unknowns_of s.item)
      ++ flat_map (λ pair. below (length m.collapse) (At.value pair) (At.at pair + 4)) (flags_of s.item)) _ w in
      let t = no_parts (flat_map (λ x. below (length m.nodes) (At.value x) (node_at x)) (unknowns_of s.item)) _ u.0 in (
        atoms_reached (λ x. Unit {0}) (λ x. below (length m.nodes) (At.value x) (node_at x) ≡ []) (any_level h k)
            (λ x y. unknown_there k solution g l fits x (below_none (length m.nodes) x.value (node_at x) y)) (atoms_of s.item)
            (each_unit (flat_map cell_of (atoms_of s.item)))
            (flat_none (λ x. below (length m.nodes) (At.value x) (node_at x)) (unknowns_of s.item) t.0),
        both_item h k s.item (flags_fit e s w) (none_each _ _ p.1),
      )

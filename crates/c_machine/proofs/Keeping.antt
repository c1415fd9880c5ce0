-- What a call leaves as it was.
use Rattle.std.specs.Prelude.{◌≡◌, length, map, ℕ, zero, suc, ◌==◌, ◌&&◌, ◌||◌, Bool, true, false, if◌then◌else◌, pos, List, [], ◌∷◌, ◌++◌, Option, Some, None, slice_get, set}
use Rattle.std.proofs.Common.{refl, ap, sym, subst, ◌∙◌, arith}
use Rattle.std.proofs.Math.ListN.{length-set}
use Rattle.std.proofs.lemmas.Bool.Decides.{nat_tests}
use Rattle.alg_laws.specs.declared.number.Number.{Number}
use Rattle.alg_laws.specs.declared.number.Number.TheVariants.{Real, Int}
use Rattle.alg_laws.specs.declared.number.Reason.TheVariants.{Turns}
use Rattle.alg_laws.specs.declared.number.Ty.{Ty}
use Rattle.alg_laws.specs.declared.number.Ty.TheVariants.{Integer, Real as RealTy}
use Rattle.alg_laws.specs.NumberOps.{type_of}
use Rattle.alg_laws.specs.Loop.{turns, tested, Tested}
use Rattle.alg_laws.specs.Operations.{Operations}
use Rattle.alg_laws.specs.Outcome.{Outcome, gives, ends, ◌>>=◌}
use Rattle.c_tree.specs.declared.body.CAtom.{CAtom}
use Rattle.c_tree.specs.declared.body.CCell.{CCell}
use Rattle.c_tree.specs.declared.body.CField.TheVariants.{Temperature}
use Rattle.c_tree.specs.declared.body.CSimple.{CSimple}
use Rattle.c_tree.specs.declared.body.CSimple.TheVariants.{Constant, Join, Head, Assign, SetCell, SetCollapse, Report}
use Rattle.c_tree.specs.declared.body.CStatement.{CStatement}
use Rattle.c_tree.specs.declared.body.Level.{Level}
use Rattle.c_tree.specs.declared.body.Level.TheVariants.{Instance, Model}
use Rattle.c_tree.specs.declared.file.AccessRow.{AccessRow}
use Rattle.c_tree.specs.declared.file.CModule.{CModule}
use Rattle.c_tree.specs.declared.load.CLoad.{CLoad}
use Rattle.c_tree.specs.declared.load.LoadFactor.{LoadFactor}
use Rattle.c_tree.specs.declared.load.LoadFactor.TheVariants as factor
use Rattle.c_tree.specs.declared.load.LoadTarget.{LoadTarget}
use Rattle.c_tree.specs.declared.load.LoadTarget.TheVariants as target
use Rattle.c_tree.specs.Blocks.{Block, done, simple, choice, loop, block_of}
use Rattle.c_machine.specs.Execution.{Scope, State, has, no_locals, local_type, atom_value, right_value, step, test_value, run_block}
use Rattle.c_machine.specs.Loading.{LoadArguments, Place, of_vector, of_matrix, factor_value, product_with, load_product, place_of_target, value_at, with_value_at, signed, run_load, run_loads}
use Rattle.c_tree.specs.SameType.{same_type}
use Rattle.c_machine.specs.Machine.{Stop, undefined, found, typed, put_at, Machine, place_of, cells_of, with_cells, write_cell, write_flag}
use Rattle.c_machine.specs.MachineLaws.{SameMappings, SameTargets, SameCells, SameTypes, SameLengths, is_place, is_cell_at, flag_at, row_sets, temperature_cell, sets_place, some_statement, CallsKeep, same_place, loaded_at, NamedNowhere, LoadsAdd}
use Rattle.c_machine.specs.Runs.{HostCall, set_parameter, setup_model, setup_instance, evaluate, load_residual_resist, load_residual_react, load_jacobian_resist, load_jacobian_react, load_jacobian_tran, load_rhs_dc, load_rhs_tran, is_load, row_for, raise_flag, set_by, run_body, run_call, with_temperature, model_scope, instance_scope, eval_scope}
use Rattle.c_tree.specs.Text.{loads_of}
use Rattle.c_tree.specs.rules.Reach.{same_level}
use Rattle.c_machine.proofs.Endings.{then_gives, found_gives, only_if_gives, value_given, get_set_same, get_set_other}

same_number : (i : ℕ) → (i == i) ≡ true
same_number i = grind (arith, nat_tests)

some_value : {T : Type 0} (x y : T) → Some x ≡ Some y → x ≡ y
some_value x y h = cc (h)

pub one_type : (a b : Ty) → same_type a b ≡ true → a ≡ b
one_type Integer Integer h = refl
one_type RealTy RealTy h = refl
one_type Integer RealTy h = cc (h)
one_type RealTy Integer h = cc (h)

itself : (level : Level) → same_level level level ≡ true
itself Instance = refl
itself Model = refl

-- a value where one of a type is wanted
pub typed_gives : {V : Type 0} (ty : Ty) (v w : Number V) → typed ty v ≡ gives w → (w ≡ v) × (type_of v ≡ ty)
typed_gives ty v w h =
    let a = only_if_gives (same_type (type_of v) ty) (gives v) w h in
    (sym (value_given _ _ a.1), one_type (type_of v) ty a.0)

-- a value of the type that is there leaves the types
pub types_behind : {V : Type 0} (cells : List (Number V)) (i : ℕ) (old v : Number V) → slice_get cells i ≡ Some old
    → type_of v ≡ type_of old → map (λ u. type_of u) (set cells i v) ≡ map (λ u. type_of u) cells
types_behind [] i old v h k = refl
types_behind (c ∷ cells) zero old v h k =
    let same : type_of v ≡ type_of c = k ∙ ap (λ u. type_of u) (sym (some_value c old h)) in
    ap (λ t. t ∷ map (λ u. type_of u) cells) same
types_behind (c ∷ cells) (suc i) old v h k = ap (λ ts. type_of c ∷ ts) (types_behind cells i old v h k)

-- the types of cells are as before
types_set : {V : Type 0} (s : Machine V) (level : Level) (i : ℕ) (v : Number V)
    → map (λ u. type_of u) (set (cells_of s level) i v) ≡ map (λ u. type_of u) (cells_of s level)
    → SameTypes s (with_cells s level (set (cells_of s level) i v))
types_set s Instance i v k = record { model = refl; instance = k }
types_set s Model i v k = record { model = k; instance = refl }

-- how a statement changes the machine
pub data Write {V : Type 0} (c : Scope V) (x : CSimple) (s t : Machine V) : Type 0 where
  untouched : t ≡ s → Write c x s t
  wrote : (level : Level) (i : ℕ) (v : Number V) → has c level ≡ true → sets_place c.tree level i x ≡ true
      → map (λ u. type_of u) (set (cells_of s level) i v) ≡ map (λ u. type_of u) (cells_of s level)
      → t ≡ with_cells s level (set (cells_of s level) i v) → Write c x s t
  reported : (id : ℕ) → c.reports ≡ true → t ≡ record s { errors = s.errors ++ id ∷ [] } → Write c x s t

-- a cell that is written
written_cell : {V : Type 0} (m : CModule) (cell : CCell) (v : Number V) (s t : Machine V) → write_cell m cell v s ≡ gives t
    → (i : ℕ) × (w : Number V) × (place_of m cell ≡ Some i) × (t ≡ with_cells s cell.level (set (cells_of s cell.level) i w))
    × (map (λ u. type_of u) (set (cells_of s cell.level) i w) ≡ map (λ u. type_of u) (cells_of s cell.level))
written_cell m cell v s t h =
    let a = then_gives (found (place_of m cell)) _ t h in
    let b = then_gives (put_at (cells_of s cell.level) a.0 v) _ t a.2 in
    let d = then_gives (found (slice_get (cells_of s cell.level) a.0)) _ b.0 b.1 in
    let e = then_gives (typed (type_of d.0) v) _ b.0 d.2 in
    let cells : set (cells_of s cell.level) a.0 e.0 ≡ b.0 = value_given _ _ e.2 in
    let ty = typed_gives (type_of d.0) v e.0 e.1 in (
      a.0,
      e.0,
      found_gives _ _ a.1,
      sym (value_given _ _ b.2) ∙ ap (with_cells s cell.level) (sym cells),
      types_behind (cells_of s cell.level) a.0 d.0 e.0 (found_gives _ _ d.1) (ap (λ u. type_of u) ty.0 ∙ ty.1),
    )

module _ {V : Type 0} (o : Operations V) where
  pub step_writes : (c : Scope V) (x : CSimple) (s t : State V) → step o c x s ≡ gives t → Write c x s.machine t.machine
  step_writes c (Constant ty i side) s t h =
      let a = then_gives (right_value o c s side) _ t h in
      let b = then_gives (typed ty a.0) _ t a.2 in
      untouched (ap (λ u. u.machine) (sym (value_given _ _ b.2)))
  step_writes c (Join ty i) s t h = untouched (ap (λ u. u.machine) (sym (value_given _ _ h)))
  step_writes c (Head ty i first) s t h =
      let a = then_gives (atom_value o c s first) _ t h in
      let b = then_gives (typed ty a.0) _ t a.2 in
      untouched (ap (λ u. u.machine) (sym (value_given _ _ b.2)))
  step_writes c (Assign i value) s t h =
      let a = then_gives (atom_value o c s value) _ t h in
      let b = then_gives (local_type (s.locals i)) _ t a.2 in
      let d = then_gives (typed b.0 a.0) _ t b.2 in
      untouched (ap (λ u. u.machine) (sym (value_given _ _ d.2)))
  step_writes c (SetCell cell value) s t h =
      let a = then_gives (atom_value o c s value) _ t h in
      let b = only_if_gives (has c cell.level) _ t a.2 in
      let d = then_gives (write_cell c.tree cell a.0 s.machine) _ t b.1 in
      let e = written_cell c.tree cell a.0 s.machine d.0 d.1 in
      let sets : sets_place c.tree cell.level e.0 (SetCell cell value) ≡ true =
      (λ i. itself cell.level i && is_place e.0 (e.2 i)) ∙ same_number e.0 in
      wrote cell.level e.0 e.1 b.0 sets e.4 (ap (λ u. u.machine) (sym (value_given _ _ d.2)) ∙ e.3)
  step_writes c (SetCollapse pair value) s t h =
      let a = then_gives (atom_value o c s value) _ t h in
      let b = only_if_gives c.has_instance _ t a.2 in
      let d = then_gives (write_flag c.tree pair a.0 s.machine) _ t b.1 in
      let e = only_if_gives _ _ d.0 d.1 in
      let f = then_gives (put_at s.machine.instance pair a.0) _ d.0 e.1 in
      let g = then_gives (found (slice_get s.machine.instance pair)) _ f.0 f.1 in
      let k = then_gives (typed (type_of g.0) a.0) _ f.0 g.2 in
      let ty = typed_gives (type_of g.0) a.0 k.0 k.1 in
      wrote Instance pair k.0 b.0 (same_number pair)
      (types_behind s.machine.instance pair g.0 k.0 (found_gives _ _ g.1) (ap (λ u. type_of u) ty.0 ∙ ty.1))
      (ap (λ u. u.machine) (sym (value_given _ _ d.2)) ∙ sym (value_given _ _ f.2)
      ∙ ap (with_cells s.machine Instance) (sym (value_given _ _ k.2)))
  step_writes c (Report id) s t h =
      let a = only_if_gives c.reports _ t h in
      reported id a.0 (ap (λ u. u.machine) (sym (value_given _ _ a.1)))

-- what the turns of a loop keep
module _ {S T : Type 0} (P : S → Type 0) (R : T → Type 0) (before : S → Outcome Stop T) (goes : T → Bool)
    (turn : T → Outcome Stop S) (reach : (s : S) (t : T) → P s → before s ≡ gives t → R t)
    (back : (t : T) (s : S) → R t → turn t ≡ gives s → P s) (e : Stop) where
  turns_keep : (n : ℕ) (s : S) (t : T) → P s → turns e before goes turn n s ≡ gives t → R t
  turns_keep zero s t p h =
      let a = then_gives (before s) _ t h in
      by_test (goes a.0) a.0 (reach s a.0 p a.1) a.2
    where
      by_test : (test : Bool) (u : T) → R u → (if test then ends e else gives u) ≡ gives t → R t
      by_test true u r k = cc (k)
      by_test false u r k = subst R (value_given _ _ k) r
  turns_keep (suc n) s t p h =
      let a = then_gives (before s) _ t h in
      by_test (goes a.0) a.0 (reach s a.0 p a.1) a.2 (λ next q k. turns_keep n next t q k)
    where
      by_test : (test : Bool) (u : T) → R u → (if test then (turn u >>= turns e before goes turn n) else gives u) ≡ gives t
          → ((next : S) → P next → turns e before goes turn n next ≡ gives t → R t) → R t
      by_test true u r k again =
          let b = then_gives (turn u) _ t k in
          again b.0 (back u b.0 r b.1) b.2
      by_test false u r k again = subst R (value_given _ _ k) r

-- each statement of a block, its blocks with it
abbrev pub Each : (CSimple → Type 0) → Block → Type 0
Each Q done = Unit {0}
Each Q (simple x rest) = Q x × Each Q rest
Each Q (choice a first second rest) = Each Q first × Each Q second × Each Q rest
Each Q (loop before a turn rest) = Each Q before × Each Q turn × Each Q rest

pub each_any : (b : Block) → Each (λ x. Unit {0}) b
each_any done = tt
each_any (simple x rest) = (tt, each_any rest)
each_any (choice a first second rest) = (each_any first, each_any second, each_any rest)
each_any (loop before a turn rest) = (each_any before, each_any turn, each_any rest)

neither : (a b : Bool) → (a || b) ≡ false → (a ≡ false) × (b ≡ false)
neither true b h = cc (h)
neither false b h = (refl, h)

each_not : (test : CSimple → Bool) (b : Block) → some_statement test b ≡ false → Each (λ x. test x ≡ false) b
each_not test done h = tt
each_not test (simple x rest) h =
    let a = neither (test x) (some_statement test rest) h in
    (a.0, each_not test rest a.1)
each_not test (choice a first second rest) h =
    let f = neither (some_statement test first) _ h in
    let g = neither (some_statement test second) _ f.1 in
    (each_not test first f.0, each_not test second g.0, each_not test rest g.1)
each_not test (loop before a turn rest) h =
    let f = neither (some_statement test before) _ h in
    let g = neither (some_statement test turn) _ f.1 in
    (each_not test before f.0, each_not test turn g.0, each_not test rest g.1)

module _ {V : Type 0} (o : Operations V) (n : ℕ) (c : Scope V) (P : State V → Type 0) (Q : CSimple → Type 0)
    (keep : (x : CSimple) (s t : State V) → Q x → P s → step o c x s ≡ gives t → P t) where
  -- the turns of a loop, whose parts keep P
  pub loop_keeps : (before turn : Block) (test : CAtom)
      → ((s t : State V) → P s → run_block o n c before s ≡ gives t → P t)
      → ((s t : State V) → P s → run_block o n c turn s ≡ gives t → P t)
      → (s : State V) (last : Tested (State V)) → P s
      → turns (undefined Turns) (λ head. run_block o n c before head >>= tested (λ at. test_value o c at test)) (λ at. at.goes)
      (λ at. run_block o n c turn at.state) n s ≡ gives last
      → P last.state
  loop_keeps before turn test first second s last p h =
      turns_keep P (λ u. P (Tested.state u))
      (λ head. run_block o n c before head >>= tested (λ at. test_value o c at test)) (λ at. at.goes)
      (λ at. run_block o n c turn at.state)
      (λ u v r k. (
      let b = then_gives (run_block o n c before u) _ v k in
      let d = then_gives (test_value o c b.0 test) _ v b.2 in
      subst (λ w. P (Tested.state w)) (value_given _ _ d.2) (first u b.0 r b.1)))
      (λ u v r k. second u.state v r k) (undefined Turns) n s last p h

  pub run_keeps : (b : Block) → Each Q b → (s t : State V) → P s → run_block o n c b s ≡ gives t → P t
  run_keeps done q s t p h = subst P (value_given _ _ h) p
  run_keeps (simple x rest) q s t p h =
      let a = then_gives (step o c x s) _ t h in
      run_keeps rest q.1 a.0 t (keep x s a.0 q.0 p a.1) a.2
  run_keeps (choice test first second rest) q s t p h =
      let a = then_gives (test_value o c s test) _ t h in
      let b = then_gives (if a.0 then run_block o n c first s else run_block o n c second s) _ t a.2 in
      run_keeps rest q.2 b.0 t (by_test a.0 b.0 (run_keeps first q.0 s b.0 p) (run_keeps second q.1 s b.0 p) b.1) b.2
    where
      by_test : (goes : Bool) (u : State V) → (run_block o n c first s ≡ gives u → P u)
          → (run_block o n c second s ≡ gives u → P u)
          → (if goes then run_block o n c first s else run_block o n c second s) ≡ gives u → P u
      by_test true u f g k = f k
      by_test false u f g k = g k
  run_keeps (loop before test turn rest) q s t p h =
      let a = then_gives
      (turns (undefined Turns) (λ head. run_block o n c before head >>= tested (λ at. test_value o c at test)) (λ at. at.goes)
      (λ at. run_block o n c turn at.state) n s) (λ last. run_block o n c rest last.state) t h in
      run_keeps rest q.2 a.0.state t
      (loop_keeps before turn test (λ u v r k. run_keeps before q.0 u v r k) (λ u v r k. run_keeps turn q.1 u v r k) s a.0 p a.1) a.2

module _ {V : Type 0} (o : Operations V) (n : ℕ) (c : Scope V) (P : Machine V → Type 0) (Q : CSimple → Type 0)
    (keep : (x : CSimple) (s t : Machine V) → Q x → P s → Write c x s t → P t) where
  block_keeps : (b : Block) → Each Q b → (s t : State V) → P s.machine → run_block o n c b s ≡ gives t → P t.machine
  block_keeps b q s t p h =
      run_keeps o n c (λ u. P (State.machine u)) Q
      (λ x u v r k e. keep x u.machine v.machine r k (step_writes o c x u v e)) b q s t p h

module _ {V : Type 0} where
  -- a write of cells leaves the mappings, the targets and the errors
  cells_keep : (s : Machine V) (level : Level) (cells : List (Number V)) → SameMappings s (with_cells s level cells)
  cells_keep s Instance cells = record { node = refl; resist_to = refl; react_to = refl }
  cells_keep s Model cells = record { node = refl; resist_to = refl; react_to = refl }

  cells_leave : (s : Machine V) (level : Level) (cells : List (Number V)) → SameTargets s (with_cells s level cells)
  cells_leave s Instance cells = record { vector = refl; matrix = refl }
  cells_leave s Model cells = record { vector = refl; matrix = refl }

  cells_report : (s : Machine V) (level : Level) (cells : List (Number V)) → (with_cells s level cells).errors ≡ s.errors
  cells_report s Instance cells = refl
  cells_report s Model cells = refl

  pub mappings_then : (r s t : Machine V) → SameMappings r s → SameMappings s t → SameMappings r t
  mappings_then r s t a b =
      record { node = b.node ∙ a.node; resist_to = b.resist_to ∙ a.resist_to; react_to = b.react_to ∙ a.react_to }

  targets_then : (r s t : Machine V) → SameTargets r s → SameTargets s t → SameTargets r t
  targets_then r s t a b = record { vector = b.vector ∙ a.vector; matrix = b.matrix ∙ a.matrix }

  pub write_maps : (c : Scope V) (x : CSimple) (s t : Machine V) → Write c x s t → SameMappings s t
  write_maps c x s t (untouched e) = subst (SameMappings s) (sym e) (record { node = refl; resist_to = refl; react_to = refl })
  write_maps c x s t (wrote level i v h k q' e) = subst (SameMappings s) (sym e) (cells_keep s level _)
  write_maps c x s t (reported id h e) = subst (SameMappings s) (sym e) (record { node = refl; resist_to = refl; react_to = refl })

  write_leaves : (c : Scope V) (x : CSimple) (s t : Machine V) → Write c x s t → SameTargets s t
  write_leaves c x s t (untouched e) = subst (SameTargets s) (sym e) (record { vector = refl; matrix = refl })
  write_leaves c x s t (wrote level i v h k q' e) = subst (SameTargets s) (sym e) (cells_leave s level _)
  write_leaves c x s t (reported id h e) = subst (SameTargets s) (sym e) (record { vector = refl; matrix = refl })

  pub types_then : (r s t : Machine V) → SameTypes r s → SameTypes s t → SameTypes r t
  types_then r s t a b = record { model = b.model ∙ a.model; instance = b.instance ∙ a.instance }

  pub same_types : (s : Machine V) → SameTypes s s
  same_types s = record { model = refl; instance = refl }

  pub write_types : (c : Scope V) (x : CSimple) (s t : Machine V) → Write c x s t → SameTypes s t
  write_types c x s t (untouched e) = subst (SameTypes s) (sym e) (same_types s)
  write_types c x s t (wrote level i v h k q' e) = subst (SameTypes s) (sym e) (types_set s level i v q')
  write_types c x s t (reported id h e) = subst (SameTypes s) (sym e) (record { model = refl; instance = refl })

  pub cell_types : (m : CModule) (cell : CCell) (v : Number V) (s t : Machine V) → write_cell m cell v s ≡ gives t → SameTypes s t
  cell_types m cell v s t h =
      let a = written_cell m cell v s t h in
      subst (SameTypes s) (sym a.3) (types_set s cell.level a.0 a.1 a.4)

  pub cell_maps : (m : CModule) (cell : CCell) (v : Number V) (s t : Machine V) → write_cell m cell v s ≡ gives t → SameMappings s t
  cell_maps m cell v s t h =
      let a = written_cell m cell v s t h in
      subst (SameMappings s) (sym a.3) (cells_keep s cell.level _)

  cell_leaves : (m : CModule) (cell : CCell) (v : Number V) (s t : Machine V) → write_cell m cell v s ≡ gives t → SameTargets s t
  cell_leaves m cell v s t h =
      let a = written_cell m cell v s t h in
      subst (SameTargets s) (sym a.3) (cells_leave s cell.level _)

  cell_reports : (m : CModule) (cell : CCell) (v : Number V) (s t : Machine V) → write_cell m cell v s ≡ gives t → t.errors ≡ s.errors
  cell_reports m cell v s t h =
      let a = written_cell m cell v s t h in
      ap (λ u. u.errors) a.3 ∙ cells_report s cell.level _

  -- a setting writes a flag and then a cell
  module _ (m : CModule) (P : Machine V → Type 0)
      (keep : (cell : CCell) (v : Number V) (s t : Machine V) → P s → write_cell m cell v s ≡ gives t → P t) where
    flag_keeps : (flag : Option CCell) (s t : Machine V) → P s → raise_flag m flag s ≡ gives t → P t
    flag_keeps None s t p h = subst P (value_given _ _ h) p
    flag_keeps (Some cell) s t p h = keep cell (Int (pos 1)) s t p h

    setting_keeps : (row : Option AccessRow) (v : Number V) (s t : Machine V) → P s → set_by m row v s ≡ gives t → P t
    setting_keeps None v s t p h = cc (h)
    setting_keeps (Some row) v s t p h =
        let a = then_gives (raise_flag m row.flag s) _ t h in
        keep row.cell v a.0 t (flag_keeps row.flag s a.0 p a.1) a.2

module _ {V : Type 0} (o : Operations V) (n : ℕ) (m : CModule) where
  body_keeps : (c : Scope V) (P : Machine V → Type 0) (Q : CSimple → Type 0)
      → ((x : CSimple) (s t : Machine V) → Q x → P s → Write c x s t → P t)
      → (body : List CStatement) → Each Q (block_of body) → (s t : Machine V) → P s → run_body o n m c body s ≡ gives t → P t
  body_keeps c P Q keep body each s t p h =
      let a = then_gives (run_block o n c (block_of body) (record { locals = no_locals; machine = s })) _ t h in
      subst P (value_given _ _ a.2) (block_keeps o n c P Q keep (block_of body) each _ a.0 p a.1)

  body_maps : (c : Scope V) (body : List CStatement) (s t : Machine V) → run_body o n m c body s ≡ gives t → SameMappings s t
  body_maps c body s t h =
      body_keeps c (SameMappings s) (λ x. Unit {0})
      (λ x u v q p w. mappings_then s u v p (write_maps c x u v w)) body (each_any (block_of body)) s t
      (record { node = refl; resist_to = refl; react_to = refl }) h

  body_types : (c : Scope V) (body : List CStatement) (s t : Machine V) → run_body o n m c body s ≡ gives t → SameTypes s t
  body_types c body s t h =
      body_keeps c (SameTypes s) (λ x. Unit {0})
      (λ x u v q p w. types_then s u v p (write_types c x u v w)) body (each_any (block_of body)) s t (same_types s) h

  body_leaves : (c : Scope V) (body : List CStatement) (s t : Machine V) → run_body o n m c body s ≡ gives t → SameTargets s t
  body_leaves c body s t h =
      body_keeps c (SameTargets s) (λ x. Unit {0})
      (λ x u v q p w. targets_then s u v p (write_leaves c x u v w)) body (each_any (block_of body)) s t
      (record { vector = refl; matrix = refl }) h

  temperature_maps : (x : V) (s t : Machine V) → with_temperature m x s ≡ gives t → SameMappings s t
  temperature_maps x s t h = cell_maps m (record { level = Instance; field = Temperature }) (Real x) s t h

  temperature_leaves : (x : V) (s t : Machine V) → with_temperature m x s ≡ gives t → SameTargets s t
  temperature_leaves x s t h = cell_leaves m (record { level = Instance; field = Temperature }) (Real x) s t h

  -- behind the temperature
  setup_maps : (x : V) (s t : Machine V)
      → (with_temperature m x s >>= run_body o n m (instance_scope o n m) m.setup_instance) ≡ gives t → SameMappings s t
  setup_maps x s t h =
      let a = then_gives (with_temperature m x s) _ t h in
      mappings_then s a.0 t (temperature_maps x s a.0 a.1) (body_maps (instance_scope o n m) m.setup_instance a.0 t a.2)

  setup_types : (x : V) (s t : Machine V)
      → (with_temperature m x s >>= run_body o n m (instance_scope o n m) m.setup_instance) ≡ gives t → SameTypes s t
  setup_types x s t h =
      let a = then_gives (with_temperature m x s) _ t h in
      types_then s a.0 t (cell_types m (record { level = Instance; field = Temperature }) (Real x) s a.0 a.1)
      (body_types (instance_scope o n m) m.setup_instance a.0 t a.2)

  setup_leaves : (x : V) (s t : Machine V)
      → (with_temperature m x s >>= run_body o n m (instance_scope o n m) m.setup_instance) ≡ gives t → SameTargets s t
  setup_leaves x s t h =
      let a = then_gives (with_temperature m x s) _ t h in
      targets_then s a.0 t (temperature_leaves x s a.0 a.1) (body_leaves (instance_scope o n m) m.setup_instance a.0 t a.2)

  -- where nothing is reported
  silent : (c : Scope V) → c.reports ≡ false → (r s t : Machine V) (x : CSimple) → s.errors ≡ r.errors → Write c x s t
      → t.errors ≡ r.errors
  silent c q r s t x p (untouched e) = ap (λ u. u.errors) e ∙ p
  silent c q r s t x p (wrote level i v h k q' e) = ap (λ u. u.errors) e ∙ cells_report s level _ ∙ p
  silent c q r s t x p (reported id h e) = cc (sym q ∙ h)

  -- where the instance isn't there
  without_instance : (c : Scope V) → c.has_instance ≡ false → (r s t : Machine V) (x : CSimple) → s.instance ≡ r.instance
      → Write c x s t → t.instance ≡ r.instance
  without_instance c q r s t x p (untouched e) = ap (λ u. u.instance) e ∙ p
  without_instance c q r s t x p (wrote Instance i v h k q' e) = cc (sym q ∙ h)
  without_instance c q r s t x p (wrote Model i v h k q' e) = ap (λ u. u.instance) e ∙ p
  without_instance c q r s t x p (reported id h e) = ap (λ u. u.instance) e ∙ p

-- an element behind a write of cells
element_kept : {V : Type 0} (r s : Machine V) (written level : Level) (i j : ℕ) (v : Number V)
    → (same_level written level && (j == i)) ≡ false
    → slice_get (cells_of s level) i ≡ slice_get (cells_of r level) i
    → slice_get (cells_of (with_cells s written (set (cells_of s written) j v)) level) i ≡ slice_get (cells_of r level) i
element_kept r s Instance Instance i j v h p = get_set_other s.instance j i v h ∙ p
element_kept r s Model Model i j v h p = get_set_other s.model j i v h ∙ p
element_kept r s Instance Model i j v h p = p
element_kept r s Model Instance i j v h p = p

-- two tests that a place passes in the same way
same_test : (a b : Bool) → (a && b) ≡ true → (a ≡ true) × (b ≡ true)
same_test true b h = (refl, h)
same_test false b h = cc (h)

equal_level : (a b : Level) → same_level a b ≡ true → a ≡ b
equal_level Instance Instance h = refl
equal_level Model Model h = refl
equal_level Instance Model h = cc (h)
equal_level Model Instance h = cc (h)

equal_place : (i j : ℕ) (p : Option ℕ) → is_place i p ≡ true → is_place j p ≡ true → i ≡ j
equal_place i j None h k = cc (h)
equal_place i j (Some x) h k = grind (arith, nat_tests)

equal_number : (i j x : ℕ) → (x == i) ≡ true → (x == j) ≡ true → i ≡ j
equal_number i j x h k = grind (arith, nat_tests)

no_other : (m : CModule) (written level : Level) (i j : ℕ) (x : CSimple) → sets_place m written j x ≡ true
    → sets_place m level i x ≡ false → (same_level written level && (j == i)) ≡ false
no_other m written level i j (SetCell cell value) h k = by_level (same_level written level) (j == i) refl refl
  where
    by_level : (a b : Bool) → same_level written level ≡ a → (j == i) ≡ b → (a && b) ≡ false
    by_level true true p q =
        let same : j ≡ i = grind (arith, nat_tests) in
        let level_same = equal_level written level p in
        cc (sym h ∙ (λ z. same_level cell.level (level_same z) && is_place (same z) (place_of m cell)) ∙ k)
    by_level true false p q = refl
    by_level false true p q = refl
    by_level false false p q = refl
no_other m written level i j (SetCollapse pair value) h k = by_level (same_level written level) (j == i) refl refl
  where
    by_level : (a b : Bool) → same_level written level ≡ a → (j == i) ≡ b → (a && b) ≡ false
    by_level true true p q =
        let same : j ≡ i = grind (arith, nat_tests) in
        let level_same = equal_level written level p in
        cc (sym h ∙ (λ z. same_level Instance (level_same z) && (pair == same z)) ∙ k)
    by_level true false p q = refl
    by_level false true p q = refl
    by_level false false p q = refl
no_other m written level i j (Constant ty l side) h k = cc (h)
no_other m written level i j (Join ty l) h k = cc (h)
no_other m written level i j (Head ty l first) h k = cc (h)
no_other m written level i j (Assign l value) h k = cc (h)
no_other m written level i j (Report id) h k = cc (h)

untouched_cell : {V : Type 0} (c : Scope V) (level : Level) (i : ℕ) (r s t : Machine V) (x : CSimple)
    → sets_place c.tree level i x ≡ false → slice_get (cells_of s level) i ≡ slice_get (cells_of r level) i → Write c x s t
    → slice_get (cells_of t level) i ≡ slice_get (cells_of r level) i
untouched_cell c level i r s t x q p (untouched e) = ap (λ u. slice_get (cells_of u level) i) e ∙ p
untouched_cell c level i r s t x q p (wrote written j v h k q' e) =
    ap (λ u. slice_get (cells_of u level) i) e ∙ element_kept r s written level i j v (no_other c.tree written level i j x k q) p
untouched_cell c Instance i r s t x q p (reported id h e) = ap (λ u. slice_get u.instance i) e ∙ p
untouched_cell c Model i r s t x q p (reported id h e) = ap (λ u. slice_get u.model i) e ∙ p

-- a write of another cell
cell_untouched : {V : Type 0} (m : CModule) (cell : CCell) (v : Number V) (r s t : Machine V) (level : Level) (i : ℕ)
    → is_cell_at m level i cell ≡ false → slice_get (cells_of s level) i ≡ slice_get (cells_of r level) i
    → write_cell m cell v s ≡ gives t → slice_get (cells_of t level) i ≡ slice_get (cells_of r level) i
cell_untouched m cell v r s t level i h p e =
    let a = written_cell m cell v s t e in
    ap (λ u. slice_get (cells_of u level) i) a.3
    ∙ element_kept r s cell.level level i a.0 a.1 ((λ z. same_level cell.level level && is_place i (sym a.2 z)) ∙ h) p

flag_untouched : {V : Type 0} (m : CModule) (flag : Option CCell) (s t : Machine V) (level : Level) (i : ℕ)
    → flag_at m level i flag ≡ false → raise_flag m flag s ≡ gives t → slice_get (cells_of t level) i ≡ slice_get (cells_of s level) i
flag_untouched m None s t level i h e = ap (λ u. slice_get (cells_of u level) i) (sym (value_given _ _ e))
flag_untouched m (Some cell) s t level i h e = cell_untouched m cell (Int (pos 1)) s s t level i h refl e

setting_untouched : {V : Type 0} (m : CModule) (row : Option AccessRow) (v : Number V) (s t : Machine V) (level : Level) (i : ℕ)
    → row_sets m level i row ≡ false → set_by m row v s ≡ gives t → slice_get (cells_of t level) i ≡ slice_get (cells_of s level) i
setting_untouched m None v s t level i h e = cc (e)
setting_untouched m (Some row) v s t level i h e =
    let q = neither (flag_at m level i row.flag) (is_cell_at m level i row.cell) h in
    let a = then_gives (raise_flag m row.flag s) _ t e in
    cell_untouched m row.cell v s a.0 t level i q.1 (flag_untouched m row.flag s a.0 level i q.0 a.1) a.2

module _ {V : Type 0} (o : Operations V) where
  -- a statement of a load, taken apart
  pub load_parts : (m : CModule) (given : LoadArguments V) (load : CLoad) (s t : Machine V) → run_load o m given load s ≡ gives t
      → (place : Place) × (x : V) × (old : V) × (place_of_target given s load.target ≡ gives place)
      × (load_product o m given s load ≡ gives x) × (value_at s place ≡ gives old)
      × (t ≡ with_value_at s place (signed o load.sign old x))
  load_parts m given load s t h =
      let a = then_gives (place_of_target given s load.target) _ t h in
      let b = then_gives (load_product o m given s load) _ t a.2 in
      let d = then_gives (value_at s a.0) _ t b.2 in
      (a.0, b.0, d.0, a.1, b.1, d.1, sym (value_given _ _ d.2))

  pub place_maps : (s : Machine V) (place : Place) (x : V) → SameMappings s (with_value_at s place x)
  place_maps s (of_vector i) x = record { node = refl; resist_to = refl; react_to = refl }
  place_maps s (of_matrix i) x = record { node = refl; resist_to = refl; react_to = refl }

  pub place_cells : (s : Machine V) (place : Place) (x : V) → SameCells s (with_value_at s place x)
  place_cells s (of_vector i) x = record { model = refl; instance = refl; errors = refl }
  place_cells s (of_matrix i) x = record { model = refl; instance = refl; errors = refl }

  pub place_lengths : (s : Machine V) (place : Place) (x : V) → SameLengths s (with_value_at s place x)
  place_lengths s (of_vector i) x = record { vector = length-set s.vector i x; matrix = refl }
  place_lengths s (of_matrix i) x = record { vector = refl; matrix = length-set s.matrix i x }

  lengths_then : (r s t : Machine V) → SameLengths r s → SameLengths s t → SameLengths r t
  lengths_then r s t a b = record { vector = b.vector ∙ a.vector; matrix = b.matrix ∙ a.matrix }

  cells_then : (r s t : Machine V) → SameCells r s → SameCells s t → SameCells r t
  cells_then r s t a b =
      record { model = b.model ∙ a.model; instance = b.instance ∙ a.instance; errors = b.errors ∙ a.errors }

  loads_map : (m : CModule) (given : LoadArguments V) (loads : List CLoad) (s t : Machine V) → run_loads o m given loads s ≡ gives t
      → SameMappings s t
  loads_map m given [] s t h = subst (SameMappings s) (value_given _ _ h) (record { node = refl; resist_to = refl; react_to = refl })
  loads_map m given (load ∷ rest) s t h =
      let a = then_gives (run_load o m given load s) _ t h in
      let b = load_parts m given load s a.0 a.1 in
      mappings_then s a.0 t (subst (SameMappings s) (sym b.6) (place_maps s b.0 _)) (loads_map m given rest a.0 t a.2)

  loads_cells : (m : CModule) (given : LoadArguments V) (loads : List CLoad) (s t : Machine V) → run_loads o m given loads s ≡ gives t
      → SameCells s t
  loads_cells m given [] s t h = subst (SameCells s) (value_given _ _ h) (record { model = refl; instance = refl; errors = refl })
  loads_cells m given (load ∷ rest) s t h =
      let a = then_gives (run_load o m given load s) _ t h in
      let b = load_parts m given load s a.0 a.1 in
      cells_then s a.0 t (subst (SameCells s) (sym b.6) (place_cells s b.0 _)) (loads_cells m given rest a.0 t a.2)

  loads_lengths : (m : CModule) (given : LoadArguments V) (loads : List CLoad) (s t : Machine V)
      → run_loads o m given loads s ≡ gives t → SameLengths s t
  loads_lengths m given [] s t h = subst (SameLengths s) (value_given _ _ h) (record { vector = refl; matrix = refl })
  loads_lengths m given (load ∷ rest) s t h =
      let a = then_gives (run_load o m given load s) _ t h in
      let b = load_parts m given load s a.0 a.1 in
      lengths_then s a.0 t (subst (SameLengths s) (sym b.6) (place_lengths s b.0 _)) (loads_lengths m given rest a.0 t a.2)

  of_targets : (s t : Machine V) → SameTargets s t → SameLengths s t
  of_targets s t h = record { vector = ap (λ v. length v) h.vector; matrix = ap (λ v. length v) h.matrix }

  pub of_cells : (s t : Machine V) → SameCells s t → SameTypes s t
  of_cells s t h =
      record { model = ap (map (λ u. type_of u)) h.model; instance = ap (map (λ u. type_of u)) h.instance }

  module _ (n : ℕ) (m : CModule) where
    calls_map : (call : HostCall V) (s t : Machine V) → run_call o n m call s ≡ gives t → SameMappings s t
    calls_map (set_parameter instance id v) s t h =
        setting_keeps m (SameMappings s) (λ cell w u r p k. mappings_then s u r p (cell_maps m cell w u r k))
        (row_for instance id m.access) v s t (record { node = refl; resist_to = refl; react_to = refl }) h
    calls_map setup_model s t h = body_maps o n m (model_scope o n m) m.setup_model s t h
    calls_map (setup_instance x) s t h = setup_maps o n m x s t h
    calls_map (evaluate solution) s t h = body_maps o n m (eval_scope o n m solution) m.eval s t h
    calls_map load_residual_resist s t h = loads_map m (record { has_dst = true; alpha = None; solution = None }) m.loads.residual_resist s t h
    calls_map load_residual_react s t h = loads_map m (record { has_dst = true; alpha = None; solution = None }) m.loads.residual_react s t h
    calls_map load_jacobian_resist s t h = loads_map m (record { has_dst = false; alpha = None; solution = None }) m.loads.jacobian_resist s t h
    calls_map (load_jacobian_react alpha) s t h = loads_map m (record { has_dst = false; alpha = Some alpha; solution = None }) m.loads.jacobian_react s t h
    calls_map (load_jacobian_tran alpha) s t h = loads_map m (record { has_dst = false; alpha = Some alpha; solution = None }) m.loads.jacobian_tran s t h
    calls_map (load_rhs_dc x) s t h = loads_map m (record { has_dst = true; alpha = None; solution = Some x }) m.loads.spice_rhs_dc s t h
    calls_map (load_rhs_tran x alpha) s t h = loads_map m (record { has_dst = true; alpha = Some alpha; solution = Some x }) m.loads.spice_rhs_tran s t h

    calls_leave : (call : HostCall V) (s t : Machine V) → is_load call ≡ false → run_call o n m call s ≡ gives t → SameTargets s t
    calls_leave (set_parameter instance id v) s t q h =
        setting_keeps m (SameTargets s) (λ cell w u r p k. targets_then s u r p (cell_leaves m cell w u r k))
        (row_for instance id m.access) v s t (record { vector = refl; matrix = refl }) h
    calls_leave setup_model s t q h = body_leaves o n m (model_scope o n m) m.setup_model s t h
    calls_leave (setup_instance x) s t q h = setup_leaves o n m x s t h
    calls_leave (evaluate solution) s t q h = body_leaves o n m (eval_scope o n m solution) m.eval s t h
    calls_leave load_residual_resist s t q h = cc (q)
    calls_leave load_residual_react s t q h = cc (q)
    calls_leave load_jacobian_resist s t q h = cc (q)
    calls_leave (load_jacobian_react alpha) s t q h = cc (q)
    calls_leave (load_jacobian_tran alpha) s t q h = cc (q)
    calls_leave (load_rhs_dc x) s t q h = cc (q)
    calls_leave (load_rhs_tran x alpha) s t q h = cc (q)

    calls_load : (call : HostCall V) (s t : Machine V) → is_load call ≡ true → run_call o n m call s ≡ gives t → SameCells s t
    calls_load (set_parameter instance id v) s t q h = cc (q)
    calls_load setup_model s t q h = cc (q)
    calls_load (setup_instance x) s t q h = cc (q)
    calls_load (evaluate solution) s t q h = cc (q)
    calls_load load_residual_resist s t q h = loads_cells m (record { has_dst = true; alpha = None; solution = None }) m.loads.residual_resist s t h
    calls_load load_residual_react s t q h = loads_cells m (record { has_dst = true; alpha = None; solution = None }) m.loads.residual_react s t h
    calls_load load_jacobian_resist s t q h = loads_cells m (record { has_dst = false; alpha = None; solution = None }) m.loads.jacobian_resist s t h
    calls_load (load_jacobian_react alpha) s t q h = loads_cells m (record { has_dst = false; alpha = Some alpha; solution = None }) m.loads.jacobian_react s t h
    calls_load (load_jacobian_tran alpha) s t q h = loads_cells m (record { has_dst = false; alpha = Some alpha; solution = None }) m.loads.jacobian_tran s t h
    calls_load (load_rhs_dc x) s t q h = loads_cells m (record { has_dst = true; alpha = None; solution = Some x }) m.loads.spice_rhs_dc s t h
    calls_load (load_rhs_tran x alpha) s t q h = loads_cells m (record { has_dst = true; alpha = Some alpha; solution = Some x }) m.loads.spice_rhs_tran s t h

    calls_type : (call : HostCall V) (s t : Machine V) → run_call o n m call s ≡ gives t → SameTypes s t
    calls_type (set_parameter instance id v) s t h =
        setting_keeps m (SameTypes s) (λ cell w u r p k. types_then s u r p (cell_types m cell w u r k))
        (row_for instance id m.access) v s t (same_types s) h
    calls_type setup_model s t h = body_types o n m (model_scope o n m) m.setup_model s t h
    calls_type (setup_instance x) s t h = setup_types o n m x s t h
    calls_type (evaluate solution) s t h = body_types o n m (eval_scope o n m solution) m.eval s t h
    calls_type load_residual_resist s t h = of_cells s t (calls_load load_residual_resist s t refl h)
    calls_type load_residual_react s t h = of_cells s t (calls_load load_residual_react s t refl h)
    calls_type load_jacobian_resist s t h = of_cells s t (calls_load load_jacobian_resist s t refl h)
    calls_type (load_jacobian_react alpha) s t h = of_cells s t (calls_load (load_jacobian_react alpha) s t refl h)
    calls_type (load_jacobian_tran alpha) s t h = of_cells s t (calls_load (load_jacobian_tran alpha) s t refl h)
    calls_type (load_rhs_dc x) s t h = of_cells s t (calls_load (load_rhs_dc x) s t refl h)
    calls_type (load_rhs_tran x alpha) s t h = of_cells s t (calls_load (load_rhs_tran x alpha) s t refl h)

    calls_length : (call : HostCall V) (s t : Machine V) → run_call o n m call s ≡ gives t → SameLengths s t
    calls_length (set_parameter instance id v) s t h = of_targets s t (calls_leave (set_parameter instance id v) s t refl h)
    calls_length setup_model s t h = of_targets s t (calls_leave setup_model s t refl h)
    calls_length (setup_instance x) s t h = of_targets s t (calls_leave (setup_instance x) s t refl h)
    calls_length (evaluate solution) s t h = of_targets s t (calls_leave (evaluate solution) s t refl h)
    calls_length load_residual_resist s t h = loads_lengths m (record { has_dst = true; alpha = None; solution = None }) m.loads.residual_resist s t h
    calls_length load_residual_react s t h = loads_lengths m (record { has_dst = true; alpha = None; solution = None }) m.loads.residual_react s t h
    calls_length load_jacobian_resist s t h = loads_lengths m (record { has_dst = false; alpha = None; solution = None }) m.loads.jacobian_resist s t h
    calls_length (load_jacobian_react alpha) s t h = loads_lengths m (record { has_dst = false; alpha = Some alpha; solution = None }) m.loads.jacobian_react s t h
    calls_length (load_jacobian_tran alpha) s t h = loads_lengths m (record { has_dst = false; alpha = Some alpha; solution = None }) m.loads.jacobian_tran s t h
    calls_length (load_rhs_dc x) s t h = loads_lengths m (record { has_dst = true; alpha = None; solution = Some x }) m.loads.spice_rhs_dc s t h
    calls_length (load_rhs_tran x alpha) s t h = loads_lengths m (record { has_dst = true; alpha = Some alpha; solution = Some x }) m.loads.spice_rhs_tran s t h

    settings_silent : (instance : Bool) (id : ℕ) (v : Number V) (s t : Machine V)
        → run_call o n m (set_parameter instance id v) s ≡ gives t → t.errors ≡ s.errors
    settings_silent instance id v s t h =
        setting_keeps m (λ u. u.errors ≡ s.errors) (λ cell w u r p k. cell_reports m cell w u r k ∙ p)
        (row_for instance id m.access) v s t refl h

    evaluations_silent : (solution : List V) (s t : Machine V) → run_call o n m (evaluate solution) s ≡ gives t → t.errors ≡ s.errors
    evaluations_silent solution s t h =
        body_keeps o n m (eval_scope o n m solution) (λ u. u.errors ≡ s.errors) (λ x. Unit {0})
        (λ x u v q p w. silent o n m (eval_scope o n m solution) refl s u v x p w) m.eval (each_any (block_of m.eval)) s t refl h

    setup_apart : (s t : Machine V) → run_call o n m setup_model s ≡ gives t → t.instance ≡ s.instance
    setup_apart s t h =
        body_keeps o n m (model_scope o n m) (λ u. u.instance ≡ s.instance) (λ x. Unit {0})
        (λ x u v q p w. without_instance o n m (model_scope o n m) refl s u v x p w) m.setup_model (each_any (block_of m.setup_model))
        s t refl h

    evaluation_keeps : (solution : List V) (s t : Machine V) (level : Level) (i : ℕ)
        → some_statement (sets_place m level i) (block_of m.eval) ≡ false
        → run_call o n m (evaluate solution) s ≡ gives t
        → slice_get (cells_of t level) i ≡ slice_get (cells_of s level) i
    evaluation_keeps solution s t level i none h =
        body_keeps o n m (eval_scope o n m solution) (λ u. slice_get (cells_of u level) i ≡ slice_get (cells_of s level) i)
        (λ x. sets_place m level i x ≡ false)
        (λ x u v q p w. untouched_cell (eval_scope o n m solution) level i s u v x q p w) m.eval
        (each_not (sets_place m level i) (block_of m.eval) none) s t refl h

    cells_kept : (c : Scope V) → c.tree ≡ m → (body : List CStatement) (s t : Machine V) (level : Level) (i : ℕ)
        → some_statement (sets_place m level i) (block_of body) ≡ false → run_body o n m c body s ≡ gives t
        → slice_get (cells_of t level) i ≡ slice_get (cells_of s level) i
    cells_kept c is body s t level i none h =
        body_keeps o n m c (λ u. slice_get (cells_of u level) i ≡ slice_get (cells_of s level) i)
        (λ x. sets_place m level i x ≡ false)
        (λ x u v q p w. untouched_cell c level i s u v x ((λ z. sets_place (is z) level i x) ∙ q) p w) body
        (each_not (sets_place m level i) (block_of body) none) s t refl h

    setting_kept : (instance : Bool) (id : ℕ) (v : Number V) (s t : Machine V) (level : Level) (i : ℕ)
        → row_sets m level i (row_for instance id m.access) ≡ false → run_call o n m (set_parameter instance id v) s ≡ gives t
        → slice_get (cells_of t level) i ≡ slice_get (cells_of s level) i
    setting_kept instance id v s t level i h e = setting_untouched m (row_for instance id m.access) v s t level i h e

    model_kept : (s t : Machine V) (level : Level) (i : ℕ) → some_statement (sets_place m level i) (block_of m.setup_model) ≡ false
        → run_call o n m setup_model s ≡ gives t → slice_get (cells_of t level) i ≡ slice_get (cells_of s level) i
    model_kept s t level i none h = cells_kept (model_scope o n m) refl m.setup_model s t level i none h

    instance_kept : (x : V) (s t : Machine V) (level : Level) (i : ℕ) → is_cell_at m level i temperature_cell ≡ false
        → some_statement (sets_place m level i) (block_of m.setup_instance) ≡ false → run_call o n m (setup_instance x) s ≡ gives t
        → slice_get (cells_of t level) i ≡ slice_get (cells_of s level) i
    instance_kept x s t level i other none h =
        let a = then_gives (with_temperature m x s) _ t h in
        cells_kept (instance_scope o n m) refl m.setup_instance a.0 t level i none a.2
        ∙ cell_untouched m temperature_cell (Real x) s s a.0 level i other refl a.1

pub keeping : (V : Type 0) (o : Operations V) (valid : V → Type 0) → CallsKeep V o valid
keeping V o valid = record {
  mappings = calls_map o;
  targets = calls_leave o;
  loads = calls_load o;
  types = calls_type o;
  lengths = calls_length o;
  settings_report_nothing = settings_silent o;
  evaluations_report_nothing = evaluations_silent o;
  setup_of_model = setup_apart o;
  setting = setting_kept o;
  model_cells = model_kept o;
  instance_cells = instance_kept o;
  evaluation = evaluation_keeps o;
}

module _ {V : Type 0} (o : Operations V) (m : CModule) (given : LoadArguments V) where
  -- targets and products don't depend on the vector and the matrix
  target_same : (s : Machine V) (place : Place) (x : V) (t : LoadTarget)
      → place_of_target given (with_value_at s place x) t ≡ place_of_target given s t
  target_same s (of_vector i) x (target.Node j) = refl
  target_same s (of_vector i) x (target.EntryResist e) = refl
  target_same s (of_vector i) x (target.EntryReact e) = refl
  target_same s (of_matrix i) x (target.Node j) = refl
  target_same s (of_matrix i) x (target.EntryResist e) = refl
  target_same s (of_matrix i) x (target.EntryReact e) = refl

  factor_same : (s : Machine V) (place : Place) (x : V) (f : LoadFactor)
      → factor_value o m given (with_value_at s place x) f ≡ factor_value o m given s f
  factor_same s (of_vector i) x factor.Alpha = refl
  factor_same s (of_vector i) x (factor.Cell field) = refl
  factor_same s (of_vector i) x (factor.Solution j) = refl
  factor_same s (of_matrix i) x factor.Alpha = refl
  factor_same s (of_matrix i) x (factor.Cell field) = refl
  factor_same s (of_matrix i) x (factor.Solution j) = refl

  more_same : (s : Machine V) (place : Place) (x y : V) (fs : List LoadFactor)
      → product_with o m given (with_value_at s place x) y fs ≡ product_with o m given s y fs
  more_same s place x y [] = refl
  more_same s place x y (f ∷ rest) =
      (λ i. factor_same s place x f i >>= λ z. more_same s place x (o.product y z) rest i)

  product_same : (s : Machine V) (place : Place) (x : V) (load : CLoad)
      → load_product o m given (with_value_at s place x) load ≡ load_product o m given s load
  product_same s place x load = λ i. factor_same s place x load.first i >>= λ y. more_same s place x y load.more i

  loaded_same : (s : Machine V) (at : Place) (x : V) (place : Place) (loads : List CLoad) (old : V)
      → loaded_at o m given (with_value_at s at x) place loads old ≡ loaded_at o m given s place loads old
  loaded_same s at x place [] old = refl
  loaded_same s at x place (load ∷ rest) old =
      λ i. target_same s at x load.target i >>= λ p. product_same s at x load i
      >>= λ y. loaded_same s at x place rest (if same_place p place then signed o load.sign old y else old) i

  at_same : (s : Machine V) (p q : Place) (x old : V) → value_at s p ≡ gives old → same_place p q ≡ true
      → value_at (with_value_at s p x) q ≡ gives x
  at_same s (of_vector i) (of_vector j) x old h k =
      let same : i ≡ j = grind (arith, nat_tests) in
      subst (λ z. found (slice_get (set s.vector i x) z) ≡ gives x) same (ap found (get_set_same s.vector i old x (found_gives _ _ h)))
  at_same s (of_matrix i) (of_matrix j) x old h k =
      let same : i ≡ j = grind (arith, nat_tests) in
      subst (λ z. found (slice_get (set s.matrix i x) z) ≡ gives x) same (ap found (get_set_same s.matrix i old x (found_gives _ _ h)))
  at_same s (of_vector i) (of_matrix j) x old h k = cc (k)
  at_same s (of_matrix i) (of_vector j) x old h k = cc (k)

  at_other : (s : Machine V) (p q : Place) (x : V) → same_place p q ≡ false → value_at (with_value_at s p x) q ≡ value_at s q
  at_other s (of_vector i) (of_vector j) x k = ap found (get_set_other s.vector i j x k)
  at_other s (of_matrix i) (of_matrix j) x k = ap found (get_set_other s.matrix i j x k)
  at_other s (of_vector i) (of_matrix j) x k = refl
  at_other s (of_matrix i) (of_vector j) x k = refl

  one_place : (p q : Place) → same_place p q ≡ true → p ≡ q
  one_place (of_vector i) (of_vector j) k = ap of_vector (let e : i ≡ j = grind (arith, nat_tests) in e)
  one_place (of_matrix i) (of_matrix j) k = ap of_matrix (let e : i ≡ j = grind (arith, nat_tests) in e)
  one_place (of_vector i) (of_matrix j) k = cc (k)
  one_place (of_matrix i) (of_vector j) k = cc (k)

  loads_add : (loads : List CLoad) (s t : Machine V) (place : Place) (old : V) → run_loads o m given loads s ≡ gives t
      → value_at s place ≡ gives old → loaded_at o m given s place loads old ≡ value_at t place
  loads_add [] s t place old h k = sym k ∙ ap (λ u. value_at u place) (value_given _ _ h)
  loads_add (load ∷ rest) s t place old h k =
      let a = then_gives (run_load o m given load s) _ t h in
      let b = load_parts o m given load s a.0 a.1 in
      let there = with_value_at s b.0 (signed o load.sign b.2 b.1) in
      let run : run_loads o m given rest there ≡ gives t = subst (λ u. run_loads o m given rest u ≡ gives t) b.6 a.2 in
      (λ i. b.3 i >>= λ p. b.4 i >>= λ y. loaded_at o m given s place rest (if same_place p place then signed o load.sign old y else old))
      ∙ by_place (same_place b.0 place) b.0 b.1 b.2 refl b.5 (λ new. loads_add rest there t place new run)
    where
      by_place : (test : Bool) (at : Place) (x was : V) → same_place at place ≡ test → value_at s at ≡ gives was
          → ((new : V) → value_at (with_value_at s at (signed o load.sign was x)) place ≡ gives new
          → loaded_at o m given (with_value_at s at (signed o load.sign was x)) place rest new ≡ value_at t place)
          → loaded_at o m given s place rest (if test then signed o load.sign old x else old) ≡ value_at t place
      by_place true at x was e v later =
          let same : was ≡ old = value_given _ _ (sym v ∙ ap (value_at s) (one_place at place e) ∙ k) in
          sym (loaded_same s at (signed o load.sign was x) place rest (signed o load.sign old x))
          ∙ later (signed o load.sign old x)
          (at_same s at place (signed o load.sign was x) was v e ∙ ap (λ z. gives (signed o load.sign z x)) same)
      by_place false at x was e v later =
          sym (loaded_same s at (signed o load.sign was x) place rest old)
          ∙ later old (at_other s at place (signed o load.sign was x) e ∙ k)

  named_kept : (s : Machine V) (at : Place) (x : V) (place : Place) (loads : List CLoad) → NamedNowhere given s place loads
      → NamedNowhere given (with_value_at s at x) place loads
  named_kept s at x place [] h = tt
  named_kept s at x place (load ∷ rest) h =
      ((λ p e. h.0 p (sym (target_same s at x load.target) ∙ e)), named_kept s at x place rest h.1)

  loads_elsewhere : (loads : List CLoad) (s t : Machine V) (place : Place) → run_loads o m given loads s ≡ gives t
      → NamedNowhere given s place loads → value_at t place ≡ value_at s place
  loads_elsewhere [] s t place h nowhere = ap (λ u. value_at u place) (sym (value_given _ _ h))
  loads_elsewhere (load ∷ rest) s t place h nowhere =
      let a = then_gives (run_load o m given load s) _ t h in
      let b = load_parts o m given load s a.0 a.1 in
      let x = signed o load.sign b.2 b.1 in
      let run : run_loads o m given rest (with_value_at s b.0 x) ≡ gives t =
      subst (λ u. run_loads o m given rest u ≡ gives t) b.6 a.2 in
      loads_elsewhere rest (with_value_at s b.0 x) t place run (named_kept s b.0 x place rest nowhere.1)
      ∙ at_other s b.0 place x (nowhere.0 b.0 b.3)

pub adding : (V : Type 0) (o : Operations V) (valid : V → Type 0) → LoadsAdd V o valid
adding V o valid = record {
  loaded = λ n m f given s t place old h k. loads_add o m given (loads_of m.loads f) s t place old h k;
  elsewhere = λ n m f given s t place h nowhere. loads_elsewhere o m given (loads_of m.loads f) s t place h nowhere;
}

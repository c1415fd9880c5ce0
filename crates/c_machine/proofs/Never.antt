-- No run of a module of a file that obeys the rules of form is stuck.
use Rattle.std.specs.Prelude.{◌≡◌, ◌<◌, ℕ, zero, suc, ◌+◌, ◌==◌, ◌&&◌, ◌||◌, not, Bool, true, false, if◌then◌else◌, nat_lt, pos, List, [], ◌∷◌, ◌++◌, length, map, set, replicate, slice_get, Option, Some, None}
use Rattle.std.specs.List.{flat_map, enumerate_from}
use Rattle.std.proofs.Common.{refl, sym, ap, ◌∙◌, subst, arith}
use Rattle.std.proofs.lemmas.Bool.Decides.{nat_tests}
use Rattle.std.proofs.lemmas.Grind.{flat_map-append}
use Rattle.alg_laws.specs.declared.number.Number.{Number}
use Rattle.alg_laws.specs.declared.number.Number.TheVariants.{Real, Int}
use Rattle.alg_laws.specs.declared.number.Ty.{Ty}
use Rattle.alg_laws.specs.declared.number.Ty.TheVariants.{Integer, Real as RealTy}
use Rattle.alg_laws.specs.NumberOps.{type_of}
use Rattle.alg_laws.specs.Operations.{Operations}
use Rattle.alg_laws.specs.Outcome.{gives, ◌>>=◌}
use Rattle.c_tree.specs.declared.body.CCell.{CCell}
use Rattle.c_tree.specs.declared.body.CField.{CField}
use Rattle.c_tree.specs.declared.body.CField.TheVariants.{Param, Given, Resist, React, EntryResist, EntryReact, OpVar, Stored, Temperature}
use Rattle.c_tree.specs.declared.body.Level.{Level}
use Rattle.c_tree.specs.declared.body.Level.TheVariants.{Instance, Model}
use Rattle.c_tree.specs.declared.file.AccessRow.{AccessRow}
use Rattle.c_tree.specs.declared.file.CFile.{CFile}
use Rattle.c_tree.specs.declared.file.CModule.{CModule}
use Rattle.c_tree.specs.FileOf.{load_of, loads_of_raw, modules_of, module_of, field_row, is_integer, access_row, flag_of}
use Rattle.c_tree.specs.Form.{HasForm, ObeysForm}
use Rattle.c_tree.specs.SameType.{same_type}
use Rattle.c_machine.specs.Machine.{at_place, read_cell, found, put_at, Machine, flag_count, place_among, instance_place, place_of, cells_of, with_cells, write_cell}
use Rattle.c_machine.specs.NeverStuck.{types_of, HasCells, AreBelow, TargetFits, LoadFits, SettingFits, CallFits, NeverStuck}
use Rattle.c_tree.specs.Raw.{At, word_at, node_at, RawLoad, RawLoads, RawField, RawFunction, RawAccess, RawModule, RawDescriptor, RawFile}
use Rattle.c_machine.specs.Runs.{HostCall, set_parameter, setup_model, setup_instance, evaluate, load_residual_resist, load_residual_react, load_jacobian_resist, load_jacobian_react, load_jacobian_tran, load_rhs_dc, load_rhs_tran, row_for, raise_flag, set_by, with_temperature, model_scope, instance_scope, eval_scope, run_load_function, run_call, run_calls}
use Rattle.c_tree.specs.Spelling.{EachHas}
use Rattle.c_tree.specs.Text.{field_type, load_functions, loads_of}
use Rattle.c_tree.specs.rules.Bodies.{RawBody, function_body, plain_body, setup_of_model, setup_of_instance, evaluation, bodies_of, in_modules, in_bodies, items_of, Scoped}
use Rattle.c_tree.specs.rules.Breaks.{one_break_a_loop, breaks_in}
use Rattle.c_tree.specs.rules.Reach.{raw_loads, load_reached, only_where, has_dst, has_alpha, has_solution, target_reached, factor_reached, double_or_missing, cells_in_reach, cells_of_body, loads_reached, set_deeper, set_twice, of_fields, is_temperature, cells_set_in, out_of_reach}
use Rattle.c_tree.specs.rules.Fields.{missing, access_flag, factors_of, loaded_field, same_field, type_among, instance_type, cell_type, unlike, cell_missing, body_cells, access_cells, fields_exist, fields_of_module, twice, load_cells, all_loads, node_cells}
use Rattle.c_tree.specs.rules.Locals.{locals_declared, locals_in_body}
use Rattle.c_tree.specs.rules.Numbering.{numbered_in_order}
use Rattle.c_tree.specs.rules.Settings.{set_as_declared, settings_in}
use Rattle.c_tree.specs.rules.Tables.{target_number, factor_number, tables_agree, numbers_of_module, body_numbers, load_numbers, counts_agree, descriptors_agree}
use Rattle.c_tree.specs.rules.Types.{types_agree, calls_fit, item_differs, item_calls}
use Rattle.std.proofs.lemmas.List.{length-map}
use Rattle.c_tree.specs.declared.load.CLoad.{CLoad}
use Rattle.c_tree.specs.declared.load.LoadFactor.{LoadFactor}
use Rattle.c_tree.specs.declared.load.LoadFactor.TheVariants as factor
use Rattle.c_tree.specs.declared.load.LoadFunction.{LoadFunction}
use Rattle.c_tree.specs.declared.load.LoadFunction.TheVariants.{ResidualResist, ResidualReact, JacobianResist, JacobianReact, JacobianTran, SpiceRhsDc, SpiceRhsTran}
use Rattle.c_tree.specs.declared.load.LoadTarget.{LoadTarget}
use Rattle.c_tree.specs.declared.load.LoadTarget.TheVariants as target
use Rattle.c_machine.specs.Execution.{Scope}
use Rattle.c_machine.specs.Loading.{LoadArguments, Place, of_vector, of_matrix, as_real, place_of_target, value_at, with_value_at, factor_value, product_with, load_product, signed, run_load, run_loads}
use Rattle.c_machine.specs.MachineLaws.{SameMappings, SameTypes, SameCells, SameLengths}
use Rattle.c_machine.proofs.Keeping.{one_type, same_types, cell_types, cell_maps, place_maps, place_cells, place_lengths, load_parts, of_cells, keeping}
use Rattle.c_machine.proofs.Operands.{MachineOk, at_its_place}
use Rattle.c_machine.proofs.Reach.{below_none, element_there, is_below, model_reached, instance_reached, eval_reached}
use Rattle.c_tree.proofs.Blameless.{no_parts, flat_none, each_split, each_both, each_weaker, each_get, each_numbered, each_unmapped}
use Rattle.c_machine.proofs.Endings.{value_given}
use Rattle.c_machine.proofs.Formed.{BodyForm, flat_flat, run_body_goes}
use Rattle.c_machine.proofs.Sound.{put_gives}
use Rattle.c_machine.proofs.Unstuck.{Goes, goes_gives, goes_given, goes_then, found_some, only_if_true}

-- what the rules blame in a module: nothing
pub record ModuleForm (k : ℕ) (m : RawModule) : Type 0 where
  pub bodies : EachHas (BodyForm m) (bodies_of m)
  pub access : EachHas (λ row. access_cells m row ≡ []) m.access
  pub load_cells : EachHas (λ load. load_cells m load ≡ []) (all_loads m.loads)
  pub load_numbers : EachHas (λ load. load_numbers m load ≡ []) (all_loads m.loads)
  pub loads : loads_reached k m ≡ []

in_module : (rule : ℕ → RawModule → List ℕ) (raw : RawFile) (k : ℕ) (m : RawModule) → in_modules rule raw ≡ []
    → slice_get raw.modules k ≡ Some m → rule k m ≡ []
in_module rule raw k m h e =
    let each = flat_none (λ p. rule p.0 p.1) (enumerate_from 0 raw.modules) h in
    let here = each_numbered (λ p. rule p.0 p.1 ≡ []) 0 k m raw.modules each e in
    let is : 0 + k ≡ k = omega arith in
    subst (λ z. rule z m ≡ []) is here

in_each_body : (rule : RawModule → RawBody → List ℕ) (raw : RawFile) (k : ℕ) (m : RawModule) → in_bodies rule raw ≡ []
    → slice_get raw.modules k ≡ Some m → EachHas (λ b. rule m b ≡ []) (bodies_of m)
in_each_body rule raw k m h e =
    flat_none (rule m) (bodies_of m) (in_module (λ j x. flat_map (rule x) (bodies_of x)) raw k m h e)

-- the cells of bodies, body by body
flat_bodies : (m : RawModule) (bs : List RawBody) → flat_map (cell_missing m) (flat_map body_cells bs) ≡ []
    → EachHas (λ b. flat_map (cell_missing m) (body_cells b) ≡ []) bs
flat_bodies m [] h = tt
flat_bodies m (b ∷ bs) h =
    let p = no_parts (flat_map (cell_missing m) (body_cells b)) (flat_map (cell_missing m) (flat_map body_cells bs))
    (sym (flat_map-append (cell_missing m) (body_cells b) (flat_map body_cells bs)) ∙ h) in
    (p.0, flat_bodies m bs p.1)

reach_of_body : (m : RawModule) (b : RawBody) → cells_of_body m b ≡ [] → flat_map (out_of_reach b.kind) (items_of b) ≡ []
reach_of_body m b h =
    (no_parts (set_deeper b.block ++ set_twice b.block ++ of_fields is_temperature (cells_set_in b.block)) _ h).1

pub module_form : (raw : RawFile) (k : ℕ) (m : RawModule) → HasForm raw → slice_get raw.modules k ≡ Some m → ModuleForm k m
module_form raw k m h e =
    let p8 = no_parts (numbered_in_order raw ++ fields_exist raw ++ locals_declared raw ++ set_as_declared raw ++ one_break_a_loop raw
    ++ types_agree raw ++ calls_fit raw ++ cells_in_reach raw) (tables_agree raw) h in
    let p7 = no_parts (numbered_in_order raw ++ fields_exist raw ++ locals_declared raw ++ set_as_declared raw ++ one_break_a_loop raw
    ++ types_agree raw ++ calls_fit raw) (cells_in_reach raw) p8.0 in
    let p6 = no_parts (numbered_in_order raw ++ fields_exist raw ++ locals_declared raw ++ set_as_declared raw ++ one_break_a_loop raw
    ++ types_agree raw) (calls_fit raw) p7.0 in
    let p5 = no_parts (numbered_in_order raw ++ fields_exist raw ++ locals_declared raw ++ set_as_declared raw ++ one_break_a_loop raw)
    (types_agree raw) p6.0 in
    let p4 = no_parts (numbered_in_order raw ++ fields_exist raw ++ locals_declared raw ++ set_as_declared raw) (one_break_a_loop raw) p5.0 in
    let p3 = no_parts (numbered_in_order raw ++ fields_exist raw ++ locals_declared raw) (set_as_declared raw) p4.0 in
    let p2 = no_parts (numbered_in_order raw ++ fields_exist raw) (locals_declared raw) p3.0 in
    let p1 = no_parts (numbered_in_order raw) (fields_exist raw) p2.0 in
    let reach = no_parts (in_bodies cells_of_body raw) (in_modules loads_reached raw) p7.1 in
    let tables = no_parts (in_modules numbers_of_module raw ++ counts_agree raw) (descriptors_agree raw.modules raw.descriptors) p8.1 in
    let numbers = in_module numbers_of_module raw k m (no_parts (in_modules numbers_of_module raw) (counts_agree raw) tables.0).0 e in
    let n8 = no_parts _ _ numbers in
    let n7 = no_parts _ _ n8.0 in
    let n6 = no_parts _ _ n7.0 in
    let n5 = no_parts _ _ n6.0 in
    let n4 = no_parts _ _ n5.0 in
    let n3 = no_parts _ _ n4.0 in
    let n2 = no_parts (flat_map (body_numbers m) (bodies_of m)) (flat_map (load_numbers m) (all_loads m.loads)) (no_parts _ _ n3.0).0 in
    let fields = in_module fields_of_module raw k m p1.1 e in
    let f5 = no_parts (twice m.model_fields ++ twice m.inst_fields ++ flat_map (cell_missing m) (flat_map body_cells (bodies_of m))
    ++ flat_map (access_cells m) m.access ++ flat_map (load_cells m) (all_loads m.loads)) (flat_map (node_cells m) m.nodes) fields in
    let f4 = no_parts (twice m.model_fields ++ twice m.inst_fields ++ flat_map (cell_missing m) (flat_map body_cells (bodies_of m))
    ++ flat_map (access_cells m) m.access) (flat_map (load_cells m) (all_loads m.loads)) f5.0 in
    let f3 = no_parts (twice m.model_fields ++ twice m.inst_fields ++ flat_map (cell_missing m) (flat_map body_cells (bodies_of m)))
    (flat_map (access_cells m) m.access) f4.0 in
    let f2 = no_parts (twice m.model_fields ++ twice m.inst_fields) (flat_map (cell_missing m) (flat_map body_cells (bodies_of m))) f3.0 in
    let one = each_both _ _ (bodies_of m) (in_each_body locals_in_body raw k m p2.1 e)
    (in_each_body (λ x b. settings_in b.block) raw k m p3.1 e) in
    let two = each_both _ _ (bodies_of m) (in_each_body (λ x b. breaks_in false b.block) raw k m p4.1 e)
    (in_each_body (λ x b. flat_map (λ s. item_differs x b (Scoped.known s) (Scoped.item s)) (items_of b)) raw k m p5.1 e) in
    let three = each_both _ _ (bodies_of m) (in_each_body (λ x b. flat_map (item_calls x b) (items_of b)) raw k m p6.1 e)
    (in_each_body cells_of_body raw k m reach.0 e) in
    let four = each_both _ _ (bodies_of m) (flat_bodies m (bodies_of m) f2.1) (flat_none (body_numbers m) (bodies_of m) n2.0) in
    let all = each_both _ _ (bodies_of m) (each_both _ _ (bodies_of m) one two) (each_both _ _ (bodies_of m) three four) in
    record {
      bodies = each_weaker _ _ (λ b w. record {
        locals = w.0.0.0;
        settings = w.0.0.1;
        breaks = w.0.1.0;
        types = w.0.1.1;
        calls = w.1.0.0;
        reach = reach_of_body m b w.1.0.1;
        cells = w.1.1.0;
        numbers = w.1.1.1;
      }) (bodies_of m) all;
      access = flat_none (access_cells m) m.access f3.1;
      load_cells = flat_none (load_cells m) (all_loads m.loads) f4.1;
      load_numbers = flat_none (load_numbers m) (all_loads m.loads) n2.1;
      loads = in_module loads_reached raw k m reach.1 e;
    }

-- a module of a file comes from a raw module
pub module_from : (ms : List RawModule) (ds : List RawDescriptor) (k : ℕ) (m : CModule) → slice_get (modules_of ms ds) k ≡ Some m
    → (raw : RawModule) × (name : List ℕ) × (ports : ℕ) × (slice_get ms k ≡ Some raw) × (module_of name ports raw ≡ m)
module_from [] ds k m h = cc (h)
module_from (x ∷ ms) [] zero m h = (x, [], 0, refl, (let e : module_of [] 0 x ≡ m = cc (h) in e))
module_from (x ∷ ms) (d ∷ ds) zero m h =
    (x, d.name, d.num_terminals.value, refl, (let e : module_of d.name d.num_terminals.value x ≡ m = cc (h) in e))
module_from (x ∷ ms) [] (suc k) m h = module_from ms [] k m h
module_from (x ∷ ms) (d ∷ ds) (suc k) m h = module_from ms ds k m h

-- the place of a field among some, and its type there
own_type : (ty : Ty) → field_type (is_integer ty) ≡ ty
own_type Integer = refl
own_type RealTy = refl

found_among : (i : ℕ) (field : CField) (fs : List RawField) (ty : Ty) → type_among field fs ≡ Some ty
    → (p : ℕ) × (place_among i field (map field_row fs) ≡ Some (i + p)) × (slice_get (types_of (map field_row fs)) p ≡ Some ty)
found_among i field [] ty h = cc (h)
found_among i field (f ∷ fs) ty h = by_test (same_field f.field.value field) h (λ k. found_among (i + 1) field fs ty k)
  where
    by_test : (test : Bool) → (if test then Some f.ty else type_among field fs) ≡ Some ty
        → (type_among field fs ≡ Some ty
        → (p : ℕ) × (place_among (i + 1) field (map field_row fs) ≡ Some (i + 1 + p)) × (slice_get (types_of (map field_row fs)) p ≡ Some ty))
        → (p : ℕ) × ((if test then Some i else place_among (i + 1) field (map field_row fs)) ≡ Some (i + p))
        × (slice_get (types_of (map field_row (f ∷ fs))) p ≡ Some ty)
    by_test true k later =
        let same : f.ty ≡ ty = cc (k) in
        let here : i ≡ i + 0 = omega arith in
        (0, ap Some here, ap Some (own_type f.ty ∙ same))
    by_test false k later =
        let rest = later k in
        let next : i + 1 + rest.0 ≡ i + suc rest.0 = omega arith in
        (suc rest.0, rest.1 ∙ ap Some next, rest.2)

-- the types of an instance's cells
at_middle : (n : ℕ) (x y : Ty) (ts : List Ty) → slice_get (replicate n x ++ y ∷ ts) n ≡ Some y
at_middle zero x y ts = refl
at_middle (suc n) x y ts = at_middle n x y ts

behind_middle : (n p : ℕ) (x y : Ty) (ts : List Ty) → slice_get (replicate n x ++ y ∷ ts) (n + 1 + p) ≡ slice_get ts p
behind_middle zero p x y ts =
    let next : 0 + 1 + p ≡ suc p = omega arith in
    ap (slice_get (y ∷ ts)) next
behind_middle (suc n) p x y ts =
    let next : suc n + 1 + p ≡ suc (n + 1 + p) = omega arith in
    ap (slice_get (x ∷ replicate n x ++ y ∷ ts)) next ∙ behind_middle n p x y ts

before_middle : (n i : ℕ) (x y : Ty) (ts : List Ty) → nat_lt i n ≡ true → slice_get (replicate n x ++ y ∷ ts) i ≡ Some x
before_middle zero i x y ts h = absurd (let no : ⊥ = grind (arith, nat_tests) in no)
before_middle (suc n) zero x y ts h = refl
before_middle (suc n) (suc i) x y ts h = before_middle n i x y ts (grind (arith, nat_tests))

typed_element : {V : Type 0} (xs : List (Number V)) (p : ℕ) (ty : Ty) → slice_get (map (λ v. type_of v) xs) p ≡ Some ty
    → (v : Number V) × (slice_get xs p ≡ Some v) × (type_of v ≡ ty)
typed_element [] p ty h = cc (h)
typed_element (x ∷ xs) zero ty h = (x, refl, (let e : type_of x ≡ ty = cc (h) in e))
typed_element (x ∷ xs) (suc p) ty h = typed_element xs p ty h

module _ (m : RawModule) (name : List ℕ) (ports : ℕ) where
  abbrev tree : CModule
  tree = module_of name ports m

  abbrev instance_types : List Ty
  instance_types = replicate (flag_count tree) Integer ++ RealTy ∷ types_of (map field_row m.inst_fields)

  listed_cell : (field : CField) (ty : Ty) → type_among field m.inst_fields ≡ Some ty
      → (p : ℕ) × (place_among (flag_count tree + 1) field (map field_row m.inst_fields) ≡ Some p) × (slice_get instance_types p ≡ Some ty)
  listed_cell field ty h =
      let a = found_among (flag_count tree + 1) field m.inst_fields ty h in
      (flag_count tree + 1 + a.0, a.1, behind_middle (flag_count tree) a.0 Integer RealTy (types_of (map field_row m.inst_fields)) ∙ a.2)

  instance_cell : (field : CField) (ty : Ty) → instance_type m field ≡ Some ty
      → (p : ℕ) × (instance_place tree field ≡ Some p) × (slice_get instance_types p ≡ Some ty)
  instance_cell Temperature ty h =
      let same : RealTy ≡ ty = cc (h) in
      (flag_count tree, refl, at_middle (flag_count tree) Integer RealTy (types_of (map field_row m.inst_fields)) ∙ ap Some same)
  instance_cell (Param i) ty h = listed_cell (Param i) ty h
  instance_cell (Given i) ty h = listed_cell (Given i) ty h
  instance_cell (Resist i) ty h = listed_cell (Resist i) ty h
  instance_cell (React i) ty h = listed_cell (React i) ty h
  instance_cell (EntryResist i) ty h = listed_cell (EntryResist i) ty h
  instance_cell (EntryReact i) ty h = listed_cell (EntryReact i) ty h
  instance_cell (OpVar i) ty h = listed_cell (OpVar i) ty h
  instance_cell (Stored i) ty h = listed_cell (Stored i) ty h

  model_cell : (field : CField) (ty : Ty) → type_among field m.model_fields ≡ Some ty
      → (p : ℕ) × (place_among 0 field (map field_row m.model_fields) ≡ Some p) × (slice_get (types_of (map field_row m.model_fields)) p ≡ Some ty)
  model_cell field ty h =
      let a = found_among 0 field m.model_fields ty h in
      (0 + a.0, a.1, (let here : 0 + a.0 ≡ a.0 = omega arith in ap (slice_get (types_of (map field_row m.model_fields))) here ∙ a.2))

  -- the types of the cells of a struct
  abbrev level_types : Level → List Ty
  level_types Instance = instance_types
  level_types Model = types_of (map field_row m.model_fields)

  pub cell_place : (cell : CCell) (ty : Ty) → cell_type m cell ≡ Some ty
      → (p : ℕ) × (place_of tree cell ≡ Some p) × (slice_get (level_types cell.level) p ≡ Some ty)
  cell_place cell ty h = by_level cell.level cell.field h
    where
      by_level : (level : Level) (field : CField) → cell_type m (record { level = level; field = field }) ≡ Some ty
          → (p : ℕ) × (place_of tree (record { level = level; field = field }) ≡ Some p) × (slice_get (level_types level) p ≡ Some ty)
      by_level Instance field k = instance_cell field ty k
      by_level Model field k = model_cell field ty k

-- the mapped number of what is below the length of a list
mapped : (places : List ℕ) (count i : ℕ) → length places ≡ count → nat_lt i count ≡ true → (p : ℕ) × (slice_get places i ≡ Some p)
mapped places count i e h = element_there places i (ap (λ z. nat_lt i z) e ∙ h)

value_there : {V : Type 0} (values : List V) (p : ℕ) → p < length values → (x : V) × (slice_get values p ≡ Some x)
value_there values p h = element_there values p (is_below p (length values) h)

-- the loads of a function among all
loads_among : (P : RawLoad → Type 0) (loads : RawLoads) → EachHas P (all_loads loads) → (f : LoadFunction) → EachHas P (raw_loads loads f)
loads_among P loads h f =
    let p6 = each_split P (loads.residual_resist ++ loads.residual_react ++ loads.jacobian_resist ++ loads.jacobian_react ++ loads.jacobian_tran
    ++ loads.spice_rhs_dc) loads.spice_rhs_tran h in
    let p5 = each_split P (loads.residual_resist ++ loads.residual_react ++ loads.jacobian_resist ++ loads.jacobian_react ++ loads.jacobian_tran)
    loads.spice_rhs_dc p6.0 in
    let p4 = each_split P (loads.residual_resist ++ loads.residual_react ++ loads.jacobian_resist ++ loads.jacobian_react) loads.jacobian_tran p5.0 in
    let p3 = each_split P (loads.residual_resist ++ loads.residual_react ++ loads.jacobian_resist) loads.jacobian_react p4.0 in
    let p2 = each_split P (loads.residual_resist ++ loads.residual_react) loads.jacobian_resist p3.0 in
    let p1 = each_split P loads.residual_resist loads.residual_react p2.0 in
    by_function f p1.0 p1.1 p2.1 p3.1 p4.1 p5.1 p6.1
  where
    by_function : (g : LoadFunction) → EachHas P loads.residual_resist → EachHas P loads.residual_react → EachHas P loads.jacobian_resist
        → EachHas P loads.jacobian_react → EachHas P loads.jacobian_tran → EachHas P loads.spice_rhs_dc → EachHas P loads.spice_rhs_tran
        → EachHas P (raw_loads loads g)
    by_function ResidualResist a b c d e f' g' = a
    by_function ResidualReact a b c d e f' g' = b
    by_function JacobianResist a b c d e f' g' = c
    by_function JacobianReact a b c d e f' g' = d
    by_function JacobianTran a b c d e f' g' = e
    by_function SpiceRhsDc a b c d e f' g' = f'
    by_function SpiceRhsTran a b c d e f' g' = g'

-- the rule on what loads reach, function by function
loads_in_reach : (k : ℕ) (m : RawModule) → loads_reached k m ≡ [] → (f : LoadFunction) → EachHas (λ load. load_reached m f load ≡ []) (raw_loads m.loads f)
loads_in_reach k m h f =
    let each = flat_none (λ g. flat_map (load_reached m g) (raw_loads m.loads g)) load_functions h in
    flat_none (load_reached m f) (raw_loads m.loads f) (by_function f each)
  where
    by_function : (g : LoadFunction) → EachHas (λ x. flat_map (load_reached m x) (raw_loads m.loads x) ≡ []) load_functions
        → flat_map (load_reached m g) (raw_loads m.loads g) ≡ []
    by_function ResidualResist e = e.0
    by_function ResidualReact e = e.1.0
    by_function JacobianResist e = e.1.1.0
    by_function JacobianReact e = e.1.1.1.0
    by_function JacobianTran e = e.1.1.1.1.0
    by_function SpiceRhsDc e = e.1.1.1.1.1.0
    by_function SpiceRhsTran e = e.1.1.1.1.1.1.0

raw_are : (loads : RawLoads) (f : LoadFunction) → loads_of (loads_of_raw loads) f ≡ map load_of (raw_loads loads f)
raw_are loads ResidualResist = refl
raw_are loads ResidualReact = refl
raw_are loads JacobianResist = refl
raw_are loads JacobianReact = refl
raw_are loads JacobianTran = refl
raw_are loads SpiceRhsDc = refl
raw_are loads SpiceRhsTran = refl

read_gives : {V : Type 0} (m : CModule) (s : Machine V) (cell : CCell) (p : ℕ) (v : Number V) → place_of m cell ≡ Some p
    → slice_get (cells_of s cell.level) p ≡ Some v → read_cell m s cell ≡ gives v
read_gives m s cell p v e h = (λ z. found (e z) >>= λ place. found (slice_get (cells_of s cell.level) place)) ∙ found_some _ _ h

only_where_true : (test : Bool) (at : ℕ) → only_where test at ≡ [] → test ≡ true
only_where_true true at h = refl
only_where_true false at h = cc (h)

is_there : (x : Option Ty) (at : ℕ) → missing x at ≡ [] → (ty : Ty) × (x ≡ Some ty)
is_there None at h = cc (h)
is_there (Some ty) at h = (ty, refl)

is_like : (wanted : Ty) (x : Option Ty) (at : ℕ) → unlike wanted x at ≡ [] → x ≡ Some wanted
is_like wanted None at h = cc (h)
is_like wanted (Some ty) at h = ap Some (one_type ty wanted (test_true (same_type ty wanted) h))
  where
    test_true : (test : Bool) → (if test then (let none : List ℕ = [] in none) else at ∷ []) ≡ [] → test ≡ true
    test_true true k = refl
    test_true false k = cc (k)

some_equal : {T : Type 0} (x y : T) → Some x ≡ Some y → x ≡ y
some_equal x y h = cc (h)

module _ {V : Type 0} (o : Operations V) (n k : ℕ) (m : RawModule) (name : List ℕ) (ports : ℕ) (form : ModuleForm k m) where
  abbrev file_module : CModule
  file_module = tree m name ports

  level_cells : (s : Machine V) → HasCells file_module s → (level : Level)
      → map (λ v. type_of v) (cells_of s level) ≡ level_types m name ports level
  level_cells s h Instance = h.instance
  level_cells s h Model = h.model

  -- a cell that the rules find is there
  cell_there : (s : Machine V) → HasCells file_module s → (cell : CCell) (ty : Ty) → cell_type m cell ≡ Some ty
      → (p : ℕ) × (v : Number V) × (place_of file_module cell ≡ Some p) × (slice_get (cells_of s cell.level) p ≡ Some v) × (type_of v ≡ ty)
  cell_there s h cell ty e =
      let a = cell_place m name ports cell ty e in
      let d = typed_element (cells_of s cell.level) a.0 ty (ap (λ ts. slice_get ts a.0) (level_cells s h cell.level) ∙ a.2) in
      (a.0, d.0, a.1, d.1, d.2)

  -- and takes a value of its type
  write_goes : (s : Machine V) → HasCells file_module s → (cell : CCell) (ty : Ty) (v : Number V) → cell_type m cell ≡ Some ty
      → type_of v ≡ ty → Goes (write_cell file_module cell v s)
  write_goes s h cell ty v e q =
      let a = cell_there s h cell ty e in
      goes_given _ (with_cells s cell.level (set (cells_of s cell.level) a.0 v))
      ((λ z. found (a.2 z) >>= λ place. put_at (cells_of s cell.level) place v >>= λ cells. gives (with_cells s cell.level cells))
      ∙ (λ z. put_gives (cells_of s cell.level) a.0 a.1 v a.3 (q ∙ sym a.4) z >>= λ cells. gives (with_cells s cell.level cells)))

  kept_cells : (s t : Machine V) → HasCells file_module s → SameTypes s t → SameMappings s t → HasCells file_module t
  kept_cells s t h types maps = record {
    model = types.model ∙ h.model;
    instance = types.instance ∙ h.instance;
    node = ap (λ l. length l) maps.node ∙ h.node;
    resist_to = ap (λ l. length l) maps.resist_to ∙ h.resist_to;
    react_to = ap (λ l. length l) maps.react_to ∙ h.react_to;
  }

  machine_ok : (b : RawBody) (c : Scope V) → c.tree ≡ file_module → (s : Machine V) → HasCells file_module s → MachineOk o m b c s.node s
  machine_ok b c is s h = record {
    cells = λ cell ty reached e. (
        let a = cell_there s h cell ty e in
        (a.0, a.1, ap (λ t. place_of t cell) is ∙ a.2, a.3, a.4));
    flags = λ reached pair lt. typed_element s.instance pair Integer
        (ap (λ ts. slice_get ts pair) h.instance
        ∙ before_middle (flag_count file_module) pair Integer RealTy (types_of (map field_row m.inst_fields)) ((λ z. nat_lt pair (flag_count (sym is z))) ∙ lt));
    node = refl;
  }

  -- settings
  row_found : (P : RawAccess → Type 0) (instance : Bool) (id : ℕ) (rows : List RawAccess) (row : AccessRow) → EachHas P rows
      → row_for instance id (map access_row rows) ≡ Some row → (r : RawAccess) × (access_row r ≡ row) × P r
  row_found P instance id [] row h e = cc (e)
  row_found P instance id (r ∷ rows) row h e =
      by_test (r.id.value == id && (instance || not r.instance)) e (λ q. row_found P instance id rows row h.1 q)
    where
      by_test : (test : Bool) → (if test then Some (access_row r) else row_for instance id (map access_row rows)) ≡ Some row
          → (row_for instance id (map access_row rows) ≡ Some row → (x : RawAccess) × (access_row x ≡ row) × P x)
          → (x : RawAccess) × (access_row x ≡ row) × P x
      by_test true q later = (r, (let is : access_row r ≡ row = cc (q) in is), h.0)
      by_test false q later = later q

  flag_goes : (s : Machine V) → HasCells file_module s → (flag : Option (At CCell)) → access_flag m flag ≡ []
      → Goes (raise_flag file_module (flag_of flag) s)
  flag_goes s h None e = goes_gives s
  flag_goes s h (Some cell) e =
      let a = is_like Integer (cell_type m cell.value) (word_at cell) e in
      write_goes s h cell.value Integer (Int (pos 1)) a refl

  flag_keeps : (s t : Machine V) → HasCells file_module s → (flag : Option CCell) → raise_flag file_module flag s ≡ gives t
      → HasCells file_module t × SameTypes s t
  flag_keeps s t h None e =
      subst (λ u. HasCells file_module u × SameTypes s u) (value_given _ _ e) (h, same_types s)
  flag_keeps s t h (Some cell) e =
      let types = cell_types file_module cell (Int (pos 1)) s t e in
      (kept_cells s t h types (cell_maps file_module cell (Int (pos 1)) s t e), types)

  setting_goes : (s : Machine V) → HasCells file_module s → (instance : Bool) (id : ℕ) (v : Number V)
      → SettingFits file_module s (row_for instance id file_module.access) v → Goes (set_by file_module (row_for instance id file_module.access) v s)
  setting_goes s h instance id v fits = by_row (row_for instance id file_module.access) refl fits
    where
      by_row : (row : Option AccessRow) → row_for instance id file_module.access ≡ row → SettingFits file_module s row v → Goes (set_by file_module row v s)
      by_row None q w = absurd w
      by_row (Some row) q w =
          let r = row_found (λ x. access_cells m x ≡ []) instance id m.access row form.access q in
          let e = no_parts (access_flag m (RawAccess.flag r.0)) (cell_missing m (RawAccess.cell r.0)) r.2 in
          let there = is_there (cell_type m (At.value (RawAccess.cell r.0))) (word_at (RawAccess.cell r.0)) e.1 in
          let found_at = cell_there s h (At.value (RawAccess.cell r.0)) there.0 there.1 in
          let cell_is : At.value (RawAccess.cell r.0) ≡ row.cell = ap (λ x. AccessRow.cell x) r.1 in
          let flag_is : flag_of (RawAccess.flag r.0) ≡ row.flag = ap (λ x. AccessRow.flag x) r.1 in
          let same : there.0 ≡ type_of v =
          sym found_at.4 ∙ some_equal _ _ (sym (types_at (cells_of s row.cell.level) found_at.0 found_at.1
          (ap (λ x. slice_get (cells_of s (CCell.level x)) found_at.0) (sym cell_is) ∙ found_at.3))
          ∙ w found_at.0 (ap (place_of file_module) (sym cell_is) ∙ found_at.2)) in
          goes_then (raise_flag file_module row.flag s) _
          (subst (λ x. Goes (raise_flag file_module x s)) flag_is (flag_goes s h (RawAccess.flag r.0) e.0))
          (λ t g. write_goes t (flag_keeps s t h row.flag g).0 row.cell there.0 v (ap (cell_type m) (sym cell_is) ∙ there.1) (sym same))
        where
          types_at : (cells : List (Number V)) (p : ℕ) (x : Number V) → slice_get cells p ≡ Some x
              → slice_get (map (λ u. type_of u) cells) p ≡ Some (type_of x)
          types_at [] p x k = cc (k)
          types_at (c ∷ cells) zero x k = ap Some (ap (λ u. type_of u) (some_equal c x k))
          types_at (c ∷ cells) (suc p) x k = types_at cells p x k

  -- loads
  pub record HasArguments (f : LoadFunction) (given : LoadArguments V) (s : Machine V) : Type 0 where
    pub dst : has_dst f ≡ true → given.has_dst ≡ true
    pub alpha : has_alpha f ≡ true → (x : V) × (given.alpha ≡ Some x)
    pub solution : has_solution f ≡ true → (x : List V) × (given.solution ≡ Some x) × AreBelow (length x) s.node

  target_goes : (f : LoadFunction) (given : LoadArguments V) (s : Machine V) → HasCells file_module s → HasArguments f given s → (t : At LoadTarget)
      → target_reached f t ≡ [] → target_number m t ≡ [] → TargetFits s t.value
      → (place : Place) × (x : V) × (place_of_target given s t.value ≡ gives place) × (value_at s place ≡ gives x)
  target_goes f given s h g t r q w = by_target t.value r q w
    where
      by_target : (u : LoadTarget) → target_reached f (record { at = t.at; value = u }) ≡ [] → target_number m (record { at = t.at; value = u }) ≡ []
          → TargetFits s u → (place : Place) × (x : V) × (place_of_target given s u ≡ gives place) × (value_at s place ≡ gives x)
      by_target (target.Node i) a b c =
          let p = mapped s.node (length m.nodes) i (h.node ∙ length-map m.nodes _) (below_none (length m.nodes) i (node_at t) b) in
          let x = value_there s.vector p.0 (c p.0 p.1) in (
            of_vector p.0,
            x.0,
            only_if_true given.has_dst _ (g.dst (only_where_true (has_dst f) t.at a)) ∙ (λ z. found (p.1 z) >>= λ place. gives (of_vector place)),
            found_some _ _ x.1,
          )
      by_target (target.EntryResist e) a b c =
          let p = mapped s.resist_to (length m.entries) e (h.resist_to ∙ length-map m.entries _) (below_none (length m.entries) e (t.at + 5) b) in
          let x = value_there s.matrix p.0 (c p.0 p.1) in
          (of_matrix p.0, x.0, (λ z. found (p.1 z) >>= λ place. gives (of_matrix place)), found_some _ _ x.1)
      by_target (target.EntryReact e) a b c =
          let p = mapped s.react_to (length m.entries) e (h.react_to ∙ length-map m.entries _) (below_none (length m.entries) e (t.at + 5) b) in
          let x = value_there s.matrix p.0 (c p.0 p.1) in
          (of_matrix p.0, x.0, (λ z. found (p.1 z) >>= λ place. gives (of_matrix place)), found_some _ _ x.1)

  real_there : (x : Option Ty) (at : ℕ) → double_or_missing x at ≡ [] → (ty : Ty) → x ≡ Some ty → ty ≡ RealTy
  real_there None at h ty e = cc (e)
  real_there (Some t) at h ty e = sym (some_equal t ty e) ∙ one_type t RealTy (only_where_true (same_type t RealTy) at h)

  read_real : (v : Number V) → type_of v ≡ RealTy → (x : V) × (as_real v ≡ gives x)
  read_real (Real x) e = (x, refl)
  read_real (Int i) e = cc (e)

  factor_goes : (f : LoadFunction) (given : LoadArguments V) (s : Machine V) → HasCells file_module s → HasArguments f given s → (t : At LoadFactor)
      → factor_reached m f t ≡ [] → factor_number m t ≡ []
      → flat_map (λ field. missing (instance_type m (At.value field)) (word_at field)) (loaded_field t) ≡ []
      → (x : V) × (factor_value o file_module given s t.value ≡ gives x)
  factor_goes f given s h g t r q w = by_factor t.value r q w
    where
      by_factor : (u : LoadFactor) → factor_reached m f (record { at = t.at; value = u }) ≡ [] → factor_number m (record { at = t.at; value = u }) ≡ []
          → flat_map (λ field. missing (instance_type m (At.value field)) (word_at field)) (loaded_field (record { at = t.at; value = u })) ≡ []
          → (x : V) × (factor_value o file_module given s u ≡ gives x)
      by_factor factor.Alpha a b c =
          let x = g.alpha (only_where_true (has_alpha f) t.at a) in
          (x.0, found_some _ _ x.1)
      by_factor (factor.Cell field) a b c =
          let e = no_parts (missing (instance_type m field) (word_at t)) [] c in
          let there = is_there (instance_type m field) (word_at t) e.0 in
          let cell : CCell = record { level = Instance; field = field } in
          let at_place' = cell_there s h cell there.0 there.1 in
          let x = read_real at_place'.1 (at_place'.4 ∙ real_there (instance_type m field) (word_at t) a there.0 there.1) in (
            x.0,
            (λ z. read_gives file_module s cell at_place'.0 at_place'.1 at_place'.2 at_place'.3 z >>= λ v. as_real v) ∙ x.1,
          )
      by_factor (factor.Solution i) a b c =
          let x = g.solution (only_where_true (has_solution f) t.at a) in
          let p = mapped s.node (length m.nodes) i (h.node ∙ length-map m.nodes _) (below_none (length m.nodes) i (node_at t) b) in
          let y = value_there x.0 p.0 (each_get (λ place. place < length x.0) s.node i p.0 x.2 p.1) in
          (y.0, (λ z. found (x.1 z) >>= λ solution. at_place s.node solution i) ∙ at_its_place s.node x.0 i p.0 y.0 p.1 y.1)

  -- what the rules say of a factor
  abbrev FactorForm : LoadFunction → At LoadFactor → Type 0
  FactorForm f t = (factor_reached m f t ≡ []) × (factor_number m t ≡ [])
      × (flat_map (λ field. missing (instance_type m (At.value field)) (word_at field)) (loaded_field t) ≡ [])

  product_goes : (f : LoadFunction) (given : LoadArguments V) (s : Machine V) → HasCells file_module s → HasArguments f given s → (x : V)
      → (ts : List (At LoadFactor)) → EachHas (FactorForm f) ts → (y : V) × (product_with o file_module given s x (map (λ t. At.value t) ts) ≡ gives y)
  product_goes f given s h g x [] e = (x, refl)
  product_goes f given s h g x (t ∷ ts) e =
      let a = factor_goes f given s h g t e.0.0 e.0.1 e.0.2 in
      let b = product_goes f given s h g (o.product x a.0) ts e.1 in
      (b.0, (λ z. a.1 z >>= λ y. product_with o file_module given s (o.product x y) (map (λ u. At.value u) ts)) ∙ b.1)

  factors_form : (f : LoadFunction) (load : RawLoad) → load_reached m f load ≡ [] → load_cells m load ≡ [] → load_numbers m load ≡ []
      → (target_reached f load.target ≡ []) × (target_number m load.target ≡ []) × EachHas (FactorForm f) (factors_of load)
  factors_form f load r c q =
      let a = no_parts (target_reached f load.target) (flat_map (factor_reached m f) (factors_of load)) r in
      let b = no_parts (target_number m load.target) (flat_map (factor_number m) (factors_of load)) q in
      let cells = flat_flat (λ field. missing (instance_type m (At.value field)) (word_at field)) loaded_field (factors_of load) c in
      let both = each_both _ _ (factors_of load) (flat_none (factor_reached m f) (factors_of load) a.1)
      (each_both _ _ (factors_of load) (flat_none (factor_number m) (factors_of load) b.1) cells) in
      (a.0, b.0, each_weaker _ _ (λ t w. (w.0, w.1.0, w.1.1)) (factors_of load) both)

  load_goes : (f : LoadFunction) (given : LoadArguments V) (s : Machine V) → HasCells file_module s → HasArguments f given s → (load : RawLoad)
      → load_reached m f load ≡ [] → load_cells m load ≡ [] → load_numbers m load ≡ [] → TargetFits s (At.value load.target)
      → Goes (run_load o file_module given (load_of load) s)
  load_goes f given s h g load r c q w =
      let e = factors_form f load r c q in
      let t = target_goes f given s h g load.target e.0 e.1 w in
      let first = factor_goes f given s h g load.first e.2.0.0 e.2.0.1 e.2.0.2 in
      let product = product_goes f given s h g first.0 load.more e.2.1 in
      let computed : load_product o file_module given s (load_of load) ≡ gives product.0 =
      (λ z. first.1 z >>= λ x. product_with o file_module given s x (map (λ u. At.value u) load.more)) ∙ product.1 in
      goes_given _ (with_value_at s t.0 (signed o load.sign t.1 product.0))
      ((λ z. t.2 z >>= λ place. load_product o file_module given s (load_of load) >>= λ x. value_at s place
      >>= λ old. gives (with_value_at s place (signed o load.sign old x)))
      ∙ (λ z. computed z >>= λ x. value_at s t.0 >>= λ old. gives (with_value_at s t.0 (signed o load.sign old x)))
      ∙ (λ z. t.3 z >>= λ old. gives (with_value_at s t.0 (signed o load.sign old product.0))))

  -- behind a load
  target_kept : (s t : Machine V) → SameMappings s t → SameLengths s t → (u : LoadTarget) → TargetFits s u → TargetFits t u
  target_kept s t maps lengths (target.Node i) w = λ place e.
      subst (λ z. place < z) (sym lengths.vector) (w place (ap (λ l. slice_get l i) (sym maps.node) ∙ e))
  target_kept s t maps lengths (target.EntryResist i) w = λ place e.
      subst (λ z. place < z) (sym lengths.matrix) (w place (ap (λ l. slice_get l i) (sym maps.resist_to) ∙ e))
  target_kept s t maps lengths (target.EntryReact i) w = λ place e.
      subst (λ z. place < z) (sym lengths.matrix) (w place (ap (λ l. slice_get l i) (sym maps.react_to) ∙ e))

  below_kept : (s t : Machine V) → SameMappings s t → (count : ℕ) → AreBelow count s.node → AreBelow count t.node
  below_kept s t maps count h = subst (AreBelow count) (sym maps.node) h

  arguments_kept : (f : LoadFunction) (given : LoadArguments V) (s t : Machine V) → SameMappings s t → HasArguments f given s
      → HasArguments f given t
  arguments_kept f given s t maps g = record {
    dst = g.dst;
    alpha = g.alpha;
    solution = λ e. (let x = g.solution e in (x.0, x.1, below_kept s t maps (length x.0) x.2));
  }

  -- what the rules say of a load
  abbrev LoadForm : LoadFunction → RawLoad → Type 0
  LoadForm f load = (load_reached m f load ≡ []) × (load_cells m load ≡ []) × (load_numbers m load ≡ [])

  loads_go : (f : LoadFunction) (given : LoadArguments V) (loads : List RawLoad) → EachHas (LoadForm f) loads → (s : Machine V)
      → HasCells file_module s → HasArguments f given s → EachHas (λ load. TargetFits s (At.value (RawLoad.target load))) loads
      → Goes (run_loads o file_module given (map load_of loads) s)
  loads_go f given [] e s h g w = goes_gives s
  loads_go f given (load ∷ loads) e s h g w =
      goes_then (run_load o file_module given (load_of load) s) _ (load_goes f given s h g load e.0.0 e.0.1 e.0.2 w.0)
      (λ t k. (
      let p = load_parts o file_module given (load_of load) s t k in
      let maps = subst (SameMappings s) (sym p.6) (place_maps o s p.0 _) in
      let cells = subst (SameCells s) (sym p.6) (place_cells o s p.0 _) in
      let lengths = subst (SameLengths s) (sym p.6) (place_lengths o s p.0 _) in
      loads_go f given loads e.1 t (kept_cells s t h (of_cells o s t cells) maps) (arguments_kept f given s t maps g)
      (each_weaker _ _ (λ x q. target_kept s t maps lengths (At.value (RawLoad.target x)) q) loads w.1)))

  load_function_goes : (f : LoadFunction) (given : LoadArguments V) (s : Machine V) → HasCells file_module s → HasArguments f given s
      → LoadFits file_module s f → Goes (run_load_function o n file_module f given s)
  load_function_goes f given s h g w =
      let each = each_both _ _ (raw_loads m.loads f) (loads_in_reach k m form.loads f)
      (each_both _ _ (raw_loads m.loads f) (loads_among _ m.loads form.load_cells f) (loads_among _ m.loads form.load_numbers f)) in
      let targets = each_unmapped load_of (λ load. TargetFits s (CLoad.target load)) (raw_loads m.loads f)
      (subst (EachHas (λ load. TargetFits s (CLoad.target load))) (raw_are m.loads f) w) in
      subst (λ ls. Goes (run_loads o file_module given ls s)) (sym (raw_are m.loads f))
      (loads_go f given (raw_loads m.loads f) (each_weaker _ _ (λ x q. (q.0, q.1.0, q.1.1)) (raw_loads m.loads f) each) s h g targets)

  -- the functions and the three bodies that the host calls
  abbrev three_bodies : List RawBody
  three_bodies = plain_body setup_of_model m.setup_model ∷ plain_body setup_of_instance m.setup_instance ∷ plain_body evaluation m.eval ∷ []

  bodies : EachHas (BodyForm m) (map function_body (enumerate_from 0 m.functions)) × EachHas (BodyForm m) three_bodies
  bodies = each_split (BodyForm m) (map function_body (enumerate_from 0 m.functions)) three_bodies form.bodies

  function_forms : (j : ℕ) (f : RawFunction) → slice_get m.functions j ≡ Some f → BodyForm m (function_body (j, f))
  function_forms j f e =
      let each = each_unmapped function_body (BodyForm m) (enumerate_from 0 m.functions) bodies.0 in
      let here = each_numbered (λ p. BodyForm m (function_body p)) 0 j f m.functions each e in
      let is : 0 + j ≡ j = omega arith in
      subst (λ z. BodyForm m (function_body (z, f))) is here

  pairs : length file_module.collapse ≡ length m.collapse
  pairs = length-map m.collapse _

  call_goes : (call : HostCall V) (s : Machine V) → HasCells file_module s → CallFits file_module s call → Goes (run_call o n file_module call s)
  call_goes (set_parameter instance id v) s h w = setting_goes s h instance id v w
  call_goes setup_model s h w =
      let b = plain_body setup_of_model m.setup_model in
      let c = model_scope o n file_module in
      run_body_goes o n m file_module function_forms refl b c s.node bodies.1.0 (λ x q r. model_reached o n m b c s.node refl refl x q) refl refl refl s
      (machine_ok b c refl s h)
  call_goes (setup_instance t) s h w =
      let cell : CCell = record { level = Instance; field = Temperature } in
      let b = plain_body setup_of_instance m.setup_instance in
      let c = instance_scope o n file_module in
      goes_then (with_temperature file_module t s) _ (write_goes s h cell RealTy (Real t) refl refl)
      (λ u e. run_body_goes o n m file_module function_forms refl b c (Machine.node u) bodies.1.1.0
      (λ x q r. instance_reached o n m b c (Machine.node u) refl refl refl pairs x q r) refl refl refl u
      (machine_ok b c refl u (kept_cells s u h (cell_types file_module cell (Real t) s u e) (cell_maps file_module cell (Real t) s u e))))
  call_goes (evaluate solution) s h w =
      let b = plain_body evaluation m.eval in
      let c = eval_scope o n file_module solution in
      run_body_goes o n m file_module function_forms refl b c s.node bodies.1.1.1.0
      (λ x q r. eval_reached o n m b c s.node refl refl pairs solution refl (h.node ∙ length-map m.nodes _) w x q r) refl refl refl s
      (machine_ok b c refl s h)
  call_goes load_residual_resist s h w =
      load_function_goes ResidualResist (record { has_dst = true; alpha = None; solution = None }) s h
      (record { dst = λ e. refl; alpha = λ e. cc (e); solution = λ e. cc (e) }) w
  call_goes load_residual_react s h w =
      load_function_goes ResidualReact (record { has_dst = true; alpha = None; solution = None }) s h
      (record { dst = λ e. refl; alpha = λ e. cc (e); solution = λ e. cc (e) }) w
  call_goes load_jacobian_resist s h w =
      load_function_goes JacobianResist (record { has_dst = false; alpha = None; solution = None }) s h
      (record { dst = λ e. cc (e); alpha = λ e. cc (e); solution = λ e. cc (e) }) w
  call_goes (load_jacobian_react a) s h w =
      load_function_goes JacobianReact (record { has_dst = false; alpha = Some a; solution = None }) s h
      (record { dst = λ e. cc (e); alpha = λ e. (a, refl); solution = λ e. cc (e) }) w
  call_goes (load_jacobian_tran a) s h w =
      load_function_goes JacobianTran (record { has_dst = false; alpha = Some a; solution = None }) s h
      (record { dst = λ e. cc (e); alpha = λ e. (a, refl); solution = λ e. cc (e) }) w
  call_goes (load_rhs_dc x) s h w =
      load_function_goes SpiceRhsDc (record { has_dst = true; alpha = None; solution = Some x }) s h
      (record { dst = λ e. refl; alpha = λ e. cc (e); solution = λ e. (x, refl, w.1) }) w.0
  call_goes (load_rhs_tran x a) s h w =
      load_function_goes SpiceRhsTran (record { has_dst = true; alpha = Some a; solution = Some x }) s h
      (record { dst = λ e. refl; alpha = λ e. (a, refl); solution = λ e. (x, refl, w.1) }) w.0

  -- what a call asks is kept
  loads_kept : (s t : Machine V) → SameMappings s t → SameLengths s t → (f : LoadFunction) → LoadFits file_module s f → LoadFits file_module t f
  loads_kept s t maps lengths f w =
      each_weaker _ _ (λ x q. target_kept s t maps lengths (CLoad.target x) q) (loads_of file_module.loads f) w

  setting_kept : (s t : Machine V) → SameTypes s t → (row : Option AccessRow) (v : Number V) → SettingFits file_module s row v
      → SettingFits file_module t row v
  setting_kept s t types None v w = w
  setting_kept s t types (Some row) v w = λ place e. by_level place (AccessRow.cell row).level (w place e)
    where
      by_level : (place : ℕ) (level : Level) → slice_get (map (λ u. type_of u) (cells_of s level)) place ≡ Some (type_of v)
          → slice_get (map (λ u. type_of u) (cells_of t level)) place ≡ Some (type_of v)
      by_level place Instance q = ap (λ ts. slice_get ts place) types.instance ∙ q
      by_level place Model q = ap (λ ts. slice_get ts place) types.model ∙ q

  fits_kept : (s t : Machine V) → SameTypes s t → SameMappings s t → SameLengths s t → (call : HostCall V) → CallFits file_module s call
      → CallFits file_module t call
  fits_kept s t types maps lengths (set_parameter instance id v) w = setting_kept s t types (row_for instance id file_module.access) v w
  fits_kept s t types maps lengths setup_model w = w
  fits_kept s t types maps lengths (setup_instance x) w = w
  fits_kept s t types maps lengths (evaluate solution) w = below_kept s t maps (length solution) w
  fits_kept s t types maps lengths load_residual_resist w = loads_kept s t maps lengths ResidualResist w
  fits_kept s t types maps lengths load_residual_react w = loads_kept s t maps lengths ResidualReact w
  fits_kept s t types maps lengths load_jacobian_resist w = loads_kept s t maps lengths JacobianResist w
  fits_kept s t types maps lengths (load_jacobian_react a) w = loads_kept s t maps lengths JacobianReact w
  fits_kept s t types maps lengths (load_jacobian_tran a) w = loads_kept s t maps lengths JacobianTran w
  fits_kept s t types maps lengths (load_rhs_dc x) w = (loads_kept s t maps lengths SpiceRhsDc w.0, below_kept s t maps (length x) w.1)
  fits_kept s t types maps lengths (load_rhs_tran x a) w = (loads_kept s t maps lengths SpiceRhsTran w.0, below_kept s t maps (length x) w.1)

  pub calls_go : (calls : List (HostCall V)) (s : Machine V) → HasCells file_module s → EachHas (CallFits file_module s) calls
      → Goes (run_calls o n file_module calls s)
  calls_go [] s h w = goes_gives _
  calls_go (call ∷ rest) s h w =
      let laws = keeping V o (λ x. Unit {0}) in
      goes_then (run_call o n file_module call s) _ (call_goes call s h w.0)
      (λ t e. (
      let types = laws.types n file_module call s t e in
      let maps = laws.mappings n file_module call s t e in
      let lengths = laws.lengths n file_module call s t e in
      goes_then (run_calls o n file_module rest t) _
      (calls_go rest t (kept_cells s t h types maps)
      (each_weaker _ _ (λ x q. fits_kept s t types maps lengths x q) rest w.1))
      (λ later q. goes_gives _)))

never : {V : Type 0} (o : Operations V) (f : CFile) (k n : ℕ) (m : CModule) (calls : List (HostCall V)) (s : Machine V) → ObeysForm f
    → slice_get f.modules k ≡ Some m → HasCells m s → EachHas (CallFits m s) calls → Goes (run_calls o n m calls s)
never {V} o f k n m calls s form at h w =
    let raw = form.0 in
    let a = module_from (RawFile.modules raw) (RawFile.descriptors raw) k m (ap (λ x. slice_get (CFile.modules x) k) form.1 ∙ at) in
    let here = module_form raw k a.0 form.2 a.3 in
    subst (λ x. HasCells x s → EachHas (CallFits x s) calls → Goes (run_calls o n x calls s)) a.4
    (λ p q. calls_go o n k a.0 a.1 a.2 here calls s p q) h w

pub never_stuck : (V : Type 0) (o : Operations V) (valid : V → Type 0) → NeverStuck V o valid
never_stuck V o valid = record { runs = λ f k n m calls s form at h w. never o f k n m calls s form at h w }

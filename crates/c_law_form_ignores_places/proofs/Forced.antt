-- What a text writes and its file does not keep is what the rules of form ask for: part by part.
use Rattle.std.specs.Prelude.{◌≡◌, ◌<◌, ◌^◌, ℕ, ◌+◌, ◌-◌, ◌==◌, Bool, true, false, if◌then◌else◌, List, [], ◌∷◌, ◌++◌, length, map, Option, Some, None}
use Rattle.std.specs.List.{flat_map, enumerate_from, list_all}
use Rattle.std.proofs.Common.{refl, ap, sym, ◌∙◌, arith}
use Rattle.std.proofs.lemmas.Bool.{and_parts}
use Rattle.std.proofs.lemmas.Bool.Decides.{nat_tests}
use Rattle.alg_laws.specs.declared.number.Ty.{Ty}
use Rattle.alg_laws.specs.declared.number.Ty.TheVariants.{Integer, Real}
use Rattle.c_tree.specs.declared.body.CCell.{CCell}
use Rattle.c_tree.specs.declared.body.CField.{CField}
use Rattle.c_tree.specs.declared.body.CField.TheVariants.{Resist, React}
use Rattle.c_tree.specs.declared.table.ParamKind.{ParamKind}
use Rattle.c_tree.specs.FileOf.{right_of, simple_of, test_of, block_in, before_test, behind_test, body_of, is_integer, field_row, function_of, flag_of, access_row, load_of, loads_of_raw, node_row, column_of, entry_row, param_row}
use Rattle.c_tree.specs.Raw.{At, RawRight, same, negated, contrary, to_real, to_integer, call, binary, RawSimple, constant, join, head, assign, set_cell, set_flag, report, RawBlock, closed, simple, leave, choice, loop, RawField, RawArgument, RawFunction, RawAccess, RawLoad, RawLoads, RawNode, RawEntry, RawParam}
use Rattle.c_tree.specs.RawOf.{at_0, raw_field, raw_right, raw_simple, raw_then, raw_body, raw_function, raw_flag, raw_access, raw_load, loads_raw, raw_node, raw_entry, raw_param}
use Rattle.c_tree.specs.Spelling.{is_field_name, spells_row}
use Rattle.c_tree.specs.Text.{field_type, field_word, alias_count, count_kinds}
use Rattle.c_tree.specs.rules.Breaks.{breaks_in}
use Rattle.c_tree.specs.rules.Fields.{same_field}
use Rattle.c_tree.specs.rules.Numbering.{wants}
use Rattle.c_tree.specs.rules.Tables.{wants_field, node_fields, no_reference, offset_agrees, aliases_agree, count_params}
use Rattle.c_tree.proofs.Blameless.{no_parts, same_test}
use Rattle.c_tree.proofs.Nesting.{block-flat}
use Rattle.c_law_form_ignores_places.specs.Forget.{forget_at, forget_right, forget_simple, forget_block, forget_field, forget_function, forget_flag, forget_access, forget_load, forget_loads, forget_node, forget_entry, forget_param, once}
use Rattle.c_law_form_ignores_places.proofs.Alike.{map_map, map_same}
use Rattle.c_law_form_ignores_places.proofs.FieldNames.{name_back, resist_same, react_same}
use Rattle.c_law_form_ignores_places.proofs.Repeats.{wants_told}

values_back : {T : Type 0} (xs : List (At T)) → map forget_at xs ≡ map at_0 (map (λ x. At.value x) xs)
values_back xs = sym (map_map at_0 (λ x. At.value x) xs)

right_back : (r : RawRight) → forget_right r ≡ raw_right (right_of r)
right_back (same a) = refl
right_back (negated a) = refl
right_back (contrary a) = refl
right_back (to_real a) = refl
right_back (to_integer a) = refl
right_back (call f args) = ap (call f) (values_back args)
right_back (binary a op b) = refl

simple_back : (s : RawSimple) → forget_simple s ≡ raw_simple (simple_of s)
simple_back (constant ty i side) = ap (λ r. constant ty (forget_at i) (at_0 r)) (right_back side.value)
simple_back (join ty i) = refl
simple_back (head ty i first) = refl
simple_back (assign i value) = refl
simple_back (set_cell cell value) = refl
simple_back (set_flag pair value) = refl
simple_back (report id) = refl

-- the block of a file's block, in which a loop's test stands where it stood
abbrev whole : Bool → RawBlock → RawBlock
whole false b = raw_then (block_in b) (closed 0)
whole true b = raw_then (before_test b) (leave 0 (at_0 (test_of b)) (raw_then (behind_test b) (closed 0)))

block_back : (wanted : Bool) (b : RawBlock) → breaks_in wanted b ≡ [] → forget_block b ≡ whole wanted b
block_back false (closed at) h = refl
block_back true (closed at) h = cc (h)
block_back false (simple s rest) h = λ i. simple (simple_back s i) (block_back false rest h i)
block_back true (simple s rest) h = λ i. simple (simple_back s i) (block_back true rest h i)
block_back false (leave at a rest) h = cc (h)
block_back true (leave at a rest) h = ap (leave 0 (forget_at a)) (block_back false rest h)
block_back false (choice a x y rest) h =
    let p = no_parts (breaks_in false x ++ breaks_in false y) (breaks_in false rest) h in
    let q = no_parts (breaks_in false x) (breaks_in false y) p.0 in
    λ i. choice (forget_at a) (block_back false x q.0 i) (block_back false y q.1 i) (block_back false rest p.1 i)
block_back true (choice a x y rest) h =
    let p = no_parts (breaks_in false x ++ breaks_in false y) (breaks_in true rest) h in
    let q = no_parts (breaks_in false x) (breaks_in false y) p.0 in
    λ i. choice (forget_at a) (block_back false x q.0 i) (block_back false y q.1 i) (block_back true rest p.1 i)
block_back false (loop x rest) h =
    let p = no_parts (breaks_in true x) (breaks_in false rest) h in
    λ i. loop (block_back true x p.0 i) (block_back false rest p.1 i)
block_back true (loop x rest) h =
    let p = no_parts (breaks_in true x) (breaks_in true rest) h in
    λ i. loop (block_back true x p.0 i) (block_back true rest p.1 i)

pub body_back : (b : RawBlock) → breaks_in false b ≡ [] → forget_block b ≡ raw_body (body_of b)
body_back b h = block_back false b h ∙ ap (λ x. raw_then x (closed 0)) (sym (block-flat (block_in b)))

pub function_back : (j : ℕ) (f : RawFunction) → wants j f.number ≡ [] → breaks_in false f.body ≡ []
    → forget_function f ≡ raw_function (j, function_of f)
function_back j f h k =
    let number = wants_told j f.number h in
    let arguments = sym (map_map (λ a. (let x : RawArgument = record { ty = a.ty; number = at_0 a.number } in x))
    (λ argument. record { ty = RawArgument.ty argument; number = At.value (RawArgument.number argument) }) f.arguments) in
    let body = body_back f.body k in
    λ i. record {
      number = at_0 (number i);
      result = f.result;
      arguments = arguments i;
      body = body i;
      value = forget_at f.value;
    }

flag_back : (flag : Option (At CCell)) → forget_flag flag ≡ raw_flag (flag_of flag)
flag_back None = refl
flag_back (Some cell) = refl

pub access_back : (row : RawAccess) → forget_access row ≡ raw_access (access_row row)
access_back row = λ i. record {
  id = forget_at row.id;
  instance = row.instance;
  flag = flag_back row.flag i;
  cell = forget_at row.cell;
}

load_back : (load : RawLoad) → forget_load load ≡ raw_load (load_of load)
load_back load = λ i. record {
  target = forget_at load.target;
  sign = load.sign;
  first = forget_at load.first;
  more = values_back load.more i;
}

-- lists of parts that a file keeps whole
pub each_back : {R S T : Type 0} (gone : R → T) (raw : S → T) (row : R → S) → ((x : R) → gone x ≡ raw (row x)) → (xs : List R)
    → map gone xs ≡ map raw (map row xs)
each_back gone raw row back xs = map_same gone (λ x. raw (row x)) back xs ∙ sym (map_map raw row xs)

pub loads_back : (loads : RawLoads) → forget_loads loads ≡ loads_raw (loads_of_raw loads)
loads_back loads = λ i. record {
  residual_resist = each_back forget_load raw_load load_of load_back loads.residual_resist i;
  residual_react = each_back forget_load raw_load load_of load_back loads.residual_react i;
  jacobian_resist = each_back forget_load raw_load load_of load_back loads.jacobian_resist i;
  jacobian_react = each_back forget_load raw_load load_of load_back loads.jacobian_react i;
  jacobian_tran = each_back forget_load raw_load load_of load_back loads.jacobian_tran i;
  spice_rhs_dc = each_back forget_load raw_load load_of load_back loads.spice_rhs_dc i;
  spice_rhs_tran = each_back forget_load raw_load load_of load_back loads.spice_rhs_tran i;
}

-- fields of the structs
type_back : (ty : Ty) → ty ≡ field_type (is_integer ty)
type_back Integer = refl
type_back Real = refl

field_back : (f : RawField) → is_field_name (field_word f.field.value) ≡ true → forget_field f ≡ raw_field (field_row f)
field_back f h = λ i. record { ty = type_back f.ty i; field = at_0 (sym (name_back f.field.value h) i) }

pub fields_back : (fields : List RawField) → list_all spells_row (map field_row fields) ≡ true
    → map forget_field fields ≡ map raw_field (map field_row fields)
fields_back [] h = refl
fields_back (f ∷ rest) h =
    let p = and_parts (is_field_name (field_word f.field.value)) (list_all spells_row (map field_row rest)) h in
    λ i. field_back f p.0 i ∷ fields_back rest p.1 i

-- nodes
field_told : (field : CField) (f : At CField) → wants_field field f ≡ [] → same_field f.value field ≡ true
field_told field f h = by_test (same_field f.value field) h
  where
    by_test : (test : Bool) → (if test then [] else f.at ∷ []) ≡ [] → test ≡ true
    by_test true g = refl
    by_test false g = cc (g)

node_back : (k : ℕ) (node : RawNode) → k < 2 ^ 32 → node_fields (k, node) ≡ [] → forget_node node ≡ raw_node (k, node_row node)
node_back k node less h =
    let p = no_parts (wants_field (Resist k) node.resist) (wants_field (React k) node.react) h in
    let resist = resist_same node.resist.value k less (field_told (Resist k) node.resist p.0) in
    let react = react_same node.react.value k less (field_told (React k) node.react p.1) in
    λ i. record {
      name = node.name;
      units = node.units;
      residual_units = node.residual_units;
      resist = at_0 (resist i);
      react = at_0 (react i);
      is_flow = node.is_flow;
    }

pub nodes_back : (k : ℕ) (nodes : List RawNode) → k + length nodes < 2 ^ 32 → flat_map node_fields (enumerate_from k nodes) ≡ []
    → map forget_node nodes ≡ map raw_node (enumerate_from k (map node_row nodes))
nodes_back k [] less h = refl
nodes_back k (node ∷ rest) less h =
    let p = no_parts (node_fields (k, node)) (flat_map node_fields (enumerate_from (k + 1) rest)) h in
    λ i. node_back k node (omega arith) p.0 i ∷ nodes_back (k + 1) rest (omega arith) p.1 i

-- entries
second_back : (second : At (Option ℕ)) → no_reference second ≡ [] → second.value ≡ Some (column_of second.value)
second_back second h = by_value second.value second.at h
  where
    by_value : (value : Option ℕ) (at : ℕ) → no_reference (record { at = at; value = value }) ≡ [] → value ≡ Some (column_of value)
    by_value None at g = cc (g)
    by_value (Some column) at g = refl

offset_back : (e : ℕ) (react : Bool) (offset : At (Option ℕ)) → offset_agrees e react offset ≡ []
    → offset.value ≡ (if react then Some e else None)
offset_back e react offset h = by_value react offset.value offset.at h
  where
    by_number : (number at : ℕ) → (if number == e then [] else at ∷ []) ≡ [] → Some number ≡ Some e
    by_number number at g = by_test (number == e) refl g
      where
        by_test : (test : Bool) → (number == e) ≡ test → (if test then [] else at ∷ []) ≡ [] → Some number ≡ Some e
        by_test true q k = ap Some (same_test number e q)
        by_test false q k = cc (k)

    by_value : (react : Bool) (value : Option ℕ) (at : ℕ) → offset_agrees e react (record { at = at; value = value }) ≡ []
        → value ≡ (if react then Some e else None)
    by_value true None at g = cc (g)
    by_value false None at g = refl
    by_value true (Some number) at g = by_number number (at + 6) g
    by_value false (Some number) at g = cc (g)

pub entry_back : (e : ℕ) (entry : RawEntry) → no_reference entry.pair.second ++ offset_agrees e entry.react entry.react_offset ≡ []
    → forget_entry entry ≡ raw_entry (e, entry_row entry)
entry_back e entry h =
    let p = no_parts (no_reference entry.pair.second) (offset_agrees e entry.react entry.react_offset) h in
    let second = second_back entry.pair.second p.0 in
    let offset = offset_back e entry.react entry.react_offset p.1 in
    λ i. record {
      pair = record { first = forget_at entry.pair.first; second = at_0 (second i) };
      react_offset = at_0 (offset i);
      resist = entry.resist;
      react = entry.react;
    }

-- parameters
aliases : (names : List (List ℕ)) → length names - 1 ≡ alias_count names
aliases [] = refl
aliases (name ∷ rest) = omega arith

param_back : (p : RawParam) → aliases_agree p ≡ [] → forget_param p ≡ raw_param (param_row p)
param_back p h =
    let count = wants_told (length p.names - 1) p.num_alias h ∙ aliases p.names in
    λ i. record {
      names = p.names;
      num_alias = at_0 (count i);
      description = p.description;
      units = p.units;
      integer = p.integer;
      kind = forget_at p.kind;
    }

pub params_back : (params : List RawParam) → flat_map aliases_agree params ≡ [] → map forget_param params ≡ map raw_param (map param_row params)
params_back [] h = refl
params_back (p ∷ rest) h =
    let q = no_parts (aliases_agree p) (flat_map aliases_agree rest) h in
    λ i. param_back p q.0 i ∷ params_back rest q.1 i

pub count_back : (passes : ParamKind → Bool) (params : List RawParam) → count_params passes params ≡ count_kinds passes (map param_row params)
count_back passes [] = refl
count_back passes (p ∷ rest) = ap (λ n. if passes p.kind.value then n + 1 else n) (count_back passes rest)

-- the number of a module, which stands at least once
once_back : (k : ℕ) (n : At ℕ) (ns : List (At ℕ)) → flat_map (wants k) (n ∷ ns) ≡ [] → once (map forget_at (n ∷ ns)) ≡ at_0 k ∷ []
once_back k n [] h =
    let p = no_parts (wants k n) [] h in
    ap (λ v. at_0 v ∷ []) (wants_told k n p.0)
once_back k n (m ∷ rest) h =
    let p = no_parts (wants k n) (flat_map (wants k) (m ∷ rest)) h in
    let q = no_parts (wants k m) (flat_map (wants k) rest) p.1 in
    by_values n.value m.value (wants_told k n p.0) (wants_told k m q.0) (once (map forget_at (m ∷ rest))) ∙ once_back k m rest p.1
  where
    by_values : (a b : ℕ) → a ≡ k → b ≡ k → (later : List (At ℕ)) → (if a == b then later else at_0 a ∷ later) ≡ later
    by_values a b e g later = ap (λ test. if test then later else at_0 a ∷ later) (let same : (a == b) ≡ true = grind (arith, nat_tests) in same)

pub numbers_back : (k : ℕ) (ns : List (At ℕ)) → 0 < length ns → flat_map (wants k) ns ≡ [] → once (map forget_at ns) ≡ at_0 k ∷ []
numbers_back k [] some h = absurd (let no : ⊥ = omega (arith, some) in no)
numbers_back k (n ∷ ns) some h = once_back k n ns h

-- The rules on fields and on what bodies and loads may speak of blame as much in a raw tree without places.
use Rattle.std.specs.Prelude.{◌≡◌, ℕ, suc, Bool, if◌then◌else◌, List, [], ◌∷◌, ◌++◌, length, map, Option, Some, None}
use Rattle.std.specs.List.{flat_map}
use Rattle.std.proofs.Common.{refl, ap, sym, ◌∙◌}
use Rattle.std.proofs.lemmas.List.{map-append}
use Rattle.alg_laws.specs.declared.number.Ty.{Ty}
use Rattle.alg_laws.specs.declared.number.Ty.TheVariants.{Integer, Real}
use Rattle.c_tree.specs.declared.body.CCell.{CCell}
use Rattle.c_tree.specs.declared.body.CField.{CField}
use Rattle.c_tree.specs.declared.body.CField.TheVariants.{Param, Given, Resist, React, EntryResist, EntryReact, OpVar, Stored, Temperature}
use Rattle.c_tree.specs.declared.body.Level.{Level}
use Rattle.c_tree.specs.declared.body.Level.TheVariants.{Instance, Model}
use Rattle.c_tree.specs.declared.load.LoadFactor.{LoadFactor}
use Rattle.c_tree.specs.declared.load.LoadFactor.TheVariants as factor
use Rattle.c_tree.specs.SameType.{same_type}
use Rattle.c_tree.specs.Raw.{At, word_at, RawBlock, closed, simple, leave, choice, loop, RawField, RawAccess, RawLoad, RawLoads, RawNode, RawModule, RawFile}
use Rattle.c_tree.specs.RawOf.{at_0}
use Rattle.c_tree.specs.rules.Bodies.{Item, Scoped, RawBody, items_of, bodies_of, items_in, atoms_of, cell_of, unknown_of, set_cells, set_flags, of_statement, repeated}
use Rattle.c_tree.specs.rules.Reach.{words_of_cells, words_of_flags, cells_set_in, flags_set_in, words_set_in, set_deeper, same_cell, set_again, cells_twice, flags_twice, direct, set_twice, of_fields, unknowns_of, flags_of}
use Rattle.c_tree.specs.rules.Fields.{same_field, type_among, instance_type, cell_type, missing, unlike, again, twice, cells_in, body_cells, cell_missing, access_flag, access_cells, factors_of, all_loads, loaded_field, load_cells, node_cells, fields_of_module, fields_exist}
use Rattle.c_law_form_ignores_places.specs.Forget.{forget_at, forget_simple, forget_block, forget_field, forget_flag, forget_access, forget_load, forget_loads, forget_node, forget_module, forget}
use Rattle.c_law_form_ignores_places.proofs.Alike.{Alike, both, flat_alike, one_alike, map_map, flat_mapped}
use Rattle.c_law_form_ignores_places.proofs.LocalRules.{all_three, statements_same}
use Rattle.c_law_form_ignores_places.proofs.Trees.{forget_item, forget_scoped, forget_body, items_in_same, bodies_same, items_same, atoms_of_same, cell_of_same, unknown_of_same, set_cells_same, set_flags_same, of_statement_same, moved, by_test, repeated_moved, modules_alike}

-- types of fields and cells
pub among_same : (field : CField) (fields : List RawField) → type_among field (map forget_field fields) ≡ type_among field fields
among_same field [] = refl
among_same field (f ∷ rest) = ap (λ t. if same_field f.field.value field then Some f.ty else t) (among_same field rest)

pub instance_same : (m : RawModule) (field : CField) → instance_type (forget_module m) field ≡ instance_type m field
instance_same m (Param i) = among_same (Param i) m.inst_fields
instance_same m (Given i) = among_same (Given i) m.inst_fields
instance_same m (Resist i) = among_same (Resist i) m.inst_fields
instance_same m (React i) = among_same (React i) m.inst_fields
instance_same m (EntryResist i) = among_same (EntryResist i) m.inst_fields
instance_same m (EntryReact i) = among_same (EntryReact i) m.inst_fields
instance_same m (OpVar i) = among_same (OpVar i) m.inst_fields
instance_same m (Stored i) = among_same (Stored i) m.inst_fields
instance_same m Temperature = refl

by_level : (m : RawModule) (level : Level) (field : CField)
    → cell_type (forget_module m) (record { level = level; field = field }) ≡ cell_type m (record { level = level; field = field })
by_level m Instance field = instance_same m field
by_level m Model field = among_same field m.model_fields

pub cell_same : (m : RawModule) (cell : CCell) → cell_type (forget_module m) cell ≡ cell_type m cell
cell_same m cell = by_level m cell.level cell.field

missing_at : (ty : Option Ty) (a b : ℕ) → Alike (missing ty a) (missing ty b)
missing_at None a b = refl
missing_at (Some ty) a b = refl

unlike_at : (wanted : Ty) (ty : Option Ty) (a b : ℕ) → Alike (unlike wanted ty a) (unlike wanted ty b)
unlike_at wanted None a b = refl
unlike_at wanted (Some ty) a b = one_alike (same_type ty wanted) a b

again_alike : (field : CField) (fields : List RawField) → Alike (again field fields) (again field (map forget_field fields))
again_alike field [] = refl
again_alike field (f ∷ rest) =
    by_test (same_field f.field.value field) f.field.at 0 (again field rest) (again field (map forget_field rest)) (again_alike field rest)

twice_alike : (fields : List RawField) → Alike (twice fields) (twice (map forget_field fields))
twice_alike [] = refl
twice_alike (f ∷ rest) =
    both (again f.field.value rest) (again f.field.value (map forget_field rest)) (twice rest) (twice (map forget_field rest))
    (again_alike f.field.value rest) (twice_alike rest)

pub cells_in_same : (s : Scoped) → cells_in (forget_scoped s) ≡ map forget_at (cells_in s)
cells_in_same s =
    let p = ap (flat_map cell_of) (atoms_of_same s.item) ∙ flat_mapped cell_of cell_of forget_at forget_at cell_of_same (atoms_of s.item) in
    let q = of_statement_same set_cells set_cells_same s.item in
    (λ i. p i ++ q i) ∙ sym (map-append forget_at (flat_map cell_of (atoms_of s.item)) (of_statement set_cells s.item))

body_cells_same : (b : RawBody) → body_cells (forget_body b) ≡ map forget_at (body_cells b)
body_cells_same b =
    ap (flat_map cells_in) (items_same b) ∙ flat_mapped cells_in cells_in forget_scoped forget_at cells_in_same (items_of b)

cell_missing_alike : (m : RawModule) (cell : At CCell) → Alike (cell_missing m cell) (cell_missing (forget_module m) (forget_at cell))
cell_missing_alike m cell =
    missing_at (cell_type m cell.value) (word_at cell) 2 ∙ ap (λ ty. length (missing ty 2)) (sym (cell_same m cell.value))

flag_alike : (m : RawModule) (flag : Option (At CCell)) → Alike (access_flag m flag) (access_flag (forget_module m) (forget_flag flag))
flag_alike m None = refl
flag_alike m (Some cell) =
    unlike_at Integer (cell_type m cell.value) (word_at cell) 2 ∙ ap (λ ty. length (unlike Integer ty 2)) (sym (cell_same m cell.value))

access_alike : (m : RawModule) (row : RawAccess) → Alike (access_cells m row) (access_cells (forget_module m) (forget_access row))
access_alike m row =
    both (access_flag m row.flag) (access_flag (forget_module m) (forget_flag row.flag)) (cell_missing m row.cell)
    (cell_missing (forget_module m) (forget_at row.cell)) (flag_alike m row.flag) (cell_missing_alike m row.cell)

loaded_at : (at : ℕ) (f : LoadFactor) → loaded_field (at_0 f) ≡ map forget_at (loaded_field (record { at = at; value = f }))
loaded_at at factor.Alpha = refl
loaded_at at (factor.Cell field) = refl
loaded_at at (factor.Solution i) = refl

load_cells_alike : (m : RawModule) (load : RawLoad) → Alike (load_cells m load) (load_cells (forget_module m) (forget_load load))
load_cells_alike m load =
    let fields = flat_map loaded_field (factors_of load) in
    flat_alike (λ field. missing (instance_type (forget_module m) (At.value field)) (word_at field))
    (λ field. missing (instance_type m (At.value field)) (word_at field)) forget_at (λ field.
    missing_at (instance_type m field.value) (word_at field) 2 ∙ ap (λ ty. length (missing ty 2)) (sym (instance_same m field.value))) fields
    ∙ ap (λ l. length (flat_map (λ field. missing (instance_type (forget_module m) (At.value field)) (word_at field)) l))
    (sym (flat_mapped loaded_field loaded_field forget_at forget_at (λ f. loaded_at f.at f.value) (factors_of load)))

node_cells_alike : (m : RawModule) (node : RawNode) → Alike (node_cells m node) (node_cells (forget_module m) (forget_node node))
node_cells_alike m node =
    let first : Alike (unlike Real (instance_type m node.resist.value) node.resist.at)
    (unlike Real (instance_type (forget_module m) node.resist.value) 0) =
    unlike_at Real (instance_type m node.resist.value) node.resist.at 0
    ∙ ap (λ ty. length (unlike Real ty 0)) (sym (instance_same m node.resist.value)) in
    let second : Alike (unlike Real (instance_type m node.react.value) node.react.at)
    (unlike Real (instance_type (forget_module m) node.react.value) 0) =
    unlike_at Real (instance_type m node.react.value) node.react.at 0
    ∙ ap (λ ty. length (unlike Real ty 0)) (sym (instance_same m node.react.value)) in
    both (unlike Real (instance_type m node.resist.value) node.resist.at) (unlike Real (instance_type (forget_module m) node.resist.value) 0)
    (unlike Real (instance_type m node.react.value) node.react.at) (unlike Real (instance_type (forget_module m) node.react.value) 0) first second

-- the statements of all load functions
pub all_loads_same : (loads : RawLoads) → all_loads (forget_loads loads) ≡ map forget_load (all_loads loads)
all_loads_same loads =
    let a = loads.residual_resist in
    let b = loads.residual_react in
    let c = loads.jacobian_resist in
    let d = loads.jacobian_react in
    let e = loads.jacobian_tran in
    let f = loads.spice_rhs_dc in
    let g = loads.spice_rhs_tran in
    let k = forget_load in
    sym (map-append k (a ++ b ++ c ++ d ++ e ++ f) g
    ∙ ap (λ l. l ++ map k g) (map-append k (a ++ b ++ c ++ d ++ e) f
    ∙ ap (λ l. l ++ map k f) (map-append k (a ++ b ++ c ++ d) e
    ∙ ap (λ l. l ++ map k e) (map-append k (a ++ b ++ c) d
    ∙ ap (λ l. l ++ map k d) (map-append k (a ++ b) c
    ∙ ap (λ l. l ++ map k c) (map-append k a b))))))

fields_alike : (k : ℕ) (m : RawModule) → Alike (fields_of_module k m) (fields_of_module k (forget_module m))
fields_alike k m =
    let gone = forget_module m in
    let cells : Alike (flat_map (cell_missing m) (flat_map body_cells (bodies_of m))) (flat_map (cell_missing gone) (flat_map body_cells (bodies_of gone))) =
    flat_alike (cell_missing gone) (cell_missing m) forget_at (cell_missing_alike m) (flat_map body_cells (bodies_of m))
    ∙ ap (λ l. length (flat_map (cell_missing gone) l))
    (sym (ap (flat_map body_cells) (bodies_same m) ∙ flat_mapped body_cells body_cells forget_body forget_at body_cells_same (bodies_of m))) in
    let loads : Alike (flat_map (load_cells m) (all_loads m.loads)) (flat_map (load_cells gone) (all_loads gone.loads)) =
    flat_alike (load_cells gone) (load_cells m) forget_load (load_cells_alike m) (all_loads m.loads)
    ∙ ap (λ l. length (flat_map (load_cells gone) l)) (sym (all_loads_same m.loads)) in
    let a1 = twice m.model_fields in
    let a2 = twice m.inst_fields in
    let a3 = flat_map (cell_missing m) (flat_map body_cells (bodies_of m)) in
    let a4 = flat_map (access_cells m) m.access in
    let a5 = flat_map (load_cells m) (all_loads m.loads) in
    let a6 = flat_map (node_cells m) m.nodes in
    let b1 = twice gone.model_fields in
    let b2 = twice gone.inst_fields in
    let b3 = flat_map (cell_missing gone) (flat_map body_cells (bodies_of gone)) in
    let b4 = flat_map (access_cells gone) gone.access in
    let b5 = flat_map (load_cells gone) (all_loads gone.loads) in
    let b6 = flat_map (node_cells gone) gone.nodes in
    both (a1 ++ a2 ++ a3 ++ a4 ++ a5) (b1 ++ b2 ++ b3 ++ b4 ++ b5) a6 b6
    (both (a1 ++ a2 ++ a3 ++ a4) (b1 ++ b2 ++ b3 ++ b4) a5 b5
    (both (a1 ++ a2 ++ a3) (b1 ++ b2 ++ b3) a4 b4
    (all_three a1 a2 a3 b1 b2 b3 (twice_alike m.model_fields) (twice_alike m.inst_fields) cells)
    (flat_alike (access_cells gone) (access_cells m) forget_access (access_alike m) m.access)) loads)
    (flat_alike (node_cells gone) (node_cells m) forget_node (node_cells_alike m) m.nodes)

pub field_rule_alike : (raw : RawFile) → Alike (fields_exist raw) (fields_exist (forget raw))
field_rule_alike raw = modules_alike fields_of_module fields_alike raw

-- what is set, and where
pub words_alike : {T : Type 0} (xs : List (At T)) → Alike (map (λ x. word_at x) xs) (map (λ x. word_at x) (map forget_at xs))
words_alike [] = refl
words_alike (x ∷ xs) = ap (λ n. suc n) (words_alike xs)

cells_set_alike : (b : RawBlock) → Alike (words_set_in b) (words_set_in (forget_block b))
cells_set_alike b =
    let statements : flat_map (of_statement set_cells) (items_in (forget_block b)) ≡ map forget_at (flat_map (of_statement set_cells) (items_in b)) =
    ap (flat_map (of_statement set_cells)) (items_in_same b)
    ∙ flat_mapped (of_statement set_cells) (of_statement set_cells) forget_item forget_at (of_statement_same set_cells set_cells_same) (items_in b) in
    both (words_of_cells (cells_set_in b)) (words_of_cells (cells_set_in (forget_block b))) (words_of_flags (flags_set_in b))
    (words_of_flags (flags_set_in (forget_block b)))
    (words_alike (cells_set_in b) ∙ ap (λ l. length (words_of_cells l)) (sym statements))
    (words_alike (flags_set_in b) ∙ ap (λ l. length (words_of_flags l)) (sym (statements_same set_flags set_flags_same b)))

pub deeper_alike : (b : RawBlock) → Alike (set_deeper b) (set_deeper (forget_block b))
deeper_alike (closed at) = refl
deeper_alike (simple s rest) = deeper_alike rest
deeper_alike (leave at a rest) = deeper_alike rest
deeper_alike (choice a x y rest) =
    all_three (words_set_in x) (words_set_in y) (set_deeper rest) (words_set_in (forget_block x)) (words_set_in (forget_block y))
    (set_deeper (forget_block rest)) (cells_set_alike x) (cells_set_alike y) (deeper_alike rest)
deeper_alike (loop x rest) =
    both (words_set_in x) (words_set_in (forget_block x)) (set_deeper rest) (set_deeper (forget_block rest)) (cells_set_alike x) (deeper_alike rest)

set_again_alike : (cell : CCell) (cells : List (At CCell)) → Alike (set_again cell cells) (set_again cell (map forget_at cells))
set_again_alike cell [] = refl
set_again_alike cell (c ∷ rest) =
    by_test (same_cell c.value cell) (word_at c) 2 (set_again cell rest) (set_again cell (map forget_at rest)) (set_again_alike cell rest)

cells_twice_alike : (cells : List (At CCell)) → Alike (cells_twice cells) (cells_twice (map forget_at cells))
cells_twice_alike [] = refl
cells_twice_alike (c ∷ rest) =
    both (set_again c.value rest) (set_again c.value (map forget_at rest)) (cells_twice rest) (cells_twice (map forget_at rest))
    (set_again_alike c.value rest) (cells_twice_alike rest)

flags_twice_alike : (flags : List (At ℕ)) → Alike (flags_twice flags) (flags_twice (map forget_at flags))
flags_twice_alike flags =
    let word : At ℕ → At ℕ = λ pair. record { at = word_at pair; value = pair.value } in
    repeated_moved (λ at. 2) (map word flags)
    ∙ ap (λ l. length (repeated l)) (map_map (moved (λ at. 2)) word flags ∙ sym (map_map word forget_at flags))

direct_same : (b : RawBlock) → direct (forget_block b) ≡ map forget_simple (direct b)
direct_same (closed at) = refl
direct_same (simple s rest) = ap (λ l. forget_simple s ∷ l) (direct_same rest)
direct_same (leave at a rest) = direct_same rest
direct_same (choice a x y rest) = direct_same rest
direct_same (loop x rest) = direct_same rest

pub set_twice_alike : (b : RawBlock) → Alike (set_twice b) (set_twice (forget_block b))
set_twice_alike b =
    both (cells_twice (flat_map set_cells (direct b))) (cells_twice (flat_map set_cells (direct (forget_block b))))
    (flags_twice (flat_map set_flags (direct b))) (flags_twice (flat_map set_flags (direct (forget_block b))))
    (cells_twice_alike (flat_map set_cells (direct b))
    ∙ ap (λ l. length (cells_twice l))
    (sym (ap (flat_map set_cells) (direct_same b) ∙ flat_mapped set_cells set_cells forget_simple forget_at set_cells_same (direct b))))
    (flags_twice_alike (flat_map set_flags (direct b))
    ∙ ap (λ l. length (flags_twice l))
    (sym (ap (flat_map set_flags) (direct_same b) ∙ flat_mapped set_flags set_flags forget_simple forget_at set_flags_same (direct b))))

pub of_fields_alike : (test : CField → Bool) (cells : List (At CCell)) → Alike (of_fields test cells) (of_fields test (map forget_at cells))
of_fields_alike test [] = refl
of_fields_alike test (c ∷ rest) =
    by_test (test c.value.field) (word_at c) 2 (of_fields test rest) (of_fields test (map forget_at rest)) (of_fields_alike test rest)

pub unknowns_same : (item : Item) → unknowns_of (forget_item item) ≡ map forget_at (unknowns_of item)
unknowns_same item =
    ap (flat_map unknown_of) (atoms_of_same item) ∙ flat_mapped unknown_of unknown_of forget_at forget_at unknown_of_same (atoms_of item)

pub flags_same : (item : Item) → flags_of (forget_item item) ≡ map forget_at (flags_of item)
flags_same item = of_statement_same set_flags set_flags_same item

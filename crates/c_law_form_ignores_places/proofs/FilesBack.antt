-- The raw tree of a file is one of that file, where the file can be spelled.
use Rattle.std.specs.Prelude.{◌≡◌, ℕ, ◌+◌, Bool, true, false, List, [], ◌∷◌, map, Option, Some, None}
use Rattle.std.specs.List.{enumerate_from, list_all}
use Rattle.std.proofs.Common.{refl, ap, sym, ◌∙◌}
use Rattle.std.proofs.lemmas.Bool.{and_parts}
use Rattle.std.proofs.lemmas.List.{map-id}
use Rattle.c_tree.specs.declared.body.CAtom.{CAtom}
use Rattle.c_tree.specs.declared.body.CCell.{CCell}
use Rattle.c_tree.specs.declared.body.CRight.{CRight}
use Rattle.c_tree.specs.declared.body.CRight.TheVariants as right
use Rattle.c_tree.specs.declared.body.CSimple.{CSimple}
use Rattle.c_tree.specs.declared.body.CSimple.TheVariants.{Constant, Join, Head, Assign, SetCell, SetCollapse, Report}
use Rattle.c_tree.specs.declared.body.CStatement.{CStatement}
use Rattle.c_tree.specs.declared.file.AccessRow.{AccessRow}
use Rattle.c_tree.specs.declared.file.CArgument.{CArgument}
use Rattle.c_tree.specs.declared.file.CFile.{CFile}
use Rattle.c_tree.specs.declared.file.CFunction.{CFunction}
use Rattle.c_tree.specs.declared.file.CModule.{CModule}
use Rattle.c_tree.specs.declared.load.CLoad.{CLoad}
use Rattle.c_tree.specs.declared.load.CLoads.{CLoads}
use Rattle.c_tree.specs.declared.table.FieldRow.{FieldRow}
use Rattle.c_tree.specs.Blocks as blocks
use Rattle.c_tree.specs.Blocks.{Block, flat_of, block_of, HasBlocks}
use Rattle.c_tree.specs.FileOf.{right_of, simple_of, test_of, block_in, before_test, behind_test, body_of, is_integer, field_row, function_of, flag_of, access_row, load_of, loads_of_raw, node_row, entry_row, pair_row, param_row, module_of, modules_of, file_of}
use Rattle.c_tree.specs.Raw.{At, RawBlock, closed, leave}
use Rattle.c_tree.specs.RawOf.{at_0, field_of, raw_field, raw_right, raw_simple, raw_then, raw_body, raw_function, raw_flag, raw_access, raw_load, loads_raw, raw_node, raw_pair, raw_entry, raw_param, raw_module, raw_descriptor, raw_of}
use Rattle.c_tree.specs.Spelling.{EachHas, HaveBlocks, CanBeSpelled, is_field_name, spells_row, spells_tables}
use Rattle.c_tree.specs.Text.{field_type, field_word}
use Rattle.c_law_words.specs.Values.{field_in}
use Rattle.c_law_words.proofs.Values.{field_name_back}
use Rattle.c_law_form_ignores_places.proofs.Alike.{map_map, map_same}
use Rattle.c_law_form_ignores_places.proofs.FieldNames.{name_back}
use Rattle.c_law_form_ignores_places.proofs.ForcedFiles.{spelled_tables}

-- a list of which each element comes back
kept : {S T : Type 0} (row : T → S) (raw : S → T) → ((x : S) → row (raw x) ≡ x) → (xs : List S) → map row (map raw xs) ≡ xs
kept row raw back xs = map_map row raw xs ∙ map_same (λ x. row (raw x)) (λ x. x) back xs ∙ map-id xs

kept_numbered : {S T : Type 0} (row : T → S) (raw : ℕ × S → T) → ((k : ℕ) (x : S) → row (raw (k, x)) ≡ x) → (k : ℕ) (xs : List S)
    → map row (map raw (enumerate_from k xs)) ≡ xs
kept_numbered row raw back k [] = refl
kept_numbered row raw back k (x ∷ xs) = λ i. back k x i ∷ kept_numbered row raw back (k + 1) xs i

values_kept : {T : Type 0} (xs : List T) → map (λ x. At.value x) (map at_0 xs) ≡ xs
values_kept xs = kept (λ x. At.value x) at_0 (λ x. refl) xs

right_kept : (r : CRight) → right_of (raw_right r) ≡ r
right_kept (right.Same a) = refl
right_kept (right.Negated a) = refl
right_kept (right.Contrary a) = refl
right_kept (right.ToReal a) = refl
right_kept (right.ToInteger a) = refl
right_kept (right.Call f args) = ap (right.Call f) (values_kept args)
right_kept (right.Binary a op b) = refl

simple_kept : (s : CSimple) → simple_of (raw_simple s) ≡ s
simple_kept (Constant ty i side) = ap (Constant ty i) (right_kept side)
simple_kept (Join ty i) = refl
simple_kept (Head ty i first) = refl
simple_kept (Assign i value) = refl
simple_kept (SetCell cell value) = refl
simple_kept (SetCollapse pair value) = refl
simple_kept (Report id) = refl

-- the test of a loop's block, and what stands before and behind it
test_kept : (b : Block) (a : CAtom) (rest : RawBlock) → test_of (raw_then b (leave 0 (at_0 a) rest)) ≡ a
test_kept blocks.done a rest = refl
test_kept (blocks.simple s later) a rest = test_kept later a rest
test_kept (blocks.choice test first second later) a rest = test_kept later a rest
test_kept (blocks.loop before test turn later) a rest = test_kept later a rest

behind_kept : (b : Block) (a : CAtom) (rest : RawBlock) → behind_test (raw_then b (leave 0 (at_0 a) rest)) ≡ block_in rest
behind_kept blocks.done a rest = refl
behind_kept (blocks.simple s later) a rest = behind_kept later a rest
behind_kept (blocks.choice test first second later) a rest = behind_kept later a rest
behind_kept (blocks.loop before test turn later) a rest = behind_kept later a rest

mutual
  block_kept : (b : Block) → block_in (raw_then b (closed 0)) ≡ b
  block_kept blocks.done = refl
  block_kept (blocks.simple s later) = λ i. blocks.simple (simple_kept s i) (block_kept later i)
  block_kept (blocks.choice test first second later) =
      λ i. blocks.choice test (block_kept first i) (block_kept second i) (block_kept later i)
  block_kept (blocks.loop before test turn later) =
      let rest = raw_then turn (closed 0) in
      let behind = behind_kept before test rest ∙ block_kept turn in
      λ i. blocks.loop (before_kept before test rest i) (test_kept before test rest i) (behind i) (block_kept later i)

  before_kept : (b : Block) (a : CAtom) (rest : RawBlock) → before_test (raw_then b (leave 0 (at_0 a) rest)) ≡ b
  before_kept blocks.done a rest = refl
  before_kept (blocks.simple s later) a rest = λ i. blocks.simple (simple_kept s i) (before_kept later a rest i)
  before_kept (blocks.choice test first second later) a rest =
      λ i. blocks.choice test (block_kept first i) (block_kept second i) (before_kept later a rest i)
  before_kept (blocks.loop before test turn later) a rest =
      let inside = raw_then turn (closed 0) in
      let behind = behind_kept before test inside ∙ block_kept turn in
      λ i. blocks.loop (before_kept before test inside i) (test_kept before test inside i) (behind i) (before_kept later a rest i)

body_kept : (body : List CStatement) → HasBlocks body → body_of (raw_body body) ≡ body
body_kept body h = ap flat_of (block_kept (block_of body)) ∙ h

-- functions
function_kept : (j : ℕ) (f : CFunction) → HasBlocks f.body → function_of (raw_function (j, f)) ≡ f
function_kept j f h =
    let arguments = kept (λ argument. (let x : CArgument = record { ty = argument.ty; number = argument.number.value } in x))
    (λ a. record { ty = CArgument.ty a; number = at_0 (CArgument.number a) }) (λ x. refl) f.arguments in
    λ i. record { result = f.result; arguments = arguments i; body = body_kept f.body h i; value = f.value }

functions_kept : (k : ℕ) (functions : List CFunction) → EachHas (λ f. HasBlocks (CFunction.body f)) functions
    → map function_of (map raw_function (enumerate_from k functions)) ≡ functions
functions_kept k [] h = refl
functions_kept k (f ∷ rest) h = λ i. function_kept k f h.0 i ∷ functions_kept (k + 1) rest h.1 i

-- access rows and loads
flag_kept : (flag : Option CCell) → flag_of (raw_flag flag) ≡ flag
flag_kept None = refl
flag_kept (Some cell) = refl

access_kept : (row : AccessRow) → access_row (raw_access row) ≡ row
access_kept row = λ i. record { id = row.id; instance = row.instance; flag = flag_kept row.flag i; cell = row.cell }

load_kept : (load : CLoad) → load_of (raw_load load) ≡ load
load_kept load = λ i. record { target = load.target; sign = load.sign; first = load.first; more = values_kept load.more i }

loads_kept : (loads : CLoads) → loads_of_raw (loads_raw loads) ≡ loads
loads_kept loads = λ i. record {
  residual_resist = kept load_of raw_load load_kept loads.residual_resist i;
  residual_react = kept load_of raw_load load_kept loads.residual_react i;
  jacobian_resist = kept load_of raw_load load_kept loads.jacobian_resist i;
  jacobian_react = kept load_of raw_load load_kept loads.jacobian_react i;
  jacobian_tran = kept load_of raw_load load_kept loads.jacobian_tran i;
  spice_rhs_dc = kept load_of raw_load load_kept loads.spice_rhs_dc i;
  spice_rhs_tran = kept load_of raw_load load_kept loads.spice_rhs_tran i;
}

-- fields of the structs
name_kept : (name : List ℕ) → is_field_name name ≡ true → field_word (field_of name) ≡ name
name_kept name h =
    let word = field_name_back name h in
    let named = ap is_field_name word ∙ h in
    ap field_word (ap field_of (sym word) ∙ name_back (field_in name) named) ∙ word

type_kept : (integer : Bool) → is_integer (field_type integer) ≡ integer
type_kept true = refl
type_kept false = refl

fields_kept : (fields : List FieldRow) → list_all spells_row fields ≡ true → map field_row (map raw_field fields) ≡ fields
fields_kept [] h = refl
fields_kept (f ∷ rest) h =
    let p = and_parts (is_field_name f.name) (list_all spells_row rest) h in
    λ i. (let row : FieldRow = record { name = name_kept f.name p.0 i; integer = type_kept f.integer i } in row) ∷ fields_kept rest p.1 i

module_kept : (k : ℕ) (m : CModule) → spells_tables m ≡ true → HaveBlocks m → module_of m.name m.ports (raw_module (k, m)) ≡ m
module_kept k m h b =
    let s = spelled_tables m h in
    λ i. record {
      name = m.name;
      nodes = kept_numbered node_row raw_node (λ j x. refl) 0 m.nodes i;
      ports = m.ports;
      entries = kept_numbered entry_row raw_entry (λ j x. refl) 0 m.entries i;
      collapse = kept pair_row raw_pair (λ x. refl) m.collapse i;
      params = kept param_row raw_param (λ x. refl) m.params i;
      model_fields = fields_kept m.model_fields s.model_fields i;
      inst_fields = fields_kept m.inst_fields s.inst_fields i;
      functions = functions_kept 0 m.functions b.functions i;
      access = kept access_row raw_access access_kept m.access i;
      setup_model = body_kept m.setup_model b.setup_model i;
      setup_instance = body_kept m.setup_instance b.setup_instance i;
      eval = body_kept m.eval b.eval i;
      loads = loads_kept m.loads i;
    }

modules_kept : (k : ℕ) (modules : List CModule) → list_all spells_tables modules ≡ true → EachHas HaveBlocks modules
    → modules_of (map raw_module (enumerate_from k modules)) (map raw_descriptor (enumerate_from k modules)) ≡ modules
modules_kept k [] h b = refl
modules_kept k (m ∷ rest) h b =
    let p = and_parts (spells_tables m) (list_all spells_tables rest) h in
    λ i. module_kept k m p.0 b.0 i ∷ modules_kept (k + 1) rest p.1 b.1 i

pub file_kept : (f : CFile) → CanBeSpelled f → file_of (raw_of f) ≡ f
file_kept f s = λ i. record { modules = modules_kept 0 f.modules s.tables s.blocks i }

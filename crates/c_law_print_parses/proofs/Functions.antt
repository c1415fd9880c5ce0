-- The trees of structs, functions and access rows, each with the words that it spells.
use Rattle.std.proofs.Common.{◌≡◌, ◌<◌, ◌+◌, ◌^◌, ℕ, List, [], ◌∷◌, ◌++◌, length, refl, ap, sym, ◌∙◌, arith, append_assoc, Option, Some, None}
use Rattle.std.specs.Prelude.{Bool, true, false, ◌&&◌, max, codes}
use Rattle.std.specs.List.{list_all, flat_map, enumerate_from}
use Rattle.std.proofs.lemmas.Bool.{and_parts, ltb-true, lt-ltb}
use Rattle.predict.specs.Tree.{Tree}
use Rattle.c_tree.specs.declared.body.CCell.{CCell}
use Rattle.c_tree.specs.declared.file.AccessRow.{AccessRow}
use Rattle.c_tree.specs.declared.file.CArgument.{CArgument}
use Rattle.c_tree.specs.declared.file.CFunction.{CFunction}
use Rattle.c_tree.specs.declared.file.CModule.{CModule}
use Rattle.c_tree.specs.declared.table.FieldRow.{FieldRow}
use Rattle.c_tree.specs.Blocks.{HasBlocks}
use Rattle.c_tree.specs.Spelling.{EachHas, is_unsigned, is_counted, spells_cell, spells_atom, spells_statement, spells_function, spells_flag, spells_access, spells_row}
use Rattle.c_tree.specs.Text.{field_type, field_words, structs_words, atom_words, type_word, argument_words, body_words, function_word, function_words, instance_words, model_words, instance_test_words, flag_words, access_row_words, access_words}
use Rattle.c_tree.specs.Words.{Word, template, word, numbered, array_length, marked, with_commas, cast_words}
use Rattle.c_law_print_parses.proofs.Lefts.{structs_left, fields_left, functions_left, function_or_access_left, arguments_left, more_arguments_left, access_rows_left, instance_test_left, flag_setting_left, instance_left, model_left}
use Rattle.c_raw_build.specs.RowNumbers.{structs_row, fields_row, no_fields_row, functions_row, function_row, access_row, arguments_row, no_arguments_row, more_arguments_row, no_more_arguments_row, access_rows_row, no_access_rows_row, instance_test_row, no_instance_test_row, flag_setting_row, no_flag_setting_row, instance_row, model_row}
use Rattle.c_law_words.proofs.Listed.{row_list, name_list}
use Rattle.c_law_words.proofs.Pieces.{◌▹◌, Writes, Pieces, Shown, flat, fixed, named, part, ◌⋄◌, line, row_tree, row_written}
use Rattle.c_law_words.proofs.Names.{argument_word, module_function_word, inst_word, model_word}
use Rattle.c_law_words.proofs.Names as names
use Rattle.c_law_words.proofs.Strings.{field_row_named}
use Rattle.c_law_print_parses.proofs.Atoms.{type_written, number_part, number_written, cell_part, cell_written, atom_part, atom_written}
use Rattle.c_law_print_parses.proofs.Bodies.{type_part, body_part, body_written}

-- Fields
abbrev pub field_row_pieces : FieldRow → Pieces
field_row_pieces field = type_part (field_type field.integer) ⋄ named 14 field.name ⋄ line (codes ";")

abbrev pub fields_tree : List FieldRow → Tree
fields_tree [] = row_tree no_fields_row (fixed [])
fields_tree (field ∷ fields) = row_tree fields_row (field_row_pieces field ⋄ part fields_left (fields_tree fields) (flat_map field_words fields))

pub fields_written : (fields : List FieldRow) → list_all spells_row fields ≡ true → Writes fields_left (fields_tree fields) (flat_map field_words fields)
unfolding row_list name_list template
fields_written [] h = row_written fields_left no_fields_row (fixed []) refl tt
fields_written (field ∷ fields) h =
    let p = and_parts (spells_row field) (list_all spells_row fields) h in
    row_written fields_left fields_row (field_row_pieces field ⋄ part fields_left (fields_tree fields) (flat_map field_words fields)) refl
    (type_written (field_type field.integer) ▹ field_row_named field.name p.0 ▹ fields_written fields p.1 ▹ tt)

abbrev fields_part : List FieldRow → Pieces
fields_part fields = part fields_left (fields_tree fields) (flat_map field_words fields)

-- Structs
pub array_counted : (n : ℕ) → is_unsigned n ≡ true → is_unsigned (array_length n) ≡ true
array_counted n h =
    let less : n < 2 ^ 32 = ltb-true n (2 ^ 32) h in
    lt-ltb (max n 1) (2 ^ 32) (omega (arith, less))

abbrev pub structs_pieces : ℕ → CModule → Pieces
structs_pieces k m =
    line (codes "typedef struct { uint32_t tag ;") ⋄ fields_part m.model_fields ⋄ line (codes "}") ⋄ named 16 (numbered (codes "model_") k) ⋄ line (codes ";")
    ⋄ line (codes "typedef struct { uint32_t node [") ⋄ number_part (array_length (length m.nodes))
    ⋄ line (codes "] ; double * jr [") ⋄ number_part (array_length (length m.entries))
    ⋄ line (codes "] ; double * jq [") ⋄ number_part (array_length (length m.entries))
    ⋄ line (codes "] ; _Bool col [") ⋄ number_part (array_length (length m.collapse))
    ⋄ line (codes "] ; double temp ;") ⋄ fields_part m.inst_fields ⋄ line (codes "}") ⋄ named 17 (numbered (codes "inst_") k) ⋄ line (codes ";")

abbrev pub structs_tree : ℕ → CModule → Tree
structs_tree k m = row_tree structs_row (structs_pieces k m)

pub structs_shown : (k : ℕ) (m : CModule) → is_unsigned k ≡ true → is_counted m.nodes ≡ true → is_counted m.entries ≡ true → is_counted m.collapse ≡ true
    → list_all spells_row m.model_fields ≡ true → list_all spells_row m.inst_fields ≡ true → Shown (flat (structs_pieces k m))
unfolding template
structs_shown k m u nodes entries collapse model inst =
    let e = number_written (array_length (length m.entries)) (array_counted (length m.entries) entries) in
    (fields_written m.model_fields model ▹ model_word k u
    ▹ number_written (array_length (length m.nodes)) (array_counted (length m.nodes) nodes) ▹ e ▹ e
    ▹ number_written (array_length (length m.collapse)) (array_counted (length m.collapse) collapse)
    ▹ fields_written m.inst_fields inst ▹ inst_word k u ▹ tt)

pub structs_written : (k : ℕ) (m : CModule) → is_unsigned k ≡ true → is_counted m.nodes ≡ true → is_counted m.entries ≡ true → is_counted m.collapse ≡ true
    → list_all spells_row m.model_fields ≡ true → list_all spells_row m.inst_fields ≡ true → Writes structs_left (structs_tree k m) (structs_words k m)
unfolding row_list name_list template structs_words
structs_written k m u nodes entries collapse model inst =
    row_written structs_left structs_row (structs_pieces k m) refl (structs_shown k m u nodes entries collapse model inst)

-- Arguments
abbrev pub argument_pieces : CArgument → Pieces
argument_pieces a = type_part a.ty ⋄ named 13 (numbered (codes "a") a.number)

abbrev pub is_argument : CArgument → Bool
is_argument a = is_unsigned a.number

abbrev pub more_arguments_tree : List CArgument → Tree
more_arguments_tree [] = row_tree no_more_arguments_row (fixed [])
more_arguments_tree (a ∷ args) =
    row_tree more_arguments_row (line (codes ",") ⋄ argument_pieces a ⋄ part more_arguments_left (more_arguments_tree args) (marked (codes ",") argument_words args))

pub more_arguments_written : (args : List CArgument) → list_all is_argument args ≡ true → Writes more_arguments_left (more_arguments_tree args) (marked (codes ",") argument_words args)
unfolding row_list name_list template
more_arguments_written [] h = row_written more_arguments_left no_more_arguments_row (fixed []) refl tt
more_arguments_written (a ∷ args) h =
    let p = and_parts (is_argument a) (list_all is_argument args) h in
    row_written more_arguments_left more_arguments_row (line (codes ",") ⋄ argument_pieces a ⋄ part more_arguments_left (more_arguments_tree args) (marked (codes ",") argument_words args)) refl
    (type_written a.ty ▹ argument_word a.number p.0 ▹ more_arguments_written args p.1 ▹ tt)

abbrev pub arguments_tree : List CArgument → Tree
arguments_tree [] = row_tree no_arguments_row (fixed [])
arguments_tree (a ∷ args) = row_tree arguments_row (argument_pieces a ⋄ part more_arguments_left (more_arguments_tree args) (marked (codes ",") argument_words args))

pub arguments_written : (args : List CArgument) → list_all is_argument args ≡ true → Writes arguments_left (arguments_tree args) (with_commas argument_words args)
unfolding row_list
arguments_written [] h = row_written arguments_left no_arguments_row (fixed []) refl tt
arguments_written (a ∷ args) h =
    let p = and_parts (is_argument a) (list_all is_argument args) h in
    row_written arguments_left arguments_row (argument_pieces a ⋄ part more_arguments_left (more_arguments_tree args) (marked (codes ",") argument_words args)) refl
    (type_written a.ty ▹ argument_word a.number p.0 ▹ more_arguments_written args p.1 ▹ tt)

-- Instance, Model
abbrev pub instance_pieces : ℕ → Pieces
instance_pieces k = named 17 (numbered (codes "inst_") k) ⋄ line (codes "* inst = (") ⋄ named 17 (numbered (codes "inst_") k) ⋄ line (codes "* ) ip ;")

abbrev pub instance_part : ℕ → Pieces
instance_part k = part instance_left (row_tree instance_row (instance_pieces k)) (instance_words k)

pub instance_written : (k : ℕ) → is_unsigned k ≡ true → Writes instance_left (row_tree instance_row (instance_pieces k)) (instance_words k)
unfolding row_list name_list template cast_words
instance_written k u = row_written instance_left instance_row (instance_pieces k) refl (inst_word k u ▹ inst_word k u
    ▹ tt)

abbrev pub model_pieces : ℕ → Pieces
model_pieces k = named 16 (numbered (codes "model_") k) ⋄ line (codes "* model = (") ⋄ named 16 (numbered (codes "model_") k) ⋄ line (codes "* ) mp ;")

abbrev pub model_part : ℕ → Pieces
model_part k = part model_left (row_tree model_row (model_pieces k)) (model_words k)

pub model_written : (k : ℕ) → is_unsigned k ≡ true → Writes model_left (row_tree model_row (model_pieces k)) (model_words k)
unfolding row_list name_list template cast_words
model_written k u = row_written model_left model_row (model_pieces k) refl (model_word k u ▹ model_word k u ▹ tt)

-- InstanceTest
abbrev pub instance_test_tree : Bool → Tree
instance_test_tree true = row_tree instance_test_row (line (codes "&& ( flags & ACCESS_FLAG_INSTANCE )"))
instance_test_tree false = row_tree no_instance_test_row (fixed [])

pub instance_test_written : (b : Bool) → Writes instance_test_left (instance_test_tree b) (instance_test_words b)
unfolding row_list name_list template
instance_test_written true = row_written instance_test_left instance_test_row (line (codes "&& ( flags & ACCESS_FLAG_INSTANCE )")) refl tt
instance_test_written false = row_written instance_test_left no_instance_test_row (fixed []) refl tt

-- FlagSetting
abbrev pub flag_pieces : CCell → Pieces
flag_pieces cell = line (codes "if ( flags & ACCESS_FLAG_SET ) {") ⋄ cell_part cell ⋄ line (codes "= 1 ; }")

abbrev pub flag_tree : Option CCell → Tree
flag_tree None = row_tree no_flag_setting_row (fixed [])
flag_tree (Some cell) = row_tree flag_setting_row (flag_pieces cell)

pub flag_written : (flag : Option CCell) → spells_flag flag ≡ true → Writes flag_setting_left (flag_tree flag) (flag_words flag)
unfolding row_list name_list template
flag_written None h = row_written flag_setting_left no_flag_setting_row (fixed []) refl tt
flag_written (Some cell) h = row_written flag_setting_left flag_setting_row (flag_pieces cell) refl (cell_written cell h, tt)

-- AccessRows
abbrev pub access_pieces : AccessRow → Pieces
access_pieces row =
    line (codes "if ( id ==") ⋄ number_part row.id ⋄ part instance_test_left (instance_test_tree row.instance) (instance_test_words row.instance) ⋄ line (codes ") {")
    ⋄ part flag_setting_left (flag_tree row.flag) (flag_words row.flag) ⋄ line (codes "return &") ⋄ cell_part row.cell ⋄ line (codes "; }")

abbrev pub access_rows_tree : List AccessRow → Tree
access_rows_tree [] = row_tree no_access_rows_row (fixed [])
access_rows_tree (row ∷ rows) = row_tree access_rows_row (access_pieces row ⋄ part access_rows_left (access_rows_tree rows) (flat_map access_row_words rows))

pub access_rows_written : (rows : List AccessRow) → list_all spells_access rows ≡ true → Writes access_rows_left (access_rows_tree rows) (flat_map access_row_words rows)
unfolding row_list name_list template
access_rows_written [] h = row_written access_rows_left no_access_rows_row (fixed []) refl tt
access_rows_written (row ∷ rows) h =
    let p = and_parts (spells_access row) (list_all spells_access rows) h in
    let q = and_parts (is_unsigned row.id && spells_flag row.flag) (spells_cell row.cell) p.0 in
    let r = and_parts (is_unsigned row.id) (spells_flag row.flag) q.0 in
    row_written access_rows_left access_rows_row (access_pieces row ⋄ part access_rows_left (access_rows_tree rows) (flat_map access_row_words rows)) refl
    (number_written row.id r.0 ▹ instance_test_written row.instance ▹ flag_written row.flag r.1
    ▹ cell_written row.cell q.1 ▹ access_rows_written rows p.1 ▹ tt)

-- Functions: the functions of a module and its access function
abbrev pub found_pieces : ℕ → List AccessRow → Pieces
found_pieces k rows =
    line (codes "void *") ⋄ named 18 (numbered (codes "access_") k) ⋄ line (codes "( void * ip , void * mp , uint32_t id , uint32_t flags ) {")
    ⋄ instance_part k ⋄ model_part k ⋄ part access_rows_left (access_rows_tree rows) (flat_map access_row_words rows) ⋄ line (codes "return 0 ; }")

abbrev pub found_words : ℕ → List AccessRow → List Word
found_words k rows =
    template (codes "void *") ++ word (numbered (codes "access_") k) ++ template (codes "( void * ip , void * mp , uint32_t id , uint32_t flags ) {")
    ++ instance_words k ++ model_words k ++ flat_map access_row_words rows ++ template (codes "return 0 ; }")

-- a function or the access function behind `static`
abbrev pub static_pieces : Tree → List Word → Pieces
static_pieces t ws = line (codes "static") ⋄ part function_or_access_left t ws

static_written : (t : Tree) (ws : List Word) → Writes function_or_access_left t ws → Writes functions_left (row_tree functions_row (static_pieces t ws)) (word (codes "static") ++ ws)
unfolding row_list name_list template
static_written t ws w = row_written functions_left functions_row (static_pieces t ws) refl (w, tt)

pub found_written : (k : ℕ) (rows : List AccessRow) → is_unsigned k ≡ true → list_all spells_access rows ≡ true
    → Writes function_or_access_left (row_tree access_row (found_pieces k rows)) (found_words k rows)
unfolding row_list name_list template
found_written k rows u h =
    row_written function_or_access_left access_row (found_pieces k rows) refl
    (names.access_word k u ▹ instance_written k u ▹ model_written k u ▹ access_rows_written rows h ▹ tt)

abbrev pub function_pieces : ℕ → ℕ → CFunction → Tree → List Word → Pieces
function_pieces k j f rest ws =
    type_part f.result ⋄ named 15 (function_word k j) ⋄ line (codes "(") ⋄ part arguments_left (arguments_tree f.arguments) (with_commas argument_words f.arguments)
    ⋄ line (codes ") {") ⋄ body_part k f.body ⋄ line (codes "return") ⋄ atom_part f.value ⋄ line (codes "; }") ⋄ part functions_left rest ws

-- what stands behind the `static` of a function
abbrev pub one_function : ℕ → ℕ → CFunction → List Word
one_function k j f =
    word (type_word f.result) ++ word (function_word k j) ++ word (codes "(") ++ with_commas argument_words f.arguments ++ template (codes ") {")
    ++ body_words k f.body ++ word (codes "return") ++ atom_words f.value ++ template (codes "; }")

function_written : (k j : ℕ) (f : CFunction) (rest : Tree) (ws : List Word) → is_unsigned k ≡ true → is_unsigned j ≡ true → spells_function f ≡ true → HasBlocks f.body
    → Writes functions_left rest ws → Writes function_or_access_left (row_tree function_row (function_pieces k j f rest ws)) (one_function k j f ++ ws)
unfolding row_list name_list template
function_written k j f rest ws u v h has w =
    let p = and_parts (list_all is_argument f.arguments && list_all spells_statement f.body) (spells_atom f.value) h in
    let q = and_parts (list_all is_argument f.arguments) (list_all spells_statement f.body) p.0 in
    row_written function_or_access_left function_row (function_pieces k j f rest ws) refl
    (type_written f.result ▹ module_function_word k j u v ▹ arguments_written f.arguments q.0
    ▹ body_written k f.body u q.1 has ▹ atom_written f.value p.1 ▹ w ▹ tt)

-- the words of functions, numbered from j on, and of the access function behind them
abbrev pub functions_words : ℕ → ℕ → List CFunction → List AccessRow → List Word
functions_words k j [] rows = word (codes "static") ++ found_words k rows
functions_words k j (f ∷ functions) rows = word (codes "static") ++ (one_function k j f ++ functions_words k (j + 1) functions rows)

abbrev pub functions_tree : ℕ → ℕ → List CFunction → List AccessRow → Tree
functions_tree k j [] rows = row_tree functions_row (static_pieces (row_tree access_row (found_pieces k rows)) (found_words k rows))
functions_tree k j (f ∷ functions) rows =
    row_tree functions_row (static_pieces
    (row_tree function_row (function_pieces k j f (functions_tree k (j + 1) functions rows) (functions_words k (j + 1) functions rows)))
    (one_function k j f ++ functions_words k (j + 1) functions rows))

-- a number below a count
pub counted : (i n : ℕ) → is_unsigned (i + n) ≡ true → 0 < n → is_unsigned i ≡ true
counted i n h lt =
    let less : i + n < 2 ^ 32 = ltb-true (i + n) (2 ^ 32) h in
    lt-ltb i (2 ^ 32) (omega (arith, less, lt))

pub next_counted : {T : Type 0} (i : ℕ) (x : T) (xs : List T) → is_unsigned (i + length (x ∷ xs)) ≡ true → (is_unsigned i ≡ true) × (is_unsigned (i + 1 + length xs) ≡ true)
next_counted i x xs h =
    (counted i (length (x ∷ xs)) h (omega arith), ap is_unsigned (let same : i + 1 + length xs ≡ i + length (x ∷ xs) = omega arith in same) ∙ h)

pub functions_written : (k j : ℕ) (functions : List CFunction) (rows : List AccessRow) → is_unsigned k ≡ true → is_unsigned (j + length functions) ≡ true
    → list_all spells_function functions ≡ true → EachHas (λ f. HasBlocks (CFunction.body f)) functions → list_all spells_access rows ≡ true
    → Writes functions_left (functions_tree k j functions rows) (functions_words k j functions rows)
functions_written k j [] rows u c h has a = static_written (row_tree access_row (found_pieces k rows)) (found_words k rows) (found_written k rows u a)
functions_written k j (f ∷ functions) rows u c h has a =
    let p = and_parts (spells_function f) (list_all spells_function functions) h in
    let n = next_counted j f functions c in
    let rest = functions_tree k (j + 1) functions rows in
    let ws = functions_words k (j + 1) functions rows in
    static_written (row_tree function_row (function_pieces k j f rest ws)) (one_function k j f ++ ws)
    (function_written k j f rest ws u n.0 p.0 has.0 (functions_written k (j + 1) functions rows u n.1 p.1 has.1 a))

one_function_is : (k j : ℕ) (f : CFunction) → function_words k j f ≡ word (codes "static") ++ one_function k j f
unfolding function_words template
one_function_is k j f = refl

access_is : (k : ℕ) (m : CModule) → access_words k m ≡ word (codes "static") ++ found_words k m.access
unfolding access_words template
access_is k m = refl

-- these are the words of a module's functions and its access function
pub functions_are : (k j : ℕ) (functions : List CFunction) (m : CModule)
    → functions_words k j functions m.access ≡ flat_map (λ p. function_words k p.0 p.1) (enumerate_from j functions) ++ access_words k m
functions_are k j [] m = sym (access_is k m)
functions_are k j (f ∷ functions) m =
    ap (λ l. word (codes "static") ++ (one_function k j f ++ l)) (functions_are k (j + 1) functions m)
    ∙ ap (λ l. l ++ (flat_map (λ p. function_words k p.0 p.1) (enumerate_from (j + 1) functions) ++ access_words k m)) (sym (one_function_is k j f))
    ∙ sym (append_assoc (function_words k j f) (flat_map (λ p. function_words k p.0 p.1) (enumerate_from (j + 1) functions)) (access_words k m))

-- The trees of the tables, each with the words that it spells. The rows of a table end with its element of zeros.
use Rattle.std.proofs.Common.{◌≡◌, ◌+◌, ℕ, suc, ◌<◌, ◌^◌, List, [], ◌∷◌, ◌++◌, length, refl, ap, sym, ◌∙◌, arith, append_assoc, Option, Some, None}
use Rattle.std.specs.Prelude.{Bool, true, false, ◌&&◌, ◌||◌, nat_lt, codes}
use Rattle.std.specs.List.{list_all, flat_map, enumerate_from}
use Rattle.std.proofs.lemmas.Bool.{and_parts, both_ways, ltb-true, lt-ltb}
use Rattle.predict.specs.Tree.{Tree}
use Rattle.c_tree.specs.declared.body.CField.{CField}
use Rattle.c_tree.specs.declared.body.CField.TheVariants.{Resist, React}
use Rattle.c_tree.specs.declared.file.CModule.{CModule}
use Rattle.c_tree.specs.declared.table.EntryRow.{EntryRow}
use Rattle.c_tree.specs.declared.table.NodeRow.{NodeRow}
use Rattle.c_tree.specs.declared.table.PairRow.{PairRow}
use Rattle.c_tree.specs.declared.table.ParamKind.{ParamKind}
use Rattle.c_tree.specs.declared.table.ParamKind.TheVariants.{Inst, Model as OfModel, Opvar}
use Rattle.c_tree.specs.declared.table.ParamRow.{ParamRow}
use Rattle.c_tree.specs.Spelling.{is_unsigned, is_integer, is_counted, are_bytes, spells_node, spells_entry, spells_second, spells_pair, spells_param}
use Rattle.c_tree.specs.Text.{node_words, second_word, pair_words, react_offset_words, parts_words, entry_words, parameter_type_word, kind_word, alias_count, parameter_words, elements_words, tables_words}
use Rattle.c_tree.specs.Words.{Word, template, word, numbered, unsigned, string_word, marked, with_commas}
use Rattle.c_law_print_parses.proofs.Lefts.{tables_left, node_rows_left, node_row_left, entry_rows_left, entry_row_left, pair_left, second_node_left, react_pointer_left, entry_parts_left, and_react_left, pair_rows_left, pair_row_left, param_rows_left, param_row_left, more_strings_left, param_type_left, param_kind_left}
use Rattle.c_raw_build.specs.RowNumbers.{tables_row, node_rows_row, node_row_row, no_node_row_row, entry_rows_row, entry_row_row, no_entry_row_row, pair_row, second_node_row, no_second_node_row, react_pointer_row, no_react_pointer_row, resist_parts_row, react_part_row, and_react_row, no_and_react_row, pair_rows_row, pair_row_row, no_pair_row_row, param_rows_row, param_row_row, no_param_row_row, more_strings_row, no_more_strings_row, real_param_row, integer_param_row, instance_param_row, model_param_row, opvar_row}
use Rattle.c_law_words.proofs.Listed.{row_list, name_list}
use Rattle.c_law_words.proofs.Pieces.{◌▹◌, Writes, Pieces, Shown, flat, fixed, named, part, ◌⋄◌, line, words, row_tree, row_written}
use Rattle.c_law_words.proofs.Names.{inst_word, nodes_word, entries_word, collapse_word, params_word}
use Rattle.c_law_words.proofs.Strings.{string_named}
use Rattle.c_law_print_parses.proofs.Atoms.{written_as, integer_part, integer_written, number_part, number_written, field_part, field_written}
use Rattle.c_law_print_parses.proofs.Functions.{next_counted}

-- the words of a table's rows, the element of zeros among them
abbrev pub rows_words : {T : Type 0} → (T → List Word) → List T → List Word
rows_words ws elements = flat_map (λ element. ws element ++ word (codes ",")) elements ++ template (codes "{ 0 }")

-- a row before others
pub rows_next : {T : Type 0} (ws : T → List Word) (x : T) (xs : List T) → (ws x ++ word (codes ",")) ++ rows_words ws xs ≡ rows_words ws (x ∷ xs)
rows_next ws x xs = sym (append_assoc (ws x ++ word (codes ",")) (flat_map (λ element. ws element ++ word (codes ",")) xs) (template (codes "{ 0 }")))

-- and the brace behind them
pub rows_close : {T : Type 0} (ws : T → List Word) (xs : List T) → rows_words ws xs ++ template (codes "} ;") ≡ elements_words ws xs
unfolding template
rows_close ws xs = append_assoc (flat_map (λ element. ws element ++ word (codes ",")) xs) (template (codes "{ 0 }")) (template (codes "} ;"))

-- a table without elements
abbrev pub no_rows : (rows none left : ℕ) → Tree
no_rows rows none left = row_tree rows (line (codes "{") ⋄ part left (row_tree none (line (codes "0 }"))) (template (codes "0 }")))

-- a table whose first element these pieces spell
abbrev pub more_rows : (rows row left : ℕ) → Pieces → Tree
more_rows rows row left p = row_tree rows (line (codes "{") ⋄ part left (row_tree row p) (words p))

-- `offsetof ( inst_K , FIELD )`
abbrev offset_pieces : ℕ → CField → Pieces
offset_pieces k field = line (codes "offsetof (") ⋄ named 17 (numbered (codes "inst_") k) ⋄ line (codes ",") ⋄ field_part field ⋄ line (codes ")")

-- NodeRows
abbrev pub node_pieces : ℕ → ℕ → NodeRow → Pieces
node_pieces k i node =
    line (codes ".name =") ⋄ named 7 (string_word node.name) ⋄ line (codes ", .units =") ⋄ named 7 (string_word node.units)
    ⋄ line (codes ", .residual_units =") ⋄ named 7 (string_word node.residual_units)
    ⋄ line (codes ", .resist_residual_off =") ⋄ offset_pieces k (Resist i)
    ⋄ line (codes ", .react_residual_off =") ⋄ offset_pieces k (React i)
    ⋄ line (codes ", .resist_limit_rhs_off = UINT32_MAX , .react_limit_rhs_off = UINT32_MAX , .is_flow =")
    ⋄ integer_part node.is_flow ⋄ line (codes "} ,")

abbrev pub nodes_words : ℕ → ℕ → List NodeRow → List Word
nodes_words k i nodes = rows_words (λ p. node_words k p.0 p.1) (enumerate_from i nodes)

abbrev pub nodes_tree : ℕ → ℕ → List NodeRow → Tree
nodes_tree k i [] = no_rows node_rows_row no_node_row_row node_row_left
nodes_tree k i (node ∷ nodes) =
    more_rows node_rows_row node_row_row node_row_left (node_pieces k i node ⋄ part node_rows_left (nodes_tree k (i + 1) nodes) (nodes_words k (i + 1) nodes))

pub nodes_written : (k i : ℕ) (nodes : List NodeRow) → is_unsigned k ≡ true → is_unsigned (i + length nodes) ≡ true → list_all spells_node nodes ≡ true
    → Writes node_rows_left (nodes_tree k i nodes) (nodes_words k i nodes)
unfolding row_list name_list template node_words
nodes_written k i [] u c h =
    row_written node_rows_left node_rows_row (line (codes "{") ⋄ part node_row_left (row_tree no_node_row_row (line (codes "0 }"))) (template (codes "0 }"))) refl
    (row_written node_row_left no_node_row_row (line (codes "0 }")) refl tt, tt)
nodes_written k i (node ∷ nodes) u c h =
    let p = and_parts (spells_node node) (list_all spells_node nodes) h in
    let q = and_parts (are_bytes node.name && are_bytes node.units && are_bytes node.residual_units) (is_integer node.is_flow) p.0 in
    let r = and_parts (are_bytes node.name && are_bytes node.units) (are_bytes node.residual_units) q.0 in
    let s = and_parts (are_bytes node.name) (are_bytes node.units) r.0 in
    let n = next_counted i node nodes c in
    let pieces = node_pieces k i node ⋄ part node_rows_left (nodes_tree k (i + 1) nodes) (nodes_words k (i + 1) nodes) in
    let one = row_written node_row_left node_row_row pieces refl (string_named node.name s.0
    ▹ string_named node.units s.1 ▹ string_named node.residual_units r.1 ▹ inst_word k u
    ▹ field_written (Resist i) n.0 ▹ inst_word k u ▹ field_written (React i) n.0 ▹ integer_written node.is_flow q.1
    ▹ nodes_written k (i + 1) nodes u n.1 p.1 ▹ tt) in
    row_written node_rows_left node_rows_row (line (codes "{") ⋄ part node_row_left (row_tree node_row_row pieces) (words pieces)) refl (one, tt)

-- Pair
abbrev pub second_tree : Option ℕ → Tree
second_tree None = row_tree no_second_node_row (line (codes "UINT32_MAX"))
second_tree (Some node) = row_tree second_node_row (number_part node)

pub second_written : (second : Option ℕ) → spells_second second ≡ true → Writes second_node_left (second_tree second) (word (second_word second))
unfolding row_list name_list template
second_written None h = row_written second_node_left no_second_node_row (line (codes "UINT32_MAX")) refl tt
second_written (Some node) h = row_written second_node_left second_node_row (number_part node) refl (number_written node h, tt)

abbrev pub pair_pieces : ℕ → Option ℕ → Pieces
pair_pieces first second = line (codes ".node_1 =") ⋄ number_part first ⋄ line (codes ", .node_2 =") ⋄ part second_node_left (second_tree second) (word (second_word second))

pub pair_written : (first : ℕ) (second : Option ℕ) → is_unsigned first ≡ true → spells_second second ≡ true
    → Writes pair_left (row_tree pair_row (pair_pieces first second)) (words (pair_pieces first second))
unfolding row_list name_list template
pair_written first second h g = row_written pair_left pair_row (pair_pieces first second) refl (number_written first h
    ▹ second_written second g ▹ tt)

abbrev pub pair_part : ℕ → Option ℕ → Pieces
pair_part first second = part pair_left (row_tree pair_row (pair_pieces first second)) (words (pair_pieces first second))

-- PairRows
abbrev pub pairs_tree : List PairRow → Tree
pairs_tree [] = no_rows pair_rows_row no_pair_row_row pair_row_left
pairs_tree (pair ∷ pairs) =
    more_rows pair_rows_row pair_row_row pair_row_left (pair_part pair.first pair.second ⋄ line (codes "} ,") ⋄ part pair_rows_left (pairs_tree pairs) (rows_words pair_words pairs))

pub pairs_written : (pairs : List PairRow) → list_all spells_pair pairs ≡ true → Writes pair_rows_left (pairs_tree pairs) (rows_words pair_words pairs)
unfolding row_list name_list template
pairs_written [] h =
    row_written pair_rows_left pair_rows_row (line (codes "{") ⋄ part pair_row_left (row_tree no_pair_row_row (line (codes "0 }"))) (template (codes "0 }"))) refl
    (row_written pair_row_left no_pair_row_row (line (codes "0 }")) refl tt, tt)
pairs_written (pair ∷ pairs) h =
    let p = and_parts (spells_pair pair) (list_all spells_pair pairs) h in
    let q = and_parts (is_unsigned pair.first) (spells_second pair.second) p.0 in
    let pieces = pair_part pair.first pair.second ⋄ line (codes "} ,") ⋄ part pair_rows_left (pairs_tree pairs) (rows_words pair_words pairs) in
    let one = row_written pair_row_left pair_row_row pieces refl (pair_written pair.first pair.second q.0 q.1
    ▹ pairs_written pairs p.1 ▹ tt) in
    row_written pair_rows_left pair_rows_row (line (codes "{") ⋄ part pair_row_left (row_tree pair_row_row pieces) (words pieces)) refl (one, tt)

-- ReactPointer
abbrev pub pointer_pieces : ℕ → ℕ → Pieces
pointer_pieces k e = line (codes "offsetof (") ⋄ named 17 (numbered (codes "inst_") k) ⋄ line (codes ", jq [") ⋄ number_part e ⋄ line (codes "] )")

abbrev pub pointer_tree : ℕ → ℕ → Bool → Tree
pointer_tree k e false = row_tree no_react_pointer_row (line (codes "UINT32_MAX"))
pointer_tree k e true = row_tree react_pointer_row (pointer_pieces k e)

pub pointer_written : (k e : ℕ) (react : Bool) → is_unsigned k ≡ true → is_unsigned e ≡ true → Writes react_pointer_left (pointer_tree k e react) (react_offset_words k e react)
unfolding row_list name_list template
pointer_written k e false u h = row_written react_pointer_left no_react_pointer_row (line (codes "UINT32_MAX")) refl tt
pointer_written k e true u h = row_written react_pointer_left react_pointer_row (pointer_pieces k e) refl (inst_word k u
    ▹ number_written e h ▹ tt)

-- EntryParts
abbrev pub and_react_tree : Bool → Tree
and_react_tree true = row_tree and_react_row (line (codes "| JACOBIAN_ENTRY_REACT"))
and_react_tree false = row_tree no_and_react_row (fixed [])

abbrev and_react_words : Bool → List Word
and_react_words true = template (codes "| JACOBIAN_ENTRY_REACT")
and_react_words false = []

and_react_written : (react : Bool) → Writes and_react_left (and_react_tree react) (and_react_words react)
unfolding row_list name_list template
and_react_written true = row_written and_react_left and_react_row (line (codes "| JACOBIAN_ENTRY_REACT")) refl tt
and_react_written false = row_written and_react_left no_and_react_row (fixed []) refl tt

abbrev resist_pieces : Bool → Pieces
resist_pieces react = line (codes "JACOBIAN_ENTRY_RESIST") ⋄ part and_react_left (and_react_tree react) (and_react_words react)

abbrev pub parts_tree : (resist react : Bool) → Tree
parts_tree true react = row_tree resist_parts_row (resist_pieces react)
parts_tree false react = row_tree react_part_row (line (codes "JACOBIAN_ENTRY_REACT"))

pub parts_written : (resist react : Bool) → (resist || react) ≡ true → Writes entry_parts_left (parts_tree resist react) (parts_words resist react)
unfolding row_list name_list template
parts_written true true h = row_written entry_parts_left resist_parts_row (resist_pieces true) refl (and_react_written true, tt)
parts_written true false h = row_written entry_parts_left resist_parts_row (resist_pieces false) refl (and_react_written false, tt)
parts_written false true h = row_written entry_parts_left react_part_row (line (codes "JACOBIAN_ENTRY_REACT")) refl tt
parts_written false false h = absurd (both_ways false refl h)

-- EntryRows
abbrev pub entry_pieces : ℕ → ℕ → EntryRow → Pieces
entry_pieces k e entry =
    line (codes ".nodes = {") ⋄ pair_part entry.row (Some entry.col) ⋄ line (codes "} , .react_ptr_off =")
    ⋄ part react_pointer_left (pointer_tree k e entry.react) (react_offset_words k e entry.react) ⋄ line (codes ", .flags =")
    ⋄ part entry_parts_left (parts_tree entry.resist entry.react) (parts_words entry.resist entry.react) ⋄ line (codes "}") ⋄ line (codes ",")

abbrev pub entries_words : ℕ → ℕ → List EntryRow → List Word
entries_words k e entries = rows_words (λ p. entry_words k p.0 p.1) (enumerate_from e entries)

abbrev pub entries_tree : ℕ → ℕ → List EntryRow → Tree
entries_tree k e [] = no_rows entry_rows_row no_entry_row_row entry_row_left
entries_tree k e (entry ∷ entries) =
    more_rows entry_rows_row entry_row_row entry_row_left (entry_pieces k e entry ⋄ part entry_rows_left (entries_tree k (e + 1) entries) (entries_words k (e + 1) entries))

pub entries_written : (k e : ℕ) (entries : List EntryRow) → is_unsigned k ≡ true → is_unsigned (e + length entries) ≡ true → list_all spells_entry entries ≡ true
    → Writes entry_rows_left (entries_tree k e entries) (entries_words k e entries)
unfolding row_list name_list template entry_words
entries_written k e [] u c h =
    row_written entry_rows_left entry_rows_row (line (codes "{") ⋄ part entry_row_left (row_tree no_entry_row_row (line (codes "0 }"))) (template (codes "0 }"))) refl
    (row_written entry_row_left no_entry_row_row (line (codes "0 }")) refl tt, tt)
entries_written k e (entry ∷ entries) u c h =
    let p = and_parts (spells_entry entry) (list_all spells_entry entries) h in
    let q = and_parts (is_unsigned entry.row && is_unsigned entry.col) (entry.resist || entry.react) p.0 in
    let r = and_parts (is_unsigned entry.row) (is_unsigned entry.col) q.0 in
    let n = next_counted e entry entries c in
    let pieces = entry_pieces k e entry ⋄ part entry_rows_left (entries_tree k (e + 1) entries) (entries_words k (e + 1) entries) in
    let one = row_written entry_row_left entry_row_row pieces refl (pair_written entry.row (Some entry.col) r.0 r.1
    ▹ pointer_written k e entry.react u n.0 ▹ parts_written entry.resist entry.react q.1
    ▹ entries_written k (e + 1) entries u n.1 p.1 ▹ tt) in
    written_as (row_written entry_rows_left entry_rows_row (line (codes "{") ⋄ part entry_row_left (row_tree entry_row_row pieces) (words pieces)) refl (one, tt))
    (rows_next (λ q. entry_words k q.0 q.1) (e, entry) (enumerate_from (e + 1) entries))

-- MoreStrings
abbrev pub named_words : List ℕ → List Word
named_words name = word (string_word name)

abbrev pub more_strings_tree : List (List ℕ) → Tree
more_strings_tree [] = row_tree no_more_strings_row (fixed [])
more_strings_tree (name ∷ names) =
    row_tree more_strings_row (line (codes ",") ⋄ named 7 (string_word name) ⋄ part more_strings_left (more_strings_tree names) (marked (codes ",") named_words names))

pub more_strings_written : (names : List (List ℕ)) → list_all are_bytes names ≡ true → Writes more_strings_left (more_strings_tree names) (marked (codes ",") named_words names)
unfolding row_list name_list template
more_strings_written [] h = row_written more_strings_left no_more_strings_row (fixed []) refl tt
more_strings_written (name ∷ names) h =
    let p = and_parts (are_bytes name) (list_all are_bytes names) h in
    row_written more_strings_left more_strings_row (line (codes ",") ⋄ named 7 (string_word name) ⋄ part more_strings_left (more_strings_tree names) (marked (codes ",") named_words names)) refl
    (string_named name p.0 ▹ more_strings_written names p.1 ▹ tt)

-- ParamType, ParamKind
abbrev pub param_type_tree : Bool → Tree
param_type_tree true = row_tree integer_param_row (line (codes "PARA_TY_INT"))
param_type_tree false = row_tree real_param_row (line (codes "PARA_TY_REAL"))

pub param_type_written : (integer : Bool) → Writes param_type_left (param_type_tree integer) (word (parameter_type_word integer))
unfolding row_list name_list template
param_type_written true = row_written param_type_left integer_param_row (line (codes "PARA_TY_INT")) refl tt
param_type_written false = row_written param_type_left real_param_row (line (codes "PARA_TY_REAL")) refl tt

abbrev pub param_kind_tree : ParamKind → Tree
param_kind_tree Inst = row_tree instance_param_row (line (codes "PARA_KIND_INST"))
param_kind_tree OfModel = row_tree model_param_row (line (codes "PARA_KIND_MODEL"))
param_kind_tree Opvar = row_tree opvar_row (line (codes "PARA_KIND_OPVAR"))

pub param_kind_written : (kind : ParamKind) → Writes param_kind_left (param_kind_tree kind) (word (kind_word kind))
unfolding row_list name_list template
param_kind_written Inst = row_written param_kind_left instance_param_row (line (codes "PARA_KIND_INST")) refl tt
param_kind_written OfModel = row_written param_kind_left model_param_row (line (codes "PARA_KIND_MODEL")) refl tt
param_kind_written Opvar = row_written param_kind_left opvar_row (line (codes "PARA_KIND_OPVAR")) refl tt

-- ParamRows: what stands behind the first name of a parameter
abbrev names_pieces : List (List ℕ) → Pieces
names_pieces [] = fixed []
names_pieces (name ∷ names) = named 7 (string_word name) ⋄ part more_strings_left (more_strings_tree names) (marked (codes ",") named_words names)

abbrev pub param_pieces : List (List ℕ) → List ℕ → List ℕ → Bool → ParamKind → Pieces
param_pieces names description units integer kind =
    line (codes ".name = ( char * [ ] ) {") ⋄ names_pieces names ⋄ line (codes "} , .num_alias =") ⋄ number_part (alias_count names)
    ⋄ line (codes ", .description =") ⋄ named 7 (string_word description) ⋄ line (codes ", .units =") ⋄ named 7 (string_word units)
    ⋄ line (codes ", .flags =") ⋄ part param_type_left (param_type_tree integer) (word (parameter_type_word integer)) ⋄ line (codes "|")
    ⋄ part param_kind_left (param_kind_tree kind) (word (kind_word kind)) ⋄ line (codes ", .len = 0u }") ⋄ line (codes ",")

abbrev pub param_words : List (List ℕ) → List ℕ → List ℕ → Bool → ParamKind → List Word
param_words names description units integer kind =
    template (codes "{ .name = ( char * [ ] ) {") ++ with_commas named_words names
    ++ template (codes "} , .num_alias =") ++ word (unsigned (alias_count names))
    ++ template (codes ", .description =") ++ word (string_word description)
    ++ template (codes ", .units =") ++ word (string_word units)
    ++ template (codes ", .flags =") ++ word (parameter_type_word integer) ++ word (codes "|") ++ word (kind_word kind)
    ++ template (codes ", .len = 0u }")

abbrev pub param_tree : List (List ℕ) → List ℕ → List ℕ → Bool → ParamKind → Tree → List Word → Tree
param_tree names description units integer kind rest ws =
    more_rows param_rows_row param_row_row param_row_left (param_pieces names description units integer kind ⋄ part param_rows_left rest ws)

abbrev pub params_tree : List ParamRow → Tree
params_tree [] = no_rows param_rows_row no_param_row_row param_row_left
params_tree (p ∷ params) = param_tree p.names p.description p.units p.integer p.kind (params_tree params) (rows_words parameter_words params)

pub aliases_counted : (name : List ℕ) (names : List (List ℕ)) → is_counted (name ∷ names) ≡ true → is_unsigned (length names) ≡ true
aliases_counted name names h =
    let less : suc (length names) < 2 ^ 32 = ltb-true (suc (length names)) (2 ^ 32) h in
    lt-ltb (length names) (2 ^ 32) (omega (arith, less))

param_written : (names : List (List ℕ)) (description units : List ℕ) (integer : Bool) (kind : ParamKind) (rest : Tree) (ws : List Word)
    → nat_lt 0 (length names) ≡ true → is_counted names ≡ true → list_all are_bytes names ≡ true → are_bytes description ≡ true → are_bytes units ≡ true
    → Writes param_rows_left rest ws
    → Writes param_rows_left (param_tree names description units integer kind rest ws) ((param_words names description units integer kind ++ word (codes ",")) ++ ws)
unfolding row_list name_list template
param_written [] description units integer kind rest ws some c h d g w = absurd (both_ways false refl some)
param_written (name ∷ names) description units integer kind rest ws some c h d g w =
    let p = and_parts (are_bytes name) (list_all are_bytes names) h in
    let pieces = param_pieces (name ∷ names) description units integer kind ⋄ part param_rows_left rest ws in
    let one = row_written param_row_left param_row_row pieces refl (string_named name p.0
    ▹ more_strings_written names p.1 ▹ number_written (length names) (aliases_counted name names c)
    ▹ string_named description d ▹ string_named units g ▹ param_type_written integer ▹ param_kind_written kind ▹ w
    ▹ tt) in
    row_written param_rows_left param_rows_row (line (codes "{") ⋄ part param_row_left (row_tree param_row_row pieces) (words pieces)) refl (one, tt)

pub parameter_is : (p : ParamRow) → parameter_words p ≡ param_words p.names p.description p.units p.integer p.kind
unfolding parameter_words
parameter_is p = refl

params_none : Writes param_rows_left (params_tree []) (rows_words parameter_words [])
unfolding row_list name_list template
params_none =
    row_written param_rows_left param_rows_row (line (codes "{") ⋄ part param_row_left (row_tree no_param_row_row (line (codes "0 }"))) (template (codes "0 }"))) refl
    (row_written param_row_left no_param_row_row (line (codes "0 }")) refl tt, tt)

pub params_written : (params : List ParamRow) → list_all spells_param params ≡ true → Writes param_rows_left (params_tree params) (rows_words parameter_words params)
params_written [] h = params_none
params_written (p ∷ params) h =
    let a = and_parts (spells_param p) (list_all spells_param params) h in
    let b = and_parts (nat_lt 0 (length p.names) && is_counted p.names && list_all are_bytes p.names && are_bytes p.description) (are_bytes p.units) a.0 in
    let c = and_parts (nat_lt 0 (length p.names) && is_counted p.names && list_all are_bytes p.names) (are_bytes p.description) b.0 in
    let d = and_parts (nat_lt 0 (length p.names) && is_counted p.names) (list_all are_bytes p.names) c.0 in
    let e = and_parts (nat_lt 0 (length p.names)) (is_counted p.names) d.0 in
    let rest = rows_words parameter_words params in
    written_as (param_written p.names p.description p.units p.integer p.kind (params_tree params) rest e.0 e.1 d.1 c.1 b.1 (params_written params a.1))
    (ap (λ l. (l ++ word (codes ",")) ++ rest) (sym (parameter_is p)) ∙ rows_next parameter_words p params)

-- Tables
abbrev pub table_pieces : ℕ → CModule → Pieces
table_pieces k m =
    line (codes "OsdiNode") ⋄ named 29 (numbered (codes "nodes_") k) ⋄ line (codes "[ ] = {")
    ⋄ (part node_rows_left (nodes_tree k 0 m.nodes) (nodes_words k 0 m.nodes) ⋄ line (codes "} ;"))
    ⋄ line (codes "OsdiJacobianEntry") ⋄ named 30 (numbered (codes "entries_") k) ⋄ line (codes "[ ] = {")
    ⋄ (part entry_rows_left (entries_tree k 0 m.entries) (entries_words k 0 m.entries) ⋄ line (codes "} ;"))
    ⋄ line (codes "OsdiNodePair") ⋄ named 31 (numbered (codes "collapse_") k) ⋄ line (codes "[ ] = {")
    ⋄ (part pair_rows_left (pairs_tree m.collapse) (rows_words pair_words m.collapse) ⋄ line (codes "} ;"))
    ⋄ line (codes "OsdiParamOpvar") ⋄ named 32 (numbered (codes "params_") k) ⋄ line (codes "[ ] = {")
    ⋄ (part param_rows_left (params_tree m.params) (rows_words parameter_words m.params) ⋄ line (codes "} ;"))

abbrev pub tables_tree : ℕ → CModule → Tree
tables_tree k m = row_tree tables_row (table_pieces k m)

-- four tables with what stands before each
abbrev four_tables : ℕ → (nodes entries pairs params : List Word) → List Word
four_tables k nodes entries pairs params =
    word (codes "OsdiNode") ++ word (numbered (codes "nodes_") k) ++ template (codes "[ ] = {") ++ nodes
    ++ word (codes "OsdiJacobianEntry") ++ word (numbered (codes "entries_") k) ++ template (codes "[ ] = {") ++ entries
    ++ word (codes "OsdiNodePair") ++ word (numbered (codes "collapse_") k) ++ template (codes "[ ] = {") ++ pairs
    ++ word (codes "OsdiParamOpvar") ++ word (numbered (codes "params_") k) ++ template (codes "[ ] = {") ++ params

pub tables_are : (k : ℕ) (m : CModule)
    → four_tables k (nodes_words k 0 m.nodes ++ template (codes "} ;")) (entries_words k 0 m.entries ++ template (codes "} ;"))
    (rows_words pair_words m.collapse ++ template (codes "} ;")) (rows_words parameter_words m.params ++ template (codes "} ;"))
    ≡ tables_words k m
unfolding tables_words
tables_are k m =
    λ i. four_tables k (rows_close (λ p. node_words k p.0 p.1) (enumerate_from 0 m.nodes) i) (rows_close (λ p. entry_words k p.0 p.1) (enumerate_from 0 m.entries) i)
    (rows_close pair_words m.collapse i) (rows_close parameter_words m.params i)

pub from_zero : (n : ℕ) → is_unsigned n ≡ true → is_unsigned (0 + n) ≡ true
from_zero n h = ap is_unsigned (let same : 0 + n ≡ n = omega arith in same) ∙ h

pub four_shown : (k : ℕ) (m : CModule) → is_unsigned k ≡ true → is_counted m.nodes ≡ true → list_all spells_node m.nodes ≡ true
    → is_counted m.entries ≡ true → list_all spells_entry m.entries ≡ true → list_all spells_pair m.collapse ≡ true → list_all spells_param m.params ≡ true
    → Shown (flat (table_pieces k m))
unfolding template
four_shown k m u cn n ce e c p =
    (nodes_word k u ▹ nodes_written k 0 m.nodes u (from_zero (length m.nodes) cn) n ▹ entries_word k u
    ▹ entries_written k 0 m.entries u (from_zero (length m.entries) ce) e ▹ collapse_word k u
    ▹ pairs_written m.collapse c ▹ params_word k u ▹ params_written m.params p ▹ tt)

pub tables_written : (k : ℕ) (m : CModule) → is_unsigned k ≡ true → is_counted m.nodes ≡ true → list_all spells_node m.nodes ≡ true
    → is_counted m.entries ≡ true → list_all spells_entry m.entries ≡ true → list_all spells_pair m.collapse ≡ true → list_all spells_param m.params ≡ true
    → Writes tables_left (tables_tree k m) (tables_words k m)
unfolding row_list name_list tables_words template
tables_written k m u cn n ce e c p =
    written_as (row_written tables_left tables_row (table_pieces k m) refl (four_shown k m u cn n ce e c p)) (tables_are k m)

-- The trees of descriptors, modules and files, each with the words that it spells.
use Rattle.std.proofs.Common.{◌≡◌, ◌<◌, ◌≤◌, ◌+◌, ◌^◌, ℕ, suc, List, [], ◌∷◌, ◌++◌, length, refl, ap, sym, ◌∙◌, arith, append_assoc}
use Rattle.std.specs.Prelude.{Bool, true, false, ◌&&◌, if◌then◌else◌, codes}
use Rattle.std.specs.List.{list_all, flat_map, enumerate_from}
use Rattle.std.proofs.lemmas.Bool.{and_parts, ltb-true, lt-ltb}
use Rattle.predict.specs.Tree.{Tree}
use Rattle.c_tree.specs.declared.file.CFile.{CFile}
use Rattle.c_tree.specs.declared.file.CModule.{CModule}
use Rattle.c_tree.specs.declared.table.ParamKind.{ParamKind}
use Rattle.c_tree.specs.declared.table.ParamRow.{ParamRow}
use Rattle.c_tree.specs.Spelling.{EachHas, HaveBlocks, CanBeSpelled, is_unsigned, is_counted, are_bytes, spells_statement, spells_function, spells_access, spells_load, spells_node, spells_entry, spells_pair, spells_param, spells_row, spells_tables, spells_bodies}
use Rattle.c_tree.specs.Text.{help_words, structs_words, function_words, access_words, setup_model_words, setup_instance_words, eval_words, load_functions, loads_of, loads_words, tables_words, module_words, count_kinds, is_instance_kind, is_parameter_kind, is_opvar_kind, descriptor_words, end_words, words_of}
use Rattle.c_tree.specs.Words.{Word, template, word, numbered, unsigned, string_word, include_words}
use Rattle.c_law_print_parses.proofs.Lefts.{file_left, help_left, modules_left, module_left, structs_left, functions_left, setup_model_left, setup_instance_left, eval_left, loads_left, tables_left, exports_left, descriptors_left, descriptor_left}
use Rattle.c_raw_build.specs.RowNumbers.{file_row, help_row, modules_row, no_modules_row, module_row, exports_row, descriptors_row, descriptor_row, no_descriptor_row}
use Rattle.c_law_words.proofs.Listed.{row_list, name_list}
use Rattle.c_law_words.proofs.Pieces.{◌▹◌, IsWord, Writes, Pieces, Shown, flat, fixed, named, part, ◌⋄◌, line, words, row_tree, row_written}
use Rattle.c_law_words.proofs.Names.{looked_at, model_word, inst_word, access_word, setup_model_word, setup_instance_word, eval_word, nodes_word, entries_word, collapse_word, params_word, residual_resist_word, residual_react_word, jacobian_resist_word, jacobian_react_word, jacobian_tran_word, spice_rhs_dc_word, spice_rhs_tran_word}
use Rattle.c_law_words.proofs.Strings.{string_named}
use Rattle.c_law_print_parses.proofs.Atoms.{written_as, number_part, number_written}
use Rattle.c_law_print_parses.proofs.Functions.{structs_tree, structs_written, functions_tree, functions_words, functions_written, functions_are, next_counted}
use Rattle.c_law_print_parses.proofs.Loads.{setup_model_tree, setup_model_written, setup_instance_tree, setup_instance_written, eval_tree, eval_written, loads_tree, loads_written}
use Rattle.c_law_print_parses.proofs.Tables.{rows_words, rows_close, no_rows, more_rows, tables_tree, tables_written}

-- Descriptors
abbrev counts_pieces : ℕ → CModule → Pieces
counts_pieces k m =
    line (codes ".name =") ⋄ named 7 (string_word m.name) ⋄ line (codes ", .num_nodes =") ⋄ number_part (length m.nodes)
    ⋄ line (codes ", .num_terminals =") ⋄ number_part m.ports ⋄ line (codes ", .nodes =") ⋄ named 29 (numbered (codes "nodes_") k)
    ⋄ line (codes ", .num_jacobian_entries =") ⋄ number_part (length m.entries) ⋄ line (codes ", .jacobian_entries =") ⋄ named 30 (numbered (codes "entries_") k)
    ⋄ line (codes ", .num_collapsible =") ⋄ number_part (length m.collapse) ⋄ line (codes ", .collapsible =") ⋄ named 31 (numbered (codes "collapse_") k)

abbrev parameters_pieces : ℕ → CModule → Pieces
parameters_pieces k m =
    line (codes ", .collapsed_offset = offsetof (") ⋄ named 17 (numbered (codes "inst_") k)
    ⋄ line (codes ", col ) , .noise_sources = 0 , .num_noise_src = 0u , .num_params =") ⋄ number_part (count_kinds is_parameter_kind m.params)
    ⋄ line (codes ", .num_instance_params =") ⋄ number_part (count_kinds is_instance_kind m.params)
    ⋄ line (codes ", .num_opvars =") ⋄ number_part (count_kinds is_opvar_kind m.params) ⋄ line (codes ", .param_opvar =") ⋄ named 32 (numbered (codes "params_") k)

abbrev offsets_pieces : ℕ → Pieces
offsets_pieces k =
    line (codes ", .node_mapping_offset = offsetof (") ⋄ named 17 (numbered (codes "inst_") k)
    ⋄ line (codes ", node ) , .jacobian_ptr_resist_offset = offsetof (") ⋄ named 17 (numbered (codes "inst_") k)
    ⋄ line (codes ", jr ) , .num_states = 0u , .state_idx_off = 0u , .bound_step_offset = UINT32_MAX , .instance_size = sizeof (")
    ⋄ named 17 (numbered (codes "inst_") k) ⋄ line (codes ") , .model_size = sizeof (") ⋄ named 16 (numbered (codes "model_") k) ⋄ line (codes ")")

abbrev calls_pieces : ℕ → Pieces
calls_pieces k =
    line (codes ", .access =") ⋄ named 18 (numbered (codes "access_") k) ⋄ line (codes ", .setup_model =") ⋄ named 19 (numbered (codes "setup_model_") k)
    ⋄ line (codes ", .setup_instance =") ⋄ named 20 (numbered (codes "setup_instance_") k) ⋄ line (codes ", .eval =") ⋄ named 21 (numbered (codes "eval_") k)
    ⋄ line (codes ", .load_noise = 0 , .load_limit_rhs_resist = load_nothing , .load_limit_rhs_react = load_nothing")
    ⋄ line (codes ", .load_residual_resist =") ⋄ named 22 (numbered (codes "load_residual_resist_") k)
    ⋄ line (codes ", .load_residual_react =") ⋄ named 23 (numbered (codes "load_residual_react_") k)
    ⋄ line (codes ", .load_jacobian_resist =") ⋄ named 24 (numbered (codes "load_jacobian_resist_") k)
    ⋄ line (codes ", .load_jacobian_react =") ⋄ named 25 (numbered (codes "load_jacobian_react_") k)
    ⋄ line (codes ", .load_jacobian_tran =") ⋄ named 26 (numbered (codes "load_jacobian_tran_") k)
    ⋄ line (codes ", .load_spice_rhs_dc =") ⋄ named 27 (numbered (codes "load_spice_rhs_dc_") k)
    ⋄ line (codes ", .load_spice_rhs_tran =") ⋄ named 28 (numbered (codes "load_spice_rhs_tran_") k)

abbrev pub descriptor_pieces : ℕ → CModule → Pieces
descriptor_pieces k m = counts_pieces k m ⋄ parameters_pieces k m ⋄ offsets_pieces k ⋄ calls_pieces k ⋄ line (codes "} ,")

abbrev pub descriptors_words : ℕ → List CModule → List Word
descriptors_words k modules = rows_words (λ p. descriptor_words p.0 p.1) (enumerate_from k modules)

abbrev pub descriptors_tree : ℕ → List CModule → Tree
descriptors_tree k [] = no_rows descriptors_row no_descriptor_row descriptor_left
descriptors_tree k (m ∷ modules) =
    more_rows descriptors_row descriptor_row descriptor_left (descriptor_pieces k m ⋄ part descriptors_left (descriptors_tree (k + 1) modules) (descriptors_words (k + 1) modules))

-- a count of rows
count_step : (b : Bool) (n length_is : ℕ) → n ≤ length_is → (if b then n + 1 else n) ≤ suc length_is
count_step true n l h = omega (arith, h)
count_step false n l h = omega (arith, h)

count_few : (passes : ParamKind → Bool) (rows : List ParamRow) → count_kinds passes rows ≤ length rows
count_few passes [] = omega arith
count_few passes (row ∷ rows) = count_step (passes row.kind) (count_kinds passes rows) (length rows) (count_few passes rows)

pub kinds_counted : (passes : ParamKind → Bool) (rows : List ParamRow) → is_counted rows ≡ true → is_unsigned (count_kinds passes rows) ≡ true
kinds_counted passes rows h =
    let less : length rows < 2 ^ 32 = ltb-true (length rows) (2 ^ 32) h in
    let few = count_few passes rows in
    lt-ltb (count_kinds passes rows) (2 ^ 32) (omega (arith, less, few))

-- what can be spelled of a module's tables
pub record TablesSpelled (m : CModule) : Type 0 where
  pub name : are_bytes m.name ≡ true
  pub ports : is_unsigned m.ports ≡ true
  pub nodes_counted : is_counted m.nodes ≡ true
  pub nodes : list_all spells_node m.nodes ≡ true
  pub entries_counted : is_counted m.entries ≡ true
  pub entries : list_all spells_entry m.entries ≡ true
  pub collapse_counted : is_counted m.collapse ≡ true
  pub collapse : list_all spells_pair m.collapse ≡ true
  pub params_counted : is_counted m.params ≡ true
  pub params : list_all spells_param m.params ≡ true
  pub model_fields : list_all spells_row m.model_fields ≡ true
  pub inst_fields : list_all spells_row m.inst_fields ≡ true

pub tables_spelled : (m : CModule) → spells_tables m ≡ true → TablesSpelled m
tables_spelled m h =
    let ports = are_bytes m.name && is_unsigned m.ports in
    let nodes = ports && is_counted m.nodes && list_all spells_node m.nodes in
    let entries = nodes && is_counted m.entries && list_all spells_entry m.entries in
    let collapse = entries && is_counted m.collapse && list_all spells_pair m.collapse in
    let params = collapse && is_counted m.params && list_all spells_param m.params in
    let a = and_parts (params && list_all spells_row m.model_fields) (list_all spells_row m.inst_fields) h in
    let b = and_parts params (list_all spells_row m.model_fields) a.0 in
    let c = and_parts (collapse && is_counted m.params) (list_all spells_param m.params) b.0 in
    let d = and_parts collapse (is_counted m.params) c.0 in
    let e = and_parts (entries && is_counted m.collapse) (list_all spells_pair m.collapse) d.0 in
    let f = and_parts entries (is_counted m.collapse) e.0 in
    let g = and_parts (nodes && is_counted m.entries) (list_all spells_entry m.entries) f.0 in
    let i = and_parts nodes (is_counted m.entries) g.0 in
    let j = and_parts (ports && is_counted m.nodes) (list_all spells_node m.nodes) i.0 in
    let k = and_parts ports (is_counted m.nodes) j.0 in
    let l = and_parts (are_bytes m.name) (is_unsigned m.ports) k.0 in
    record {
      name = l.0;
      ports = l.1;
      nodes_counted = k.1;
      nodes = j.1;
      entries_counted = i.1;
      entries = g.1;
      collapse_counted = f.1;
      collapse = e.1;
      params_counted = d.1;
      params = c.1;
      model_fields = b.1;
      inst_fields = a.1;
    }

pub descriptor_shown : (k : ℕ) (m : CModule) (rest : Tree) (ws : List Word) → is_unsigned k ≡ true → TablesSpelled m → Writes descriptors_left rest ws
    → Shown (flat (descriptor_pieces k m ⋄ part descriptors_left rest ws))
unfolding template
descriptor_shown k m rest ws u s w =
    (string_named m.name s.name ▹ number_written (length m.nodes) s.nodes_counted ▹ number_written m.ports s.ports
    ▹ nodes_word k u ▹ number_written (length m.entries) s.entries_counted ▹ entries_word k u
    ▹ number_written (length m.collapse) s.collapse_counted ▹ collapse_word k u ▹ inst_word k u
    ▹ number_written (count_kinds is_parameter_kind m.params) (kinds_counted is_parameter_kind m.params s.params_counted)
    ▹ number_written (count_kinds is_instance_kind m.params) (kinds_counted is_instance_kind m.params s.params_counted)
    ▹ number_written (count_kinds is_opvar_kind m.params) (kinds_counted is_opvar_kind m.params s.params_counted)
    ▹ params_word k u ▹ inst_word k u ▹ inst_word k u ▹ inst_word k u ▹ model_word k u ▹ access_word k u
    ▹ setup_model_word k u ▹ setup_instance_word k u ▹ eval_word k u ▹ residual_resist_word k u
    ▹ residual_react_word k u ▹ jacobian_resist_word k u ▹ jacobian_react_word k u ▹ jacobian_tran_word k u
    ▹ spice_rhs_dc_word k u ▹ spice_rhs_tran_word k u ▹ w ▹ tt)

descriptor_written : (k : ℕ) (m : CModule) (rest : Tree) (ws : List Word) → is_unsigned k ≡ true → TablesSpelled m → Writes descriptors_left rest ws
    → Writes descriptor_left (row_tree descriptor_row (descriptor_pieces k m ⋄ part descriptors_left rest ws)) (words (descriptor_pieces k m ⋄ part descriptors_left rest ws))
unfolding row_list name_list template
descriptor_written k m rest ws u s w =
    row_written descriptor_left descriptor_row (descriptor_pieces k m ⋄ part descriptors_left rest ws) refl (descriptor_shown k m rest ws u s w)

descriptors_next : (k : ℕ) (m : CModule) (rest : Tree) (modules : List CModule)
    → Writes descriptor_left (row_tree descriptor_row (descriptor_pieces k m ⋄ part descriptors_left rest (descriptors_words (k + 1) modules)))
    (words (descriptor_pieces k m ⋄ part descriptors_left rest (descriptors_words (k + 1) modules)))
    → Writes descriptors_left (more_rows descriptors_row descriptor_row descriptor_left (descriptor_pieces k m ⋄ part descriptors_left rest (descriptors_words (k + 1) modules)))
    (descriptors_words k (m ∷ modules))
unfolding row_list name_list template descriptor_words
descriptors_next k m rest modules one =
    let pieces = descriptor_pieces k m ⋄ part descriptors_left rest (descriptors_words (k + 1) modules) in
    row_written descriptors_left descriptors_row (line (codes "{") ⋄ part descriptor_left (row_tree descriptor_row pieces) (words pieces)) refl (one, tt)

descriptors_none : (k : ℕ) → Writes descriptors_left (descriptors_tree k []) (descriptors_words k [])
unfolding row_list name_list template
descriptors_none k =
    row_written descriptors_left descriptors_row (line (codes "{") ⋄ part descriptor_left (row_tree no_descriptor_row (line (codes "0 }"))) (template (codes "0 }"))) refl
    (row_written descriptor_left no_descriptor_row (line (codes "0 }")) refl tt, tt)

pub descriptors_written : (k : ℕ) (modules : List CModule) → is_unsigned (k + length modules) ≡ true → list_all spells_tables modules ≡ true
    → Writes descriptors_left (descriptors_tree k modules) (descriptors_words k modules)
descriptors_written k [] c h = descriptors_none k
descriptors_written k (m ∷ modules) c h =
    let p = and_parts (spells_tables m) (list_all spells_tables modules) h in
    let n = next_counted k m modules c in
    descriptors_next k m (descriptors_tree (k + 1) modules) modules
    (descriptor_written k m (descriptors_tree (k + 1) modules) (descriptors_words (k + 1) modules) n.0 (tables_spelled m p.0) (descriptors_written (k + 1) modules n.1 p.1))

-- Exports
abbrev pub exports_pieces : List CModule → Pieces
exports_pieces modules =
    line (codes "const uint32_t OSDI_VERSION_MAJOR = 0u ; const uint32_t OSDI_VERSION_MINOR = 3u ;")
    ⋄ line (codes "const uint32_t OSDI_NUM_DESCRIPTORS =") ⋄ number_part (length modules) ⋄ line (codes ";")
    ⋄ line (codes "const OsdiDescriptor OSDI_DESCRIPTORS [ ] = {")
    ⋄ (part descriptors_left (descriptors_tree 0 modules) (descriptors_words 0 modules) ⋄ line (codes "} ;"))

abbrev pub exports_tree : List CModule → Tree
exports_tree modules = row_tree exports_row (exports_pieces modules)

exports_fit : (modules : List CModule) → is_unsigned (length modules) ≡ true → Writes descriptors_left (descriptors_tree 0 modules) (descriptors_words 0 modules)
    → Writes exports_left (exports_tree modules) (words (exports_pieces modules))
unfolding row_list name_list template
exports_fit modules c d = row_written exports_left exports_row (exports_pieces modules) refl (number_written (length modules) c
    ▹ d ▹ tt)

pub exports_are : (modules : List CModule) → words (exports_pieces modules) ≡ end_words modules
unfolding end_words template
exports_are modules =
    ap (λ l. template (codes "const uint32_t OSDI_VERSION_MAJOR = 0u ; const uint32_t OSDI_VERSION_MINOR = 3u ;")
    ++ template (codes "const uint32_t OSDI_NUM_DESCRIPTORS =") ++ word (unsigned (length modules)) ++ template (codes ";")
    ++ template (codes "const OsdiDescriptor OSDI_DESCRIPTORS [ ] = {") ++ l)
    (rows_close (λ p. descriptor_words p.0 p.1) (enumerate_from 0 modules))

pub exports_written : (modules : List CModule) → is_counted modules ≡ true → list_all spells_tables modules ≡ true → Writes exports_left (exports_tree modules) (end_words modules)
exports_written modules c h =
    written_as (exports_fit modules c (descriptors_written 0 modules (ap is_unsigned (let same : 0 + length modules ≡ length modules = omega arith in same) ∙ c) h)) (exports_are modules)

-- Module
abbrev functions_part : ℕ → CModule → Pieces
functions_part k m = part functions_left (functions_tree k 0 m.functions m.access) (functions_words k 0 m.functions m.access)

abbrev pub module_pieces : ℕ → CModule → Pieces
module_pieces k m =
    part structs_left (structs_tree k m) (structs_words k m) ⋄ functions_part k m ⋄ part setup_model_left (setup_model_tree k m) (setup_model_words k m)
    ⋄ part setup_instance_left (setup_instance_tree k m) (setup_instance_words k m) ⋄ part eval_left (eval_tree k m) (eval_words k m)
    ⋄ part loads_left (loads_tree k m.loads) (loads_words k m.loads) ⋄ part tables_left (tables_tree k m) (tables_words k m)

abbrev pub module_tree : ℕ → CModule → Tree
module_tree k m = row_tree module_row (module_pieces k m)

-- what can be spelled of a module's bodies
pub record BodiesSpelled (m : CModule) : Type 0 where
  pub functions_counted : is_counted m.functions ≡ true
  pub functions : list_all spells_function m.functions ≡ true
  pub access : list_all spells_access m.access ≡ true
  pub setup_model : list_all spells_statement m.setup_model ≡ true
  pub setup_instance : list_all spells_statement m.setup_instance ≡ true
  pub eval : list_all spells_statement m.eval ≡ true
  pub loads : list_all (λ f. list_all spells_load (loads_of m.loads f)) load_functions ≡ true

pub bodies_spelled : (m : CModule) → spells_bodies m ≡ true → BodiesSpelled m
bodies_spelled m h =
    let functions = is_counted m.functions && list_all spells_function m.functions in
    let access = functions && list_all spells_access m.access in
    let model = access && list_all spells_statement m.setup_model in
    let instance = model && list_all spells_statement m.setup_instance in
    let a = and_parts (instance && list_all spells_statement m.eval) (list_all (λ f. list_all spells_load (loads_of m.loads f)) load_functions) h in
    let b = and_parts instance (list_all spells_statement m.eval) a.0 in
    let c = and_parts model (list_all spells_statement m.setup_instance) b.0 in
    let d = and_parts access (list_all spells_statement m.setup_model) c.0 in
    let e = and_parts functions (list_all spells_access m.access) d.0 in
    let f = and_parts (is_counted m.functions) (list_all spells_function m.functions) e.0 in
    record { functions_counted = f.0; functions = f.1; access = e.1; setup_model = d.1; setup_instance = c.1; eval = b.1; loads = a.1 }

pub module_shown : (k : ℕ) (m : CModule) → is_unsigned k ≡ true → TablesSpelled m → BodiesSpelled m → HaveBlocks m → Shown (flat (module_pieces k m))
module_shown k m u t b has =
    (structs_written k m u t.nodes_counted t.entries_counted t.collapse_counted t.model_fields t.inst_fields
    ▹ functions_written k 0 m.functions m.access u (ap is_unsigned (let same : 0 + length m.functions ≡ length m.functions = omega arith in same) ∙ b.functions_counted) b.functions has.functions b.access
    ▹ setup_model_written k m u b.setup_model has.setup_model
    ▹ setup_instance_written k m u b.setup_instance has.setup_instance ▹ eval_written k m u b.eval has.eval
    ▹ loads_written k m.loads u b.loads
    ▹ tables_written k m u t.nodes_counted t.nodes t.entries_counted t.entries t.collapse t.params ▹ tt)

pub module_fits : (k : ℕ) (m : CModule) → is_unsigned k ≡ true → TablesSpelled m → BodiesSpelled m → HaveBlocks m → Writes module_left (module_tree k m) (words (module_pieces k m))
unfolding row_list
module_fits k m u t b has = row_written module_left module_row (module_pieces k m) refl (module_shown k m u t b has)

pub module_are : (k : ℕ) (m : CModule) → words (module_pieces k m) ≡ module_words k m
unfolding module_words
module_are k m =
    ap (λ l. l ++ setup_model_words k m ++ setup_instance_words k m ++ eval_words k m ++ loads_words k m.loads ++ tables_words k m)
    (ap (λ l. structs_words k m ++ l) (functions_are k 0 m.functions m)
    ∙ sym (append_assoc (structs_words k m) (flat_map (λ p. function_words k p.0 p.1) (enumerate_from 0 m.functions)) (access_words k m)))

-- Modules
abbrev pub modules_words : ℕ → List CModule → List Word
modules_words k modules = flat_map (λ p. module_words p.0 p.1) (enumerate_from k modules)

abbrev pub modules_tree : ℕ → List CModule → Tree
modules_tree k [] = row_tree no_modules_row (fixed [])
modules_tree k (m ∷ modules) = row_tree modules_row (part module_left (module_tree k m) (module_words k m) ⋄ part modules_left (modules_tree (k + 1) modules) (modules_words (k + 1) modules))

pub modules_written : (k : ℕ) (modules : List CModule) → is_unsigned (k + length modules) ≡ true → list_all spells_tables modules ≡ true → list_all spells_bodies modules ≡ true
    → EachHas HaveBlocks modules → Writes modules_left (modules_tree k modules) (modules_words k modules)
unfolding row_list
modules_written k [] c t b has = row_written modules_left no_modules_row (fixed []) refl tt
modules_written k (m ∷ modules) c t b has =
    let p = and_parts (spells_tables m) (list_all spells_tables modules) t in
    let q = and_parts (spells_bodies m) (list_all spells_bodies modules) b in
    let n = next_counted k m modules c in
    row_written modules_left modules_row (part module_left (module_tree k m) (module_words k m) ⋄ part modules_left (modules_tree (k + 1) modules) (modules_words (k + 1) modules)) refl
    (written_as (module_fits k m n.0 (tables_spelled m p.0) (bodies_spelled m q.0) has.0) (module_are k m)
    ▹ modules_written (k + 1) modules n.1 p.1 q.1 has.1 ▹ tt)

-- Help
abbrev pub help_tree : Tree
help_tree = row_tree help_row (fixed help_words)

pub help_written : Writes help_left help_tree help_words
unfolding row_list name_list template help_words
help_written = row_written help_left help_row (fixed help_words) refl tt

-- the includes
pub osdi_word : IsWord 2 (codes "#include \"osdi_0_3.h\"")
unfolding include_words
osdi_word = looked_at 2 (codes "#include \"osdi_0_3.h\"") refl

pub math_word : IsWord 3 (codes "#include <math.h>")
unfolding include_words
math_word = looked_at 3 (codes "#include <math.h>") refl

pub stddef_word : IsWord 4 (codes "#include <stddef.h>")
unfolding include_words
stddef_word = looked_at 4 (codes "#include <stddef.h>") refl

pub stdint_word : IsWord 5 (codes "#include <stdint.h>")
unfolding include_words
stdint_word = looked_at 5 (codes "#include <stdint.h>") refl

pub stdlib_word : IsWord 6 (codes "#include <stdlib.h>")
unfolding include_words
stdlib_word = looked_at 6 (codes "#include <stdlib.h>") refl

-- File
abbrev pub file_pieces : CFile → Pieces
file_pieces f =
    named 2 (codes "#include \"osdi_0_3.h\"") ⋄ named 3 (codes "#include <math.h>") ⋄ named 4 (codes "#include <stddef.h>")
    ⋄ named 5 (codes "#include <stdint.h>") ⋄ named 6 (codes "#include <stdlib.h>")
    ⋄ part help_left help_tree help_words ⋄ part modules_left (modules_tree 0 f.modules) (modules_words 0 f.modules)
    ⋄ part exports_left (exports_tree f.modules) (end_words f.modules)

abbrev pub file_tree : CFile → Tree
file_tree f = row_tree file_row (file_pieces f)

pub file_written : (f : CFile) → CanBeSpelled f → Writes file_left (file_tree f) (words_of f)
unfolding row_list words_of include_words
file_written f s =
    row_written file_left file_row (file_pieces f) refl
    (osdi_word ▹ math_word ▹ stddef_word ▹ stdint_word ▹ stdlib_word ▹ help_written
    ▹ modules_written 0 f.modules (ap is_unsigned (let same : 0 + length f.modules ≡ length f.modules = omega arith in same) ∙ s.modules) s.tables s.bodies s.blocks
    ▹ exports_written f.modules s.modules s.tables ▹ tt)

-- The words of a module, and those of its descriptor, bear its number.
use Rattle.std.proofs.Common.{◌≡◌, ◌+◌, ℕ, List, [], ◌∷◌, length, refl, ap, sym, ◌∙◌, Some}
use Rattle.std.specs.Prelude.{Bool, true, false, ◌&&◌, ◌||◌, codes}
use Rattle.std.specs.List.{list_all, enumerate_from}
use Rattle.std.proofs.lemmas.Bool.{and_parts}
use Rattle.std.proofs.lemmas.List.{append-nil}
use Rattle.c_tree.specs.declared.body.CField.TheVariants.{Resist, React}
use Rattle.c_tree.specs.declared.file.CModule.{CModule}
use Rattle.c_tree.specs.declared.load.CLoad.{CLoad}
use Rattle.c_tree.specs.declared.load.CLoads.{CLoads}
use Rattle.c_tree.specs.declared.load.LoadFunction.{LoadFunction}
use Rattle.c_tree.specs.declared.load.LoadFunction.TheVariants.{ResidualResist, ResidualReact, JacobianResist, JacobianReact, JacobianTran, SpiceRhsDc, SpiceRhsTran}
use Rattle.c_tree.specs.declared.table.EntryRow.{EntryRow}
use Rattle.c_tree.specs.declared.table.NodeRow.{NodeRow}
use Rattle.c_tree.specs.Blocks.{HasBlocks}
use Rattle.c_tree.specs.Spelling.{HaveBlocks, is_unsigned, is_integer, are_bytes, spells_statement, spells_load, spells_node, spells_entry}
use Rattle.c_tree.specs.Text.{structs_words, setup_model_words, setup_instance_words, eval_words, load_functions, load_function_words, loads_words, node_words, react_offset_words, entry_words, tables_words, module_words, count_kinds, is_parameter_kind, is_instance_kind, is_opvar_kind}
use Rattle.c_tree.specs.Words.{template, word, unsigned, string_word, array_length}
use Rattle.c_raw_build.specs.RowNumbers.{structs_row, setup_model_row, setup_instance_row, eval_row, residual_resist_row, residual_react_row, jacobian_resist_row, jacobian_react_row, jacobian_tran_row, spice_rhs_dc_row, spice_rhs_tran_row, loads_row, node_rows_row, node_row_row, no_node_row_row, react_pointer_row, no_react_pointer_row, entry_rows_row, entry_row_row, no_entry_row_row, tables_row, module_row, descriptor_row}
use Rattle.c_raw_build.specs.Words.{has_module_number}
use Rattle.c_law_print_parses.proofs.Atoms.{number_written, integer_written, field_written}
use Rattle.c_law_print_parses.proofs.Bodies.{no_statements}
use Rattle.c_law_print_parses.proofs.Files.{TablesSpelled, BodiesSpelled, kinds_counted, descriptor_pieces, module_pieces, module_are}
use Rattle.c_law_print_parses.proofs.Functions.{fields_written, array_counted, structs_pieces, next_counted}
use Rattle.c_law_print_parses.proofs.Lefts.{structs_left, setup_model_left, setup_instance_left, eval_left, residual_resist_left, residual_react_left, jacobian_resist_left, jacobian_react_left, jacobian_tran_left, spice_rhs_dc_left, spice_rhs_tran_left, loads_left, node_rows_left, node_row_left, react_pointer_left, entry_rows_left, entry_row_left, tables_left, module_left, descriptors_left, descriptor_left}
use Rattle.c_law_words.proofs.Listed.{row_list, name_list}
use Rattle.c_law_print_parses.proofs.Loads.{reset_written, setup_model_pieces, setup_instance_pieces, eval_pieces, load_statements_written, load_function_pieces, loads_spelled, loads_parts, loads_pieces}
use Rattle.c_law_words.proofs.Pieces.{◌▹◌, line, part as piece, ◌⋄◌, row_tree, words}
use Rattle.c_law_words.proofs.Strings.{string_named}
use Rattle.c_law_print_parses.proofs.Tables.{node_pieces, nodes_tree, nodes_words, pair_written, pointer_pieces, parts_written, entry_pieces, entries_tree, entries_words, pairs_written, params_written, rows_next, table_pieces, tables_are, from_zero}
use Rattle.c_law_roundtrip.proofs.Bearing.{bears, all_bear, plain_bears, quiet, row_bears}
use Rattle.c_law_roundtrip.proofs.BearingBodies.{body_bears, instance_bears, casts_bear, functions_bear}
use Rattle.c_law_roundtrip.proofs.BearingWords.{model_bears, inst_bears, access_bears, setup_model_bears, setup_instance_bears, eval_bears, load_bears, nodes_bears, entries_bears, collapse_bears, params_bears}

module _ (k : ℕ) (u : is_unsigned k ≡ true) where
  string_bears : (bytes : List ℕ) → are_bytes bytes ≡ true → bears k (string_word bytes) ≡ true
  unfolding has_module_number
  string_bears bytes h = plain_bears k 7 (string_word bytes) (string_named bytes h) refl

  number_quiet : (n : ℕ) → is_unsigned n ≡ true → all_bear k (word (unsigned n)) ≡ true
  number_quiet n h = quiet k refl (number_written n h)

  structs_bear : (m : CModule) → TablesSpelled m → all_bear k (structs_words k m) ≡ true
  unfolding row_list name_list template structs_words
  structs_bear m t =
      let e = number_quiet (array_length (length m.entries)) (array_counted (length m.entries) t.entries_counted) in
      row_bears k structs_left structs_row (structs_pieces k m) refl
      (quiet k refl (fields_written m.model_fields t.model_fields) ▹ model_bears k u
      ▹ number_quiet (array_length (length m.nodes)) (array_counted (length m.nodes) t.nodes_counted) ▹ e ▹ e
      ▹ number_quiet (array_length (length m.collapse)) (array_counted (length m.collapse) t.collapse_counted)
      ▹ quiet k refl (fields_written m.inst_fields t.inst_fields) ▹ inst_bears k u ▹ tt)

  model_set_up_bears : (m : CModule) → list_all spells_statement m.setup_model ≡ true → HasBlocks m.setup_model → all_bear k (setup_model_words k m) ≡ true
  unfolding row_list name_list template setup_model_words
  model_set_up_bears m h has =
      row_bears k setup_model_left setup_model_row (setup_model_pieces k m) refl
      (setup_model_bears k u ▹ casts_bear k u ▹ quiet k refl reset_written ▹ body_bears k u m.setup_model h has ▹ tt)

  instance_set_up_bears : (m : CModule) → list_all spells_statement m.setup_instance ≡ true → HasBlocks m.setup_instance → all_bear k (setup_instance_words k m) ≡ true
  unfolding row_list name_list template setup_instance_words
  instance_set_up_bears m h has =
      row_bears k setup_instance_left setup_instance_row (setup_instance_pieces k m) refl
      (setup_instance_bears k u ▹ instance_bears k u ▹ casts_bear k u ▹ quiet k refl reset_written
      ▹ body_bears k u m.setup_instance h has ▹ tt)

  evaluation_bears : (m : CModule) → list_all spells_statement m.eval ≡ true → HasBlocks m.eval → all_bear k (eval_words k m) ≡ true
  unfolding row_list name_list template eval_words
  evaluation_bears m h has =
      row_bears k eval_left eval_row (eval_pieces k m) refl
      (eval_bears k u ▹ instance_bears k u ▹ casts_bear k u ▹ body_bears k u m.eval h has ▹ tt)

  load_function_bears : (f : LoadFunction) (loads : List CLoad) → list_all spells_load loads ≡ true → all_bear k (load_function_words k f loads) ≡ true
  unfolding row_list name_list template load_function_words
  load_function_bears ResidualResist loads h =
      row_bears k residual_resist_left residual_resist_row (load_function_pieces k ResidualResist loads) refl (load_bears k ResidualResist u
      ▹ instance_bears k u ▹ quiet k refl (load_statements_written loads h) ▹ tt)
  load_function_bears ResidualReact loads h =
      row_bears k residual_react_left residual_react_row (load_function_pieces k ResidualReact loads) refl (load_bears k ResidualReact u
      ▹ instance_bears k u ▹ quiet k refl (load_statements_written loads h) ▹ tt)
  load_function_bears JacobianResist loads h =
      row_bears k jacobian_resist_left jacobian_resist_row (load_function_pieces k JacobianResist loads) refl (load_bears k JacobianResist u
      ▹ instance_bears k u ▹ quiet k refl (load_statements_written loads h) ▹ tt)
  load_function_bears JacobianReact loads h =
      row_bears k jacobian_react_left jacobian_react_row (load_function_pieces k JacobianReact loads) refl (load_bears k JacobianReact u
      ▹ instance_bears k u ▹ quiet k refl (load_statements_written loads h) ▹ tt)
  load_function_bears JacobianTran loads h =
      row_bears k jacobian_tran_left jacobian_tran_row (load_function_pieces k JacobianTran loads) refl (load_bears k JacobianTran u
      ▹ instance_bears k u ▹ quiet k refl (load_statements_written loads h) ▹ tt)
  load_function_bears SpiceRhsDc loads h =
      row_bears k spice_rhs_dc_left spice_rhs_dc_row (load_function_pieces k SpiceRhsDc loads) refl (load_bears k SpiceRhsDc u
      ▹ instance_bears k u ▹ quiet k refl (load_statements_written loads h) ▹ tt)
  load_function_bears SpiceRhsTran loads h =
      row_bears k spice_rhs_tran_left spice_rhs_tran_row (load_function_pieces k SpiceRhsTran loads) refl (load_bears k SpiceRhsTran u
      ▹ instance_bears k u ▹ quiet k refl (load_statements_written loads h) ▹ tt)

  loads_bear : (loads : CLoads) → loads_spelled loads load_functions ≡ true → all_bear k (loads_words k loads) ≡ true
  unfolding row_list loads_words
  loads_bear loads g =
      let h = loads_parts loads g in
      row_bears k loads_left loads_row (loads_pieces k loads) refl
      (load_function_bears ResidualResist loads.residual_resist h.residual_resist
      ▹ load_function_bears ResidualReact loads.residual_react h.residual_react
      ▹ load_function_bears JacobianResist loads.jacobian_resist h.jacobian_resist
      ▹ load_function_bears JacobianReact loads.jacobian_react h.jacobian_react
      ▹ load_function_bears JacobianTran loads.jacobian_tran h.jacobian_tran
      ▹ load_function_bears SpiceRhsDc loads.spice_rhs_dc h.spice_rhs_dc
      ▹ load_function_bears SpiceRhsTran loads.spice_rhs_tran h.spice_rhs_tran ▹ tt)

  node_rows_bear : (i : ℕ) (nodes : List NodeRow) → is_unsigned (i + length nodes) ≡ true → list_all spells_node nodes ≡ true → all_bear k (nodes_words k i nodes) ≡ true
  unfolding row_list name_list template node_words
  node_rows_bear i [] c h =
      row_bears k node_rows_left node_rows_row (line (codes "{") ⋄ piece node_row_left (row_tree no_node_row_row (line (codes "0 }"))) (template (codes "0 }"))) refl
      (row_bears k node_row_left no_node_row_row (line (codes "0 }")) refl tt, tt)
  node_rows_bear i (node ∷ nodes) c h =
      let p = and_parts (spells_node node) (list_all spells_node nodes) h in
      let q = and_parts (are_bytes node.name && are_bytes node.units && are_bytes node.residual_units) (is_integer node.is_flow) p.0 in
      let r = and_parts (are_bytes node.name && are_bytes node.units) (are_bytes node.residual_units) q.0 in
      let s = and_parts (are_bytes node.name) (are_bytes node.units) r.0 in
      let n = next_counted i node nodes c in
      let pieces = node_pieces k i node ⋄ piece node_rows_left (nodes_tree k (i + 1) nodes) (nodes_words k (i + 1) nodes) in
      let one = row_bears k node_row_left node_row_row pieces refl (string_bears node.name s.0
      ▹ string_bears node.units s.1 ▹ string_bears node.residual_units r.1 ▹ inst_bears k u
      ▹ quiet k refl (field_written (Resist i) n.0) ▹ inst_bears k u ▹ quiet k refl (field_written (React i) n.0)
      ▹ quiet k refl (integer_written node.is_flow q.1) ▹ node_rows_bear (i + 1) nodes n.1 p.1 ▹ tt) in
      row_bears k node_rows_left node_rows_row (line (codes "{") ⋄ piece node_row_left (row_tree node_row_row pieces) (words pieces)) refl (one, tt)

  pointer_bears : (e : ℕ) (react : Bool) → is_unsigned e ≡ true → all_bear k (react_offset_words k e react) ≡ true
  unfolding row_list name_list template
  pointer_bears e false h = row_bears k react_pointer_left no_react_pointer_row (line (codes "UINT32_MAX")) refl tt
  pointer_bears e true h = row_bears k react_pointer_left react_pointer_row (pointer_pieces k e) refl (inst_bears k u ▹ number_quiet e h ▹ tt)

  entry_rows_bear : (e : ℕ) (entries : List EntryRow) → is_unsigned (e + length entries) ≡ true → list_all spells_entry entries ≡ true → all_bear k (entries_words k e entries) ≡ true
  unfolding row_list name_list template entry_words
  entry_rows_bear e [] c h =
      row_bears k entry_rows_left entry_rows_row (line (codes "{") ⋄ piece entry_row_left (row_tree no_entry_row_row (line (codes "0 }"))) (template (codes "0 }"))) refl
      (row_bears k entry_row_left no_entry_row_row (line (codes "0 }")) refl tt, tt)
  entry_rows_bear e (entry ∷ entries) c h =
      let p = and_parts (spells_entry entry) (list_all spells_entry entries) h in
      let q = and_parts (is_unsigned entry.row && is_unsigned entry.col) (entry.resist || entry.react) p.0 in
      let r = and_parts (is_unsigned entry.row) (is_unsigned entry.col) q.0 in
      let n = next_counted e entry entries c in
      let pieces = entry_pieces k e entry ⋄ piece entry_rows_left (entries_tree k (e + 1) entries) (entries_words k (e + 1) entries) in
      let one = row_bears k entry_row_left entry_row_row pieces refl (quiet k refl (pair_written entry.row (Some entry.col) r.0 r.1)
      ▹ pointer_bears e entry.react n.0 ▹ quiet k refl (parts_written entry.resist entry.react q.1)
      ▹ entry_rows_bear (e + 1) entries n.1 p.1 ▹ tt) in
      ap (all_bear k) (sym (rows_next (λ x. entry_words k x.0 x.1) (e, entry) (enumerate_from (e + 1) entries)))
      ∙ row_bears k entry_rows_left entry_rows_row (line (codes "{") ⋄ piece entry_row_left (row_tree entry_row_row pieces) (words pieces)) refl (one, tt)

  four_bear : (m : CModule) → TablesSpelled m → all_bear k (words (table_pieces k m)) ≡ true
  unfolding row_list name_list template
  four_bear m t =
      row_bears k tables_left tables_row (table_pieces k m) refl
      (nodes_bears k u ▹ node_rows_bear 0 m.nodes (from_zero (length m.nodes) t.nodes_counted) t.nodes ▹ entries_bears k u
      ▹ entry_rows_bear 0 m.entries (from_zero (length m.entries) t.entries_counted) t.entries ▹ collapse_bears k u
      ▹ quiet k refl (pairs_written m.collapse t.collapse) ▹ params_bears k u ▹ quiet k refl (params_written m.params t.params) ▹ tt)

  tables_bear : (m : CModule) → TablesSpelled m → all_bear k (tables_words k m) ≡ true
  unfolding template
  tables_bear m t = ap (all_bear k) (sym (tables_are k m)) ∙ four_bear m t

  pub module_bears : (m : CModule) → TablesSpelled m → BodiesSpelled m → HaveBlocks m → all_bear k (module_words k m) ≡ true
  unfolding row_list
  module_bears m t b has =
      ap (all_bear k) (sym (module_are k m))
      ∙ row_bears k module_left module_row (module_pieces k m) refl
      (structs_bear m t ▹ functions_bear k u 0 m.functions m.access (from_zero (length m.functions) b.functions_counted) b.functions has.functions b.access
      ▹ model_set_up_bears m b.setup_model has.setup_model ▹ instance_set_up_bears m b.setup_instance has.setup_instance
      ▹ evaluation_bears m b.eval has.eval ▹ loads_bear m.loads b.loads ▹ tables_bear m t ▹ tt)

  -- the words of a descriptor behind its brace
  pub descriptor_bears : (m : CModule) → TablesSpelled m → all_bear k (words (descriptor_pieces k m)) ≡ true
  unfolding row_list name_list template
  descriptor_bears m s =
      ap (all_bear k) (sym (append-nil (words (descriptor_pieces k m))))
      ∙ row_bears k descriptor_left descriptor_row (descriptor_pieces k m ⋄ piece descriptors_left no_statements []) refl
      (string_bears m.name s.name ▹ number_quiet (length m.nodes) s.nodes_counted ▹ number_quiet m.ports s.ports
      ▹ nodes_bears k u ▹ number_quiet (length m.entries) s.entries_counted ▹ entries_bears k u
      ▹ number_quiet (length m.collapse) s.collapse_counted ▹ collapse_bears k u ▹ inst_bears k u
      ▹ number_quiet (count_kinds is_parameter_kind m.params) (kinds_counted is_parameter_kind m.params s.params_counted)
      ▹ number_quiet (count_kinds is_instance_kind m.params) (kinds_counted is_instance_kind m.params s.params_counted)
      ▹ number_quiet (count_kinds is_opvar_kind m.params) (kinds_counted is_opvar_kind m.params s.params_counted)
      ▹ params_bears k u ▹ inst_bears k u ▹ inst_bears k u ▹ inst_bears k u ▹ model_bears k u ▹ access_bears k u
      ▹ setup_model_bears k u ▹ setup_instance_bears k u ▹ eval_bears k u ▹ load_bears k ResidualResist u
      ▹ load_bears k ResidualReact u ▹ load_bears k JacobianResist u ▹ load_bears k JacobianReact u ▹ load_bears k JacobianTran u
      ▹ load_bears k SpiceRhsDc u ▹ load_bears k SpiceRhsTran u ▹ refl ▹ tt)

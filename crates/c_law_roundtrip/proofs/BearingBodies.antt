-- The words of bodies and functions bear the number of their module.
use Rattle.std.proofs.Common.{◌≡◌, ◌+◌, ℕ, List, [], ◌∷◌, ◌++◌, length, refl, ap, sym, ◌∙◌}
use Rattle.std.specs.Prelude.{true, ◌&&◌, codes}
use Rattle.std.specs.List.{list_all}
use Rattle.std.proofs.lemmas.Bool.{and_parts}
use Rattle.predict.specs.Tree.{Tree}
use Rattle.c_tree.specs.declared.body.CAtom.{CAtom}
use Rattle.c_tree.specs.declared.body.CCallee.{CCallee}
use Rattle.c_tree.specs.declared.body.CCallee.TheVariants as callee
use Rattle.c_tree.specs.declared.body.CField.{CField}
use Rattle.c_tree.specs.declared.body.COperator.{COperator}
use Rattle.c_tree.specs.declared.body.CRight.{CRight}
use Rattle.c_tree.specs.declared.body.CRight.TheVariants as right
use Rattle.c_tree.specs.declared.body.CSimple.{CSimple}
use Rattle.c_tree.specs.declared.body.CSimple.TheVariants.{Constant, Join, Head, Assign, SetCell, SetCollapse, Report}
use Rattle.c_tree.specs.declared.body.CStatement.{CStatement}
use Rattle.c_tree.specs.declared.body.Level.{Level}
use Rattle.c_tree.specs.declared.body.Level.TheVariants.{Instance, Model}
use Rattle.c_tree.specs.declared.file.AccessRow.{AccessRow}
use Rattle.c_tree.specs.declared.file.CFunction.{CFunction}
use Rattle.c_tree.specs.Blocks as blocks
use Rattle.c_tree.specs.Blocks.{Block, HasBlocks}
use Rattle.c_tree.specs.Spelling.{EachHas, is_unsigned, spells_field, spells_cell, spells_atom, spells_callee, spells_right, spells_simple, spells_statement, spells_function, spells_access}
use Rattle.c_tree.specs.Text.{fun1_word, fun2_word, field_word, level_word, atom_words, operator_word, callee_word, function_word, right_words, simple_words, choice_opens, leave_words, block_words, body_words, instance_words, model_words}
use Rattle.c_tree.specs.Words.{Word, template, word, cast_words}
use Rattle.c_raw_build.specs.Words.{has_module_number}
use Rattle.c_raw_build.specs.RowNumbers.{negated_row, contrary_row, converted_row, called_row, constant_row, declared_row, assigned_row, set_model_row, set_instance_row, report_row, if_row, two_arms_row, break_row, for_row, functions_row, function_row, access_row, instance_row, model_row}
use Rattle.c_law_print_parses.proofs.Atoms.{type_written, number_written, field_written, atom_part, atom_written, operator_written, values_written, to_real_written, to_integer_written, real_pieces, near_pieces, call_pieces}
use Rattle.c_law_print_parses.proofs.Bodies.{first_value_written, no_first_value_written, field_target_written, flag_target_written, constant_pieces, set_instance_pieces, set_model_pieces, no_statements, arms_pieces, choice_pieces, break_pieces, leave_pieces, loop_pieces, loop_words, spells_block, four_parts, flat_spells}
use Rattle.c_law_print_parses.proofs.Functions.{is_argument, arguments_written, instance_pieces, model_pieces, access_rows_written, found_pieces, found_words, static_pieces, function_pieces, one_function, functions_words, next_counted}
use Rattle.c_law_print_parses.proofs.Lefts.{right_left, statement_left, if_rest_left, functions_left, function_or_access_left, instance_left, model_left}
use Rattle.c_law_words.proofs.Listed.{row_list, name_list}
use Rattle.c_law_words.proofs.Names as names
use Rattle.c_law_words.proofs.Pieces.{◌▹◌, line, ◌⋄◌}
use Rattle.c_law_roundtrip.proofs.Bearing.{all_bear, plain_bears, both_bear, word_bears, quiet, row_bears}
use Rattle.c_law_roundtrip.proofs.BearingWords.{function_bears, model_bears, inst_bears, access_bears}

module _ (k : ℕ) (u : is_unsigned k ≡ true) where
  callee_bears : (f : CCallee) → spells_callee f ≡ true → all_bear k (word (callee_word k f)) ≡ true
  unfolding has_module_number
  callee_bears (callee.Fun1 f) h = word_bears k (fun1_word f) (plain_bears k 11 (fun1_word f) (names.fun1_named f) refl)
  callee_bears (callee.Fun2 f) h = word_bears k (fun2_word f) (plain_bears k 11 (fun2_word f) (names.fun2_named f) refl)
  callee_bears (callee.Function j) h = word_bears k (function_word k j) (function_bears k j u h)

  binary_bears : (a : CAtom) (op : COperator) (b : CAtom) → spells_atom a ≡ true → spells_atom b ≡ true → all_bear k (atom_words a ++ word (operator_word op) ++ atom_words b) ≡ true
  binary_bears a op b h g =
      both_bear k (atom_words a ++ word (operator_word op)) (atom_words b)
      (both_bear k (atom_words a) (word (operator_word op)) (quiet k refl (atom_written a h)) (quiet k refl (operator_written op))) (quiet k refl (atom_written b g))

  right_bears : (side : CRight) → spells_right side ≡ true → all_bear k (right_words k side) ≡ true
  unfolding row_list name_list template
  right_bears (right.Same a) h = quiet k refl (atom_written a h)
  right_bears (right.Negated a) h = row_bears k right_left negated_row (line (codes "-") ⋄ atom_part a) refl (quiet k refl (atom_written a h), tt)
  right_bears (right.Contrary a) h = row_bears k right_left contrary_row (line (codes "!") ⋄ atom_part a) refl (quiet k refl (atom_written a h), tt)
  right_bears (right.ToReal a) h = row_bears k right_left converted_row (real_pieces a) refl (quiet k refl (to_real_written a h), tt)
  right_bears (right.ToInteger a) h = row_bears k right_left converted_row (near_pieces a) refl (quiet k refl (to_integer_written a h), tt)
  right_bears (right.Call f args) h =
      let p = and_parts (spells_callee f) (list_all spells_atom args) h in
      row_bears k right_left called_row (call_pieces k f args) refl (callee_bears f p.0 ▹ quiet k refl (values_written args p.1) ▹ tt)
  right_bears (right.Binary a op b) h =
      let p = and_parts (spells_atom a) (spells_atom b) h in
      binary_bears a op b p.0 p.1

  set_bears : (level : Level) (f : CField) (value : CAtom) → spells_field f ≡ true → spells_atom value ≡ true
      → all_bear k (word (level_word level) ++ word (codes "->") ++ word (field_word f) ++ word (codes "=") ++ atom_words value ++ word (codes ";")) ≡ true
  unfolding row_list name_list template
  set_bears Instance f value h g =
      row_bears k statement_left set_instance_row (set_instance_pieces f value) refl (quiet k refl (field_target_written f h)
      ▹ quiet k refl (atom_written value g) ▹ tt)
  set_bears Model f value h g =
      row_bears k statement_left set_model_row (set_model_pieces f value) refl (quiet k refl (field_written f h)
      ▹ quiet k refl (atom_written value g) ▹ tt)

  simple_bears : (s : CSimple) → spells_simple s ≡ true → all_bear k (simple_words k s) ≡ true
  unfolding row_list name_list template has_module_number
  simple_bears (Constant ty i side) h =
      let p = and_parts (is_unsigned i) (spells_right side) h in
      row_bears k statement_left constant_row (constant_pieces k (Constant ty i side)) refl (quiet k refl (type_written ty)
      ▹ plain_bears k 12 _ (names.local_word i p.0) refl ▹ right_bears side p.1 ▹ tt)
  simple_bears (Join ty i) h =
      row_bears k statement_left declared_row (constant_pieces k (Join ty i)) refl (quiet k refl (type_written ty)
      ▹ plain_bears k 12 _ (names.local_word i h) refl ▹ quiet k refl no_first_value_written ▹ tt)
  simple_bears (Head ty i first) h =
      let p = and_parts (is_unsigned i) (spells_atom first) h in
      row_bears k statement_left declared_row (constant_pieces k (Head ty i first)) refl (quiet k refl (type_written ty)
      ▹ plain_bears k 12 _ (names.local_word i p.0) refl ▹ quiet k refl (first_value_written first p.1) ▹ tt)
  simple_bears (Assign i value) h =
      let p = and_parts (is_unsigned i) (spells_atom value) h in
      row_bears k statement_left assigned_row (constant_pieces k (Assign i value)) refl (plain_bears k 12 _ (names.local_word i p.0) refl
      ▹ quiet k refl (atom_written value p.1) ▹ tt)
  simple_bears (SetCell cell value) h =
      let p = and_parts (spells_cell cell) (spells_atom value) h in
      set_bears cell.level cell.field value p.0 p.1
  simple_bears (SetCollapse pair value) h =
      let p = and_parts (is_unsigned pair) (spells_atom value) h in
      row_bears k statement_left set_instance_row (constant_pieces k (SetCollapse pair value)) refl (quiet k refl (flag_target_written pair p.0)
      ▹ quiet k refl (atom_written value p.1) ▹ tt)
  simple_bears (Report id) h = row_bears k statement_left report_row (constant_pieces k (Report id)) refl (quiet k refl (number_written id h), tt)

  choice_bears : (test : CAtom) (first second : Tree) (us ws : List Word) → spells_atom test ≡ true → all_bear k us ≡ true → all_bear k ws ≡ true
      → all_bear k (choice_opens test ++ us ++ template (codes "} else {") ++ ws ++ word (codes "}")) ≡ true
  unfolding row_list name_list template
  choice_bears test first second us ws h a b =
      row_bears k statement_left if_row (choice_pieces test first us second ws) refl (
        row_bears k if_rest_left two_arms_row (arms_pieces test first us second ws) refl (quiet k refl (atom_written test h) ▹ a ▹ b ▹ tt),
        tt,
      )

  leave_bears : (test : CAtom) → spells_atom test ≡ true → all_bear k (leave_words test) ≡ true
  unfolding row_list name_list template
  leave_bears test h =
      row_bears k statement_left if_row (leave_pieces test) refl
      (row_bears k if_rest_left break_row (break_pieces test) refl (quiet k refl (atom_written test h), tt), tt)

  loop_bears : (body : Tree) (ws : List Word) → all_bear k ws ≡ true → all_bear k (template (codes "for ( ; ; ) {") ++ ws ++ word (codes "}")) ≡ true
  unfolding row_list name_list template
  loop_bears body ws a = row_bears k statement_left for_row (loop_pieces body ws) refl (a, tt)

  block_bears : (b : Block) → spells_block b ≡ true → all_bear k (block_words k b) ≡ true
  block_bears blocks.done h = refl
  block_bears (blocks.simple s rest) h =
      let p = and_parts (spells_simple s) (spells_block rest) h in
      both_bear k (simple_words k s) (block_words k rest) (simple_bears s p.0) (block_bears rest p.1)
  block_bears (blocks.choice test first second rest) h =
      let p = four_parts (spells_atom test) (spells_block first) (spells_block second) (spells_block rest) h in
      let us = block_words k first in
      let vs = block_words k second in
      both_bear k (choice_opens test ++ us ++ template (codes "} else {") ++ vs ++ word (codes "}")) (block_words k rest)
      (choice_bears test no_statements no_statements us vs p.first (block_bears first p.second) (block_bears second p.third)) (block_bears rest p.fourth)
  block_bears (blocks.loop start test turn rest) h =
      let p = four_parts (spells_atom test) (spells_block start) (spells_block turn) (spells_block rest) h in
      let inside = block_words k start ++ (leave_words test ++ block_words k turn) in
      let all = both_bear k (block_words k start) (leave_words test ++ block_words k turn) (block_bears start p.second)
      (both_bear k (leave_words test) (block_words k turn) (leave_bears test p.first) (block_bears turn p.third)) in
      both_bear k (template (codes "for ( ; ; ) {") ++ block_words k start ++ leave_words test ++ block_words k turn ++ word (codes "}")) (block_words k rest)
      (ap (all_bear k) (sym (loop_words k start test turn)) ∙ loop_bears no_statements inside all) (block_bears rest p.fourth)

  pub body_bears : (body : List CStatement) → list_all spells_statement body ≡ true → HasBlocks body → all_bear k (body_words k body) ≡ true
  body_bears body h has = block_bears (blocks.block_of body) (flat_spells (blocks.block_of body) (ap (list_all spells_statement) has ∙ h))

  pub instance_bears : all_bear k (instance_words k) ≡ true
  unfolding row_list name_list template cast_words
  instance_bears = row_bears k instance_left instance_row (instance_pieces k) refl (inst_bears k u ▹ inst_bears k u ▹ tt)

  pub casts_bear : all_bear k (model_words k) ≡ true
  unfolding row_list name_list template cast_words
  casts_bear = row_bears k model_left model_row (model_pieces k) refl (model_bears k u ▹ model_bears k u ▹ tt)

  found_bears : (rows : List AccessRow) → list_all spells_access rows ≡ true → all_bear k (found_words k rows) ≡ true
  unfolding row_list name_list template
  found_bears rows h =
      row_bears k function_or_access_left access_row (found_pieces k rows) refl
      (access_bears k u ▹ instance_bears ▹ casts_bear ▹ quiet k refl (access_rows_written rows h) ▹ tt)

  static_bears : (t : Tree) (ws : List Word) → all_bear k ws ≡ true → all_bear k (word (codes "static") ++ ws) ≡ true
  unfolding row_list name_list template
  static_bears t ws w = row_bears k functions_left functions_row (static_pieces t ws) refl (w, tt)

  one_bears : (j : ℕ) (f : CFunction) (rest : Tree) (ws : List Word) → is_unsigned j ≡ true → spells_function f ≡ true → HasBlocks f.body → all_bear k ws ≡ true
      → all_bear k (one_function k j f ++ ws) ≡ true
  unfolding row_list name_list template
  one_bears j f rest ws v h has w =
      let p = and_parts (list_all is_argument f.arguments && list_all spells_statement f.body) (spells_atom f.value) h in
      let q = and_parts (list_all is_argument f.arguments) (list_all spells_statement f.body) p.0 in
      row_bears k function_or_access_left function_row (function_pieces k j f rest ws) refl
      (quiet k refl (type_written f.result) ▹ function_bears k j u v ▹ quiet k refl (arguments_written f.arguments q.0)
      ▹ body_bears f.body q.1 has ▹ quiet k refl (atom_written f.value p.1) ▹ w ▹ tt)

  pub functions_bear : (j : ℕ) (functions : List CFunction) (rows : List AccessRow) → is_unsigned (j + length functions) ≡ true
      → list_all spells_function functions ≡ true → EachHas (λ f. HasBlocks (CFunction.body f)) functions → list_all spells_access rows ≡ true
      → all_bear k (functions_words k j functions rows) ≡ true
  functions_bear j [] rows c h has a = static_bears no_statements (found_words k rows) (found_bears rows a)
  functions_bear j (f ∷ functions) rows c h has a =
      let p = and_parts (spells_function f) (list_all spells_function functions) h in
      let n = next_counted j f functions c in
      let ws = functions_words k (j + 1) functions rows in
      static_bears no_statements (one_function k j f ++ ws)
      (one_bears j f no_statements ws n.0 p.0 has.0 (functions_bear (j + 1) functions rows n.1 p.1 has.1 a))

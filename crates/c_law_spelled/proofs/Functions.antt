-- What trees of fields, functions, access rows and loads stand for is within the limits of what can be spelled.
use Rattle.std.proofs.Common.{◌≡◌, ◌⊎◌, inl, inr, ◌+◌, [], ◌∷◌, refl}
use Rattle.std.specs.Prelude.{true, ◌&&◌, map}
use Rattle.std.specs.List.{list_all}
use Rattle.std.proofs.lemmas.Bool.{and_from}
use Rattle.c_tree.specs.Spelling.{is_unsigned, spells_atom, spells_statement, spells_function, spells_flag, spells_access, spells_target, spells_factor, spells_load, spells_row}
use Rattle.c_tree.specs.declared.file.CArgument.{CArgument}
use Rattle.c_tree.specs.declared.file.CFunction.{CFunction}
use Rattle.c_tree.specs.FileOf as given
use Rattle.c_tree.specs.Raw.{At, RawArgument}
use Rattle.c_tree.specs.declared.load.LoadFactor.{LoadFactor}
use Rattle.c_raw_build.specs.Placed.{Placed, width, part, end, elements, elements_of_two, elements_before}
use Rattle.c_raw_build.specs.RawFiles.{raw_field, fields, argument, arguments, function, functions, flag, access_row, access}
use Rattle.c_raw_build.specs.RawTables.{matrix_target, target_of, factor_of, placed_factor, more_factors, load, load_statements, load_function}
use Rattle.c_raw_build.specs.RowNumbers.{fields_row, function_row, access_row as access_function_row, arguments_row, more_arguments_row, access_rows_row, flag_setting_row, no_flag_setting_row, load_row, node_target_row, matrix_target_row, resist_target_row, react_target_row, alpha_row, cell_factor_row, solution_factor_row, more_factors_row}
use Rattle.c_raw_build.specs.Words.{CText, word_at, number_at, field_at}
use Rattle.c_law_print_parses.proofs.Lefts.{fields_left, functions_left, arguments_left, flag_setting_left, cell_left, field_name_left, statements_left, atom_left, node_left, number_left, load_statements_left, load_target_left, matrix_target_left, factor_left, more_factors_left}
use Rattle.c_law_words.proofs.Listed.{row_list}
use Rattle.c_law_words.proofs.Pieces.{◌▹◌}
use Rattle.c_law_spelled.proofs.Rows.{IsOf, IsRow, sub, behind, by_rows, passes_map_map, elements_rows, elements_two_rows, elements_before_rows}
use Rattle.c_raw_build.proofs.NameNumbers.{name_value}
use Rattle.c_law_spelled.proofs.Names.{field_name_value}
use Rattle.c_law_spelled.proofs.Atoms.{first_place, number_spelled, field_spelled, cell_spelled, node_spelled, atom_spelled}
use Rattle.c_law_spelled.proofs.Statements.{body_spelled}

module _ {text : CText} where
  field_named : (q : Placed) → IsRow text fields_row q → spells_row (given.field_row (raw_field text q)) ≡ true
  unfolding row_list raw_field field_at
  field_named q r = field_name_value (word_at text (end (part 0 q))) (behind fields_row 0 0 14 (end (part 0 q)) q refl (first_place (end (part 0 q))) r)

  pub fields_spelled : (p : Placed) → IsOf text fields_left p → list_all spells_row (map given.field_row (fields text p)) ≡ true
  unfolding fields
  fields_spelled p o =
      passes_map_map (IsRow text fields_row) spells_row given.field_row (raw_field text) field_named (elements fields_row p) (elements_rows fields_row fields_left p o)

  argument_spelled : (q : Placed) → IsRow text arguments_row q ⊎ IsRow text more_arguments_row q → is_unsigned (argument text q).number.value ≡ true
  unfolding row_list argument
  argument_spelled q h =
      let place = end (part 0 q) in
      elim h [
        | inl r ↦ name_value 13 (word_at text place) refl refl refl (behind arguments_row 0 0 13 place q refl (first_place place) r)
        | inr r ↦ name_value 13 (word_at text place) refl refl refl (behind more_arguments_row 0 0 13 place q refl (first_place place) r)
      ]

  arguments_spelled : (p : Placed) → IsOf text arguments_left p
      → list_all (λ argument. is_unsigned (CArgument.number argument))
      (map (λ (argument : RawArgument). let a : CArgument = record { ty = argument.ty; number = argument.number.value } in a) (arguments text p)) ≡ true
  unfolding arguments
  arguments_spelled p o =
      passes_map_map (λ q. IsRow text arguments_row q ⊎ IsRow text more_arguments_row q) (λ argument. is_unsigned (CArgument.number argument))
      (λ (argument : RawArgument). let a : CArgument = record { ty = argument.ty; number = argument.number.value } in a) (argument text) argument_spelled
      (elements_of_two arguments_row more_arguments_row p) (elements_two_rows arguments_row more_arguments_row arguments_left p o)

  function_spelled : (q : Placed) → IsRow text function_row q → spells_function (given.function_of (function text q)) ≡ true
  unfolding row_list function
  function_spelled q r =
      let f : CFunction = given.function_of (function text q) in
      let numbers = list_all (λ argument. is_unsigned (CArgument.number argument)) f.arguments in
      let statements = list_all spells_statement f.body in
      let last = end (part 2 q) + (2 + width (part 3 q).tree) in
      and_from (numbers && statements) (spells_atom f.value)
      (and_from numbers statements (arguments_spelled (part 1 q) (sub function_row 1 arguments_left q refl r))
      (body_spelled last (part 2 q) (sub function_row 2 statements_left q refl r)))
      (atom_spelled (part 3 q) (sub function_row 3 atom_left q refl r))

  pub functions_spelled : (p : Placed) → IsOf text functions_left p → list_all spells_function (map given.function_of (functions text p)) ≡ true
  unfolding functions
  functions_spelled p o =
      passes_map_map (IsRow text function_row) spells_function given.function_of (function text) function_spelled (elements_before access_function_row function_row p)
      (elements_before_rows access_function_row function_row functions_left p o)

  flag_spelled : (p : Placed) → IsOf text flag_setting_left p → spells_flag (given.flag_of (flag text p)) ≡ true
  unfolding row_list flag
  flag_spelled p o =
      by_rows (λ q. spells_flag (given.flag_of (flag text q)) ≡ true) flag_setting_left (flag_setting_row ∷ no_flag_setting_row ∷ []) p refl o
      ((λ at parts r. cell_spelled _ (sub flag_setting_row 0 cell_left _ refl r))
      ▹ (λ at parts r. refl) ▹ tt)

  access_spelled : (q : Placed) → IsRow text access_rows_row q → spells_access (given.access_row (access_row text q)) ≡ true
  unfolding row_list access_row
  access_spelled q r =
      and_from (is_unsigned (number_at text (part 0 q).at) && spells_flag (given.flag_of (flag text (part 2 q)))) _
      (and_from (is_unsigned (number_at text (part 0 q).at)) _ (number_spelled (part 0 q) (sub access_rows_row 0 number_left q refl r))
      (flag_spelled (part 2 q) (sub access_rows_row 2 flag_setting_left q refl r)))
      (cell_spelled (part 3 q) (sub access_rows_row 3 cell_left q refl r))

  pub accesses_spelled : (p : Placed) → IsOf text functions_left p → list_all spells_access (map given.access_row (access text p)) ≡ true
  unfolding access
  accesses_spelled p o =
      passes_map_map (IsRow text access_rows_row) spells_access given.access_row (access_row text) access_spelled (elements access_rows_row p)
      (elements_rows access_rows_row functions_left p o)

  -- loads
  matrix_spelled : (p : Placed) → IsOf text matrix_target_left p → spells_target (matrix_target text p) ≡ true
  unfolding row_list matrix_target
  matrix_spelled p o =
      by_rows (λ q. spells_target (matrix_target text q) ≡ true) matrix_target_left (resist_target_row ∷ react_target_row ∷ []) p refl o
      ((λ at parts r. number_spelled _ (sub resist_target_row 0 number_left _ refl r))
      ▹ (λ at parts r. number_spelled _ (sub react_target_row 0 number_left _ refl r)) ▹ tt)

  target_spelled : (p : Placed) → IsOf text load_target_left p → spells_target (target_of text p) ≡ true
  unfolding row_list target_of
  target_spelled p o =
      by_rows (λ q. spells_target (target_of text q) ≡ true) load_target_left (node_target_row ∷ matrix_target_row ∷ []) p refl o
      ((λ at parts r. node_spelled _ (sub node_target_row 0 node_left _ refl r))
      ▹ (λ at parts r. matrix_spelled _ (sub matrix_target_row 0 matrix_target_left _ refl r)) ▹ tt)

  factor_spelled : (p : Placed) → IsOf text factor_left p → spells_factor (factor_of text p) ≡ true
  unfolding row_list factor_of
  factor_spelled p o =
      by_rows (λ q. spells_factor (factor_of text q) ≡ true) factor_left (alpha_row ∷ cell_factor_row ∷ solution_factor_row ∷ []) p refl o
      ((λ at parts r. refl)
      ▹ (λ at parts r. field_spelled _ (sub cell_factor_row 0 field_name_left _ refl r))
      ▹ (λ at parts r. node_spelled _ (sub solution_factor_row 0 node_left _ refl r)) ▹ tt)

  part_factor : (q : Placed) → IsRow text more_factors_row q → spells_factor (factor_of text (part 0 q)) ≡ true
  unfolding row_list
  part_factor q r = factor_spelled (part 0 q) (sub more_factors_row 0 factor_left q refl r)

  factors_spelled : (p : Placed) → IsOf text more_factors_left p → list_all spells_factor (map (λ (factor : At LoadFactor). factor.value) (more_factors text p)) ≡ true
  unfolding more_factors
  factors_spelled p o =
      passes_map_map (IsRow text more_factors_row) spells_factor (λ (factor : At LoadFactor). factor.value) (λ q. placed_factor text (part 0 q)) part_factor
      (elements more_factors_row p) (elements_rows more_factors_row more_factors_left p o)

  load_spelled : (q : Placed) → IsRow text load_row q → spells_load (given.load_of (load text q)) ≡ true
  unfolding row_list load
  load_spelled q r =
      and_from (spells_target (target_of text (part 0 q)) && spells_factor (factor_of text (part 2 q))) _
      (and_from (spells_target (target_of text (part 0 q))) _ (target_spelled (part 0 q) (sub load_row 0 load_target_left q refl r))
      (factor_spelled (part 2 q) (sub load_row 2 factor_left q refl r)))
      (factors_spelled (part 3 q) (sub load_row 3 more_factors_left q refl r))

  pub loads_spelled : (p : Placed) → IsOf text load_statements_left (part 1 p) → list_all spells_load (map given.load_of (load_function text p)) ≡ true
  unfolding load_function load_statements
  loads_spelled p o =
      passes_map_map (IsRow text load_row) spells_load given.load_of (load text) load_spelled (elements load_row (part 1 p)) (elements_rows load_row load_statements_left (part 1 p) o)

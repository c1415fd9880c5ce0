-- What trees of numbers, fields, cells, atoms and right sides stand for is within the limits of what can be spelled.
use Rattle.std.proofs.Common.{◌≡◌, ◌⊎◌, inl, inr, ◌+◌, ℕ, [], ◌∷◌, refl, arith}
use Rattle.std.specs.Prelude.{true, map}
use Rattle.std.specs.List.{list_all}
use Rattle.std.proofs.lemmas.Bool.{and_from}
use Rattle.predict.specs.Tree.{node}
use Rattle.c_tree.specs.Spelling.{is_unsigned, is_integer, spells_field, spells_cell, spells_atom, spells_callee, spells_right}
use Rattle.c_tree.specs.declared.body.CAtom.{CAtom}
use Rattle.c_tree.specs.FileOf as given
use Rattle.c_tree.specs.Raw.{At}
use Rattle.c_raw_build.specs.Placed.{Placed, part, elements_of_two}
use Rattle.c_raw_build.specs.RawAtoms.{number_of_tree, field, cell, node_number, atom_of, placed_atom, callee_of, values, operation, conversion, right_of}
use Rattle.c_raw_build.specs.RowNumbers.{instance_cell_row, model_cell_row, numbered_field_row, temperature_field_row, negated_row, contrary_row, converted_row, called_row, operands_row, to_real_row, to_integer_row, named_function_row, module_function_row, values_row, more_values_row, operation_row, no_operation_row, local_atom_row, argument_atom_row, integer_atom_row, real_atom_row, cell_atom_row, unknown_atom_row, node_row, integer_zero_row, integer_one_row, integer_row, number_zero_row, number_one_row, number_three_row, number_row}
use Rattle.c_raw_build.specs.Words.{CText, word_at, number_at, function_at, real_at, field_at, library_function_at}
use Rattle.c_law_print_parses.proofs.Lefts.{cell_left, field_name_left, right_left, conversion_left, callee_left, values_left, operation_left, atom_left, node_left, integer_left, number_left}
use Rattle.c_law_words.proofs.Listed.{row_list}
use Rattle.c_law_words.proofs.Pieces.{◌▹◌}
use Rattle.c_law_spelled.proofs.Rows.{IsOf, IsRow, sub, tok, by_rows, passes_map_map, elements_two_rows}
use Rattle.c_raw_build.proofs.Numbers.{unsigned_value, integer_value, real_value}
use Rattle.c_raw_build.proofs.NameNumbers.{name_value, function_value}
use Rattle.c_law_spelled.proofs.Names.{field_value, temp_value, library_value}

-- the first token
pub first_place : (n : ℕ) → n ≡ n + 0
first_place n = omega arith

module _ {text : CText} where
  pub number_spelled : (p : Placed) → IsOf text number_left p → is_unsigned (number_at text p.at) ≡ true
  unfolding row_list
  number_spelled p o =
      by_rows (λ q. is_unsigned (number_at text q.at) ≡ true) number_left (number_zero_row ∷ number_one_row ∷ number_three_row ∷ number_row ∷ []) p refl o
      ((λ at parts r. unsigned_value 35 (word_at text at) refl (tok number_zero_row 0 35 at _ refl (first_place at) r))
      ▹ (λ at parts r. unsigned_value 36 (word_at text at) refl (tok number_one_row 0 36 at _ refl (first_place at) r))
      ▹ (λ at parts r. unsigned_value 37 (word_at text at) refl (tok number_three_row 0 37 at _ refl (first_place at) r))
      ▹ (λ at parts r. unsigned_value 9 (word_at text at) refl (tok number_row 0 9 at _ refl (first_place at) r)) ▹ tt)

  pub integer_spelled : (p : Placed) → IsOf text integer_left p → is_integer (number_at text p.at) ≡ true
  unfolding row_list
  integer_spelled p o =
      by_rows (λ q. is_integer (number_at text q.at) ≡ true) integer_left (integer_zero_row ∷ integer_one_row ∷ integer_row ∷ []) p refl o
      ((λ at parts r. integer_value 33 (word_at text at) refl (tok integer_zero_row 0 33 at _ refl (first_place at) r))
      ▹ (λ at parts r. integer_value 34 (word_at text at) refl (tok integer_one_row 0 34 at _ refl (first_place at) r))
      ▹ (λ at parts r. integer_value 8 (word_at text at) refl (tok integer_row 0 8 at _ refl (first_place at) r)) ▹ tt)

  pub field_spelled : (p : Placed) → IsOf text field_name_left p → spells_field (field text p) ≡ true
  unfolding row_list field_at
  field_spelled p o =
      by_rows (λ q. spells_field (field text q) ≡ true) field_name_left (numbered_field_row ∷ temperature_field_row ∷ []) p refl o
      ((λ at parts r. field_value (word_at text at) (tok numbered_field_row 0 14 at _ refl (first_place at) r))
      ▹ (λ at parts r. temp_value (word_at text at) (tok temperature_field_row 0 93 at _ refl (first_place at) r)) ▹ tt)

  pub cell_spelled : (p : Placed) → IsOf text cell_left p → spells_cell (cell text p) ≡ true
  unfolding row_list cell
  cell_spelled p o =
      by_rows (λ q. spells_field (field text (part 0 q)) ≡ true) cell_left (instance_cell_row ∷ model_cell_row ∷ []) p refl o
      ((λ at parts r. field_spelled _ (sub instance_cell_row 0 field_name_left _ refl r))
      ▹ (λ at parts r. field_spelled _ (sub model_cell_row 0 field_name_left _ refl r)) ▹ tt)

  pub node_spelled : (p : Placed) → IsOf text node_left p → is_unsigned (node_number text p) ≡ true
  unfolding row_list node_number
  node_spelled p o =
      by_rows (λ q. is_unsigned (number_of_tree text (part 0 q)) ≡ true) node_left (node_row ∷ []) p refl o
      (λ at parts r. number_spelled _ (sub node_row 0 number_left _ refl r), tt)

  pub atom_spelled : (p : Placed) → IsOf text atom_left p → spells_atom (atom_of text p) ≡ true
  unfolding row_list atom_of real_at
  atom_spelled p o =
      by_rows (λ q. spells_atom (atom_of text q) ≡ true) atom_left
      (local_atom_row ∷ argument_atom_row ∷ integer_atom_row ∷ real_atom_row ∷ cell_atom_row ∷ unknown_atom_row ∷ []) p refl o
      ((λ at parts r. name_value 12 (word_at text at) refl refl refl (tok local_atom_row 0 12 at _ refl (first_place at) r))
      ▹ (λ at parts r. name_value 13 (word_at text at) refl refl refl (tok argument_atom_row 0 13 at _ refl (first_place at) r))
      ▹ (λ at parts r. integer_spelled _ (sub integer_atom_row 0 integer_left _ refl r))
      ▹ (λ at parts r. real_value (word_at text at))
      ▹ (λ at parts r. cell_spelled _ (sub cell_atom_row 0 cell_left _ refl r))
      ▹ (λ at parts r. node_spelled _ (sub unknown_atom_row 0 node_left _ refl r)) ▹ tt)

  callee_spelled : (p : Placed) → IsOf text callee_left p → spells_callee (callee_of text p) ≡ true
  unfolding row_list callee_of function_at library_function_at
  callee_spelled p o =
      by_rows (λ q. spells_callee (callee_of text q) ≡ true) callee_left (named_function_row ∷ module_function_row ∷ []) p refl o
      ((λ at parts r. library_value (word_at text at))
      ▹ (λ at parts r. function_value (word_at text at) (tok module_function_row 0 15 at _ refl (first_place at) r)) ▹ tt)

  value_spelled : (q : Placed) → IsRow text values_row q ⊎ IsRow text more_values_row q → spells_atom (atom_of text (part 0 q)) ≡ true
  unfolding row_list
  value_spelled q h =
      elim h [
        | inl r ↦ atom_spelled (part 0 q) (sub values_row 0 atom_left q refl r)
        | inr r ↦ atom_spelled (part 0 q) (sub more_values_row 0 atom_left q refl r)
      ]

  values_spelled : (p : Placed) → IsOf text values_left p → list_all spells_atom (map (λ (a : At CAtom). a.value) (values text p)) ≡ true
  unfolding values
  values_spelled p o =
      passes_map_map (λ q. IsRow text values_row q ⊎ IsRow text more_values_row q) spells_atom (λ (a : At CAtom). a.value) (λ q. placed_atom text (part 0 q)) value_spelled
      (elements_of_two values_row more_values_row p) (elements_two_rows values_row more_values_row values_left p o)

  operation_spelled : (first : At CAtom) → spells_atom first.value ≡ true → (p : Placed) → IsOf text operation_left p
      → spells_right (given.right_of (operation text first p)) ≡ true
  unfolding row_list operation
  operation_spelled first h p o =
      by_rows (λ q. spells_right (given.right_of (operation text first q)) ≡ true) operation_left (operation_row ∷ no_operation_row ∷ []) p refl o
      ((λ at parts r. and_from (spells_atom first.value) _ h (atom_spelled _ (sub operation_row 1 atom_left _ refl r)))
      ▹ (λ at parts r. h) ▹ tt)

  conversion_spelled : (p : Placed) → IsOf text conversion_left p → spells_right (given.right_of (conversion text p)) ≡ true
  unfolding row_list conversion
  conversion_spelled p o =
      by_rows (λ q. spells_right (given.right_of (conversion text q)) ≡ true) conversion_left (to_real_row ∷ to_integer_row ∷ []) p refl o
      ((λ at parts r. atom_spelled _ (sub to_real_row 0 atom_left _ refl r))
      ▹ (λ at parts r. atom_spelled _ (sub to_integer_row 0 atom_left _ refl r)) ▹ tt)

  pub right_spelled : (p : Placed) → IsOf text right_left p → spells_right (given.right_of (right_of text p)) ≡ true
  unfolding row_list right_of
  right_spelled p o =
      by_rows (λ q. spells_right (given.right_of (right_of text q)) ≡ true) right_left
      (negated_row ∷ contrary_row ∷ converted_row ∷ called_row ∷ operands_row ∷ []) p refl o
      ((λ at parts r. atom_spelled _ (sub negated_row 0 atom_left _ refl r))
      ▹ (λ at parts r. atom_spelled _ (sub contrary_row 0 atom_left _ refl r))
      ▹ (λ at parts r. conversion_spelled _ (sub converted_row 0 conversion_left _ refl r))
      ▹ (λ at parts r. and_from (spells_callee (callee_of text (part 0 (record { at = at; tree = node called_row parts })))) _ (callee_spelled _ (sub called_row 0 callee_left _ refl r)) (values_spelled _ (sub called_row 1 values_left _ refl r)))
      ▹ (λ at parts r. operation_spelled _ (atom_spelled _ (sub operands_row 0 atom_left _ refl r)) _ (sub operands_row 1 operation_left _ refl r)) ▹ tt)

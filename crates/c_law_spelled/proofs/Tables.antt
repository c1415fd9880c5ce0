-- What trees of tables and descriptors stand for is within the limits of what can be spelled.
use Rattle.std.proofs.Common.{◌≡◌, ◌<◌, ◌+◌, ◌^◌, ℕ, List, [], ◌∷◌, refl, arith}
use Rattle.std.specs.Prelude.{true, ◌&&◌, ◌||◌, nat_lt, map, length}
use Rattle.std.specs.List.{list_all}
use Rattle.std.proofs.lemmas.Bool.{and_from, lt-ltb}
use Rattle.std.proofs.lemmas.List.{length-map}
use Rattle.c_tree.specs.Spelling.{EachHas, is_unsigned, is_integer, is_counted, are_bytes, spells_node, spells_entry, spells_second, spells_pair, spells_param}
use Rattle.c_tree.specs.FileOf as given
use Rattle.c_tree.specs.declared.table.ParamRow.{ParamRow}
use Rattle.c_tree.specs.Raw.{RawDescriptor}
use Rattle.c_raw_build.specs.Placed.{Placed, part, end, elements}
use Rattle.c_raw_build.specs.RawTables.{node_row, node_rows, second_node, pair, has_resist, has_react, entry_row, entry_rows, pair_rows, more_strings, param_row, param_rows, descriptor, descriptors}
use Rattle.c_raw_build.specs.RowNumbers.{node_row_row, entry_row_row, pair_row, second_node_row, no_second_node_row, resist_parts_row, react_part_row, pair_row_row, param_row_row, more_strings_row, descriptor_row}
use Rattle.c_raw_build.specs.Words.{CText, word_at, number_at, string_at}
use Rattle.c_law_print_parses.proofs.Lefts.{integer_left, number_left, node_rows_left, entry_rows_left, pair_left, second_node_left, entry_parts_left, pair_rows_left, param_rows_left, more_strings_left, descriptors_left}
use Rattle.c_law_words.proofs.Listed.{row_list}
use Rattle.c_law_words.proofs.Pieces.{◌▹◌}
use Rattle.c_raw_build.specs.Due.{IsOfKind}
use Rattle.c_law_spelled.proofs.Rows.{IsOf, IsRow, sub, tok, behind, by_rows, each_map, each_both, each_told_map, passes_map, passes_map_map, elements_rows}
use Rattle.c_raw_build.proofs.Strings.{string_value}
use Rattle.c_law_spelled.proofs.Atoms.{number_spelled, integer_spelled}
use Rattle.c_law_spelled.proofs.Counts.{counted_map, elements_counted, strings_fewer}

-- the name and the number of terminals of a descriptor are within the limits
abbrev pub DescriptorFits : RawDescriptor → Type 0
DescriptorFits d = (are_bytes d.name ≡ true) × (is_unsigned d.num_terminals.value ≡ true)

pub string_spelled : (text : CText) (i : ℕ) → IsOfKind 7 (word_at text i) → are_bytes (string_at text i) ≡ true
unfolding string_at
string_spelled text i h = string_value (word_at text i) h

module _ {text : CText} where
  node_spelled : (q : Placed) → IsRow text node_row_row q → spells_node (given.node_row (node_row text q)) ≡ true
  unfolding row_list node_row
  node_spelled q r =
      let name = string_spelled text (q.at + 2) (tok node_row_row 2 7 (q.at + 2) q refl refl r) in
      let units = string_spelled text (q.at + 6) (tok node_row_row 6 7 (q.at + 6) q refl refl r) in
      let residual = string_spelled text (q.at + 10) (tok node_row_row 10 7 (q.at + 10) q refl refl r) in
      let flow = integer_spelled (part 2 q) (sub node_row_row 2 integer_left q refl r) in
      let a = are_bytes (string_at text (q.at + 2)) in
      let b = are_bytes (string_at text (q.at + 6)) in
      let c = are_bytes (string_at text (q.at + 10)) in
      and_from (a && b && c) (is_integer (number_at text (part 2 q).at)) (and_from (a && b) c (and_from a b name units) residual) flow

  pub nodes_spelled : (p : Placed) → IsOf text node_rows_left p → list_all spells_node (map given.node_row (node_rows text p)) ≡ true
  unfolding node_rows
  nodes_spelled p o =
      passes_map_map (IsRow text node_row_row) spells_node given.node_row (node_row text) node_spelled (elements node_row_row p)
      (elements_rows node_row_row node_rows_left p o)

  second_spelled : (p : Placed) → IsOf text second_node_left p → spells_second (second_node text p) ≡ true
  unfolding row_list second_node
  second_spelled p o =
      by_rows (λ q. spells_second (second_node text q) ≡ true) second_node_left (second_node_row ∷ no_second_node_row ∷ []) p refl o
      ((λ at parts r. number_spelled _ (sub second_node_row 0 number_left _ refl r))
      ▹ (λ at parts r. refl) ▹ tt)

  pair_spelled : (p : Placed) → IsOf text pair_left p → spells_pair (given.pair_row (pair text p)) ≡ true
  unfolding row_list pair
  pair_spelled p o =
      by_rows (λ q. spells_pair (given.pair_row (pair text q)) ≡ true) pair_left (pair_row ∷ []) p refl o (
        λ at parts r. and_from (is_unsigned _) _ (number_spelled _ (sub pair_row 0 number_left _ refl r)) (second_spelled _ (sub pair_row 1 second_node_left _ refl r)),
        tt,
      )

  part_pair : (q : Placed) → IsRow text pair_row_row q → spells_pair (given.pair_row (pair text (part 0 q))) ≡ true
  unfolding row_list
  part_pair q r = pair_spelled (part 0 q) (sub pair_row_row 0 pair_left q refl r)

  pub pairs_spelled : (p : Placed) → IsOf text pair_rows_left p → list_all spells_pair (map given.pair_row (pair_rows text p)) ≡ true
  unfolding pair_rows
  pairs_spelled p o =
      passes_map_map (IsRow text pair_row_row) spells_pair given.pair_row (λ q. pair text (part 0 q)) part_pair (elements pair_row_row p)
      (elements_rows pair_row_row pair_rows_left p o)

  -- entries
  first_spelled : (p : Placed) → IsOf text pair_left p → is_unsigned (number_at text (part 0 p).at) ≡ true
  unfolding row_list
  first_spelled p o =
      by_rows (λ q. is_unsigned (number_at text (part 0 q).at) ≡ true) pair_left (pair_row ∷ []) p refl o
      (λ at parts r. number_spelled _ (sub pair_row 0 number_left _ refl r), tt)

  second_column : (p : Placed) → IsOf text second_node_left p → is_unsigned (given.column_of (second_node text p)) ≡ true
  unfolding row_list second_node
  second_column p o =
      by_rows (λ q. is_unsigned (given.column_of (second_node text q)) ≡ true) second_node_left (second_node_row ∷ no_second_node_row ∷ []) p refl o
      ((λ at parts r. number_spelled _ (sub second_node_row 0 number_left _ refl r))
      ▹ (λ at parts r. refl) ▹ tt)

  column_spelled : (p : Placed) → IsOf text pair_left p → is_unsigned (given.column_of (second_node text (part 1 p))) ≡ true
  unfolding row_list
  column_spelled p o =
      by_rows (λ q. is_unsigned (given.column_of (second_node text (part 1 q))) ≡ true) pair_left (pair_row ∷ []) p refl o
      (λ at parts r. second_column _ (sub pair_row 1 second_node_left _ refl r), tt)

  parts_there : (p : Placed) → IsOf text entry_parts_left p → (has_resist p || has_react p) ≡ true
  unfolding row_list has_resist has_react
  parts_there p o =
      by_rows (λ q. (has_resist q || has_react q) ≡ true) entry_parts_left (resist_parts_row ∷ react_part_row ∷ []) p refl o
      ((λ at parts r. refl)
      ▹ (λ at parts r. refl) ▹ tt)

  entry_spelled : (q : Placed) → IsRow text entry_row_row q → spells_entry (given.entry_row (entry_row text q)) ≡ true
  unfolding row_list entry_row pair
  entry_spelled q r =
      let o = sub entry_row_row 0 pair_left q refl r in
      let row = is_unsigned (number_at text (part 0 (part 0 q)).at) in
      let column = is_unsigned (given.column_of (second_node text (part 1 (part 0 q)))) in
      and_from (row && column) (has_resist (part 2 q) || has_react (part 2 q))
      (and_from row column (first_spelled (part 0 q) o) (column_spelled (part 0 q) o))
      (parts_there (part 2 q) (sub entry_row_row 2 entry_parts_left q refl r))

  pub entries_spelled : (p : Placed) → IsOf text entry_rows_left p → list_all spells_entry (map given.entry_row (entry_rows text p)) ≡ true
  unfolding entry_rows
  entries_spelled p o =
      passes_map_map (IsRow text entry_row_row) spells_entry given.entry_row (entry_row text) entry_spelled (elements entry_row_row p)
      (elements_rows entry_row_row entry_rows_left p o)

  -- parameters
  later_string : (q : Placed) → IsRow text more_strings_row q → are_bytes (string_at text (q.at + 1)) ≡ true
  unfolding row_list
  later_string q r = string_spelled text (q.at + 1) (tok more_strings_row 1 7 (q.at + 1) q refl refl r)

  strings_spelled : (p : Placed) → IsOf text more_strings_left p → list_all are_bytes (more_strings text p) ≡ true
  unfolding more_strings
  strings_spelled p o =
      passes_map (IsRow text more_strings_row) are_bytes (λ q. string_at text (q.at + 1)) later_string (elements more_strings_row p)
      (elements_rows more_strings_row more_strings_left p o)

  names_counted : (q : Placed) → length text.tokens < 2 ^ 32 → IsRow text param_row_row q
      → is_counted (string_at text (q.at + 9) ∷ more_strings text (part 0 q)) ≡ true
  unfolding row_list more_strings
  names_counted q few r =
      let fewer = strings_fewer more_strings_row more_strings_left param_row_row q refl refl (sub param_row_row 0 more_strings_left q refl r) r in
      let same : length (map (λ (s : Placed). string_at text (s.at + 1)) (elements more_strings_row (part 0 q))) ≡ length (elements more_strings_row (part 0 q)) =
      length-map (elements more_strings_row (part 0 q)) (λ (s : Placed). string_at text (s.at + 1)) in
      lt-ltb (length (string_at text (q.at + 9) ∷ map (λ (s : Placed). string_at text (s.at + 1)) (elements more_strings_row (part 0 q)))) (2 ^ 32)
      (omega (arith, fewer, same, few))

  param_spelled : (q : Placed) → IsRow text param_row_row q × (is_counted (param_row text q).names ≡ true) → spells_param (given.param_row (param_row text q)) ≡ true
  unfolding row_list param_row
  param_spelled q h =
      let r = h.0 in
      let names : List (List ℕ) = string_at text (q.at + 9) ∷ more_strings text (part 0 q) in
      let first = string_spelled text (q.at + 9) (tok param_row_row 9 7 (q.at + 9) q refl refl r) in
      let more = strings_spelled (part 0 q) (sub param_row_row 0 more_strings_left q refl r) in
      let description = string_spelled text (end (part 1 q) + 3) (behind param_row_row 1 3 7 (end (part 1 q) + 3) q refl refl r) in
      let units = string_spelled text (end (part 1 q) + 7) (behind param_row_row 1 7 7 (end (part 1 q) + 7) q refl refl r) in
      let some : nat_lt 0 (length names) ≡ true = lt-ltb 0 (length names) (omega arith) in
      let a = nat_lt 0 (length names) in
      let b = is_counted names in
      let c = list_all are_bytes names in
      let d = are_bytes (string_at text (end (part 1 q) + 3)) in
      let e = are_bytes (string_at text (end (part 1 q) + 7)) in
      let all : c ≡ true = and_from (are_bytes (string_at text (q.at + 9))) (list_all are_bytes (more_strings text (part 0 q))) first more in
      and_from (a && b && c && d) e (and_from (a && b && c) d (and_from (a && b) c (and_from a b some h.1) all) description) units

  pub params_spelled : (p : Placed) → IsOf text param_rows_left p → list_all (λ row. is_counted (ParamRow.names row)) (map given.param_row (param_rows text p)) ≡ true
      → list_all spells_param (map given.param_row (param_rows text p)) ≡ true
  unfolding param_rows
  params_spelled p o h =
      let rows = elements_rows param_row_row param_rows_left p o in
      let all = elements param_row_row p in
      let counts = each_told_map (λ row. is_counted (ParamRow.names row)) given.param_row (param_row text) all h in
      passes_map_map (λ q. IsRow text param_row_row q × (is_counted (param_row text q).names ≡ true)) spells_param given.param_row (param_row text) param_spelled all
      (each_both (IsRow text param_row_row) (λ q. is_counted (param_row text q).names ≡ true) all rows counts)

  each_names_counted : length text.tokens < 2 ^ 32 → (q : Placed) → IsRow text param_row_row q → is_counted (param_row text q).names ≡ true
  unfolding param_row
  each_names_counted few q r = names_counted q few r

  pub names_all_counted : length text.tokens < 2 ^ 32 → (p : Placed) → IsOf text param_rows_left p
      → list_all (λ row. is_counted (ParamRow.names row)) (map given.param_row (param_rows text p)) ≡ true
  unfolding param_rows
  names_all_counted few p o =
      passes_map_map (IsRow text param_row_row) (λ row. is_counted (ParamRow.names row)) given.param_row (param_row text) (each_names_counted few) (elements param_row_row p)
      (elements_rows param_row_row param_rows_left p o)

  -- descriptors
  descriptor_fits : (q : Placed) → IsRow text descriptor_row q → DescriptorFits (descriptor text q)
  unfolding row_list descriptor
  descriptor_fits q r = (
    string_spelled text (q.at + 2) (tok descriptor_row 2 7 (q.at + 2) q refl refl r),
    number_spelled (part 1 q) (sub descriptor_row 1 number_left q refl r),
  )

  pub descriptors_fit : (p : Placed) → IsOf text descriptors_left p → EachHas DescriptorFits (descriptors text p)
  unfolding descriptors
  descriptors_fit p o =
      each_map (IsRow text descriptor_row) DescriptorFits (descriptor text) descriptor_fits (elements descriptor_row p) (elements_rows descriptor_row descriptors_left p o)

  -- lists of few elements
  pub nodes_counted : length text.tokens < 2 ^ 32 → (p : Placed) → IsOf text node_rows_left p → is_counted (map given.node_row (node_rows text p)) ≡ true
  unfolding row_list node_rows
  nodes_counted few p o = counted_map _ _ (counted_map _ _ (elements_counted node_row_row node_rows_left p few refl o))

  pub entries_counted : length text.tokens < 2 ^ 32 → (p : Placed) → IsOf text entry_rows_left p → is_counted (map given.entry_row (entry_rows text p)) ≡ true
  unfolding row_list entry_rows
  entries_counted few p o = counted_map _ _ (counted_map _ _ (elements_counted entry_row_row entry_rows_left p few refl o))

  pub pairs_counted : length text.tokens < 2 ^ 32 → (p : Placed) → IsOf text pair_rows_left p → is_counted (map given.pair_row (pair_rows text p)) ≡ true
  unfolding row_list pair_rows
  pairs_counted few p o = counted_map _ _ (counted_map _ _ (elements_counted pair_row_row pair_rows_left p few refl o))

  pub params_counted : length text.tokens < 2 ^ 32 → (p : Placed) → IsOf text param_rows_left p → is_counted (map given.param_row (param_rows text p)) ≡ true
  unfolding row_list param_rows
  params_counted few p o = counted_map _ _ (counted_map _ _ (elements_counted param_row_row param_rows_left p few refl o))

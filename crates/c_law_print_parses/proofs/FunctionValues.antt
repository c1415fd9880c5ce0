-- What the trees of fields, functions and access rows stand for in a text where their words stand.
use Rattle.std.proofs.Common.{◌≡◌, ◌+◌, ℕ, List, [], ◌∷◌, length, refl, ap, ◌∙◌, Option, Some, None}
use Rattle.std.specs.Prelude.{Bool, true, false, ◌&&◌, ◌||◌, map, filter, codes}
use Rattle.std.specs.List.{list_all, flat_map}
use Rattle.std.proofs.lemmas.Bool.{and_parts}
use Rattle.va_base.specs.Numerals.{number_of}
use Rattle.c_tree.specs.declared.body.CCell.{CCell}
use Rattle.c_tree.specs.declared.file.AccessRow.{AccessRow}
use Rattle.c_tree.specs.declared.file.CArgument.{CArgument}
use Rattle.c_tree.specs.declared.file.CFunction.{CFunction}
use Rattle.c_tree.specs.declared.table.FieldRow.{FieldRow}
use Rattle.c_tree.specs.Blocks.{HasBlocks}
use Rattle.c_tree.specs.FileOf as given
use Rattle.c_tree.specs.Raw.{RawArgument}
use Rattle.c_tree.specs.Spelling.{EachHas, is_unsigned, spells_cell, spells_atom, spells_statement, spells_function, spells_flag, spells_access, spells_row}
use Rattle.c_law_words.specs.Values.{field_in}
use Rattle.c_tree.specs.Text.{field_type, field_word, field_words, argument_words, flag_words, access_row_words}
use Rattle.c_tree.specs.Words.{template, marked, with_commas}
use Rattle.c_raw_build.specs.Placed.{Placed, spine, is_of, width, elements}
use Rattle.c_raw_build.specs.RawFiles.{raw_field, fields, argument, arguments, function, flag, access_row, functions, access}
use Rattle.c_raw_build.specs.RowNumbers.{arguments_row as first_argument, more_arguments_row as next_argument}
use Rattle.c_raw_build.specs.Words.{CText, field_at}
use Rattle.c_law_words.proofs.Listed.{row_list}
use Rattle.c_law_print_parses.proofs.Lefts.{fields_left, more_arguments_left, access_rows_left}
use Rattle.c_raw_build.specs.RowNumbers.{instance_test_row, access_rows_row}
use Rattle.c_law_words.proofs.Pieces.{◌▹◌, part as piece, ◌⋄◌, line}
use Rattle.c_law_print_parses.proofs.Placing.{StandsAt, row_stands}
use Rattle.c_law_print_parses.proofs.AtomValues.{placed, type_value, cell_value, atom_value}
use Rattle.c_law_print_parses.proofs.BodyValues.{body_value}
use Rattle.c_law_words.proofs.Values.{unsigned_back, numbered_back, field_name_back}
use Rattle.c_law_words.proofs.Names.{argument_word, module_function_word}
use Rattle.c_law_words.proofs.Names as names
use Rattle.c_law_words.proofs.Strings.{field_row_named}
use Rattle.c_law_print_parses.proofs.Atoms.{type_tree, type_written, number_tree, number_written, cell_tree, cell_written, atom_tree, atom_written}
use Rattle.c_law_print_parses.proofs.Bodies.{body_tree, body_written}
use Rattle.c_law_print_parses.proofs.Functions.{field_row_pieces, fields_tree, fields_written, argument_pieces, is_argument, more_arguments_tree, more_arguments_written, arguments_tree, arguments_written, instance_test_tree, instance_test_written, flag_pieces, flag_tree, flag_written, access_pieces, access_rows_tree, access_rows_written, instance_written, model_written, found_pieces, function_pieces, functions_words, functions_tree, functions_written, next_counted}

pub integer_type : (b : Bool) → given.is_integer (field_type b) ≡ b
integer_type true = refl
integer_type false = refl

module _ (text : CText) where
  pub fields_value : (at : ℕ) (list : List FieldRow) → list_all spells_row list ≡ true → StandsAt text at (flat_map field_words list)
      → map given.field_row (fields text (placed at (fields_tree list))) ≡ list
  unfolding fields raw_field field_at row_list template
  fields_value at [] h s = refl
  fields_value at (field ∷ list) h s =
      let p = and_parts (spells_row field) (list_all spells_row list) h in
      let ty = field_type field.integer in
      let t = row_stands text at (field_row_pieces field ⋄ piece fields_left (fields_tree list) (flat_map field_words list)) (type_written ty
      ▹ field_row_named field.name p.0 ▹ fields_written list p.1 ▹ tt) s in
      let name = ap (λ w. field_word (field_in w)) t.1.0 ∙ field_name_back field.name p.0 in
      let kind = ap given.is_integer (type_value at ty) ∙ integer_type field.integer in
      let rest = fields_value (at + width (type_tree ty) + 1 + 1) list p.1 t.1.1.0 in
      λ i. (let f : FieldRow = record { name = name i; integer = kind i } in f) ∷ rest i

  abbrev pub given_argument : RawArgument → CArgument
  given_argument a = record { ty = a.ty; number = a.number.value }

  abbrev arguments_in : List Placed → List CArgument
  arguments_in places = map given_argument (map (argument text) (filter (λ q. is_of first_argument q || is_of next_argument q) places))

  more_arguments_value : (at : ℕ) (args : List CArgument) → list_all is_argument args ≡ true → StandsAt text at (marked (codes ",") argument_words args)
      → arguments_in (spine at (more_arguments_tree args)) ≡ args
  unfolding argument row_list template
  more_arguments_value at [] h s = refl
  more_arguments_value at (a ∷ args) h s =
      let p = and_parts (is_argument a) (list_all is_argument args) h in
      let t = row_stands text at (line (codes ",") ⋄ argument_pieces a ⋄ piece more_arguments_left (more_arguments_tree args) (marked (codes ",") argument_words args))
      (type_written a.ty ▹ argument_word a.number p.0 ▹ more_arguments_written args p.1 ▹ tt) s in
      let number = ap number_of t.1.0 ∙ numbered_back (codes "a") a.number refl p.0 in
      let rest = more_arguments_value (at + 1 + width (type_tree a.ty) + 1) args p.1 t.1.1.0 in
      λ i. (let c : CArgument = record { ty = type_value (at + 1) a.ty i; number = number i } in c) ∷ rest i

  pub arguments_value : (at : ℕ) (args : List CArgument) → list_all is_argument args ≡ true → StandsAt text at (with_commas argument_words args)
      → map given_argument (arguments text (placed at (arguments_tree args))) ≡ args
  unfolding arguments argument row_list template
  arguments_value at [] h s = refl
  arguments_value at (a ∷ args) h s =
      let p = and_parts (is_argument a) (list_all is_argument args) h in
      let t = row_stands text at (argument_pieces a ⋄ piece more_arguments_left (more_arguments_tree args) (marked (codes ",") argument_words args))
      (type_written a.ty ▹ argument_word a.number p.0 ▹ more_arguments_written args p.1 ▹ tt) s in
      let number = ap number_of t.1.0 ∙ numbered_back (codes "a") a.number refl p.0 in
      let rest = more_arguments_value (at + width (type_tree a.ty) + 1) args p.1 t.1.1.0 in
      λ i. (let c : CArgument = record { ty = type_value at a.ty i; number = number i } in c) ∷ rest i

  instance_test_value : (at : ℕ) (b : Bool) → is_of instance_test_row (placed at (instance_test_tree b)) ≡ b
  instance_test_value at true = refl
  instance_test_value at false = refl

  flag_value : (at : ℕ) (f : Option CCell) → spells_flag f ≡ true → StandsAt text at (flag_words f) → given.flag_of (flag text (placed at (flag_tree f))) ≡ f
  unfolding flag row_list template
  flag_value at None h s = refl
  flag_value at (Some c) h s =
      let t = row_stands text at (flag_pieces c) (cell_written c h, tt) s in
      ap Some (cell_value text (at + 1 + 1 + 1 + 1 + 1 + 1 + 1) c h t.0)

  pub access_value : (at : ℕ) (rows : List AccessRow) → list_all spells_access rows ≡ true → StandsAt text at (flat_map access_row_words rows)
      → map given.access_row (map (access_row text) (elements access_rows_row (placed at (access_rows_tree rows)))) ≡ rows
  unfolding access_row row_list template
  access_value at [] h s = refl
  access_value at (row ∷ rows) h s =
      let p = and_parts (spells_access row) (list_all spells_access rows) h in
      let q = and_parts (is_unsigned row.id && spells_flag row.flag) (spells_cell row.cell) p.0 in
      let r = and_parts (is_unsigned row.id) (spells_flag row.flag) q.0 in
      let t = row_stands text at (access_pieces row ⋄ piece access_rows_left (access_rows_tree rows) (flat_map access_row_words rows))
      (number_written row.id r.0 ▹ instance_test_written row.instance ▹ flag_written row.flag r.1
      ▹ cell_written row.cell q.1 ▹ access_rows_written rows p.1 ▹ tt) s in
      let id = ap number_of t.0.0 ∙ unsigned_back row.id r.0 in
      let a1 = at + 1 + 1 + 1 + 1 + width (number_tree row.id) in
      let test = instance_test_value a1 row.instance in
      let a2 = a1 + width (instance_test_tree row.instance) + 1 + 1 in
      let set = flag_value a2 row.flag r.1 t.1.1.0 in
      let a3 = a2 + width (flag_tree row.flag) + 1 + 1 in
      let found = cell_value text a3 row.cell q.1 t.1.1.1.0 in
      let a4 = a3 + width (cell_tree row.cell) + 1 + 1 in
      let rest = access_value a4 rows p.1 t.1.1.1.1.0 in
      λ i. (let c : AccessRow = record { id = id i; instance = test i; flag = set i; cell = found i } in c) ∷ rest i

  pub functions_value : (at k j : ℕ) (list : List CFunction) (rows : List AccessRow) → is_unsigned k ≡ true → is_unsigned (j + length list) ≡ true
      → list_all spells_function list ≡ true → EachHas (λ f. HasBlocks (CFunction.body f)) list → list_all spells_access rows ≡ true
      → StandsAt text at (functions_words k j list rows) → map given.function_of (functions text (placed at (functions_tree k j list rows))) ≡ list
  unfolding functions function row_list template
  functions_value at k j [] rows u c h has a s = refl
  functions_value at k j (f ∷ list) rows u c h has a s =
      let p = and_parts (spells_function f) (list_all spells_function list) h in
      let q = and_parts (list_all is_argument f.arguments && list_all spells_statement f.body) (spells_atom f.value) p.0 in
      let r = and_parts (list_all is_argument f.arguments) (list_all spells_statement f.body) q.0 in
      let n = next_counted j f list c in
      let tree = functions_tree k (j + 1) list rows in
      let ws = functions_words k (j + 1) list rows in
      let t = row_stands text (at + 1) (function_pieces k j f tree ws)
      (type_written f.result ▹ module_function_word k j u n.0 ▹ arguments_written f.arguments r.0
      ▹ body_written k f.body u r.1 has.0 ▹ atom_written f.value q.1
      ▹ functions_written k (j + 1) list rows u n.1 p.1 has.1 a ▹ tt) s.1 in
      let a1 = at + 1 + width (type_tree f.result) + 1 + 1 in
      let args = arguments_value a1 f.arguments r.0 t.1.1.0 in
      let a2 = a1 + width (arguments_tree f.arguments) + 1 + 1 in
      let body = body_value text (a2 + width (body_tree k f.body) + (2 + width (atom_tree f.value))) a2 k f.body u r.1 has.0 t.1.1.1.0 in
      let a3 = a2 + width (body_tree k f.body) + 1 in
      let value = atom_value text a3 f.value q.1 t.1.1.1.1.0 in
      let a4 = a3 + width (atom_tree f.value) + 1 + 1 in
      let rest = functions_value a4 k (j + 1) list rows u n.1 p.1 has.1 a t.1.1.1.1.1.0 in
      λ i. (let g : CFunction = record { result = type_value (at + 1) f.result i; arguments = args i; body = body i; value = value i } in g) ∷ rest i

  -- the access rows stand at the end of the functions
  pub found_value : (k j : ℕ) (list : List CFunction) (rows : List AccessRow) (at : ℕ) → is_unsigned k ≡ true → is_unsigned (j + length list) ≡ true
      → list_all spells_function list ≡ true → EachHas (λ f. HasBlocks (CFunction.body f)) list → list_all spells_access rows ≡ true
      → StandsAt text at (functions_words k j list rows) → map given.access_row (access text (placed at (functions_tree k j list rows))) ≡ rows
  unfolding access row_list template
  found_value k j [] rows at u c h has a s =
      let t = row_stands text (at + 1) (found_pieces k rows) (names.access_word k u ▹ instance_written k u
      ▹ model_written k u ▹ access_rows_written rows a ▹ tt) s.1 in
      access_value _ rows a t.1.1.1.0
  found_value k j (f ∷ list) rows at u c h has a s =
      let p = and_parts (spells_function f) (list_all spells_function list) h in
      let q = and_parts (list_all is_argument f.arguments && list_all spells_statement f.body) (spells_atom f.value) p.0 in
      let r = and_parts (list_all is_argument f.arguments) (list_all spells_statement f.body) q.0 in
      let n = next_counted j f list c in
      let tree = functions_tree k (j + 1) list rows in
      let ws = functions_words k (j + 1) list rows in
      let t = row_stands text (at + 1) (function_pieces k j f tree ws)
      (type_written f.result ▹ module_function_word k j u n.0 ▹ arguments_written f.arguments r.0
      ▹ body_written k f.body u r.1 has.0 ▹ atom_written f.value q.1
      ▹ functions_written k (j + 1) list rows u n.1 p.1 has.1 a ▹ tt) s.1 in
      found_value k (j + 1) list rows _ u n.1 p.1 has.1 a t.1.1.1.1.1.0

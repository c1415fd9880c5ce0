-- The raw trees of functions and access rows in a text where their words stand.
use Rattle.std.proofs.Common.{◌≡◌, ◌+◌, ℕ, List, [], ◌∷◌, length, refl, ap, ◌∙◌}
use Rattle.std.specs.Prelude.{true, ◌&&◌, map}
use Rattle.std.specs.List.{list_all, enumerate_from}
use Rattle.std.proofs.lemmas.Bool.{and_parts}
use Rattle.c_tree.specs.declared.file.AccessRow.{AccessRow}
use Rattle.c_tree.specs.declared.file.CFunction.{CFunction}
use Rattle.c_tree.specs.Blocks.{HasBlocks}
use Rattle.c_tree.specs.Raw.{RawFunction}
use Rattle.c_tree.specs.RawOf.{at_0, raw_function, raw_access}
use Rattle.c_tree.specs.Spelling.{EachHas, is_unsigned, spells_atom, spells_statement, spells_function, spells_access}
use Rattle.c_tree.specs.Words.{template}
use Rattle.c_raw_build.specs.Placed.{width}
use Rattle.c_raw_build.specs.RawFiles.{arguments, function, functions, access}
use Rattle.c_raw_build.specs.Words.{CText, second_number, function_at}
use Rattle.c_law_print_parses.proofs.AtomValues.{placed, type_value, atom_value}
use Rattle.c_law_print_parses.proofs.Atoms.{type_tree, type_written, atom_tree, atom_written}
use Rattle.c_law_print_parses.proofs.Bodies.{body_tree, body_written}
use Rattle.c_law_print_parses.proofs.Functions.{is_argument, arguments_tree, arguments_written, function_pieces, functions_words, functions_tree, functions_written, next_counted}
use Rattle.c_law_print_parses.proofs.FunctionValues.{arguments_value, found_value}
use Rattle.c_law_words.proofs.Listed.{row_list}
use Rattle.c_law_words.proofs.Names.{module_function_word}
use Rattle.c_law_words.proofs.Pieces.{◌▹◌}
use Rattle.c_law_print_parses.proofs.Placing.{StandsAt, row_stands}
use Rattle.c_law_words.proofs.Values.{function_back}
use Rattle.c_law_form_ignores_places.specs.Forget.{forget_function, forget_access}
use Rattle.c_law_roundtrip.proofs.Kept.{raw_argument, arguments_kept, rows_kept}
use Rattle.c_law_roundtrip.proofs.BodyRaw.{body_raw}

module _ (text : CText) where
  pub functions_raw : (at k j : ℕ) (list : List CFunction) (rows : List AccessRow) → is_unsigned k ≡ true → is_unsigned (j + length list) ≡ true
      → list_all spells_function list ≡ true → EachHas (λ f. HasBlocks (CFunction.body f)) list → list_all spells_access rows ≡ true
      → StandsAt text at (functions_words k j list rows)
      → map forget_function (functions text (placed at (functions_tree k j list rows))) ≡ map raw_function (enumerate_from j list)
  unfolding functions function function_at row_list template
  functions_raw at k j [] rows u c h has a s = refl
  functions_raw at k j (f ∷ list) rows u c h has a s =
      let p = and_parts (spells_function f) (list_all spells_function list) h in
      let q = and_parts (list_all is_argument f.arguments && list_all spells_statement f.body) (spells_atom f.value) p.0 in
      let r = and_parts (list_all is_argument f.arguments) (list_all spells_statement f.body) q.0 in
      let n = next_counted j f list c in
      let tree = functions_tree k (j + 1) list rows in
      let ws = functions_words k (j + 1) list rows in
      let t = row_stands text (at + 1) (function_pieces k j f tree ws)
      (type_written f.result ▹ module_function_word k j u n.0 ▹ arguments_written f.arguments r.0
      ▹ body_written k f.body u r.1 has.0 ▹ atom_written f.value q.1
      ▹ functions_written k (j + 1) list rows u n.1 p.1 has.1 a ▹ tt) s.1 in
      let number = ap second_number t.1.0 ∙ function_back k j u n.0 in
      let a1 = at + 1 + width (type_tree f.result) + 1 + 1 in
      let args = arguments_kept (arguments text (placed a1 (arguments_tree f.arguments))) ∙ ap (map raw_argument) (arguments_value text a1 f.arguments r.0 t.1.1.0) in
      let a2 = a1 + width (arguments_tree f.arguments) + 1 + 1 in
      let body = body_raw text (a2 + width (body_tree k f.body) + (2 + width (atom_tree f.value))) a2 k f.body u r.1 has.0 t.1.1.1.0 in
      let a3 = a2 + width (body_tree k f.body) + 1 in
      let value = atom_value text a3 f.value q.1 t.1.1.1.1.0 in
      let a4 = a3 + width (atom_tree f.value) + 1 + 1 in
      let rest = functions_raw a4 k (j + 1) list rows u n.1 p.1 has.1 a t.1.1.1.1.1.0 in
      λ i. (let g : RawFunction = record {
        number = at_0 (number i);
        result = type_value (at + 1) f.result i;
        arguments = args i;
        body = body i;
        value = at_0 (value i);
      } in g) ∷ rest i

  pub access_raw : (k j : ℕ) (list : List CFunction) (rows : List AccessRow) (at : ℕ) → is_unsigned k ≡ true → is_unsigned (j + length list) ≡ true
      → list_all spells_function list ≡ true → EachHas (λ f. HasBlocks (CFunction.body f)) list → list_all spells_access rows ≡ true
      → StandsAt text at (functions_words k j list rows)
      → map forget_access (access text (placed at (functions_tree k j list rows))) ≡ map raw_access rows
  access_raw k j list rows at u c h has a s =
      rows_kept (access text (placed at (functions_tree k j list rows))) ∙ ap (map raw_access) (found_value text k j list rows at u c h has a s)

-- The fields of structs: what is read from their names.
use Rattle.std.proofs.Common.{◌≡◌, ◌+◌, ℕ, List, [], ◌∷◌, ◌++◌, length, take, drop, refl, ap, sym, ◌∙◌}
use Rattle.std.specs.Prelude.{Bool, true, false, ◌||◌, if◌then◌else◌, map, codes}
use Rattle.std.specs.List.{list_all, list_any, flat_map}
use Rattle.std.specs.Str.{bytes_eq}
use Rattle.std.proofs.lemmas.Bool.{and_parts, both_ways}
use Rattle.std.proofs.lemmas.List.{take-append-drop}
use Rattle.std.proofs.lemmas.Slice.Eq.{bytes_eq-Decides}
use Rattle.va_base.specs.Numerals.{number_of}
use Rattle.c_tree.specs.declared.body.CField.{CField}
use Rattle.c_tree.specs.declared.table.FieldRow.{FieldRow}
use Rattle.c_tree.specs.Raw.{RawField}
use Rattle.c_tree.specs.RawOf.{at_0, field_of, raw_field}
use Rattle.c_tree.specs.Spelling.{is_number_text, is_lettered, is_field_name, spells_row}
use Rattle.c_tree.specs.Text.{field_type, field_words}
use Rattle.c_tree.specs.Words.{template}
use Rattle.c_syntax.specs.grammar.Kinds.{is_no_digit}
use Rattle.c_raw_build.specs.Placed.{width}
use Rattle.c_raw_build.specs.RawFiles as parts
use Rattle.c_raw_build.specs.RawFiles.{fields}
use Rattle.c_raw_build.specs.Words.{CText, field_lettered, field_at}
use Rattle.c_law_words.specs.Values.{field_in}
use Rattle.c_law_print_parses.proofs.AtomValues.{placed, type_value}
use Rattle.c_law_print_parses.proofs.Atoms.{type_tree, type_written}
use Rattle.c_law_print_parses.proofs.Functions.{field_row_pieces, fields_tree, fields_written}
use Rattle.c_law_print_parses.proofs.Lefts.{fields_left}
use Rattle.c_law_words.proofs.Listed.{row_list}
use Rattle.c_law_words.proofs.Pieces.{◌▹◌, part as piece, ◌⋄◌}
use Rattle.c_law_print_parses.proofs.Placing.{StandsAt, row_stands}
use Rattle.c_law_words.proofs.Strings.{field_row_named}
use Rattle.c_law_words.proofs.Values.{field_split, no_first, number_text_back}
use Rattle.c_law_form_ignores_places.specs.Forget.{forget_field}

-- a name of these letters names the field with its number
lettered_in : (name letters : List ℕ) → list_all is_no_digit letters ≡ true → is_lettered name letters ≡ true
    → field_in name ≡ field_lettered letters (number_of (drop (length letters) name))
lettered_in name letters e h =
    let ds = drop (length letters) name in
    let p = and_parts (bytes_eq (take (length letters) name) letters) (is_number_text ds) h in
    let front = (bytes_eq-Decides (take (length letters) name) letters).0 p.0 in
    let whole : letters ++ ds ≡ name = ap (λ l. l ++ ds) (sym front) ∙ take-append-drop (length letters) name in
    let number = number_text_back ds p.1 in
    ap field_in (sym whole) ∙ field_split letters ds (number_of ds) e (no_first ds number.1) refl

-- the letters of a name are these, or else among the others
by_letters : (name letters : List ℕ) (all : List (List ℕ)) (b : Bool) (here other : CField) → is_lettered name letters ≡ b → list_all is_no_digit letters ≡ true
    → field_lettered letters (number_of (drop (length letters) name)) ≡ here → (list_any (is_lettered name) all ≡ true → field_in name ≡ other)
    → list_any (is_lettered name) (letters ∷ all) ≡ true → field_in name ≡ (if b then here else other)
by_letters name letters all true here other t e v rest h = lettered_in name letters e t ∙ v
by_letters name letters all false here other t e v rest h = rest (sym (ap (λ c. c || list_any (is_lettered name) all) t) ∙ h)

abbrev letters_left : ℕ → List (List ℕ)
letters_left n = drop n (codes "p" ∷ codes "g" ∷ codes "r" ∷ codes "q" ∷ codes "er" ∷ codes "eq" ∷ codes "o" ∷ codes "h" ∷ [])

name_field : (name : List ℕ) → is_field_name name ≡ true → field_in name ≡ field_of name
name_field name h =
    by_letters name (codes "p") (letters_left 1) (is_lettered name (codes "p")) _ _ refl refl refl
    (by_letters name (codes "g") (letters_left 2) (is_lettered name (codes "g")) _ _ refl refl refl
    (by_letters name (codes "r") (letters_left 3) (is_lettered name (codes "r")) _ _ refl refl refl
    (by_letters name (codes "q") (letters_left 4) (is_lettered name (codes "q")) _ _ refl refl refl
    (by_letters name (codes "er") (letters_left 5) (is_lettered name (codes "er")) _ _ refl refl refl
    (by_letters name (codes "eq") (letters_left 6) (is_lettered name (codes "eq")) _ _ refl refl refl
    (by_letters name (codes "o") (letters_left 7) (is_lettered name (codes "o")) _ _ refl refl refl
    (by_letters name (codes "h") [] (is_lettered name (codes "h")) _ _ refl refl refl (λ e. absurd (both_ways false refl e))))))))) h

module _ (text : CText) where
  pub fields_raw : (at : ℕ) (list : List FieldRow) → list_all spells_row list ≡ true → StandsAt text at (flat_map field_words list)
      → map forget_field (fields text (placed at (fields_tree list))) ≡ map raw_field list
  unfolding fields parts.raw_field field_at row_list template
  fields_raw at [] h s = refl
  fields_raw at (field ∷ list) h s =
      let p = and_parts (spells_row field) (list_all spells_row list) h in
      let ty = field_type field.integer in
      let t = row_stands text at (field_row_pieces field ⋄ piece fields_left (fields_tree list) (flat_map field_words list)) (type_written ty
      ▹ field_row_named field.name p.0 ▹ fields_written list p.1 ▹ tt) s in
      let name = ap field_in t.1.0 ∙ name_field field.name p.0 in
      let rest = fields_raw (at + width (type_tree ty) + 1 + 1) list p.1 t.1.1.0 in
      λ i. (let f : RawField = record { ty = type_value at ty i; field = at_0 (name i) } in f) ∷ rest i

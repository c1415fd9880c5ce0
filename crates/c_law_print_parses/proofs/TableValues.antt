-- What the trees of tables stand for in a text where their words stand.
use Rattle.std.proofs.Common.{◌≡◌, ◌+◌, ℕ, List, [], ◌∷◌, ◌++◌, length, refl, ap, sym, subst, ◌∙◌, arith, Option, Some, None}
use Rattle.std.specs.Prelude.{Bool, true, false, ◌&&◌, ◌||◌, nat_lt, map, codes}
use Rattle.std.specs.List.{list_all, enumerate_from}
use Rattle.std.proofs.lemmas.Bool.{and_parts, both_ways}
use Rattle.predict.specs.Tree.{Tree}
use Rattle.va_base.specs.Numerals.{number_of}
use Rattle.c_tree.specs.declared.body.CField.TheVariants.{Resist, React}
use Rattle.c_tree.specs.declared.table.EntryRow.{EntryRow}
use Rattle.c_tree.specs.declared.table.NodeRow.{NodeRow}
use Rattle.c_tree.specs.declared.table.PairRow.{PairRow}
use Rattle.c_tree.specs.declared.table.ParamKind.{ParamKind}
use Rattle.c_tree.specs.declared.table.ParamKind.TheVariants.{Inst, Model as OfModel, Opvar}
use Rattle.c_tree.specs.declared.table.ParamRow.{ParamRow}
use Rattle.c_tree.specs.FileOf as given
use Rattle.c_tree.specs.Spelling.{is_unsigned, is_integer, is_counted, are_bytes, spells_node, spells_entry, spells_second, spells_pair, spells_param}
use Rattle.c_tree.specs.Text.{node_words, second_word, pair_words, entry_words, parameter_words}
use Rattle.c_tree.specs.Words.{Word, template, word, string_word, marked}
use Rattle.c_raw_build.specs.Placed.{width}
use Rattle.c_raw_build.specs.RawTables.{node_row, node_rows, second_node, pair, has_resist, has_react, entry_row, entry_rows, pair_rows, more_strings, is_integer_param, param_kind, param_row, param_rows}
use Rattle.c_raw_build.specs.Words.{CText, word_at, string_at, string_bytes, between_quotes}
use Rattle.c_law_words.proofs.Listed.{row_list}
use Rattle.c_law_print_parses.proofs.Lefts.{node_rows_left, pair_rows_left, entry_rows_left, param_rows_left}
use Rattle.c_raw_build.specs.RowNumbers.{pair_row as pair_number}
use Rattle.c_law_words.proofs.Pieces.{◌▹◌, Writes, part as piece, ◌⋄◌, line, row_tree}
use Rattle.c_law_print_parses.proofs.Placing.{StandsAt, row_stands}
use Rattle.c_law_print_parses.proofs.AtomValues.{placed}
use Rattle.c_law_words.proofs.Values.{integer_back, unsigned_back, string_back}
use Rattle.c_law_words.proofs.Names.{inst_word}
use Rattle.c_law_words.proofs.Strings.{string_named}
use Rattle.c_law_print_parses.proofs.Atoms.{number_tree, number_written, integer_written, field_written}
use Rattle.c_law_print_parses.proofs.Functions.{next_counted}
use Rattle.c_law_print_parses.proofs.Tables.{node_pieces, nodes_words, nodes_tree, nodes_written, second_tree, second_written, pair_pieces, pair_part, pair_written, rows_words, rows_next, pairs_tree, pairs_written, pointer_tree, pointer_written, parts_tree, parts_written, entry_pieces, entries_words, entries_tree, entries_written, named_words, more_strings_tree, more_strings_written, param_type_tree, param_type_written, param_kind_tree, param_kind_written, param_pieces, param_words, param_tree, params_tree, params_written, parameter_is, aliases_counted}

module _ (text : CText) where
  pub string_value : (at to : ℕ) (bytes : List ℕ) → at ≡ to → are_bytes bytes ≡ true → word_at text at ≡ string_word bytes → string_at text to ≡ bytes
  unfolding string_at
  string_value at to bytes e h w = ap (λ i. string_bytes (between_quotes (word_at text i))) (sym e) ∙ ap (λ v. string_bytes (between_quotes v)) w ∙ string_back bytes h

  pub nodes_value : (k i : ℕ) (list : List NodeRow) (at : ℕ) → is_unsigned k ≡ true → is_unsigned (i + length list) ≡ true → list_all spells_node list ≡ true
      → StandsAt text at (nodes_words k i list) → map given.node_row (node_rows text (placed at (nodes_tree k i list))) ≡ list
  unfolding node_rows node_row node_words row_list template
  nodes_value k i [] at u c h s = refl
  nodes_value k i (node ∷ list) at u c h s =
      let p = and_parts (spells_node node) (list_all spells_node list) h in
      let q = and_parts (are_bytes node.name && are_bytes node.units && are_bytes node.residual_units) (is_integer node.is_flow) p.0 in
      let r = and_parts (are_bytes node.name && are_bytes node.units) (are_bytes node.residual_units) q.0 in
      let b = and_parts (are_bytes node.name) (are_bytes node.units) r.0 in
      let n = next_counted i node list c in
      let t = row_stands text (at + 1) (node_pieces k i node ⋄ piece node_rows_left (nodes_tree k (i + 1) list) (nodes_words k (i + 1) list))
      (string_named node.name b.0 ▹ string_named node.units b.1 ▹ string_named node.residual_units r.1 ▹ inst_word k u
      ▹ field_written (Resist i) n.0 ▹ inst_word k u ▹ field_written (React i) n.0 ▹ integer_written node.is_flow q.1
      ▹ nodes_written k (i + 1) list u n.1 p.1 ▹ tt) s.1 in
      let name = string_value _ (at + 1 + 2) node.name (omega arith) b.0 t.0 in
      let units = string_value _ (at + 1 + 6) node.units (omega arith) b.1 t.1.0 in
      let residual = string_value _ (at + 1 + 10) node.residual_units (omega arith) r.1 t.1.1.0 in
      let flow = ap number_of t.1.1.1.1.1.1.1.0.0 ∙ integer_back node.is_flow q.1 in
      let rest = nodes_value k (i + 1) list _ u n.1 p.1 t.1.1.1.1.1.1.1.1.0 in
      λ j. (let f : NodeRow = record { name = name j; units = units j; residual_units = residual j; is_flow = flow j } in f) ∷ rest j

  pub second_value : (at : ℕ) (second : Option ℕ) → spells_second second ≡ true → StandsAt text at (word (second_word second)) → second_node text (placed at (second_tree second)) ≡ second
  unfolding second_node row_list template
  second_value at None h s = refl
  second_value at (Some node) h s = ap (λ w. Some (number_of w)) s.0 ∙ ap Some (unsigned_back node h)

  pub pairs_value : (list : List PairRow) (at : ℕ) → list_all spells_pair list ≡ true → StandsAt text at (rows_words pair_words list)
      → map given.pair_row (pair_rows text (placed at (pairs_tree list))) ≡ list
  unfolding pair_rows pair row_list template
  pairs_value [] at h s = refl
  pairs_value (p ∷ list) at h s =
      let a = and_parts (spells_pair p) (list_all spells_pair list) h in
      let b = and_parts (is_unsigned p.first) (spells_second p.second) a.0 in
      let t = row_stands text (at + 1) (pair_part p.first p.second ⋄ line (codes "} ,") ⋄ piece pair_rows_left (pairs_tree list) (rows_words pair_words list))
      (pair_written p.first p.second b.0 b.1 ▹ pairs_written list a.1 ▹ tt) s.1 in
      let v = row_stands text (at + 1) (pair_pieces p.first p.second) (number_written p.first b.0
      ▹ second_written p.second b.1 ▹ tt) t.0 in
      let first = ap number_of v.0.0 ∙ unsigned_back p.first b.0 in
      let second = second_value _ p.second b.1 v.1.0 in
      let rest = pairs_value list _ a.1 t.1.0 in
      λ j. (let f : PairRow = record { first = first j; second = second j } in f) ∷ rest j

  pub resist_value : (at : ℕ) (resist react : Bool) → has_resist (placed at (parts_tree resist react)) ≡ resist
  unfolding has_resist
  resist_value at true react = refl
  resist_value at false react = refl

  pub react_value : (at : ℕ) (resist react : Bool) → (resist || react) ≡ true → has_react (placed at (parts_tree resist react)) ≡ react
  unfolding has_react row_list template
  react_value at true true h = refl
  react_value at true false h = refl
  react_value at false true h = refl
  react_value at false false h = absurd (both_ways false refl h)

  pub entries_value : (k e : ℕ) (list : List EntryRow) (at : ℕ) → is_unsigned k ≡ true → is_unsigned (e + length list) ≡ true → list_all spells_entry list ≡ true
      → StandsAt text at (entries_words k e list) → map given.entry_row (entry_rows text (placed at (entries_tree k e list))) ≡ list
  unfolding entry_rows entry_row pair entry_words row_list template
  entries_value k e [] at u c h s = refl
  entries_value k e (entry ∷ list) at u c h s =
      let p = and_parts (spells_entry entry) (list_all spells_entry list) h in
      let q = and_parts (is_unsigned entry.row && is_unsigned entry.col) (entry.resist || entry.react) p.0 in
      let r = and_parts (is_unsigned entry.row) (is_unsigned entry.col) q.0 in
      let n = next_counted e entry list c in
      let grouped = subst (λ l. StandsAt text at l) (sym (rows_next (λ z. entry_words k z.0 z.1) (e, entry) (enumerate_from (e + 1) list))) s in
      let t = row_stands text (at + 1) (entry_pieces k e entry ⋄ piece entry_rows_left (entries_tree k (e + 1) list) (entries_words k (e + 1) list))
      (pair_written entry.row (Some entry.col) r.0 r.1 ▹ pointer_written k e entry.react u n.0
      ▹ parts_written entry.resist entry.react q.1 ▹ entries_written k (e + 1) list u n.1 p.1 ▹ tt) grouped.1 in
      let v = row_stands text _ (pair_pieces entry.row (Some entry.col)) (number_written entry.row r.0
      ▹ second_written (Some entry.col) r.1 ▹ tt) t.0 in
      let row = ap number_of v.0.0 ∙ unsigned_back entry.row r.0 in
      let col = ap given.column_of (second_value _ (Some entry.col) r.1 v.1.0) in
      let a1 = at + 1 + 1 + 1 + 1 + width (row_tree pair_number (pair_pieces entry.row (Some entry.col))) + 1 + 1 + 1 + 1 in
      let a2 = a1 + width (pointer_tree k e entry.react) + 1 + 1 + 1 in
      let resist = resist_value a2 entry.resist entry.react in
      let react = react_value a2 entry.resist entry.react q.1 in
      let rest = entries_value k (e + 1) list _ u n.1 p.1 t.1.1.1.0 in
      λ j. (let f : EntryRow = record { row = row j; col = col j; resist = resist j; react = react j } in f) ∷ rest j

  pub more_strings_value : (at : ℕ) (list : List (List ℕ)) → list_all are_bytes list ≡ true → StandsAt text at (marked (codes ",") named_words list)
      → more_strings text (placed at (more_strings_tree list)) ≡ list
  unfolding more_strings row_list template
  more_strings_value at [] h s = refl
  more_strings_value at (name ∷ list) h s =
      let p = and_parts (are_bytes name) (list_all are_bytes list) h in
      let first = string_value (at + 1) (at + 1) name refl p.0 s.1.0 in
      let rest = more_strings_value (at + 1 + 1) list p.1 s.1.1 in
      λ j. first j ∷ rest j

  pub param_type_value : (at : ℕ) (b : Bool) → is_integer_param (placed at (param_type_tree b)) ≡ b
  unfolding is_integer_param
  param_type_value at true = refl
  param_type_value at false = refl

  pub param_kind_value : (at : ℕ) (kind : ParamKind) → param_kind (placed at (param_kind_tree kind)) ≡ kind
  unfolding param_kind
  param_kind_value at Inst = refl
  param_kind_value at OfModel = refl
  param_kind_value at Opvar = refl

  -- a row of the parameters, and where the rest of them stands
  record ParamGiven (at : ℕ) (names : List (List ℕ)) (description units : List ℕ) (integer : Bool) (kind : ParamKind) (rest : Tree) (ws : List Word) : Type 0 where
    place : ℕ
    stands : StandsAt text place ws
    value : map given.param_row (param_rows text (placed at (param_tree names description units integer kind rest ws)))
        ≡ (let r : ParamRow = record { names = names; description = description; units = units; integer = integer; kind = kind } in r)
        ∷ map given.param_row (param_rows text (placed place rest))

  param_value : (at : ℕ) (names : List (List ℕ)) (description units : List ℕ) (integer : Bool) (kind : ParamKind) (rest : Tree) (ws : List Word)
      → nat_lt 0 (length names) ≡ true → is_counted names ≡ true → list_all are_bytes names ≡ true → are_bytes description ≡ true → are_bytes units ≡ true
      → Writes param_rows_left rest ws → StandsAt text at ((param_words names description units integer kind ++ word (codes ",")) ++ ws)
      → ParamGiven at names description units integer kind rest ws
  unfolding param_rows param_row is_integer_param param_kind row_list template
  param_value at [] description units integer kind rest ws some c h d g w s = absurd (both_ways false refl some)
  param_value at (name ∷ names) description units integer kind rest ws some c h d g w s =
      let p = and_parts (are_bytes name) (list_all are_bytes names) h in
      let t = row_stands text (at + 1) (param_pieces (name ∷ names) description units integer kind ⋄ piece param_rows_left rest ws)
      (string_named name p.0 ▹ more_strings_written names p.1
      ▹ number_written (length names) (aliases_counted name names c) ▹ string_named description d
      ▹ string_named units g ▹ param_type_written integer ▹ param_kind_written kind ▹ w ▹ tt) s.1 in
      let first = string_value _ (at + 1 + 9) name (omega arith) p.0 t.0 in
      let more = more_strings_value _ names p.1 t.1.0 in
      let told = string_value _ _ description (omega arith) d t.1.1.1.0 in
      let unit = string_value _ _ units (omega arith) g t.1.1.1.1.0 in
      let a1 = at + 1 + 1 + 1 + 1 + 1 + 1 + 1 + 1 + 1 + 1 + 1 + width (more_strings_tree names) + 1 + 1 + 1 + 1 in
      let a2 = a1 + width (number_tree (length names)) + 1 + 1 + 1 + 1 + 1 + 1 + 1 + 1 + 1 + 1 + 1 in
      let place = a2 + width (param_type_tree integer) + 1 + width (param_kind_tree kind) + 1 + 1 + 1 + 1 + 1 + 1 in
      record {
        place = place;
        stands = t.1.1.1.1.1.1.1.0;
        value = λ j. (let r : ParamRow = record { names = first j ∷ more j; description = told j; units = unit j; integer = param_type_value 0 integer j; kind = param_kind_value 0 kind j } in r) ∷ map given.param_row (param_rows text (placed place rest));
      }

  no_params : (at : ℕ) → map given.param_row (param_rows text (placed at (params_tree []))) ≡ []
  unfolding param_rows row_list template
  no_params at = refl

  pub params_value : (list : List ParamRow) (at : ℕ) → list_all spells_param list ≡ true → StandsAt text at (rows_words parameter_words list)
      → map given.param_row (param_rows text (placed at (params_tree list))) ≡ list
  params_value [] at h s = no_params at
  params_value (p ∷ list) at h s =
      let a = and_parts (spells_param p) (list_all spells_param list) h in
      let b = and_parts (nat_lt 0 (length p.names) && is_counted p.names && list_all are_bytes p.names && are_bytes p.description) (are_bytes p.units) a.0 in
      let c = and_parts (nat_lt 0 (length p.names) && is_counted p.names && list_all are_bytes p.names) (are_bytes p.description) b.0 in
      let d = and_parts (nat_lt 0 (length p.names) && is_counted p.names) (list_all are_bytes p.names) c.0 in
      let e = and_parts (nat_lt 0 (length p.names)) (is_counted p.names) d.0 in
      let ws = rows_words parameter_words list in
      let grouped = subst (λ l. StandsAt text at l) (sym (ap (λ l. (l ++ word (codes ",")) ++ ws) (sym (parameter_is p)) ∙ rows_next parameter_words p list)) s in
      let g = param_value at p.names p.description p.units p.integer p.kind (params_tree list) ws e.0 e.1 d.1 c.1 b.1 (params_written list a.1) grouped in
      g.value ∙ ap (λ l. p ∷ l) (params_value list g.place a.1 g.stands)

-- The raw trees of tables in a text where their words stand.
use Rattle.std.proofs.Common.{◌≡◌, ◌+◌, ℕ, List, [], ◌∷◌, ◌++◌, length, refl, ap, sym, subst, ◌∙◌, arith, Some, None}
use Rattle.std.specs.Prelude.{Bool, true, false, ◌&&◌, ◌||◌, if◌then◌else◌, nat_lt, map, codes}
use Rattle.std.specs.List.{list_all, enumerate_from}
use Rattle.std.proofs.lemmas.Bool.{and_parts, both_ways}
use Rattle.predict.specs.Tree.{Tree}
use Rattle.va_base.specs.Numerals.{number_of}
use Rattle.c_tree.specs.declared.body.CField.TheVariants.{Resist, React}
use Rattle.c_tree.specs.declared.table.EntryRow.{EntryRow}
use Rattle.c_tree.specs.declared.table.NodeRow.{NodeRow}
use Rattle.c_tree.specs.declared.table.PairRow.{PairRow}
use Rattle.c_tree.specs.declared.table.ParamKind.{ParamKind}
use Rattle.c_tree.specs.declared.table.ParamRow.{ParamRow}
use Rattle.c_tree.specs.Raw.{RawNode, RawPair, RawEntry, RawParam}
use Rattle.c_tree.specs.RawOf.{at_0, raw_node, raw_pair, raw_entry, raw_param}
use Rattle.c_tree.specs.Spelling.{is_unsigned, is_integer, is_counted, are_bytes, spells_node, spells_entry, spells_pair, spells_param}
use Rattle.c_tree.specs.Text.{node_words, pair_words, react_offset_words, entry_words, parameter_words}
use Rattle.c_tree.specs.Words.{Word, template, word}
use Rattle.c_raw_build.specs.Placed.{width}
use Rattle.c_raw_build.specs.RawTables.{node_row, node_rows, pair, pair_rows, react_pointer, entry_row, entry_rows, is_integer_param, param_kind, param_row, param_rows}
use Rattle.c_raw_build.specs.Words.{CText}
use Rattle.c_law_print_parses.proofs.AtomValues.{placed, field_value}
use Rattle.c_law_print_parses.proofs.Atoms.{number_tree, number_written, integer_written, field_written}
use Rattle.c_law_print_parses.proofs.Functions.{next_counted}
use Rattle.c_law_print_parses.proofs.Lefts.{node_rows_left, entry_rows_left, param_rows_left}
use Rattle.c_law_words.proofs.Listed.{row_list}
use Rattle.c_law_words.proofs.Names.{inst_word}
use Rattle.c_law_words.proofs.Pieces.{◌▹◌, Writes, part as piece, ◌⋄◌, row_tree}
use Rattle.c_law_print_parses.proofs.Placing.{StandsAt, row_stands}
use Rattle.c_law_words.proofs.Strings.{string_named}
use Rattle.c_law_print_parses.proofs.TableValues.{string_value, second_value, pairs_value, resist_value, react_value, more_strings_value, param_type_value, param_kind_value}
use Rattle.c_law_print_parses.proofs.Tables.{node_pieces, nodes_words, nodes_tree, nodes_written, second_written, pair_pieces, pair_written, rows_words, rows_next, pairs_tree, pointer_tree, pointer_written, parts_written, entry_pieces, entries_words, entries_tree, entries_written, more_strings_tree, more_strings_written, param_type_tree, param_type_written, param_kind_tree, param_kind_written, param_pieces, param_words, param_tree, params_tree, params_written, parameter_is, aliases_counted}
use Rattle.c_law_words.proofs.Values.{integer_back, unsigned_back}
use Rattle.c_raw_build.specs.RowNumbers.{pair_row as pair_number}
use Rattle.c_law_form_ignores_places.specs.Forget.{forget_node, forget_pair, forget_entry, forget_param}
use Rattle.c_law_roundtrip.proofs.Kept.{pairs_kept}

module _ (text : CText) where
  pub nodes_raw : (k i : ℕ) (list : List NodeRow) (at : ℕ) → is_unsigned k ≡ true → is_unsigned (i + length list) ≡ true → list_all spells_node list ≡ true
      → StandsAt text at (nodes_words k i list) → map forget_node (node_rows text (placed at (nodes_tree k i list))) ≡ map raw_node (enumerate_from i list)
  unfolding node_rows node_row node_words row_list template
  nodes_raw k i [] at u c h s = refl
  nodes_raw k i (node ∷ list) at u c h s =
      let p = and_parts (spells_node node) (list_all spells_node list) h in
      let q = and_parts (are_bytes node.name && are_bytes node.units && are_bytes node.residual_units) (is_integer node.is_flow) p.0 in
      let r = and_parts (are_bytes node.name && are_bytes node.units) (are_bytes node.residual_units) q.0 in
      let b = and_parts (are_bytes node.name) (are_bytes node.units) r.0 in
      let n = next_counted i node list c in
      let t = row_stands text (at + 1) (node_pieces k i node ⋄ piece node_rows_left (nodes_tree k (i + 1) list) (nodes_words k (i + 1) list))
      (string_named node.name b.0 ▹ string_named node.units b.1 ▹ string_named node.residual_units r.1 ▹ inst_word k u
      ▹ field_written (Resist i) n.0 ▹ inst_word k u ▹ field_written (React i) n.0 ▹ integer_written node.is_flow q.1
      ▹ nodes_written k (i + 1) list u n.1 p.1 ▹ tt) s.1 in
      let name = string_value text _ (at + 1 + 2) node.name (omega arith) b.0 t.0 in
      let units = string_value text _ (at + 1 + 6) node.units (omega arith) b.1 t.1.0 in
      let residual = string_value text _ (at + 1 + 10) node.residual_units (omega arith) r.1 t.1.1.0 in
      let resist = field_value text _ (Resist i) n.0 t.1.1.1.1.0 in
      let react = field_value text _ (React i) n.0 t.1.1.1.1.1.1.0 in
      let flow = ap number_of t.1.1.1.1.1.1.1.0.0 ∙ integer_back node.is_flow q.1 in
      let rest = nodes_raw k (i + 1) list _ u n.1 p.1 t.1.1.1.1.1.1.1.1.0 in
      λ j. (let f : RawNode = record {
        name = name j;
        units = units j;
        residual_units = residual j;
        resist = at_0 (resist j);
        react = at_0 (react j);
        is_flow = flow j;
      } in f) ∷ rest j

  pub pairs_raw : (list : List PairRow) (at : ℕ) → list_all spells_pair list ≡ true → StandsAt text at (rows_words pair_words list)
      → map forget_pair (pair_rows text (placed at (pairs_tree list))) ≡ map raw_pair list
  pairs_raw list at h s = pairs_kept (pair_rows text (placed at (pairs_tree list))) ∙ ap (map raw_pair) (pairs_value text list at h s)

  pointer_value : (at k e : ℕ) (react : Bool) → is_unsigned e ≡ true → StandsAt text at (react_offset_words k e react)
      → react_pointer text (placed at (pointer_tree k e react)) ≡ (if react then Some e else None)
  unfolding react_pointer row_list template
  pointer_value at k e false h s = refl
  pointer_value at k e true h s = ap (λ w. Some (number_of w)) s.1.1.1.1.1.1.0 ∙ ap Some (unsigned_back e h)

  pub entries_raw : (k e : ℕ) (list : List EntryRow) (at : ℕ) → is_unsigned k ≡ true → is_unsigned (e + length list) ≡ true → list_all spells_entry list ≡ true
      → StandsAt text at (entries_words k e list) → map forget_entry (entry_rows text (placed at (entries_tree k e list))) ≡ map raw_entry (enumerate_from e list)
  unfolding entry_rows entry_row pair entry_words row_list template
  entries_raw k e [] at u c h s = refl
  entries_raw k e (entry ∷ list) at u c h s =
      let p = and_parts (spells_entry entry) (list_all spells_entry list) h in
      let q = and_parts (is_unsigned entry.row && is_unsigned entry.col) (entry.resist || entry.react) p.0 in
      let r = and_parts (is_unsigned entry.row) (is_unsigned entry.col) q.0 in
      let n = next_counted e entry list c in
      let grouped = subst (λ l. StandsAt text at l) (sym (rows_next (λ z. entry_words k z.0 z.1) (e, entry) (enumerate_from (e + 1) list))) s in
      let t = row_stands text (at + 1) (entry_pieces k e entry ⋄ piece entry_rows_left (entries_tree k (e + 1) list) (entries_words k (e + 1) list))
      (pair_written entry.row (Some entry.col) r.0 r.1 ▹ pointer_written k e entry.react u n.0
      ▹ parts_written entry.resist entry.react q.1 ▹ entries_written k (e + 1) list u n.1 p.1 ▹ tt) grouped.1 in
      let v = row_stands text _ (pair_pieces entry.row (Some entry.col)) (number_written entry.row r.0
      ▹ second_written (Some entry.col) r.1 ▹ tt) t.0 in
      let row = ap number_of v.0.0 ∙ unsigned_back entry.row r.0 in
      let col = second_value text _ (Some entry.col) r.1 v.1.0 in
      let a1 = at + 1 + 1 + 1 + 1 + width (row_tree pair_number (pair_pieces entry.row (Some entry.col))) + 1 + 1 + 1 + 1 in
      let offset = pointer_value a1 k e entry.react n.0 t.1.0 in
      let a2 = a1 + width (pointer_tree k e entry.react) + 1 + 1 + 1 in
      let resist = resist_value text a2 entry.resist entry.react in
      let react = react_value text a2 entry.resist entry.react q.1 in
      let rest = entries_raw k (e + 1) list _ u n.1 p.1 t.1.1.1.0 in
      λ j. (let f : RawEntry = record {
        pair = (let g : RawPair = record { first = at_0 (row j); second = at_0 (col j) } in g);
        react_offset = at_0 (offset j);
        resist = resist j;
        react = react j;
      } in f) ∷ rest j

  -- a row of the parameters, and where the rest of them stands
  record ParamRaw (at : ℕ) (names : List (List ℕ)) (description units : List ℕ) (integer : Bool) (kind : ParamKind) (rest : Tree) (ws : List Word) : Type 0 where
    place : ℕ
    stands : StandsAt text place ws
    value : map forget_param (param_rows text (placed at (param_tree names description units integer kind rest ws)))
        ≡ raw_param (record { names = names; description = description; units = units; integer = integer; kind = kind })
        ∷ map forget_param (param_rows text (placed place rest))

  one_param : (at : ℕ) (names : List (List ℕ)) (description units : List ℕ) (integer : Bool) (kind : ParamKind) (rest : Tree) (ws : List Word)
      → nat_lt 0 (length names) ≡ true → is_counted names ≡ true → list_all are_bytes names ≡ true → are_bytes description ≡ true → are_bytes units ≡ true
      → Writes param_rows_left rest ws → StandsAt text at ((param_words names description units integer kind ++ word (codes ",")) ++ ws)
      → ParamRaw at names description units integer kind rest ws
  unfolding param_rows param_row is_integer_param param_kind row_list template
  one_param at [] description units integer kind rest ws some c h d g w s = absurd (both_ways false refl some)
  one_param at (name ∷ names) description units integer kind rest ws some c h d g w s =
      let p = and_parts (are_bytes name) (list_all are_bytes names) h in
      let t = row_stands text (at + 1) (param_pieces (name ∷ names) description units integer kind ⋄ piece param_rows_left rest ws)
      (string_named name p.0 ▹ more_strings_written names p.1
      ▹ number_written (length names) (aliases_counted name names c) ▹ string_named description d
      ▹ string_named units g ▹ param_type_written integer ▹ param_kind_written kind ▹ w ▹ tt) s.1 in
      let first = string_value text _ (at + 1 + 9) name (omega arith) p.0 t.0 in
      let more = more_strings_value text _ names p.1 t.1.0 in
      let aliases = ap number_of t.1.1.0.0 ∙ unsigned_back (length names) (aliases_counted name names c) in
      let told = string_value text _ _ description (omega arith) d t.1.1.1.0 in
      let unit = string_value text _ _ units (omega arith) g t.1.1.1.1.0 in
      let a1 = at + 1 + 1 + 1 + 1 + 1 + 1 + 1 + 1 + 1 + 1 + 1 + width (more_strings_tree names) + 1 + 1 + 1 + 1 in
      let a2 = a1 + width (number_tree (length names)) + 1 + 1 + 1 + 1 + 1 + 1 + 1 + 1 + 1 + 1 + 1 in
      let place = a2 + width (param_type_tree integer) + 1 + width (param_kind_tree kind) + 1 + 1 + 1 + 1 + 1 + 1 in
      record {
        place = place;
        stands = t.1.1.1.1.1.1.1.0;
        value = λ j. (let r : RawParam = record {
          names = first j ∷ more j;
          num_alias = at_0 (aliases j);
          description = told j;
          units = unit j;
          integer = param_type_value text 0 integer j;
          kind = at_0 (param_kind_value text 0 kind j);
        } in r) ∷ map forget_param (param_rows text (placed place rest));
      }

  no_params : (at : ℕ) → map forget_param (param_rows text (placed at (params_tree []))) ≡ []
  unfolding param_rows row_list template
  no_params at = refl

  pub params_raw : (list : List ParamRow) (at : ℕ) → list_all spells_param list ≡ true → StandsAt text at (rows_words parameter_words list)
      → map forget_param (param_rows text (placed at (params_tree list))) ≡ map raw_param list
  params_raw [] at h s = no_params at
  params_raw (p ∷ list) at h s =
      let a = and_parts (spells_param p) (list_all spells_param list) h in
      let b = and_parts (nat_lt 0 (length p.names) && is_counted p.names && list_all are_bytes p.names && are_bytes p.description) (are_bytes p.units) a.0 in
      let c = and_parts (nat_lt 0 (length p.names) && is_counted p.names && list_all are_bytes p.names) (are_bytes p.description) b.0 in
      let d = and_parts (nat_lt 0 (length p.names) && is_counted p.names) (list_all are_bytes p.names) c.0 in
      let e = and_parts (nat_lt 0 (length p.names)) (is_counted p.names) d.0 in
      let ws = rows_words parameter_words list in
      let grouped = subst (λ l. StandsAt text at l) (sym (ap (λ l. (l ++ word (codes ",")) ++ ws) (sym (parameter_is p)) ∙ rows_next parameter_words p list)) s in
      let g = one_param at p.names p.description p.units p.integer p.kind (params_tree list) ws e.0 e.1 d.1 c.1 b.1 (params_written list a.1) grouped in
      g.value ∙ ap (λ l. raw_param p ∷ l) (params_raw list g.place a.1 g.stands)

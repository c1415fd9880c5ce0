-- The raw tree of a file in a text where its words stand.
use Rattle.std.proofs.Common.{◌≡◌, ◌+◌, ◌-◌, ℕ, zero, suc, List, [], ◌∷◌, ◌++◌, length, drop, refl, ap, sym, subst, ◌∙◌, arith}
use Rattle.std.specs.Prelude.{true, map, codes}
use Rattle.std.specs.List.{list_all, enumerate_from}
use Rattle.std.proofs.lemmas.Bool.{and_parts}
use Rattle.std.proofs.lemmas.List.{length-append}
use Rattle.va_base.specs.Numerals.{number_of}
use Rattle.va_base.proofs.Tests.{or_left, or_right}
use Rattle.c_tree.specs.declared.file.CFile.{CFile}
use Rattle.c_tree.specs.declared.file.CModule.{CModule}
use Rattle.c_tree.specs.Raw.{RawModule, RawSizes, RawDescriptor, RawFile}
use Rattle.c_tree.specs.RawOf as given
use Rattle.c_tree.specs.RawOf.{at_0, raw_field, raw_node, raw_entry, raw_pair, raw_param}
use Rattle.c_tree.specs.Spelling.{EachHas, HaveBlocks, CanBeSpelled, is_unsigned, spells_tables, spells_bodies}
use Rattle.c_tree.specs.Text.{structs_words, setup_model_words, setup_instance_words, eval_words, loads_words, tables_words, module_words, descriptor_words, words_of, count_kinds, is_parameter_kind, is_instance_kind, is_opvar_kind}
use Rattle.c_tree.specs.Words.{Word, template, word, numbered, unsigned, array_length, include_words}
use Rattle.c_raw_build.specs.Placed.{part, width}
use Rattle.c_raw_build.specs.RawFiles.{fields, sizes, raw_module, modules, file}
use Rattle.c_raw_build.specs.RawTables.{node_rows, entry_rows, pair_rows, param_rows, descriptor, descriptors}
use Rattle.c_raw_build.specs.Words.{CText, word_at, has_module_number}
use Rattle.c_law_print_parses.proofs.AtomValues.{placed}
use Rattle.c_law_print_parses.proofs.Atoms.{written_as, number_written}
use Rattle.c_law_print_parses.proofs.Files.{TablesSpelled, tables_spelled, BodiesSpelled, bodies_spelled, kinds_counted, descriptor_pieces, descriptors_words, descriptors_tree, descriptors_written, descriptor_shown, exports_pieces, exports_are, exports_written, module_pieces, module_tree, module_shown, module_are, module_fits, modules_words, modules_tree, modules_written, file_pieces, file_tree, help_tree, help_written, osdi_word, math_word, stddef_word, stdint_word, stdlib_word}
use Rattle.c_law_print_parses.proofs.Functions.{array_counted, functions_words, functions_tree, structs_pieces, structs_tree, structs_shown, next_counted}
use Rattle.c_law_print_parses.proofs.Lefts.{descriptors_left, module_left, modules_left}
use Rattle.c_law_words.proofs.Listed.{row_list}
use Rattle.c_law_print_parses.proofs.Loads.{setup_model_tree, setup_instance_tree, eval_tree, loads_tree}
use Rattle.c_law_words.proofs.Names as names
use Rattle.c_law_words.proofs.Pieces.{◌▹◌, part as piece, ◌⋄◌, Piece, a_name, a_word, a_tree, words, flat, flat_same, Shown}
use Rattle.c_law_words.proofs.Pieces as pieces
use Rattle.c_law_print_parses.proofs.Placing.{StandsAt, stands_as, row_stands, written_width}
use Rattle.c_law_print_parses.proofs.Tables.{table_pieces, tables_tree, tables_are, four_shown, from_zero}
use Rattle.c_law_print_parses.proofs.TableValues.{string_value}
use Rattle.c_law_words.proofs.Values.{unsigned_back}
use Rattle.c_law_form_ignores_places.specs.Forget.{forget_field, forget_sizes, forget_node, forget_entry, forget_pair, forget_param, forget_module, forget_descriptor, forget, once_in_module, once_in_descriptor, numbered_once}
use Rattle.c_law_roundtrip.proofs.FieldNames.{fields_raw}
use Rattle.c_law_roundtrip.proofs.FunctionRaw.{functions_raw, access_raw}
use Rattle.c_law_roundtrip.proofs.LoadRaw.{setup_model_raw, setup_instance_raw, eval_raw, loads_are}
use Rattle.c_law_roundtrip.proofs.TableRaw.{nodes_raw, entries_raw, pairs_raw, params_raw}
use Rattle.c_law_roundtrip.proofs.BearingModules.{module_bears, descriptor_bears}
use Rattle.c_law_roundtrip.proofs.Numbers.{TokensAt, words_at, tokens_split, row_at, holds, some_holds, numbers_once}

-- some name among these words holds a module's number
first_holds : (w : Word) (ws : List Word) → holds w ≡ true → some_holds (w ∷ ws) ≡ true
first_holds w ws h = or_left (holds w) (some_holds ws) h

later_holds : (n : ℕ) (ws : List Word) → some_holds (drop n ws) ≡ true → some_holds ws ≡ true
later_holds zero ws h = h
later_holds (suc n) [] h = h
later_holds (suc n) (w ∷ ws) h = or_right (holds w) (some_holds ws) (later_holds n ws h)

behind_holds : (us ws : List Word) → some_holds ws ≡ true → some_holds (us ++ ws) ≡ true
behind_holds [] ws h = h
behind_holds (w ∷ us) ws h = or_right (holds w) (some_holds (us ++ ws)) (behind_holds us ws h)

nodes_hold : (k : ℕ) → is_unsigned k ≡ true → holds (numbered (codes "nodes_") k) ≡ true
unfolding has_module_number
nodes_hold k u = ap has_module_number (names.nodes_word k u).kind_is

tables_hold : (k : ℕ) (m : CModule) → is_unsigned k ≡ true → some_holds (tables_words k m) ≡ true
unfolding tables_words template
tables_hold k m u = later_holds 1 (tables_words k m) (first_holds (numbered (codes "nodes_") k) (drop 2 (tables_words k m)) (nodes_hold k u))

module_holds : (k : ℕ) (m : CModule) → is_unsigned k ≡ true → some_holds (module_words k m) ≡ true
module_holds k m u =
    ap some_holds (sym (module_are k m))
    ∙ behind_holds (structs_words k m ++ functions_words k 0 m.functions m.access ++ setup_model_words k m ++ setup_instance_words k m ++ eval_words k m ++ loads_words k m.loads)
    (tables_words k m) (tables_hold k m u)

descriptor_holds : (k : ℕ) (m : CModule) → is_unsigned k ≡ true → some_holds (words (descriptor_pieces k m)) ≡ true
unfolding template
descriptor_holds k m u =
    let ws = words (descriptor_pieces k m) in
    later_holds 14 ws (first_holds (numbered (codes "nodes_") k) (drop 15 ws) (nodes_hold k u))

-- the index behind pieces
abbrev after : ℕ → List Piece → ℕ
after at [] = at
after at (a_name w ∷ ps) = after (at + 1) ps
after at (a_word kind w ∷ ps) = after (at + 1) ps
after at (a_tree left t ws ∷ ps) = after (at + width t) ps

after_is : (at : ℕ) (ps qs : List Piece) → Shown (ps ++ qs) → after at ps ≡ at + length (pieces.words_of ps)
after_is at [] qs shown = omega arith
after_is at (a_name w ∷ ps) qs shown = let r = after_is (at + 1) ps qs shown in omega (arith, r)
after_is at (a_word kind w ∷ ps) qs shown = let r = after_is (at + 1) ps qs shown.1 in omega (arith, r)
after_is at (a_tree left t ws ∷ ps) qs shown =
    let r = after_is (at + width t) ps qs shown.1 in
    let wide = written_width shown.0 in
    let both = length-append ws (pieces.words_of ps) in
    omega (arith, r, wide, both)

module _ (text : CText) where
  -- the structs
  record StructsRaw (at k : ℕ) (m : CModule) : Type 0 where
    model : map forget_field (fields text (part 0 (placed at (structs_tree k m)))) ≡ map raw_field m.model_fields
    size : forget_sizes (sizes text (placed at (structs_tree k m))) ≡ RawModule.sizes (given.raw_module (k, m))
    inst : map forget_field (fields text (part 5 (placed at (structs_tree k m)))) ≡ map raw_field m.inst_fields

  structs_raw : (at k : ℕ) (m : CModule) → is_unsigned k ≡ true → TablesSpelled m → StandsAt text at (structs_words k m) → StructsRaw at k m
  unfolding structs_words sizes row_list template
  structs_raw at k m u t s =
      let r = row_stands text at (structs_pieces k m) (structs_shown k m u t.nodes_counted t.entries_counted t.collapse_counted t.model_fields t.inst_fields) s in
      let nodes = length m.nodes in
      let entries = length m.entries in
      let pairs = length m.collapse in
      let node = ap number_of r.1.1.0.0 ∙ unsigned_back (array_length nodes) (array_counted nodes t.nodes_counted) in
      let jr = ap number_of r.1.1.1.0.0 ∙ unsigned_back (array_length entries) (array_counted entries t.entries_counted) in
      let jq = ap number_of r.1.1.1.1.0.0 ∙ unsigned_back (array_length entries) (array_counted entries t.entries_counted) in
      let col = ap number_of r.1.1.1.1.1.0.0 ∙ unsigned_back (array_length pairs) (array_counted pairs t.collapse_counted) in
      record {
        model = fields_raw text _ m.model_fields t.model_fields r.0;
        size = λ i. (let g : RawSizes = record { node = at_0 (node i); jr = at_0 (jr i); jq = at_0 (jq i); col = at_0 (col i) } in g);
        inst = fields_raw text _ m.inst_fields t.inst_fields r.1.1.1.1.1.1.0;
      }

  -- the four tables
  record TablesRaw (at k : ℕ) (m : CModule) : Type 0 where
    nodes : map forget_node (node_rows text (part 0 (placed at (tables_tree k m)))) ≡ map raw_node (enumerate_from 0 m.nodes)
    entries : map forget_entry (entry_rows text (part 1 (placed at (tables_tree k m)))) ≡ map raw_entry (enumerate_from 0 m.entries)
    collapse : map forget_pair (pair_rows text (part 2 (placed at (tables_tree k m)))) ≡ map raw_pair m.collapse
    params : map forget_param (param_rows text (part 3 (placed at (tables_tree k m)))) ≡ map raw_param m.params

  tables_raw : (at k : ℕ) (m : CModule) → is_unsigned k ≡ true → TablesSpelled m → StandsAt text at (words (table_pieces k m)) → TablesRaw at k m
  unfolding row_list template
  tables_raw at k m u t s =
      let r = row_stands text at (table_pieces k m) (four_shown k m u t.nodes_counted t.nodes t.entries_counted t.entries t.collapse t.params) s in
      record {
        nodes = nodes_raw text k 0 m.nodes _ u (from_zero (length m.nodes) t.nodes_counted) t.nodes r.1.0;
        entries = entries_raw text k 0 m.entries _ u (from_zero (length m.entries) t.entries_counted) t.entries r.1.1.1.0;
        collapse = pairs_raw text m.collapse _ t.collapse r.1.1.1.1.1.0;
        params = params_raw text m.params _ t.params r.1.1.1.1.1.1.1.0;
      }

  one_module : (at k : ℕ) (m : CModule) → is_unsigned k ≡ true → TablesSpelled m → BodiesSpelled m → HaveBlocks m → TokensAt text at (module_words k m)
      → once_in_module (forget_module (raw_module text (placed at (module_tree k m)))) ≡ given.raw_module (k, m)
  unfolding raw_module tables_words row_list template
  one_module at k m u t b has tokens =
      let s = words_at text at (module_words k m) tokens in
      let numbers = numbers_once text at k (width (module_tree k m)) (module_words k m) tokens (module_bears k u m t b has) (module_holds k m u)
      (written_width (written_as (module_fits k m u t b has) (module_are k m))) in
      let r = row_stands text at (module_pieces k m) (module_shown k m u t b has) (subst (λ l. StandsAt text at l) (sym (module_are k m)) s) in
      let structs = structs_raw _ k m u t r.0 in
      let counted = from_zero (length m.functions) b.functions_counted in
      let found = functions_raw text _ k 0 m.functions m.access u counted b.functions has.functions b.access r.1.0 in
      let rows = access_raw text k 0 m.functions m.access _ u counted b.functions has.functions b.access r.1.0 in
      let model = setup_model_raw text _ k m u b.setup_model has.setup_model r.1.1.0 in
      let instance = setup_instance_raw text _ k m u b.setup_instance has.setup_instance r.1.1.1.0 in
      let evaluation = eval_raw text _ k m u b.eval has.eval r.1.1.1.1.0 in
      let list = loads_are text _ k m.loads u b.loads r.1.1.1.1.1.0 in
      let a1 = at + width (structs_tree k m) + width (functions_tree k 0 m.functions m.access) + width (setup_model_tree k m) in
      let a2 = a1 + width (setup_instance_tree k m) + width (eval_tree k m) + width (loads_tree k m.loads) in
      let four = tables_raw a2 k m u t (stands_as text a2 (tables_words k m) (words (table_pieces k m)) (sym (tables_are k m)) r.1.1.1.1.1.1.0) in
      λ i. (let c : RawModule = record {
        numbers = numbers i;
        model_fields = structs.model i;
        sizes = structs.size i;
        inst_fields = structs.inst i;
        functions = found i;
        access = rows i;
        setup_model = model i;
        setup_instance = instance i;
        eval = evaluation i;
        loads = list i;
        nodes = four.nodes i;
        entries = four.entries i;
        collapse = four.collapse i;
        params = four.params i;
      } in c)

  modules_raw : (k : ℕ) (list : List CModule) (at : ℕ) → is_unsigned (k + length list) ≡ true → list_all spells_tables list ≡ true → list_all spells_bodies list ≡ true
      → EachHas HaveBlocks list → TokensAt text at (modules_words k list)
      → map once_in_module (map forget_module (modules text (placed at (modules_tree k list)))) ≡ map given.raw_module (enumerate_from k list)
  unfolding modules row_list
  modules_raw k [] at c t b has s = refl
  modules_raw k (m ∷ list) at c t b has s =
      let p = and_parts (spells_tables m) (list_all spells_tables list) t in
      let q = and_parts (spells_bodies m) (list_all spells_bodies list) b in
      let n = next_counted k m list c in
      let r = row_at text at (piece module_left (module_tree k m) (module_words k m) ⋄ piece modules_left (modules_tree (k + 1) list) (modules_words (k + 1) list))
      (written_as (module_fits k m n.0 (tables_spelled m p.0) (bodies_spelled m q.0) has.0) (module_are k m)
      ▹ modules_written (k + 1) list n.1 p.1 q.1 has.1 ▹ tt) s in
      let first = one_module at k m n.0 (tables_spelled m p.0) (bodies_spelled m q.0) has.0 r.0 in
      let rest = modules_raw (k + 1) list _ n.1 p.1 q.1 has.1 r.1.0 in
      λ i. first i ∷ rest i

  descriptors_raw : (k : ℕ) (list : List CModule) (at : ℕ) → is_unsigned (k + length list) ≡ true → list_all spells_tables list ≡ true
      → TokensAt text at (descriptors_words k list)
      → map once_in_descriptor (map forget_descriptor (descriptors text (placed at (descriptors_tree k list)))) ≡ map given.raw_descriptor (enumerate_from k list)
  unfolding descriptors descriptor descriptor_words row_list template
  descriptors_raw k [] at c t s = refl
  descriptors_raw k (m ∷ list) at c t s =
      let p = and_parts (spells_tables m) (list_all spells_tables list) t in
      let n = next_counted k m list c in
      let spelled = tables_spelled m p.0 in
      let here = descriptor_pieces k m in
      let ws = descriptors_words (k + 1) list in
      let all = here ⋄ piece descriptors_left (descriptors_tree (k + 1) list) ws in
      let shown = descriptor_shown k m (descriptors_tree (k + 1) list) ws n.0 spelled (descriptors_written (k + 1) list n.1 p.1) in
      let r = row_stands text (at + 1) all shown (words_at text (at + 1) (words all) s.1) in
      let trees = row_at text (at + 1) all shown s.1 in
      let place = after_is (at + 1) (flat here) (a_tree descriptors_left (descriptors_tree (k + 1) list) ws ∷ []) shown in
      let size = ap length (flat_same here) in
      let numbers = numbers_once text (at + 1) k (after (at + 1) (flat here) - (at + 1)) (words here) (tokens_split text (at + 1) (words here) ws s.1).0
      (descriptor_bears k n.0 m spelled) (descriptor_holds k m n.0) (omega (arith, place, size)) in
      let name = string_value text _ (at + 1 + 2) m.name (omega arith) spelled.name r.0 in
      let nodes = ap number_of r.1.0.0 ∙ unsigned_back (length m.nodes) spelled.nodes_counted in
      let ports = ap number_of r.1.1.0.0 ∙ unsigned_back m.ports spelled.ports in
      let entries = ap number_of r.1.1.1.1.0.0 ∙ unsigned_back (length m.entries) spelled.entries_counted in
      let pairs = ap number_of r.1.1.1.1.1.1.0.0 ∙ unsigned_back (length m.collapse) spelled.collapse_counted in
      let params = ap number_of r.1.1.1.1.1.1.1.1.1.0.0
      ∙ unsigned_back (count_kinds is_parameter_kind m.params) (kinds_counted is_parameter_kind m.params spelled.params_counted) in
      let instances = ap number_of r.1.1.1.1.1.1.1.1.1.1.0.0
      ∙ unsigned_back (count_kinds is_instance_kind m.params) (kinds_counted is_instance_kind m.params spelled.params_counted) in
      let opvars = ap number_of r.1.1.1.1.1.1.1.1.1.1.1.0.0
      ∙ unsigned_back (count_kinds is_opvar_kind m.params) (kinds_counted is_opvar_kind m.params spelled.params_counted) in
      let rest = descriptors_raw (k + 1) list _ n.1 p.1 trees.1.1.1.1.1.1.1.0 in
      λ i. (let d : RawDescriptor = record {
        numbers = numbers i;
        name = name i;
        num_nodes = at_0 (nodes i);
        num_terminals = at_0 (ports i);
        num_entries = at_0 (entries i);
        num_collapsible = at_0 (pairs i);
        num_params = at_0 (params i);
        num_instance_params = at_0 (instances i);
        num_opvars = at_0 (opvars i);
      } in d) ∷ rest i

  number_there : (at n : ℕ) → is_unsigned n ≡ true → TokensAt text at (word (unsigned n)) → number_of (word_at text at) ≡ n
  number_there at n h s = ap number_of (words_at text at (word (unsigned n)) s).0 ∙ unsigned_back n h

  pub file_raw : (f : CFile) → CanBeSpelled f → TokensAt text 0 (words_of f) → numbered_once (forget (file text (placed 0 (file_tree f)))) ≡ given.raw_of f
  unfolding file words_of include_words row_list template
  file_raw f c s =
      let counted = from_zero (length f.modules) c.modules in
      let r = row_at text 0 (file_pieces f)
      (osdi_word ▹ math_word ▹ stddef_word ▹ stdint_word ▹ stdlib_word ▹ help_written
      ▹ modules_written 0 f.modules counted c.tables c.bodies c.blocks ▹ exports_written f.modules c.modules c.tables
      ▹ tt) s in
      let list = modules_raw 0 f.modules _ counted c.tables c.bodies c.blocks r.1.0 in
      let exports = 0 + 1 + 1 + 1 + 1 + 1 + width help_tree + width (modules_tree 0 f.modules) in
      let e = row_at text exports (exports_pieces f.modules) (number_written (length f.modules) c.modules
      ▹ descriptors_written 0 f.modules counted c.tables ▹ tt)
      (subst (λ l. TokensAt text exports l) (sym (exports_are f.modules)) r.1.1.0) in
      let count = number_there _ (length f.modules) c.modules e.0 in
      let ds = descriptors_raw 0 f.modules _ counted c.tables e.1.0 in
      λ i. (let g : RawFile = record { modules = list i; num_descriptors = at_0 (count i); descriptors = ds i } in g)

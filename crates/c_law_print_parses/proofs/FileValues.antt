-- What the tree of a file stands for in a text where its words stand.
use Rattle.std.proofs.Common.{◌≡◌, ◌+◌, ℕ, List, [], ◌∷◌, length, refl, ap, sym, subst, ◌∙◌, arith}
use Rattle.std.specs.Prelude.{true, map}
use Rattle.std.specs.List.{list_all}
use Rattle.std.proofs.lemmas.Bool.{and_parts}
use Rattle.va_base.specs.Numerals.{number_of}
use Rattle.c_tree.specs.declared.file.CFile.{CFile}
use Rattle.c_tree.specs.declared.file.CModule.{CModule}
use Rattle.c_tree.specs.FileOf as given
use Rattle.c_tree.specs.FileOf.{module_of, modules_of, file_of}
use Rattle.c_tree.specs.Raw.{RawModule, RawDescriptor}
use Rattle.c_tree.specs.Spelling.{EachHas, HaveBlocks, CanBeSpelled, is_unsigned, spells_tables, spells_bodies}
use Rattle.c_tree.specs.Text.{structs_words, tables_words, module_words, descriptor_words, end_words, words_of}
use Rattle.c_tree.specs.Words.{template, include_words}
use Rattle.c_raw_build.specs.Placed.{part, width}
use Rattle.c_raw_build.specs.RawFiles.{fields, functions, access, setup_model, setup_instance, eval, raw_module, modules, file}
use Rattle.c_raw_build.specs.RawTables.{loads, node_rows, entry_rows, pair_rows, param_rows, descriptor, descriptors}
use Rattle.c_raw_build.specs.Words.{CText}
use Rattle.c_law_words.proofs.Listed.{row_list}
use Rattle.c_law_print_parses.proofs.Lefts.{descriptors_left, module_left, modules_left}
use Rattle.c_law_words.proofs.Pieces.{◌▹◌, part as piece, ◌⋄◌, words}
use Rattle.c_law_print_parses.proofs.Placing.{StandsAt, stands_as, row_stands}
use Rattle.c_law_print_parses.proofs.AtomValues.{placed}
use Rattle.c_law_print_parses.proofs.FunctionValues.{fields_value, functions_value, found_value}
use Rattle.c_law_print_parses.proofs.Loads.{setup_model_tree, setup_instance_tree, eval_tree, loads_tree}
use Rattle.c_law_print_parses.proofs.LoadValues.{setup_model_value, setup_instance_value, eval_value, loads_value}
use Rattle.c_law_print_parses.proofs.TableValues.{string_value, nodes_value, entries_value, pairs_value, params_value}
use Rattle.c_law_words.proofs.Values.{unsigned_back}
use Rattle.c_law_print_parses.proofs.Atoms.{number_written}
use Rattle.c_law_print_parses.proofs.Functions.{functions_tree, structs_pieces, structs_tree, structs_shown, next_counted}
use Rattle.c_law_print_parses.proofs.Tables.{table_pieces, tables_tree, tables_are, four_shown, from_zero}
use Rattle.c_law_print_parses.proofs.Files.{TablesSpelled, tables_spelled, BodiesSpelled, bodies_spelled, descriptor_pieces, descriptors_words, descriptors_tree, descriptors_written, descriptor_shown, exports_pieces, exports_are, exports_written, module_pieces, module_tree, module_shown, module_are, module_fits, modules_words, modules_tree, modules_written, file_pieces, file_tree, help_tree, help_written, osdi_word, math_word, stddef_word, stdint_word, stdlib_word}
use Rattle.c_law_print_parses.proofs.Atoms.{written_as}

-- a module with another name and number of ports
abbrev named_module : List ℕ → ℕ → CModule → CModule
named_module name ports m = record m { name = name; ports = ports }

-- raw modules stand for modules, and raw descriptors for their names and numbers of ports
abbrev ModulesGiven : List RawModule → List CModule → Type 0
ModulesGiven [] [] = Unit {0}
ModulesGiven [] (m ∷ list) = ⊥
ModulesGiven (raw ∷ raws) [] = ⊥
ModulesGiven (raw ∷ raws) (m ∷ list) = ((name : List ℕ) (ports : ℕ) → module_of name ports raw ≡ named_module name ports m) × ModulesGiven raws list

abbrev DescriptorsGiven : List RawDescriptor → List CModule → Type 0
DescriptorsGiven [] [] = Unit {0}
DescriptorsGiven [] (m ∷ list) = ⊥
DescriptorsGiven (d ∷ ds) [] = ⊥
DescriptorsGiven (d ∷ ds) (m ∷ list) = (d.name ≡ m.name) × (d.num_terminals.value ≡ m.ports) × DescriptorsGiven ds list

joined_modules : (raws : List RawModule) (ds : List RawDescriptor) (list : List CModule) → ModulesGiven raws list → DescriptorsGiven ds list → modules_of raws ds ≡ list
joined_modules [] [] [] g h = refl
joined_modules [] (d ∷ ds) [] g h = absurd h
joined_modules [] ds (m ∷ list) g h = absurd g
joined_modules (raw ∷ raws) ds [] g h = absurd g
joined_modules (raw ∷ raws) [] (m ∷ list) g h = absurd h
joined_modules (raw ∷ raws) (d ∷ ds) (m ∷ list) g h =
    let first : module_of d.name d.num_terminals.value raw ≡ m = g.0 d.name d.num_terminals.value ∙ (λ i. named_module (h.0 i) (h.1 i) m) in
    λ i. first i ∷ joined_modules raws ds list g.1 h.2 i

module _ (text : CText) where
  -- the fields of both structs
  record StructsGiven (at k : ℕ) (m : CModule) : Type 0 where
    model : map given.field_row (fields text (part 0 (placed at (structs_tree k m)))) ≡ m.model_fields
    inst : map given.field_row (fields text (part 5 (placed at (structs_tree k m)))) ≡ m.inst_fields

  structs_value : (at k : ℕ) (m : CModule) → is_unsigned k ≡ true → TablesSpelled m → StandsAt text at (structs_words k m) → StructsGiven at k m
  unfolding structs_words row_list template
  structs_value at k m u t s =
      let r = row_stands text at (structs_pieces k m) (structs_shown k m u t.nodes_counted t.entries_counted t.collapse_counted t.model_fields t.inst_fields) s in
      record { model = fields_value text _ m.model_fields t.model_fields r.0; inst = fields_value text _ m.inst_fields t.inst_fields r.1.1.1.1.1.1.0 }

  -- the four tables
  record TablesGiven (at k : ℕ) (m : CModule) : Type 0 where
    nodes : map given.node_row (node_rows text (part 0 (placed at (tables_tree k m)))) ≡ m.nodes
    entries : map given.entry_row (entry_rows text (part 1 (placed at (tables_tree k m)))) ≡ m.entries
    collapse : map given.pair_row (pair_rows text (part 2 (placed at (tables_tree k m)))) ≡ m.collapse
    params : map given.param_row (param_rows text (part 3 (placed at (tables_tree k m)))) ≡ m.params

  tables_value : (at k : ℕ) (m : CModule) → is_unsigned k ≡ true → TablesSpelled m → StandsAt text at (words (table_pieces k m)) → TablesGiven at k m
  unfolding row_list template
  tables_value at k m u t s =
      let r = row_stands text at (table_pieces k m) (four_shown k m u t.nodes_counted t.nodes t.entries_counted t.entries t.collapse t.params) s in
      record {
        nodes = nodes_value text k 0 m.nodes _ u (from_zero (length m.nodes) t.nodes_counted) t.nodes r.1.0;
        entries = entries_value text k 0 m.entries _ u (from_zero (length m.entries) t.entries_counted) t.entries r.1.1.1.0;
        collapse = pairs_value text m.collapse _ t.collapse r.1.1.1.1.1.0;
        params = params_value text m.params _ t.params r.1.1.1.1.1.1.1.0;
      }

  module_value : (at k : ℕ) (m : CModule) → is_unsigned k ≡ true → TablesSpelled m → BodiesSpelled m → HaveBlocks m → StandsAt text at (module_words k m)
      → (name : List ℕ) (ports : ℕ) → module_of name ports (raw_module text (placed at (module_tree k m))) ≡ named_module name ports m
  unfolding raw_module tables_words row_list template
  module_value at k m u t b has s name ports =
      let r = row_stands text at (module_pieces k m) (module_shown k m u t b has) (subst (λ l. StandsAt text at l) (sym (module_are k m)) s) in
      let structs = structs_value _ k m u t r.0 in
      let counted = from_zero (length m.functions) b.functions_counted in
      let found = functions_value text _ k 0 m.functions m.access u counted b.functions has.functions b.access r.1.0 in
      let rows = found_value text k 0 m.functions m.access _ u counted b.functions has.functions b.access r.1.0 in
      let model = setup_model_value text _ k m u b.setup_model has.setup_model r.1.1.0 in
      let instance = setup_instance_value text _ k m u b.setup_instance has.setup_instance r.1.1.1.0 in
      let evaluation = eval_value text _ k m u b.eval has.eval r.1.1.1.1.0 in
      let list = loads_value text _ k m.loads u b.loads r.1.1.1.1.1.0 in
      let a1 = at + width (structs_tree k m) + width (functions_tree k 0 m.functions m.access) + width (setup_model_tree k m) in
      let a2 = a1 + width (setup_instance_tree k m) + width (eval_tree k m) + width (loads_tree k m.loads) in
      let four = tables_value a2 k m u t (stands_as text a2 (tables_words k m) (words (table_pieces k m)) (sym (tables_are k m)) r.1.1.1.1.1.1.0) in
      λ i. (let c : CModule = record {
        name = name;
        nodes = four.nodes i;
        ports = ports;
        entries = four.entries i;
        collapse = four.collapse i;
        params = four.params i;
        model_fields = structs.model i;
        inst_fields = structs.inst i;
        functions = found i;
        access = rows i;
        setup_model = model i;
        setup_instance = instance i;
        eval = evaluation i;
        loads = list i;
      } in c)

  modules_value : (k : ℕ) (list : List CModule) (at : ℕ) → is_unsigned (k + length list) ≡ true → list_all spells_tables list ≡ true → list_all spells_bodies list ≡ true
      → EachHas HaveBlocks list → StandsAt text at (modules_words k list) → ModulesGiven (modules text (placed at (modules_tree k list))) list
  unfolding modules row_list
  modules_value k [] at c t b has s = tt
  modules_value k (m ∷ list) at c t b has s =
      let p = and_parts (spells_tables m) (list_all spells_tables list) t in
      let q = and_parts (spells_bodies m) (list_all spells_bodies list) b in
      let n = next_counted k m list c in
      let r = row_stands text at (piece module_left (module_tree k m) (module_words k m) ⋄ piece modules_left (modules_tree (k + 1) list) (modules_words (k + 1) list))
      (written_as (module_fits k m n.0 (tables_spelled m p.0) (bodies_spelled m q.0) has.0) (module_are k m)
      ▹ modules_written (k + 1) list n.1 p.1 q.1 has.1 ▹ tt) s in
      (module_value at k m n.0 (tables_spelled m p.0) (bodies_spelled m q.0) has.0 r.0, modules_value (k + 1) list _ n.1 p.1 q.1 has.1 r.1.0)

  descriptors_value : (k : ℕ) (list : List CModule) (at : ℕ) → is_unsigned (k + length list) ≡ true → list_all spells_tables list ≡ true
      → StandsAt text at (descriptors_words k list) → DescriptorsGiven (descriptors text (placed at (descriptors_tree k list))) list
  unfolding descriptors descriptor descriptor_words row_list template
  descriptors_value k [] at c t s = tt
  descriptors_value k (m ∷ list) at c t s =
      let p = and_parts (spells_tables m) (list_all spells_tables list) t in
      let n = next_counted k m list c in
      let spelled = tables_spelled m p.0 in
      let r = row_stands text (at + 1) (descriptor_pieces k m ⋄ piece descriptors_left (descriptors_tree (k + 1) list) (descriptors_words (k + 1) list))
      (descriptor_shown k m (descriptors_tree (k + 1) list) (descriptors_words (k + 1) list) n.0 spelled (descriptors_written (k + 1) list n.1 p.1)) s.1 in (
        string_value text _ (at + 1 + 2) m.name (omega arith) spelled.name r.0,
        ap number_of r.1.1.0.0 ∙ unsigned_back m.ports spelled.ports,
        descriptors_value (k + 1) list _ n.1 p.1 r.1.1.1.1.1.1.1.1.1.1.1.1.1.1.1.1.1.1.1.1.1.1.1.1.1.1.1.1.0,
      )

  pub file_value : (f : CFile) → CanBeSpelled f → StandsAt text 0 (words_of f) → file_of (file text (placed 0 (file_tree f))) ≡ f
  unfolding file words_of include_words row_list template
  file_value f c s =
      let counted = from_zero (length f.modules) c.modules in
      let r = row_stands text 0 (file_pieces f)
      (osdi_word ▹ math_word ▹ stddef_word ▹ stdint_word ▹ stdlib_word ▹ help_written
      ▹ modules_written 0 f.modules counted c.tables c.bodies c.blocks ▹ exports_written f.modules c.modules c.tables
      ▹ tt) s in
      let list = modules_value 0 f.modules _ counted c.tables c.bodies c.blocks r.1.1.1.1.1.1.0 in
      let exports = 0 + 1 + 1 + 1 + 1 + 1 + width help_tree + width (modules_tree 0 f.modules) in
      let e = row_stands text exports (exports_pieces f.modules) (number_written (length f.modules) c.modules
      ▹ descriptors_written 0 f.modules counted c.tables ▹ tt)
      (stands_as text exports (end_words f.modules) (words (exports_pieces f.modules)) (sym (exports_are f.modules)) r.1.1.1.1.1.1.1.0) in
      let ds = descriptors_value 0 f.modules _ counted c.tables e.1.0 in
      ap (λ l. let g : CFile = record { modules = l } in g) (joined_modules _ _ f.modules list ds)

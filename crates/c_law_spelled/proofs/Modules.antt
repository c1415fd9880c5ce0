-- What trees of modules stand for can be spelled, where the lists are counted; in a text of few tokens they are.
use Rattle.std.proofs.Common.{◌≡◌, ◌<◌, ◌^◌, ℕ, List, [], ◌∷◌, length, refl}
use Rattle.std.specs.Prelude.{Bool, true, ◌&&◌, map}
use Rattle.std.specs.List.{list_all}
use Rattle.c_tree.specs.Blocks.{HasBlocks}
use Rattle.c_tree.specs.FileOf.{function_of, module_of}
use Rattle.c_tree.specs.Raw.{RawFunction, RawModule}
use Rattle.c_tree.specs.Spelling.{EachHas, HaveBlocks, is_unsigned, is_counted, are_bytes, spells_tables, spells_bodies, spells_node, spells_entry, spells_pair, spells_param, spells_row, spells_function, spells_access, spells_statement, spells_load}
use Rattle.c_tree.specs.Text.{load_functions, loads_of}
use Rattle.c_tree.specs.declared.file.CFunction.{CFunction}
use Rattle.c_tree.specs.declared.file.CModule.{CModule}
use Rattle.c_raw_build.specs.Placed.{Placed, part, elements}
use Rattle.c_raw_build.specs.RawFiles.{functions, setup_model, setup_instance, eval, raw_module, modules}
use Rattle.c_raw_build.specs.RawTables.{loads}
use Rattle.c_raw_build.specs.RowNumbers.{modules_row, module_row, structs_row, function_row, access_row, setup_model_row, setup_instance_row, eval_row, loads_row, residual_resist_row, residual_react_row, jacobian_resist_row, jacobian_react_row, jacobian_tran_row, spice_rhs_dc_row, spice_rhs_tran_row, tables_row}
use Rattle.c_raw_build.specs.Words.{CText}
use Rattle.c_law_print_parses.proofs.Lefts.{modules_left, module_left, structs_left, fields_left, functions_left, setup_model_left, setup_instance_left, eval_left, statements_left, loads_left, residual_resist_left, residual_react_left, jacobian_resist_left, jacobian_react_left, jacobian_tran_left, spice_rhs_dc_left, spice_rhs_tran_left, load_statements_left, tables_left, node_rows_left, entry_rows_left, pair_rows_left, param_rows_left}
use Rattle.c_law_words.proofs.Listed.{row_list}
use Rattle.c_law_spelled.proofs.Rows.{IsOf, IsRow, sub, only_row, each_map, each_passes, elements_rows}
use Rattle.c_law_spelled.proofs.Statements.{body_blocks, body_spelled}
use Rattle.c_law_spelled.proofs.Functions.{fields_spelled, functions_spelled, accesses_spelled, loads_spelled}
use Rattle.c_law_spelled.proofs.Tables.{names_all_counted, nodes_spelled, entries_spelled, pairs_spelled, params_spelled, nodes_counted, entries_counted, pairs_counted, params_counted}
use Rattle.c_law_spelled.proofs.Counts.{counted_map, functions_counted, modules_counted}
use Rattle.c_law_spelled.specs.Spelled.{has_counted_lists}
use Rattle.c_tree.specs.declared.table.ParamRow.{ParamRow}
use Rattle.std.proofs.lemmas.Bool.{and_parts}
use Rattle.c_law_words.proofs.Pieces.{◌▹◌}

-- what is asked of each module
pub record IsFine (m : CModule) : Type 0 where
  pub tables : spells_tables m ≡ true
  pub bodies : spells_bodies m ≡ true
  pub blocks : HaveBlocks m

-- a module whose lists are counted is fine with each name and number of ports that are
abbrev pub ModuleFits : RawModule → Type 0
ModuleFits m =
    (name : List ℕ) (ports : ℕ) → are_bytes name ≡ true → is_unsigned ports ≡ true → has_counted_lists (module_of name ports m) ≡ true → IsFine (module_of name ports m)

-- the lists of a module are counted
abbrev pub ModuleCounted : RawModule → Type 0
ModuleCounted m = (name : List ℕ) (ports : ℕ) → has_counted_lists (module_of name ports m) ≡ true

record ListsCounted (m : CModule) : Type 0 where
  nodes : is_counted m.nodes ≡ true
  entries : is_counted m.entries ≡ true
  collapse : is_counted m.collapse ≡ true
  params : is_counted m.params ≡ true
  names : list_all (λ p. is_counted (ParamRow.names p)) m.params ≡ true
  functions : is_counted m.functions ≡ true

lists_counted : (m : CModule) → has_counted_lists m ≡ true → ListsCounted m
lists_counted m h =
    let a = is_counted m.nodes in
    let b = is_counted m.entries in
    let c = is_counted m.collapse in
    let d = is_counted m.params in
    let e = list_all (λ p. is_counted (ParamRow.names p)) m.params in
    let five = and_parts (a && b && c && d && e) (is_counted m.functions) h in
    let four = and_parts (a && b && c && d) e five.0 in
    let three = and_parts (a && b && c) d four.0 in
    let two = and_parts (a && b) c three.0 in
    let one = and_parts a b two.0 in
    record { nodes = one.0; entries = one.1; collapse = two.1; params = three.1; names = four.1; functions = five.1 }

functions_blocks : (fs : List RawFunction) → EachHas (λ f. HasBlocks (CFunction.body f)) (map function_of fs)
functions_blocks [] = tt
functions_blocks (f ∷ fs) = (body_blocks f.body, functions_blocks fs)

module _ {text : CText} where
  module_tables : (name : List ℕ) (ports : ℕ) (p : Placed) → are_bytes name ≡ true → is_unsigned ports ≡ true → has_counted_lists (module_of name ports (raw_module text p)) ≡ true
      → IsRow text module_row p → spells_tables (module_of name ports (raw_module text p)) ≡ true
  unfolding row_list raw_module
  module_tables name ports p n u h r =
      let structs = only_row structs_left structs_row (part 0 p) refl (sub module_row 0 structs_left p refl r) in
      let tables = only_row tables_left tables_row (part 6 p) refl (sub module_row 6 tables_left p refl r) in
      let nodes = sub tables_row 0 node_rows_left (part 6 p) refl tables in
      let entries = sub tables_row 1 entry_rows_left (part 6 p) refl tables in
      let pairs = sub tables_row 2 pair_rows_left (part 6 p) refl tables in
      let params = sub tables_row 3 param_rows_left (part 6 p) refl tables in
      let m = module_of name ports (raw_module text p) in
      let counts = lists_counted m h in
      all_pass (are_bytes name) (is_unsigned ports) (is_counted m.nodes) (list_all spells_node m.nodes) (is_counted m.entries) (list_all spells_entry m.entries)
      (is_counted m.collapse) (list_all spells_pair m.collapse) (is_counted m.params) (list_all spells_param m.params) (list_all spells_row m.model_fields)
      (list_all spells_row m.inst_fields) n u counts.nodes (nodes_spelled _ nodes) counts.entries (entries_spelled _ entries)
      counts.collapse (pairs_spelled _ pairs) counts.params (params_spelled _ params counts.names)
      (fields_spelled _ (sub structs_row 0 fields_left (part 0 p) refl structs)) (fields_spelled _ (sub structs_row 5 fields_left (part 0 p) refl structs))
    where
      all_pass : (a b c d e f g h i j k l : Bool) → a ≡ true → b ≡ true → c ≡ true → d ≡ true → e ≡ true → f ≡ true → g ≡ true → h ≡ true → i ≡ true → j ≡ true
          → k ≡ true → l ≡ true → (a && b && c && d && e && f && g && h && i && j && k && l) ≡ true
      all_pass a b c d e f g h i j k l pa pb pc pd pe pf pg ph pi pj pk pl =
          λ x. pa x && pb x && pc x && pd x && pe x && pf x && pg x && ph x && pi x && pj x && pk x && pl x

  module_loads : (p : Placed) → IsRow text module_row p
      → list_all (λ f. list_all spells_load (loads_of (module_of [] 0 (raw_module text p)).loads f)) load_functions ≡ true
  unfolding row_list raw_module loads
  module_loads p r =
      let all = only_row loads_left loads_row (part 5 p) refl (sub module_row 5 loads_left p refl r) in
      let q = part 5 p in
      let a = loads_spelled (part 0 q) (sub residual_resist_row 1 load_statements_left _ refl (only_row residual_resist_left residual_resist_row (part 0 q) refl (sub loads_row 0 residual_resist_left q refl all))) in
      let b = loads_spelled (part 1 q) (sub residual_react_row 1 load_statements_left _ refl (only_row residual_react_left residual_react_row (part 1 q) refl (sub loads_row 1 residual_react_left q refl all))) in
      let c = loads_spelled (part 2 q) (sub jacobian_resist_row 1 load_statements_left _ refl (only_row jacobian_resist_left jacobian_resist_row (part 2 q) refl (sub loads_row 2 jacobian_resist_left q refl all))) in
      let d = loads_spelled (part 3 q) (sub jacobian_react_row 1 load_statements_left _ refl (only_row jacobian_react_left jacobian_react_row (part 3 q) refl (sub loads_row 3 jacobian_react_left q refl all))) in
      let e = loads_spelled (part 4 q) (sub jacobian_tran_row 1 load_statements_left _ refl (only_row jacobian_tran_left jacobian_tran_row (part 4 q) refl (sub loads_row 4 jacobian_tran_left q refl all))) in
      let f = loads_spelled (part 5 q) (sub spice_rhs_dc_row 1 load_statements_left _ refl (only_row spice_rhs_dc_left spice_rhs_dc_row (part 5 q) refl (sub loads_row 5 spice_rhs_dc_left q refl all))) in
      let g = loads_spelled (part 6 q) (sub spice_rhs_tran_row 1 load_statements_left _ refl (only_row spice_rhs_tran_left spice_rhs_tran_row (part 6 q) refl (sub loads_row 6 spice_rhs_tran_left q refl all))) in
      each_passes (λ f. list_all spells_load (loads_of (module_of [] 0 (raw_module text p)).loads f)) load_functions (a ▹ b ▹ c ▹ d ▹ e ▹ f ▹ g ▹ tt)

  module_bodies : (name : List ℕ) (ports : ℕ) (p : Placed) → is_counted (module_of name ports (raw_module text p)).functions ≡ true → IsRow text module_row p
      → spells_bodies (module_of name ports (raw_module text p)) ≡ true
  unfolding row_list raw_module functions setup_model setup_instance eval
  module_bodies name ports p h r =
      let all = sub module_row 1 functions_left p refl r in
      let of_model = only_row setup_model_left setup_model_row (part 2 p) refl (sub module_row 2 setup_model_left p refl r) in
      let of_instance = only_row setup_instance_left setup_instance_row (part 3 p) refl (sub module_row 3 setup_instance_left p refl r) in
      let of_eval = only_row eval_left eval_row (part 4 p) refl (sub module_row 4 eval_left p refl r) in
      let m = module_of name ports (raw_module text p) in
      all_pass (is_counted m.functions) (list_all spells_function m.functions) (list_all spells_access m.access) (list_all spells_statement m.setup_model)
      (list_all spells_statement m.setup_instance) (list_all spells_statement m.eval) (list_all (λ f. list_all spells_load (loads_of m.loads f)) load_functions)
      h (functions_spelled (part 1 p) all) (accesses_spelled (part 1 p) all)
      (body_spelled _ _ (sub setup_model_row 2 statements_left (part 2 p) refl of_model))
      (body_spelled _ _ (sub setup_instance_row 3 statements_left (part 3 p) refl of_instance))
      (body_spelled _ _ (sub eval_row 2 statements_left (part 4 p) refl of_eval)) (module_loads p r)
    where
      all_pass : (a b c d e f g : Bool) → a ≡ true → b ≡ true → c ≡ true → d ≡ true → e ≡ true → f ≡ true → g ≡ true → (a && b && c && d && e && f && g) ≡ true
      all_pass a b c d e f g pa pb pc pd pe pf pg = λ x. pa x && pb x && pc x && pd x && pe x && pf x && pg x

  module_fits : (p : Placed) → IsOf text module_left p → ModuleFits (raw_module text p)
  unfolding row_list
  module_fits p o name ports n u h =
      let r = only_row module_left module_row p refl o in
      let m = raw_module text p in
      record {
        tables = module_tables name ports p n u h r;
        bodies = module_bodies name ports p (lists_counted (module_of name ports m) h).functions r;
        blocks = record {
          functions = functions_blocks m.functions;
          setup_model = body_blocks m.setup_model;
          setup_instance = body_blocks m.setup_instance;
          eval = body_blocks m.eval;
        };
      }

  part_fits : (q : Placed) → IsRow text modules_row q → ModuleFits (raw_module text (part 0 q))
  unfolding row_list
  part_fits q r = module_fits (part 0 q) (sub modules_row 0 module_left q refl r)

  pub modules_fit : (p : Placed) → IsOf text modules_left p → EachHas ModuleFits (modules text p)
  unfolding modules
  modules_fit p o =
      each_map (IsRow text modules_row) ModuleFits (λ q. raw_module text (part 0 q)) part_fits (elements modules_row p) (elements_rows modules_row modules_left p o)

  -- in a text of few tokens the lists are counted
  module _ (few : length text.tokens < 2 ^ 32) where
    module_counted : (name : List ℕ) (ports : ℕ) (p : Placed) → IsRow text module_row p → has_counted_lists (module_of name ports (raw_module text p)) ≡ true
    unfolding row_list raw_module functions
    module_counted name ports p r =
        let tables = only_row tables_left tables_row (part 6 p) refl (sub module_row 6 tables_left p refl r) in
        let params = sub tables_row 3 param_rows_left (part 6 p) refl tables in
        let m = module_of name ports (raw_module text p) in
        all_pass (is_counted m.nodes) (is_counted m.entries) (is_counted m.collapse) (is_counted m.params) (list_all (λ p. is_counted (ParamRow.names p)) m.params)
        (is_counted m.functions) (nodes_counted few _ (sub tables_row 0 node_rows_left (part 6 p) refl tables))
        (entries_counted few _ (sub tables_row 1 entry_rows_left (part 6 p) refl tables)) (pairs_counted few _ (sub tables_row 2 pair_rows_left (part 6 p) refl tables))
        (params_counted few _ params) (names_all_counted few _ params)
        (counted_map _ _ (counted_map _ _ (functions_counted access_row function_row functions_left (part 1 p) few refl (sub module_row 1 functions_left p refl r))))
      where
        all_pass : (a b c d e f : Bool) → a ≡ true → b ≡ true → c ≡ true → d ≡ true → e ≡ true → f ≡ true → (a && b && c && d && e && f) ≡ true
        all_pass a b c d e f pa pb pc pd pe pf = λ x. pa x && pb x && pc x && pd x && pe x && pf x

    part_counted : (q : Placed) → IsRow text modules_row q → ModuleCounted (raw_module text (part 0 q))
    unfolding row_list
    part_counted q r name ports =
        module_counted name ports (part 0 q) (only_row module_left module_row (part 0 q) refl (sub modules_row 0 module_left q refl r))

    pub modules_lists_counted : (p : Placed) → IsOf text modules_left p → EachHas ModuleCounted (modules text p)
    unfolding modules
    modules_lists_counted p o =
        each_map (IsRow text modules_row) ModuleCounted (λ q. raw_module text (part 0 q)) part_counted (elements modules_row p) (elements_rows modules_row modules_left p o)

    pub raw_counted : (p : Placed) → IsOf text modules_left p → is_counted (modules text p) ≡ true
    unfolding modules
    raw_counted p o = counted_map _ _ (modules_counted p few o)

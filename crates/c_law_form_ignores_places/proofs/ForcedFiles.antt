-- What a text writes and its file does not keep is what the rules of form ask for: modules, descriptors and files.
use Rattle.std.specs.Prelude.{◌≡◌, ◌<◌, ◌^◌, ℕ, suc, ◌+◌, ◌==◌, ◌&&◌, Bool, true, false, if◌then◌else◌, nat_le, List, [], ◌∷◌, ◌++◌, length, map}
use Rattle.std.specs.List.{flat_map, enumerate_from, list_all}
use Rattle.std.proofs.Common.{refl, ap, sym, ◌∙◌, arith}
use Rattle.std.proofs.lemmas.Bool.{and_parts, ltb-true}
use Rattle.std.proofs.lemmas.Grind.{flat_map-append}
use Rattle.std.proofs.lemmas.List.{length-map}
use Rattle.c_tree.specs.declared.file.CModule.{CModule}
use Rattle.c_tree.specs.FileOf.{function_of, access_row, node_row, entry_row, pair_row, module_of, modules_of}
use Rattle.c_tree.specs.Raw.{RawFunction, RawEntry, RawModule, RawDescriptor, RawFile}
use Rattle.c_tree.specs.RawOf.{at_0, raw_function, raw_access, raw_entry, raw_pair, raw_module, raw_descriptor}
use Rattle.c_tree.specs.Spelling.{EachHas, are_bytes, is_unsigned, is_counted, spells_node, spells_entry, spells_pair, spells_param, spells_row, spells_tables}
use Rattle.c_tree.specs.Text.{is_instance_kind, is_parameter_kind, is_opvar_kind}
use Rattle.c_tree.specs.Words.{array_length}
use Rattle.c_tree.specs.rules.Bodies.{RawBody, function_body, plain_body, setup_of_model, setup_of_instance, evaluation, bodies_of}
use Rattle.c_tree.specs.rules.Breaks.{breaks_in}
use Rattle.c_tree.specs.rules.Fields.{all_loads}
use Rattle.c_tree.specs.rules.Numbering.{wants, numbered_module}
use Rattle.c_tree.specs.rules.Tables.{below, body_numbers, load_numbers, sizes_agree, node_fields, pair_numbers, no_reference, offset_agrees, entry_numbers, aliases_agree, kinds_in_order, numbers_of_module, count_params, descriptor_numbers, descriptors_agree, counts_agree}
use Rattle.c_tree.specs.Raw.{At, RawAccess}
use Rattle.c_tree.proofs.Blameless.{no_parts, same_test}
use Rattle.c_law_form_ignores_places.specs.Forget.{forget_at, forget_function, forget_access, forget_entry, forget_pair, forget_module, forget_descriptor, once_in_module, once_in_descriptor}
use Rattle.c_law_form_ignores_places.specs.Laws.{FormForcesNumbers}
use Rattle.c_law_form_ignores_places.proofs.Forced.{body_back, function_back, access_back, each_back, loads_back, fields_back, nodes_back, entry_back, params_back, count_back, numbers_back}
use Rattle.c_law_form_ignores_places.proofs.Repeats.{parts_of_form, wants_told}

abbrev break_rule : RawBody → List ℕ
break_rule b = breaks_in false b.block

functions_back : (k : ℕ) (functions : List RawFunction)
    → flat_map (λ p. wants p.0 (RawFunction.number p.1)) (enumerate_from k functions) ≡ []
    → flat_map break_rule (map function_body (enumerate_from k functions)) ≡ []
    → map forget_function functions ≡ map raw_function (enumerate_from k (map function_of functions))
functions_back k [] h g = refl
functions_back k (f ∷ rest) h g =
    let p = no_parts (wants k f.number) (flat_map (λ p. wants p.0 (RawFunction.number p.1)) (enumerate_from (k + 1) rest)) h in
    let q = no_parts (breaks_in false f.body) (flat_map break_rule (map function_body (enumerate_from (k + 1) rest))) g in
    λ i. function_back k f p.0 q.0 i ∷ functions_back (k + 1) rest p.1 q.1 i

entries_back : (m : RawModule) (k : ℕ) (entries : List RawEntry) → flat_map (entry_numbers m) (enumerate_from k entries) ≡ []
    → map forget_entry entries ≡ map raw_entry (enumerate_from k (map entry_row entries))
entries_back m k [] h = refl
entries_back m k (entry ∷ rest) h =
    let a = pair_numbers m entry.pair in
    let b = no_reference entry.pair.second in
    let c = offset_agrees k entry.react entry.react_offset in
    let p = no_parts (a ++ b ++ c) (flat_map (entry_numbers m) (enumerate_from (k + 1) rest)) h in
    let q = no_parts (a ++ b) c p.0 in
    let r = no_parts a b q.0 in
    λ i. entry_back k entry (λ j. r.1 j ++ q.1 j) i ∷ entries_back m (k + 1) rest p.1 i

-- what is known of the number and the breaks of a module, and of its tables
record ModuleForm (k : ℕ) (m : RawModule) : Type 0 where
  numbering : numbered_module k m ≡ []
  breaks : flat_map break_rule (bodies_of m) ≡ []
  tables : numbers_of_module k m ≡ []
  some : 0 < length m.numbers

-- the bodies of a module
record BodiesBack (m : RawModule) : Type 0 where
  functions : flat_map break_rule (map function_body (enumerate_from 0 m.functions)) ≡ []
  setup_model : breaks_in false m.setup_model ≡ []
  setup_instance : breaks_in false m.setup_instance ≡ []
  eval : breaks_in false m.eval ≡ []

bodies_back : (m : RawModule) → flat_map break_rule (bodies_of m) ≡ [] → BodiesBack m
bodies_back m h =
    let functions = map function_body (enumerate_from 0 m.functions) in
    let others = plain_body setup_of_model m.setup_model ∷ plain_body setup_of_instance m.setup_instance ∷ plain_body evaluation m.eval ∷ [] in
    let p = no_parts (flat_map break_rule functions) (flat_map break_rule others) (sym (flat_map-append break_rule functions others) ∙ h) in
    let q = no_parts (breaks_in false m.setup_model) (breaks_in false m.setup_instance ++ (breaks_in false m.eval ++ [])) p.1 in
    let r = no_parts (breaks_in false m.setup_instance) (breaks_in false m.eval ++ []) q.1 in
    let s = no_parts (breaks_in false m.eval) [] r.1 in
    record { functions = p.0; setup_model = q.0; setup_instance = r.0; eval = s.0 }

-- the tables of a module
record TablesBack (m : RawModule) : Type 0 where
  sizes : sizes_agree m ≡ []
  nodes : flat_map node_fields (enumerate_from 0 m.nodes) ≡ []
  entries : flat_map (entry_numbers m) (enumerate_from 0 m.entries) ≡ []
  params : flat_map aliases_agree m.params ≡ []

tables_back : (k : ℕ) (m : RawModule) → numbers_of_module k m ≡ [] → TablesBack m
tables_back k m h =
    let a1 = flat_map (body_numbers m) (bodies_of m) in
    let a2 = flat_map (load_numbers m) (all_loads m.loads) in
    let a3 = flat_map (λ row. below (length m.params) (At.value (RawAccess.id row)) (At.at (RawAccess.id row))) m.access in
    let a4 = sizes_agree m in
    let a5 = flat_map node_fields (enumerate_from 0 m.nodes) in
    let a6 = flat_map (pair_numbers m) m.collapse in
    let a7 = flat_map (entry_numbers m) (enumerate_from 0 m.entries) in
    let a8 = flat_map aliases_agree m.params in
    let a9 = kinds_in_order [] m.params in
    let p8 = no_parts (a1 ++ a2 ++ a3 ++ a4 ++ a5 ++ a6 ++ a7 ++ a8) a9 h in
    let p7 = no_parts (a1 ++ a2 ++ a3 ++ a4 ++ a5 ++ a6 ++ a7) a8 p8.0 in
    let p6 = no_parts (a1 ++ a2 ++ a3 ++ a4 ++ a5 ++ a6) a7 p7.0 in
    let p5 = no_parts (a1 ++ a2 ++ a3 ++ a4 ++ a5) a6 p6.0 in
    let p4 = no_parts (a1 ++ a2 ++ a3 ++ a4) a5 p5.0 in
    let p3 = no_parts (a1 ++ a2 ++ a3) a4 p4.0 in
    record { sizes = p3.1; nodes = p4.1; entries = p6.1; params = p7.1 }

record SizesBack (m : RawModule) : Type 0 where
  node : m.sizes.node.value ≡ array_length (length m.nodes)
  jr : m.sizes.jr.value ≡ array_length (length m.entries)
  jq : m.sizes.jq.value ≡ array_length (length m.entries)
  col : m.sizes.col.value ≡ array_length (length m.collapse)

sizes_back : (m : RawModule) → sizes_agree m ≡ [] → SizesBack m
sizes_back m h =
    let a = wants (array_length (length m.nodes)) m.sizes.node in
    let b = wants (array_length (length m.entries)) m.sizes.jr in
    let c = wants (array_length (length m.entries)) m.sizes.jq in
    let d = wants (array_length (length m.collapse)) m.sizes.col in
    let p = no_parts (a ++ b ++ c) d h in
    let q = no_parts (a ++ b) c p.0 in
    let r = no_parts a b q.0 in
    record {
      node = wants_told (array_length (length m.nodes)) m.sizes.node r.0;
      jr = wants_told (array_length (length m.entries)) m.sizes.jr r.1;
      jq = wants_told (array_length (length m.entries)) m.sizes.jq q.1;
      col = wants_told (array_length (length m.collapse)) m.sizes.col p.1;
    }

-- what the spelling of a module's tables asks for
pub record SpelledTables (m : CModule) : Type 0 where
  pub nodes : is_counted m.nodes ≡ true
  pub model_fields : list_all spells_row m.model_fields ≡ true
  pub inst_fields : list_all spells_row m.inst_fields ≡ true

pub spelled_tables : (m : CModule) → spells_tables m ≡ true → SpelledTables m
spelled_tables m h =
    let b3 = are_bytes m.name && is_unsigned m.ports && is_counted m.nodes in
    let b5 = b3 && list_all spells_node m.nodes && is_counted m.entries in
    let b7 = b5 && list_all spells_entry m.entries && is_counted m.collapse in
    let b9 = b7 && list_all spells_pair m.collapse && is_counted m.params in
    let b10 = b9 && list_all spells_param m.params in
    let p11 = and_parts (b10 && list_all spells_row m.model_fields) (list_all spells_row m.inst_fields) h in
    let p10 = and_parts b10 (list_all spells_row m.model_fields) p11.0 in
    let p9 = and_parts b9 (list_all spells_param m.params) p10.0 in
    let p8 = and_parts (b7 && list_all spells_pair m.collapse) (is_counted m.params) p9.0 in
    let p7 = and_parts b7 (list_all spells_pair m.collapse) p8.0 in
    let p6 = and_parts (b5 && list_all spells_entry m.entries) (is_counted m.collapse) p7.0 in
    let p5 = and_parts b5 (list_all spells_entry m.entries) p6.0 in
    let p4 = and_parts (b3 && list_all spells_node m.nodes) (is_counted m.entries) p5.0 in
    let p3 = and_parts b3 (list_all spells_node m.nodes) p4.0 in
    let p2 = and_parts (are_bytes m.name && is_unsigned m.ports) (is_counted m.nodes) p3.0 in
    record { nodes = p2.1; model_fields = p10.1; inst_fields = p11.1 }

module_back : (k : ℕ) (m : RawModule) (name : List ℕ) (ports : ℕ) → ModuleForm k m → spells_tables (module_of name ports m) ≡ true
    → once_in_module (forget_module m) ≡ raw_module (k, module_of name ports m)
module_back k m name ports form spelled =
    let s = spelled_tables (module_of name ports m) spelled in
    let n = no_parts (flat_map (wants k) m.numbers)
    (flat_map (λ p. wants p.0 (RawFunction.number p.1)) (enumerate_from 0 m.functions)) form.numbering in
    let bodies = bodies_back m form.breaks in
    let tables = tables_back k m form.tables in
    let sizes = sizes_back m tables.sizes in
    let count : length m.nodes < 2 ^ 32 =
    let c = ltb-true (length (map node_row m.nodes)) (2 ^ 32) s.nodes in
    let same = length-map m.nodes node_row in
    omega (arith, c, same) in
    let numbers = numbers_back k m.numbers form.some n.0 in
    let model_fields = fields_back m.model_fields s.model_fields in
    let inst_fields = fields_back m.inst_fields s.inst_fields in
    let nodes = nodes_back 0 m.nodes (omega (arith, count)) tables.nodes in
    let entries = entries_back m 0 m.entries tables.entries in
    let functions = functions_back 0 m.functions n.1 bodies.functions in
    let access = each_back forget_access raw_access access_row access_back m.access in
    let collapse = each_back forget_pair raw_pair pair_row (λ pair. refl) m.collapse in
    let params = params_back m.params tables.params in
    let node = sizes.node ∙ ap array_length (sym (length-map m.nodes node_row)) in
    let jr = sizes.jr ∙ ap array_length (sym (length-map m.entries entry_row)) in
    let jq = sizes.jq ∙ ap array_length (sym (length-map m.entries entry_row)) in
    let col = sizes.col ∙ ap array_length (sym (length-map m.collapse pair_row)) in
    λ i. record {
      numbers = numbers i;
      model_fields = model_fields i;
      sizes = record { node = at_0 (node i); jr = at_0 (jr i); jq = at_0 (jq i); col = at_0 (col i) };
      inst_fields = inst_fields i;
      functions = functions i;
      access = access i;
      setup_model = body_back m.setup_model bodies.setup_model i;
      setup_instance = body_back m.setup_instance bodies.setup_instance i;
      eval = body_back m.eval bodies.eval i;
      loads = loads_back m.loads i;
      nodes = nodes i;
      entries = entries i;
      collapse = collapse i;
      params = params i;
    }

descriptor_back : (k : ℕ) (m : RawModule) (d : RawDescriptor) → 0 < length d.numbers → flat_map (wants k) d.numbers ≡ []
    → descriptor_numbers m d ≡ []
    → once_in_descriptor (forget_descriptor d) ≡ raw_descriptor (k, module_of d.name d.num_terminals.value m)
descriptor_back k m d some h g =
    let a1 = wants (length m.nodes) d.num_nodes in
    let a2 = if nat_le d.num_terminals.value d.num_nodes.value then [] else d.num_terminals.at ∷ [] in
    let a3 = wants (length m.entries) d.num_entries in
    let a4 = wants (length m.collapse) d.num_collapsible in
    let a5 = wants (count_params is_parameter_kind m.params) d.num_params in
    let a6 = wants (count_params is_instance_kind m.params) d.num_instance_params in
    let a7 = wants (count_params is_opvar_kind m.params) d.num_opvars in
    let p6 = no_parts (a1 ++ a2 ++ a3 ++ a4 ++ a5 ++ a6) a7 g in
    let p5 = no_parts (a1 ++ a2 ++ a3 ++ a4 ++ a5) a6 p6.0 in
    let p4 = no_parts (a1 ++ a2 ++ a3 ++ a4) a5 p5.0 in
    let p3 = no_parts (a1 ++ a2 ++ a3) a4 p4.0 in
    let p2 = no_parts (a1 ++ a2) a3 p3.0 in
    let p1 = no_parts a1 a2 p2.0 in
    let numbers = numbers_back k d.numbers some h in
    let nodes = wants_told (length m.nodes) d.num_nodes p1.0 ∙ sym (length-map m.nodes node_row) in
    let entries = wants_told (length m.entries) d.num_entries p2.1 ∙ sym (length-map m.entries entry_row) in
    let collapse = wants_told (length m.collapse) d.num_collapsible p3.1 ∙ sym (length-map m.collapse pair_row) in
    let params = wants_told (count_params is_parameter_kind m.params) d.num_params p4.1 ∙ count_back is_parameter_kind m.params in
    let inst = wants_told (count_params is_instance_kind m.params) d.num_instance_params p5.1 ∙ count_back is_instance_kind m.params in
    let opvars = wants_told (count_params is_opvar_kind m.params) d.num_opvars p6.1 ∙ count_back is_opvar_kind m.params in
    λ i. record {
      numbers = numbers i;
      name = d.name;
      num_nodes = at_0 (nodes i);
      num_terminals = forget_at d.num_terminals;
      num_entries = at_0 (entries i);
      num_collapsible = at_0 (collapse i);
      num_params = at_0 (params i);
      num_instance_params = at_0 (inst i);
      num_opvars = at_0 (opvars i);
    }

-- what is known of modules and descriptors that stand at the same places, from a place on
record FilesForm (k : ℕ) (modules : List RawModule) (descriptors : List RawDescriptor) : Type 0 where
  count : length descriptors ≡ length modules
  numbering : flat_map (λ p. numbered_module p.0 p.1) (enumerate_from k modules) ≡ []
  descriptor_numbering : flat_map (λ p. flat_map (wants p.0) (RawDescriptor.numbers p.1)) (enumerate_from k descriptors) ≡ []
  breaks : flat_map (λ p. flat_map break_rule (bodies_of p.1)) (enumerate_from k modules) ≡ []
  tables : flat_map (λ p. numbers_of_module p.0 p.1) (enumerate_from k modules) ≡ []
  agree : descriptors_agree modules descriptors ≡ []
  spelled : list_all spells_tables (modules_of modules descriptors) ≡ true
  module_numbers : EachHas (λ m. 0 < length (RawModule.numbers m)) modules
  numbers : EachHas (λ d. 0 < length (RawDescriptor.numbers d)) descriptors

-- the first module and descriptor, and the others
record FirstForm (k : ℕ) (m : RawModule) (rest : List RawModule) (d : RawDescriptor) (descriptors : List RawDescriptor) : Type 0 where
  form : ModuleForm k m
  spelled : spells_tables (module_of d.name d.num_terminals.value m) ≡ true
  numbering : flat_map (wants k) d.numbers ≡ []
  agree : descriptor_numbers m d ≡ []
  some : 0 < length d.numbers
  others : FilesForm (k + 1) rest descriptors

first_form : (k : ℕ) (m : RawModule) (rest : List RawModule) (d : RawDescriptor) (descriptors : List RawDescriptor)
    → FilesForm k (m ∷ rest) (d ∷ descriptors) → FirstForm k m rest d descriptors
first_form k m rest d descriptors form =
    let numbering = no_parts (numbered_module k m) (flat_map (λ p. numbered_module p.0 p.1) (enumerate_from (k + 1) rest)) form.numbering in
    let named = no_parts (flat_map (wants k) d.numbers)
    (flat_map (λ p. flat_map (wants p.0) (RawDescriptor.numbers p.1)) (enumerate_from (k + 1) descriptors)) form.descriptor_numbering in
    let breaks = no_parts (flat_map break_rule (bodies_of m))
    (flat_map (λ p. flat_map break_rule (bodies_of p.1)) (enumerate_from (k + 1) rest)) form.breaks in
    let tables = no_parts (numbers_of_module k m) (flat_map (λ p. numbers_of_module p.0 p.1) (enumerate_from (k + 1) rest)) form.tables in
    let agree = no_parts (descriptor_numbers m d) (descriptors_agree rest descriptors) form.agree in
    let spelled = and_parts (spells_tables (module_of d.name d.num_terminals.value m)) (list_all spells_tables (modules_of rest descriptors)) form.spelled in
    let count = form.count in
    record {
      form = record { numbering = numbering.0; breaks = breaks.0; tables = tables.0; some = form.module_numbers.0 };
      spelled = spelled.0;
      numbering = named.0;
      agree = agree.0;
      some = form.numbers.0;
      others = record {
        count = omega (arith, count);
        numbering = numbering.1;
        descriptor_numbering = named.1;
        breaks = breaks.1;
        tables = tables.1;
        agree = agree.1;
        spelled = spelled.1;
        module_numbers = form.module_numbers.1;
        numbers = form.numbers.1;
      };
    }

record FilesBack (k : ℕ) (modules : List RawModule) (descriptors : List RawDescriptor) : Type 0 where
  modules_are : map once_in_module (map forget_module modules) ≡ map raw_module (enumerate_from k (modules_of modules descriptors))
  descriptors_are :
      map once_in_descriptor (map forget_descriptor descriptors) ≡ map raw_descriptor (enumerate_from k (modules_of modules descriptors))
  count_is : length modules ≡ length (modules_of modules descriptors)

files_back : (k : ℕ) (modules : List RawModule) (descriptors : List RawDescriptor) → FilesForm k modules descriptors
    → FilesBack k modules descriptors
files_back k [] [] form = record { modules_are = refl; descriptors_are = refl; count_is = refl }
files_back k [] (d ∷ descriptors) form = absurd (let count = form.count in let no : ⊥ = omega (arith, count) in no)
files_back k (m ∷ rest) [] form = absurd (let count = form.count in let no : ⊥ = omega (arith, count) in no)
files_back k (m ∷ rest) (d ∷ descriptors) form =
    let first = first_form k m rest d descriptors form in
    let others = files_back (k + 1) rest descriptors first.others in
    let one = module_back k m d.name d.num_terminals.value first.form first.spelled in
    let two = descriptor_back k m d first.some first.numbering first.agree in
    record {
      modules_are = λ i. one i ∷ others.modules_are i;
      descriptors_are = λ i. two i ∷ others.descriptors_are i;
      count_is = ap (λ n. suc n) others.count_is;
    }

-- the number of descriptors
counts_told : (raw : RawFile) → counts_agree raw ≡ []
    → (raw.num_descriptors.value ≡ length raw.modules) × (length raw.descriptors ≡ length raw.modules)
counts_told raw h = by_test (raw.num_descriptors.value == length raw.modules && length raw.descriptors == length raw.modules) refl h
  where
    by_test : (test : Bool) → (raw.num_descriptors.value == length raw.modules && length raw.descriptors == length raw.modules) ≡ test
        → (if test then [] else raw.num_descriptors.at ∷ []) ≡ []
        → (raw.num_descriptors.value ≡ length raw.modules) × (length raw.descriptors ≡ length raw.modules)
    by_test true e g =
        let p = and_parts (raw.num_descriptors.value == length raw.modules) (length raw.descriptors == length raw.modules) e in
        (same_test raw.num_descriptors.value (length raw.modules) p.0, same_test (length raw.descriptors) (length raw.modules) p.1)
    by_test false e g = cc (g)

pub form_forces_numbers : FormForcesNumbers
form_forces_numbers raw spelled some h =
    let b = parts_of_form raw h in
    let modules = flat_map (λ p. numbers_of_module p.0 p.1) (enumerate_from 0 raw.modules) in
    let p = no_parts (modules ++ counts_agree raw) (descriptors_agree raw.modules raw.descriptors) b.tables in
    let q = no_parts modules (counts_agree raw) p.0 in
    let counts = counts_told raw q.1 in
    let n = no_parts (flat_map (λ p. numbered_module p.0 p.1) (enumerate_from 0 raw.modules))
    (flat_map (λ p. flat_map (wants p.0) (RawDescriptor.numbers p.1)) (enumerate_from 0 raw.descriptors)) b.numbering in
    let back = files_back 0 raw.modules raw.descriptors (record {
      count = counts.1;
      numbering = n.0;
      descriptor_numbering = n.1;
      breaks = b.breaks;
      tables = q.0;
      agree = p.1;
      spelled = spelled.tables;
      module_numbers = some.modules;
      numbers = some.descriptors;
    }) in
    let number = counts.0 ∙ back.count_is in
    λ i. record {
      modules = back.modules_are i;
      num_descriptors = at_0 (number i);
      descriptors = back.descriptors_are i;
    }

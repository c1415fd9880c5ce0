-- The rule on numbers and tables blames as much in a raw tree without places.
use Rattle.std.specs.Prelude.{◌≡◌, ℕ, ◌+◌, ◌-◌, ◌==◌, ◌&&◌, Bool, if◌then◌else◌, nat_lt, nat_le, List, [], ◌∷◌, ◌++◌, length, map, Option, Some, None}
use Rattle.std.specs.List.{flat_map, list_any, enumerate_from}
use Rattle.std.proofs.Common.{refl, ap, sym, ◌∙◌}
use Rattle.std.proofs.lemmas.List.{length-map}
use Rattle.c_tree.specs.declared.body.CField.TheVariants.{Resist, React}
use Rattle.c_tree.specs.declared.load.LoadFactor.{LoadFactor}
use Rattle.c_tree.specs.declared.load.LoadFactor.TheVariants as factor
use Rattle.c_tree.specs.declared.load.LoadTarget.{LoadTarget}
use Rattle.c_tree.specs.declared.load.LoadTarget.TheVariants as target
use Rattle.c_tree.specs.declared.table.ParamKind.{ParamKind}
use Rattle.c_tree.specs.Raw.{At, node_at, RawSimple, constant, join, head, assign, set_cell, set_flag, report, RawAccess, RawLoad, RawNode, RawPair, RawEntry, RawParam, RawModule, RawDescriptor, RawFile}
use Rattle.c_tree.specs.RawOf.{at_0}
use Rattle.c_tree.specs.Text.{is_instance_kind, is_parameter_kind, is_opvar_kind}
use Rattle.c_tree.specs.Words.{array_length}
use Rattle.c_tree.specs.rules.Bodies.{Item, Scoped, RawBody, bodies_of, items_of, of_statement, in_modules}
use Rattle.c_tree.specs.rules.Reach.{unknowns_of, flags_of}
use Rattle.c_tree.specs.rules.Fields.{same_field, all_loads, factors_of}
use Rattle.c_tree.specs.rules.Numbering.{wants}
use Rattle.c_tree.specs.rules.Tables.{below, reported_id, item_numbers, body_numbers, target_number, factor_number, load_numbers, sizes_agree, wants_field, node_fields, second_below, pair_numbers, no_reference, offset_agrees, entry_numbers, aliases_agree, rank, kinds_in_order, numbers_of_module, count_params, descriptor_numbers, descriptors_agree, counts_agree, tables_agree}
use Rattle.c_law_form_ignores_places.specs.Forget.{forget_at, forget_simple, forget_access, forget_load, forget_node, forget_pair, forget_entry, forget_param, forget_module, forget_descriptor, forget}
use Rattle.c_law_form_ignores_places.proofs.Alike.{Alike, both, flat_alike, one_alike, one_alike_else, enumerate_mapped}
use Rattle.c_law_form_ignores_places.proofs.FieldRules.{all_loads_same, unknowns_same, flags_same}
use Rattle.c_law_form_ignores_places.proofs.LocalRules.{wants_alike, all_three}
use Rattle.c_law_form_ignores_places.proofs.Trees.{forget_item, forget_scoped, forget_body, bodies_same, items_same, of_statement_alike, modules_alike}

below_at : (count number a b : ℕ) → Alike (below count number a) (below count number b)
below_at count number a b = one_alike (nat_lt number count) a b

-- a list is as long without places
below_alike : {S T : Type 0} (f : S → T) (xs : List S) (number a b : ℕ) → Alike (below (length xs) number a) (below (length (map f xs)) number b)
below_alike f xs number a b = below_at (length xs) number a b ∙ ap (λ n. length (below n number b)) (sym (length-map xs f))

wants_length : {S T : Type 0} (f : S → T) (xs : List S) (of_length : ℕ → ℕ) (number : At ℕ)
    → Alike (wants (of_length (length xs)) number) (wants (of_length (length (map f xs))) (forget_at number))
wants_length f xs of_length number =
    wants_alike (of_length (length xs)) number ∙ ap (λ n. length (wants (of_length n) (forget_at number))) (sym (length-map xs f))

module _ (m : RawModule) where
  report_alike : (s : RawSimple) → Alike (reported_id (length m.params) s) (reported_id (length (map forget_param m.params)) (forget_simple s))
  report_alike (constant ty i side) = refl
  report_alike (join ty i) = refl
  report_alike (head ty i first) = refl
  report_alike (assign i value) = refl
  report_alike (set_cell cell value) = refl
  report_alike (set_flag pair value) = refl
  report_alike (report id) = below_alike forget_param m.params id.value (id.at + 4) 4

  item_alike : (s : Scoped) → Alike (item_numbers m s) (item_numbers (forget_module m) (forget_scoped s))
  item_alike s =
      let gone = forget_module m in
      let first : Alike (flat_map (λ x. below (length m.nodes) (At.value x) (node_at x)) (unknowns_of s.item))
      (flat_map (λ x. below (length gone.nodes) (At.value x) (node_at x)) (unknowns_of (forget_item s.item))) =
      flat_alike (λ x. below (length gone.nodes) (At.value x) (node_at x)) (λ x. below (length m.nodes) (At.value x) (node_at x)) forget_at
      (λ x. below_alike forget_node m.nodes (At.value x) (node_at x) 6) (unknowns_of s.item)
      ∙ ap (λ l. length (flat_map (λ x. below (length gone.nodes) (At.value x) (node_at x)) l)) (sym (unknowns_same s.item)) in
      let second : Alike (flat_map (λ pair. below (length m.collapse) (At.value pair) (At.at pair + 4)) (flags_of s.item))
      (flat_map (λ pair. below (length gone.collapse) (At.value pair) (At.at pair + 4)) (flags_of (forget_item s.item))) =
      flat_alike (λ pair. below (length gone.collapse) (At.value pair) (At.at pair + 4))
      (λ pair. below (length m.collapse) (At.value pair) (At.at pair + 4)) forget_at
      (λ x. below_alike forget_pair m.collapse (At.value x) (At.at x + 4) 4) (flags_of s.item)
      ∙ ap (λ l. length (flat_map (λ pair. below (length gone.collapse) (At.value pair) (At.at pair + 4)) l)) (sym (flags_same s.item)) in
      all_three (flat_map (λ x. below (length m.nodes) (At.value x) (node_at x)) (unknowns_of s.item))
      (flat_map (λ pair. below (length m.collapse) (At.value pair) (At.at pair + 4)) (flags_of s.item))
      (of_statement (reported_id (length m.params)) s.item)
      (flat_map (λ x. below (length gone.nodes) (At.value x) (node_at x)) (unknowns_of (forget_item s.item)))
      (flat_map (λ pair. below (length gone.collapse) (At.value pair) (At.at pair + 4)) (flags_of (forget_item s.item)))
      (of_statement (reported_id (length gone.params)) (forget_item s.item)) first second (reports s.item)
    where
      reports : (item : Item)
          → Alike (of_statement (reported_id (length m.params)) item)
          (of_statement (reported_id (length (map forget_param m.params))) (forget_item item))
      reports item =
          of_statement_alike (reported_id (length m.params)) (λ t. below_part t) item
          ∙ ap (λ n. length (of_statement (reported_id n) (forget_item item))) (sym (length-map m.params forget_param))
        where
          below_part : (t : RawSimple) → Alike (reported_id (length m.params) t) (reported_id (length m.params) (forget_simple t))
          below_part t = report_alike t ∙ ap (λ n. length (reported_id n (forget_simple t))) (length-map m.params forget_param)

  body_alike : (b : RawBody) → Alike (body_numbers m b) (body_numbers (forget_module m) (forget_body b))
  body_alike b =
      flat_alike (item_numbers (forget_module m)) (item_numbers m) forget_scoped item_alike (items_of b)
      ∙ ap (λ l. length (flat_map (item_numbers (forget_module m)) l)) (sym (items_same b))

  target_at : (at : ℕ) (t : LoadTarget) → Alike (target_number m (record { at = at; value = t })) (target_number (forget_module m) (at_0 t))
  target_at at (target.Node i) = below_alike forget_node m.nodes i (at + 6) 6
  target_at at (target.EntryResist e) = below_alike forget_entry m.entries e (at + 5) 5
  target_at at (target.EntryReact e) = below_alike forget_entry m.entries e (at + 5) 5

  factor_at : (at : ℕ) (f : LoadFactor) → Alike (factor_number m (record { at = at; value = f })) (factor_number (forget_module m) (at_0 f))
  factor_at at factor.Alpha = refl
  factor_at at (factor.Cell field) = refl
  factor_at at (factor.Solution i) = below_alike forget_node m.nodes i (at + 6) 6

  load_alike : (load : RawLoad) → Alike (load_numbers m load) (load_numbers (forget_module m) (forget_load load))
  load_alike load =
      both (target_number m load.target) (target_number (forget_module m) (forget_at load.target)) (flat_map (factor_number m) (factors_of load))
      (flat_map (factor_number (forget_module m)) (map forget_at (factors_of load))) (target_at load.target.at load.target.value)
      (flat_alike (factor_number (forget_module m)) (factor_number m) forget_at (λ f. factor_at f.at f.value) (factors_of load))

  sizes_alike : Alike (sizes_agree m) (sizes_agree (forget_module m))
  sizes_alike =
      let gone = forget_module m in
      both (wants (array_length (length m.nodes)) m.sizes.node ++ wants (array_length (length m.entries)) m.sizes.jr
      ++ wants (array_length (length m.entries)) m.sizes.jq)
      (wants (array_length (length gone.nodes)) gone.sizes.node ++ wants (array_length (length gone.entries)) gone.sizes.jr
      ++ wants (array_length (length gone.entries)) gone.sizes.jq) (wants (array_length (length m.collapse)) m.sizes.col)
      (wants (array_length (length gone.collapse)) gone.sizes.col)
      (all_three (wants (array_length (length m.nodes)) m.sizes.node) (wants (array_length (length m.entries)) m.sizes.jr)
      (wants (array_length (length m.entries)) m.sizes.jq) (wants (array_length (length gone.nodes)) gone.sizes.node)
      (wants (array_length (length gone.entries)) gone.sizes.jr) (wants (array_length (length gone.entries)) gone.sizes.jq)
      (wants_length forget_node m.nodes array_length m.sizes.node) (wants_length forget_entry m.entries array_length m.sizes.jr)
      (wants_length forget_entry m.entries array_length m.sizes.jq)) (wants_length forget_pair m.collapse array_length m.sizes.col)

  second_at : (at : ℕ) (second : Option ℕ)
      → Alike (second_below (length m.nodes) (record { at = at; value = second })) (second_below (length (map forget_node m.nodes)) (at_0 second))
  second_at at None = refl
  second_at at (Some node) = below_alike forget_node m.nodes node at 0

  pair_alike : (pair : RawPair) → Alike (pair_numbers m pair) (pair_numbers (forget_module m) (forget_pair pair))
  pair_alike pair =
      both (below (length m.nodes) pair.first.value pair.first.at) (below (length (map forget_node m.nodes)) pair.first.value 0)
      (second_below (length m.nodes) pair.second) (second_below (length (map forget_node m.nodes)) (forget_at pair.second))
      (below_alike forget_node m.nodes pair.first.value pair.first.at 0) (second_at pair.second.at pair.second.value)

  reference_at : (at : ℕ) (second : Option ℕ) → Alike (no_reference (record { at = at; value = second })) (no_reference (at_0 second))
  reference_at at None = refl
  reference_at at (Some node) = refl

  offset_at : (e : ℕ) (react : Bool) (at : ℕ) (offset : Option ℕ)
      → Alike (offset_agrees e react (record { at = at; value = offset })) (offset_agrees e react (at_0 offset))
  offset_at e react at None = one_alike_else react at 0
  offset_at e react at (Some number) =
      both (if react then [] else at ∷ []) (if react then [] else 0 ∷ []) (if number == e then [] else (at + 6) ∷ [])
      (if number == e then [] else 6 ∷ []) (one_alike react at 0) (one_alike (number == e) (at + 6) 6)

  entry_alike : (p : ℕ × RawEntry) → Alike (entry_numbers m p) (entry_numbers (forget_module m) (p.0, forget_entry p.1))
  entry_alike p =
      let entry = p.1 in
      all_three (pair_numbers m entry.pair) (no_reference entry.pair.second) (offset_agrees p.0 entry.react entry.react_offset)
      (pair_numbers (forget_module m) (forget_pair entry.pair)) (no_reference (forget_at entry.pair.second))
      (offset_agrees p.0 entry.react (forget_at entry.react_offset)) (pair_alike entry.pair)
      (reference_at entry.pair.second.at entry.pair.second.value) (offset_at p.0 entry.react entry.react_offset.at entry.react_offset.value)

node_alike : (p : ℕ × RawNode) → Alike (node_fields p) (node_fields (p.0, forget_node p.1))
node_alike p =
    let node = p.1 in
    both (wants_field (Resist p.0) node.resist) (wants_field (Resist p.0) (forget_at node.resist)) (wants_field (React p.0) node.react)
    (wants_field (React p.0) (forget_at node.react)) (one_alike (same_field node.resist.value (Resist p.0)) node.resist.at 0)
    (one_alike (same_field node.react.value (React p.0)) node.react.at 0)

kinds_alike : (before : List ParamKind) (params : List RawParam)
    → Alike (kinds_in_order before params) (kinds_in_order before (map forget_param params))
kinds_alike before [] = refl
kinds_alike before (p ∷ rest) =
    let late = list_any (λ kind. nat_lt (rank p.kind.value) (rank kind)) before in
    both (if late then p.kind.at ∷ [] else []) (if late then 0 ∷ [] else []) (kinds_in_order (p.kind.value ∷ before) rest)
    (kinds_in_order (p.kind.value ∷ before) (map forget_param rest)) (one_alike_else late p.kind.at 0) (kinds_alike (p.kind.value ∷ before) rest)

numbers_alike : (k : ℕ) (m : RawModule) → Alike (numbers_of_module k m) (numbers_of_module k (forget_module m))
numbers_alike k m =
    let gone = forget_module m in
    let a1 = flat_map (body_numbers m) (bodies_of m) in
    let a2 = flat_map (load_numbers m) (all_loads m.loads) in
    let a3 = flat_map (λ row. below (length m.params) (At.value (RawAccess.id row)) (At.at (RawAccess.id row))) m.access in
    let a4 = sizes_agree m in
    let a5 = flat_map node_fields (enumerate_from 0 m.nodes) in
    let a6 = flat_map (pair_numbers m) m.collapse in
    let a7 = flat_map (entry_numbers m) (enumerate_from 0 m.entries) in
    let a8 = flat_map aliases_agree m.params in
    let a9 = kinds_in_order [] m.params in
    let b1 = flat_map (body_numbers gone) (bodies_of gone) in
    let b2 = flat_map (load_numbers gone) (all_loads gone.loads) in
    let b3 = flat_map (λ row. below (length gone.params) (At.value (RawAccess.id row)) (At.at (RawAccess.id row))) gone.access in
    let b4 = sizes_agree gone in
    let b5 = flat_map node_fields (enumerate_from 0 gone.nodes) in
    let b6 = flat_map (pair_numbers gone) gone.collapse in
    let b7 = flat_map (entry_numbers gone) (enumerate_from 0 gone.entries) in
    let b8 = flat_map aliases_agree gone.params in
    let b9 = kinds_in_order [] gone.params in
    let p1 : Alike a1 b1 =
    flat_alike (body_numbers gone) (body_numbers m) forget_body (body_alike m) (bodies_of m)
    ∙ ap (λ l. length (flat_map (body_numbers gone) l)) (sym (bodies_same m)) in
    let p2 : Alike a2 b2 =
    flat_alike (load_numbers gone) (load_numbers m) forget_load (load_alike m) (all_loads m.loads)
    ∙ ap (λ l. length (flat_map (load_numbers gone) l)) (sym (all_loads_same m.loads)) in
    let p3 : Alike a3 b3 =
    flat_alike (λ row. below (length gone.params) (At.value (RawAccess.id row)) (At.at (RawAccess.id row)))
    (λ row. below (length m.params) (At.value (RawAccess.id row)) (At.at (RawAccess.id row))) forget_access
    (λ row. below_alike forget_param m.params (At.value (RawAccess.id row)) (At.at (RawAccess.id row)) 0) m.access in
    let p5 : Alike a5 b5 =
    flat_alike node_fields node_fields (λ p. (p.0, forget_node p.1)) node_alike (enumerate_from 0 m.nodes)
    ∙ ap (λ l. length (flat_map node_fields l)) (sym (enumerate_mapped forget_node 0 m.nodes)) in
    let p6 : Alike a6 b6 = flat_alike (pair_numbers gone) (pair_numbers m) forget_pair (pair_alike m) m.collapse in
    let p7 : Alike a7 b7 =
    flat_alike (entry_numbers gone) (entry_numbers m) (λ p. (p.0, forget_entry p.1)) (entry_alike m) (enumerate_from 0 m.entries)
    ∙ ap (λ l. length (flat_map (entry_numbers gone) l)) (sym (enumerate_mapped forget_entry 0 m.entries)) in
    let p8 : Alike a8 b8 =
    flat_alike aliases_agree aliases_agree forget_param (λ p. wants_alike (length (RawParam.names p) - 1) (RawParam.num_alias p)) m.params in
    both (a1 ++ a2 ++ a3 ++ a4 ++ a5 ++ a6 ++ a7 ++ a8) (b1 ++ b2 ++ b3 ++ b4 ++ b5 ++ b6 ++ b7 ++ b8) a9 b9
    (both (a1 ++ a2 ++ a3 ++ a4 ++ a5 ++ a6 ++ a7) (b1 ++ b2 ++ b3 ++ b4 ++ b5 ++ b6 ++ b7) a8 b8
    (both (a1 ++ a2 ++ a3 ++ a4 ++ a5 ++ a6) (b1 ++ b2 ++ b3 ++ b4 ++ b5 ++ b6) a7 b7
    (both (a1 ++ a2 ++ a3 ++ a4 ++ a5) (b1 ++ b2 ++ b3 ++ b4 ++ b5) a6 b6
    (both (a1 ++ a2 ++ a3 ++ a4) (b1 ++ b2 ++ b3 ++ b4) a5 b5
    (both (a1 ++ a2 ++ a3) (b1 ++ b2 ++ b3) a4 b4 (all_three a1 a2 a3 b1 b2 b3 p1 p2 p3) (sizes_alike m)) p5) p6) p7) p8) (kinds_alike [] m.params)

-- descriptors
count_same : (passes : ParamKind → Bool) (params : List RawParam) → count_params passes (map forget_param params) ≡ count_params passes params
count_same passes [] = refl
count_same passes (p ∷ rest) = ap (λ n. if passes p.kind.value then n + 1 else n) (count_same passes rest)

wants_count : (passes : ParamKind → Bool) (params : List RawParam) (number : At ℕ)
    → Alike (wants (count_params passes params) number) (wants (count_params passes (map forget_param params)) (forget_at number))
wants_count passes params number =
    wants_alike (count_params passes params) number ∙ ap (λ n. length (wants n (forget_at number))) (sym (count_same passes params))

descriptor_alike : (m : RawModule) (d : RawDescriptor)
    → Alike (descriptor_numbers m d) (descriptor_numbers (forget_module m) (forget_descriptor d))
descriptor_alike m d =
    let gone = forget_module m in
    let a1 = wants (length m.nodes) d.num_nodes in
    let a2 = if nat_le d.num_terminals.value d.num_nodes.value then [] else d.num_terminals.at ∷ [] in
    let a3 = wants (length m.entries) d.num_entries in
    let a4 = wants (length m.collapse) d.num_collapsible in
    let a5 = wants (count_params is_parameter_kind m.params) d.num_params in
    let a6 = wants (count_params is_instance_kind m.params) d.num_instance_params in
    let a7 = wants (count_params is_opvar_kind m.params) d.num_opvars in
    let b1 = wants (length gone.nodes) (forget_at d.num_nodes) in
    let b2 = if nat_le d.num_terminals.value d.num_nodes.value then [] else 0 ∷ [] in
    let b3 = wants (length gone.entries) (forget_at d.num_entries) in
    let b4 = wants (length gone.collapse) (forget_at d.num_collapsible) in
    let b5 = wants (count_params is_parameter_kind gone.params) (forget_at d.num_params) in
    let b6 = wants (count_params is_instance_kind gone.params) (forget_at d.num_instance_params) in
    let b7 = wants (count_params is_opvar_kind gone.params) (forget_at d.num_opvars) in
    both (a1 ++ a2 ++ a3 ++ a4 ++ a5 ++ a6) (b1 ++ b2 ++ b3 ++ b4 ++ b5 ++ b6) a7 b7
    (both (a1 ++ a2 ++ a3 ++ a4 ++ a5) (b1 ++ b2 ++ b3 ++ b4 ++ b5) a6 b6
    (both (a1 ++ a2 ++ a3 ++ a4) (b1 ++ b2 ++ b3 ++ b4) a5 b5
    (both (a1 ++ a2 ++ a3) (b1 ++ b2 ++ b3) a4 b4
    (all_three a1 a2 a3 b1 b2 b3 (wants_length forget_node m.nodes (λ n. n) d.num_nodes)
    (one_alike (nat_le d.num_terminals.value d.num_nodes.value) d.num_terminals.at 0) (wants_length forget_entry m.entries (λ n. n) d.num_entries))
    (wants_length forget_pair m.collapse (λ n. n) d.num_collapsible)) (wants_count is_parameter_kind m.params d.num_params))
    (wants_count is_instance_kind m.params d.num_instance_params)) (wants_count is_opvar_kind m.params d.num_opvars)

descriptors_alike : (modules : List RawModule) (descriptors : List RawDescriptor)
    → Alike (descriptors_agree modules descriptors) (descriptors_agree (map forget_module modules) (map forget_descriptor descriptors))
descriptors_alike [] descriptors = refl
descriptors_alike (m ∷ rest) [] = refl
descriptors_alike (m ∷ rest) (d ∷ descriptors) =
    both (descriptor_numbers m d) (descriptor_numbers (forget_module m) (forget_descriptor d)) (descriptors_agree rest descriptors)
    (descriptors_agree (map forget_module rest) (map forget_descriptor descriptors)) (descriptor_alike m d) (descriptors_alike rest descriptors)

-- as many descriptors as modules, and their number
count_test : ℕ → ℕ → ℕ → List ℕ
count_test number modules descriptors = if number == modules && descriptors == modules then [] else 0 ∷ []

counts_alike : (raw : RawFile) → Alike (counts_agree raw) (counts_agree (forget raw))
unfolding count_test
counts_alike raw =
    let number = raw.num_descriptors.value in
    let modules = sym (length-map raw.modules forget_module) in
    let descriptors = sym (length-map raw.descriptors forget_descriptor) in
    one_alike (number == length raw.modules && length raw.descriptors == length raw.modules) raw.num_descriptors.at 0
    ∙ (λ i. length (count_test number (modules i) (descriptors i)))

pub table_rule_alike : (raw : RawFile) → Alike (tables_agree raw) (tables_agree (forget raw))
table_rule_alike raw =
    all_three (in_modules numbers_of_module raw) (counts_agree raw) (descriptors_agree raw.modules raw.descriptors)
    (in_modules numbers_of_module (forget raw)) (counts_agree (forget raw))
    (descriptors_agree (map forget_module raw.modules) (map forget_descriptor raw.descriptors))
    (modules_alike numbers_of_module numbers_alike raw) (counts_alike raw) (descriptors_alike raw.modules raw.descriptors)

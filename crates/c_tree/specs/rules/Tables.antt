-- The numbers and the tables agree: numbers of nodes, entries and ids are in range, parameters stand in the order of their kinds,
-- and each number that the file writes is what its tables have.
use Rattle.std.specs.Prelude.{ℕ, ◌+◌, ◌-◌, ◌==◌, ◌&&◌, Bool, if◌then◌else◌, nat_lt, nat_le, List, [], ◌∷◌, ◌++◌, length, Option, Some, None}
use Rattle.std.specs.List.{flat_map, list_any, enumerate_from}
use Rattle.c_tree.specs.declared.body.CField.{CField}
use Rattle.c_tree.specs.declared.body.CField.TheVariants.{Resist, React}
use Rattle.c_tree.specs.declared.load.LoadFactor.{LoadFactor}
use Rattle.c_tree.specs.declared.load.LoadFactor.TheVariants as factor
use Rattle.c_tree.specs.declared.load.LoadTarget.{LoadTarget}
use Rattle.c_tree.specs.declared.load.LoadTarget.TheVariants as target
use Rattle.c_tree.specs.declared.table.ParamKind.{ParamKind}
use Rattle.c_tree.specs.declared.table.ParamKind.TheVariants.{Inst, Model as OfModel, Opvar}
use Rattle.c_tree.specs.Raw.{At, node_at, RawSimple, report, RawAccess, RawLoad, RawNode, RawPair, RawEntry, RawParam, RawModule, RawDescriptor, RawFile}
use Rattle.c_tree.specs.Text.{is_instance_kind, is_parameter_kind, is_opvar_kind}
use Rattle.c_tree.specs.Words.{array_length}
use Rattle.c_tree.specs.rules.Bodies.{Scoped, RawBody, bodies_of, items_of, of_statement, in_modules}
use Rattle.c_tree.specs.rules.Fields.{same_field, all_loads, factors_of}
use Rattle.c_tree.specs.rules.Numbering.{wants}
use Rattle.c_tree.specs.rules.Reach.{unknowns_of, flags_of}

-- a number that has to be below another
abbrev pub below : ℕ → ℕ → ℕ → List ℕ
below count number at = if nat_lt number count then [] else at ∷ []

-- the id that a statement reports; it stands four tokens behind `init_error`
abbrev pub reported_id : ℕ → RawSimple → List ℕ
reported_id count (report id) = below count id.value (id.at + 4)
reported_id count _ = []

-- the nodes, the collapse flag and the id of an item
abbrev pub item_numbers : RawModule → Scoped → List ℕ
item_numbers m s =
    flat_map (λ x. below (length m.nodes) (At.value x) (node_at x)) (unknowns_of s.item)
    ++ flat_map (λ pair. below (length m.collapse) (At.value pair) (At.at pair + 4)) (flags_of s.item)
    ++ of_statement (reported_id (length m.params)) s.item

abbrev pub body_numbers : RawModule → RawBody → List ℕ
body_numbers m b = flat_map (item_numbers m) (items_of b)

abbrev pub target_number : RawModule → At LoadTarget → List ℕ
target_number m t = by_target t.value
  where
    by_target : LoadTarget → List ℕ
    by_target (target.Node i) = below (length m.nodes) i (node_at t)
    by_target (target.EntryResist e) = below (length m.entries) e (t.at + 5)
    by_target (target.EntryReact e) = below (length m.entries) e (t.at + 5)

abbrev pub factor_number : RawModule → At LoadFactor → List ℕ
factor_number m f = by_factor f.value
  where
    by_factor : LoadFactor → List ℕ
    by_factor (factor.Solution i) = below (length m.nodes) i (node_at f)
    by_factor _ = []

abbrev pub load_numbers : RawModule → RawLoad → List ℕ
load_numbers m load = target_number m load.target ++ flat_map (factor_number m) (factors_of load)

-- the array sizes
abbrev pub sizes_agree : RawModule → List ℕ
sizes_agree m =
    wants (array_length (length m.nodes)) m.sizes.node ++ wants (array_length (length m.entries)) m.sizes.jr
    ++ wants (array_length (length m.entries)) m.sizes.jq ++ wants (array_length (length m.collapse)) m.sizes.col

-- a field that has to be a certain one
abbrev pub wants_field : CField → At CField → List ℕ
wants_field field f = if same_field f.value field then [] else f.at ∷ []

-- node I has the fields rI and qI
abbrev pub node_fields : ℕ × RawNode → List ℕ
node_fields (i, node) = wants_field (Resist i) node.resist ++ wants_field (React i) node.react

-- the second node of a pair, which may be the reference node, and that of an entry
abbrev pub second_below : ℕ → At (Option ℕ) → List ℕ
second_below count second = by_value second.value
  where
    by_value : Option ℕ → List ℕ
    by_value None = []
    by_value (Some node) = below count node second.at

abbrev pub pair_numbers : RawModule → RawPair → List ℕ
pair_numbers m pair = below (length m.nodes) pair.first.value pair.first.at ++ second_below (length m.nodes) pair.second

abbrev pub no_reference : At (Option ℕ) → List ℕ
no_reference second = by_value second.value
  where
    by_value : Option ℕ → List ℕ
    by_value None = second.at ∷ []
    by_value (Some node) = []

-- the offset of the reactive part: there where the entry has that part, and with its own number
abbrev pub offset_agrees : ℕ → Bool → At (Option ℕ) → List ℕ
offset_agrees e react offset = by_value offset.value
  where
    by_value : Option ℕ → List ℕ
    by_value None = if react then offset.at ∷ [] else []
    by_value (Some number) =
        (if react then [] else offset.at ∷ []) ++ (if number == e then [] else (offset.at + 6) ∷ [])

abbrev pub entry_numbers : RawModule → ℕ × RawEntry → List ℕ
entry_numbers m (e, entry) =
    pair_numbers m entry.pair ++ no_reference entry.pair.second ++ offset_agrees e entry.react entry.react_offset

-- how many names there are less one
abbrev pub aliases_agree : RawParam → List ℕ
aliases_agree p = wants (length p.names - 1) p.num_alias

-- the order of kinds
abbrev pub rank : ParamKind → ℕ
rank Inst = 0
rank OfModel = 1
rank Opvar = 2

-- a kind that stands behind one that it has to precede
abbrev pub kinds_in_order : List ParamKind → List RawParam → List ℕ
kinds_in_order before [] = []
kinds_in_order before (p ∷ rest) =
    (if list_any (λ kind. nat_lt (rank p.kind.value) (rank kind)) before then p.kind.at ∷ [] else [])
    ++ kinds_in_order (p.kind.value ∷ before) rest

abbrev pub numbers_of_module : ℕ → RawModule → List ℕ
numbers_of_module k m =
    flat_map (body_numbers m) (bodies_of m) ++ flat_map (load_numbers m) (all_loads m.loads)
    ++ flat_map (λ row. below (length m.params) (At.value (RawAccess.id row)) (At.at (RawAccess.id row))) m.access
    ++ sizes_agree m ++ flat_map node_fields (enumerate_from 0 m.nodes) ++ flat_map (pair_numbers m) m.collapse
    ++ flat_map (entry_numbers m) (enumerate_from 0 m.entries) ++ flat_map aliases_agree m.params ++ kinds_in_order [] m.params

-- how many parameters have a kind that passes
abbrev pub count_params : (ParamKind → Bool) → List RawParam → ℕ
count_params passes [] = 0
count_params passes (p ∷ rest) = if passes p.kind.value then count_params passes rest + 1 else count_params passes rest

-- the numbers of a descriptor, by the tables of its module
abbrev pub descriptor_numbers : RawModule → RawDescriptor → List ℕ
descriptor_numbers m d =
    wants (length m.nodes) d.num_nodes
    ++ (if nat_le d.num_terminals.value d.num_nodes.value then [] else d.num_terminals.at ∷ [])
    ++ wants (length m.entries) d.num_entries ++ wants (length m.collapse) d.num_collapsible
    ++ wants (count_params is_parameter_kind m.params) d.num_params
    ++ wants (count_params is_instance_kind m.params) d.num_instance_params
    ++ wants (count_params is_opvar_kind m.params) d.num_opvars

-- each descriptor has the tables of its module
abbrev pub descriptors_agree : List RawModule → List RawDescriptor → List ℕ
descriptors_agree [] descriptors = []
descriptors_agree (m ∷ rest) [] = []
descriptors_agree (m ∷ rest) (d ∷ descriptors) = descriptor_numbers m d ++ descriptors_agree rest descriptors

-- one descriptor for each module, and their number
abbrev pub counts_agree : RawFile → List ℕ
counts_agree raw =
    if raw.num_descriptors.value == length raw.modules && length raw.descriptors == length raw.modules then []
    else raw.num_descriptors.at ∷ []

abbrev pub tables_agree : RawFile → List ℕ
tables_agree raw = in_modules numbers_of_module raw ++ counts_agree raw ++ descriptors_agree raw.modules raw.descriptors

-- The descriptor tables of a module: its unknowns, entries, pairs, parameters and operating-point variables. The ids of parameters
-- are their places in the last list.
use Rattle.std.specs.Prelude.{ℕ, ◌==◌, ◌||◌, Bool, false, not, List, [], ◌∷◌, ◌++◌, Option, Some, if◌then◌else◌, codes, map, filter, flat_map, slice_get, get_or, is_some, unwrap_or, option_map, option_and_then, option_to_list}
use Rattle.std.specs.List.{enumerate_from}
use Rattle.alg_laws.specs.declared.number.Ty.TheVariants.{Real}
use Rattle.std.specs.Str.{bytes_eq}
use Rattle.va_base.specs.Tables.{NodeLine, EntryLine, ParameterLine, instance, model, operating_point, Tables}
use Rattle.va_tree.specs.declared.module.Item.{Item}
use Rattle.va_tree.specs.declared.module.ItemBody.{ItemBody}
use Rattle.va_tree.specs.declared.module.ItemBody.TheVariants.{Alias, Variables}
use Rattle.va_tree.specs.declared.module.Module.{Module}
use Rattle.va_tree.specs.declared.name.NameAt.{NameAt}
use Rattle.va_tree.specs.declared.source.AttributeGroup.{AttributeGroup}
use Rattle.va_tree.specs.declared.source.Source.{Source}
use Rattle.va_sem.specs.declared.branch.Unknown.{Unknown}
use Rattle.va_sem.specs.declared.branch.Unknown.TheVariants.{Node, Branch}
use Rattle.va_sem.specs.declared.names.BranchName.{BranchName}
use Rattle.va_sem.specs.declared.names.Meaning.{Meaning}
use Rattle.va_sem.specs.declared.names.Meaning.TheVariants as means
use Rattle.va_sem.specs.declared.names.ModuleNames.{ModuleNames}
use Rattle.va_sem.specs.declared.names.NameUse.{NameUse}
use Rattle.va_sem.specs.declared.names.NodeName.{NodeName}
use Rattle.va_sem.specs.declared.pattern.PatternEntry.{PatternEntry}
use Rattle.va_sem.specs.Lookup.{Bytes}
use Rattle.va_sem.specs.Declarations.{VariableEntry, ParameterEntry, declared_variables, parameters_of, analog_bodies}
use Rattle.va_sem.specs.TextOrder.{in_text_order}
use Rattle.va_sem.specs.Disciplines.{NatureEntry, DisciplineEntry, disciplines_of}
use Rattle.va_sem.specs.rules.Attributes.{attribute_string}
use Rattle.va_sem.specs.Typing.{Typing, meaning_at}
use Rattle.va_sem.specs.rules.Uses.{is_integer}
use Rattle.va_sem.specs.rules.Biased.{Analysis, analysis_of}
use Rattle.va_sem.specs.rules.Unknowns.{unknowns, collapsible_pairs}
use Rattle.va_sem.specs.rules.Dependence.{pattern}

-- the string of an attribute, and an empty one without it
abbrev pub string_or_none : Bytes → List AttributeGroup → Bytes
string_or_none name attributes = unwrap_or (attribute_string name attributes) []

-- a parameter with the attribute `type = "instance"` is the instance's, any other the model's
abbrev pub is_instance : ParameterEntry → Bool
is_instance p = bytes_eq (string_or_none (codes "type") p.attributes) (codes "instance")

abbrev pub is_parameter : ℕ → Option Meaning → Bool
is_parameter wanted (Some (means.Param parameter)) = parameter == wanted
is_parameter wanted _ = false

-- the names that `aliasparam` gives to a parameter (Aliasparam)
abbrev pub aliases_by : List NameUse → ℕ → ItemBody → List NameAt
aliases_by uses parameter (Alias at name target) = if is_parameter parameter (meaning_at uses name.at) then name ∷ [] else []
aliases_by uses parameter _ = []

-- a variable with the attributes of its declaration
abbrev pub Attributed : Type 0
Attributed = List AttributeGroup × VariableEntry

abbrev pub variable_line : Attributed → ParameterLine
variable_line (attributes, v) = record {
  name = v.name.name;
  aliases = [];
  description = string_or_none (codes "desc") attributes;
  units = string_or_none (codes "units") attributes;
  is_integer = is_integer v.ty;
  kind = operating_point;
}

-- an operating-point variable is declared in the module, with a string as description or units
abbrev pub is_operating_point : List AttributeGroup → Bool
is_operating_point attributes = is_some (attribute_string (codes "desc") attributes) || is_some (attribute_string (codes "units") attributes)

abbrev pub operating_points : List AttributeGroup → ItemBody → List Attributed
operating_points attributes (Variables d) =
    if is_operating_point attributes then map (λ v. (attributes, v)) (declared_variables d) else []
operating_points attributes _ = []

abbrev pub operating_points_of : Module → List Attributed
operating_points_of m =
    in_text_order (λ (e : Attributed). e.1.name.at) (flat_map (λ (i : Item). operating_points i.attributes i.body) m.items)

module _ (s : Source) (m : Module) (names : ModuleNames) (types : Typing) where
  abbrev parameter_line : ℕ × ParameterEntry → ParameterLine
  parameter_line (number, p) = record {
    name = p.name.name;
    aliases = map (λ (n : NameAt). n.name) (in_text_order (λ (n : NameAt). n.at) (flat_map (λ (i : Item). aliases_by names.uses number i.body) m.items));
    description = string_or_none (codes "desc") p.attributes;
    units = string_or_none (codes "units") p.attributes;
    is_integer = is_integer (get_or types.parameters number Real);
    kind = if is_instance p then instance else model;
  }

  -- The instance's parameters, then the model's, then the operating-point variables, each in order of declaration. Local
  -- parameters have no line.
  abbrev pub parameter_lines : List ParameterLine
  parameter_lines =
      let given = filter (λ (e : ℕ × ParameterEntry). not e.1.local) (enumerate_from 0 (parameters_of m)) in
      map parameter_line (filter (λ (e : ℕ × ParameterEntry). is_instance e.1) given)
      ++ map parameter_line (filter (λ (e : ℕ × ParameterEntry). not (is_instance e.1)) given)
      ++ map variable_line (operating_points_of m)

  abbrev node_name : ℕ → Bytes
  node_name node = unwrap_or (option_map (λ (n : NodeName). n.name) (slice_get names.nodes node)) []

  abbrev discipline_of : ℕ → Option DisciplineEntry
  discipline_of node = option_and_then (λ (n : NodeName). slice_get (disciplines_of s) n.discipline) (slice_get names.nodes node)

  abbrev units_of : Option NatureEntry → Bytes
  units_of nature = unwrap_or (option_map (λ (n : NatureEntry). n.units) nature) []

  -- the units of a node's potential, and of its flow
  abbrev potential_units : ℕ → Bytes
  potential_units node = units_of (option_and_then (λ (d : DisciplineEntry). d.potential) (discipline_of node))

  abbrev flow_units : ℕ → Bytes
  flow_units node = units_of (option_and_then (λ (d : DisciplineEntry). d.flow) (discipline_of node))

  abbrev nodes_named : BranchName → Bytes
  nodes_named b = node_name b.plus ++ flat_map (λ node. codes "," ++ node_name node) (option_to_list b.minus)

  -- a potential branch is called by its name, or else by its nodes
  abbrev branch_line : BranchName → NodeLine
  branch_line b = record {
    name = codes "flow(" ++ unwrap_or b.name (nodes_named b) ++ codes ")";
    units = flow_units b.plus;
    residual_units = potential_units b.plus;
    is_flow = 1;
  }

  abbrev node_line : ℕ → NodeLine
  node_line node = record {
    name = node_name node;
    units = potential_units node;
    residual_units = flow_units node;
    is_flow = 0;
  }

  abbrev unknown_line : Unknown → List NodeLine
  unknown_line (Node node) = node_line node ∷ []
  unknown_line (Branch branch) = map branch_line (option_to_list (slice_get names.branches branch))

  abbrev entry_line : PatternEntry → EntryLine
  entry_line e = record { row = e.row; column = e.col; resistive = e.resist; reactive = e.react }

  abbrev pub tables_by : Analysis → Tables
  tables_by a = record {
    name = m.name;
    ports = names.ports;
    nodes = flat_map unknown_line (unknowns names a);
    entries = map entry_line (pattern types names a);
    pairs = collapsible_pairs names a;
    parameters = parameter_lines;
  }

  -- the tables of a module of a text, by its names and types
  abbrev pub tables_of : Tables
  tables_of = tables_by (analysis_of names (analog_bodies m))

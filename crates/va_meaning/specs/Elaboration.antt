-- A module of a text as evaluation sees it, by the meanings of its names, its types and its rules.
use Rattle.std.specs.Prelude.{ℕ, Bool, false, not, ◌&&◌, List, map, filter_map, flat_map, get_or, [], Option, Some, None, option_map, unwrap_or, codes}
use Rattle.std.specs.List.{enumerate_from}
use Rattle.std.specs.Str.{bytes_eq}
use Rattle.alg_laws.specs.declared.number.Ty.TheVariants.{Real}
use Rattle.va_sem.specs.declared.branch.BranchKind.TheVariants.{Flow}
use Rattle.va_sem.specs.declared.names.ModuleNames.{ModuleNames}
use Rattle.va_sem.specs.Declarations.{VariableEntry, ParameterEntry, FunctionEntry, declared_variables, variables_in_blocks, argument_names, functions_of, parameters_of, variables_of, analog_bodies}
use Rattle.va_sem.specs.Lookup.{Bytes}
use Rattle.va_sem.specs.Meanings.{names_of_module}
use Rattle.va_sem.specs.TextOrder.{in_text_order, number_at}
use Rattle.va_sem.specs.Typing.{Typing, meaning_at, type_of, typing_of}
use Rattle.va_sem.specs.Walks.{in_effect}
use Rattle.va_sem.specs.rules.Attributes.{attribute_string}
use Rattle.va_sem.specs.rules.Biased.{analysis_of, is_biased}
use Rattle.va_sem.specs.rules.BranchKinds.{kind_of}
use Rattle.va_sem.specs.rules.Unknowns.{collapsing_branches, unknowns}
use Rattle.va_tree.specs.declared.module.Bound.{Bound}
use Rattle.va_tree.specs.declared.module.Interval.{Interval as WrittenInterval}
use Rattle.va_tree.specs.declared.module.Item.{Item}
use Rattle.va_tree.specs.declared.module.ItemBody.{ItemBody}
use Rattle.va_tree.specs.declared.module.ItemBody.TheVariants.{Variables, Analog}
use Rattle.va_tree.specs.declared.module.Module.{Module}
use Rattle.va_tree.specs.declared.module.Range.{Range as WrittenRange}
use Rattle.va_tree.specs.declared.module.Range.TheVariants as written
use Rattle.va_tree.specs.declared.name.NameAt.{NameAt}
use Rattle.va_tree.specs.declared.source.Source.{Source}
use Rattle.va_tree.specs.Expressions.{expression_of}
use Rattle.va_tree.specs.Statements.{statement_of}
use Rattle.va_meaning.specs.Elaborated.{Elaborated, Parameter, Range, from, exclude, exclude_value, Interval, End, Initialiser, Function}

-- ranges of parameters (Parameters)
abbrev pub end_of : Bound → End
end_of bound = record { closed = bound.closed; value = expression_of bound.value }

abbrev pub interval_of : WrittenInterval → Interval
interval_of interval = record { low = end_of interval.low; high = end_of interval.high }

abbrev pub range_of : WrittenRange → Range
range_of (written.From interval) = from (interval_of interval)
range_of (written.ExcludeInterval interval) = exclude (interval_of interval)
range_of (written.ExcludeValue value) = exclude_value (expression_of value)

-- The attribute `type` with the string "instance" makes an instance parameter, but never of a `localparam`.
abbrev pub is_instance : Option Bytes → Bool
is_instance None = false
is_instance (Some string) = bytes_eq string (codes "instance")

-- a parameter, by its number
abbrev pub parameter_of : Typing → ℕ × ParameterEntry → Parameter
parameter_of typing (number, p) = record {
  ty = get_or typing.parameters number Real;
  local = p.local;
  of_instance = not p.local && is_instance (attribute_string (codes "type") p.attributes);
  default = p.default;
  ranges = map range_of p.ranges;
}

-- the initialisers of variables, whose numbers are told by the tokens of all variables
abbrev pub initialiser_of : List ℕ → VariableEntry → Option Initialiser
initialiser_of tokens v = option_map (λ e. record { variable = number_at tokens v.name.at; value = e }) v.initialiser

abbrev pub initialisers_of : List ℕ → List VariableEntry → List Initialiser
initialisers_of tokens variables = filter_map (initialiser_of tokens) (in_text_order (λ (v : VariableEntry). v.name.at) variables)

-- the variables of an item outside of functions, but for those of blocks that wait for the final step
abbrev pub evaluated_variables : ItemBody → List VariableEntry
evaluated_variables (Variables d) = declared_variables d
evaluated_variables (Analog at body) = variables_in_blocks (in_effect (statement_of body))
evaluated_variables other = []

-- a function: its result is the variable that stands at its name
abbrev pub function_of : List ℕ → FunctionEntry → Function
function_of tokens f = record {
  ty = f.ty;
  arguments = map (λ (n : NameAt). number_at tokens n.at) (argument_names f);
  result = number_at tokens f.name.at;
  initialisers = initialisers_of tokens (variables_in_blocks (in_effect f.body));
  body = f.body;
}

-- A module, with its names.
abbrev pub elaborated : ModuleNames → Module → Elaborated
elaborated names m =
    let typing = typing_of names.uses m in
    let analysis = analysis_of names (analog_bodies m) in
    let tokens = map (λ (v : VariableEntry). v.name.at) (variables_of m) in
    record {
      meaning = meaning_at names.uses;
      type_of = type_of typing;
      is_biased = is_biased analysis.meaning analysis.biased;
      parameters = map (parameter_of typing) (enumerate_from 0 (parameters_of m));
      variable_type = λ x. get_or typing.variables x Real;
      initialisers = initialisers_of tokens (flat_map (λ (i : Item). evaluated_variables i.body) m.items);
      functions = map (function_of tokens) (functions_of m);
      branches = names.branches;
      kind = λ b. unwrap_or (kind_of analysis b) Flow;
      collapsing = collapsing_branches analysis;
      unknowns = unknowns names analysis;
      blocks = analog_bodies m;
    }

-- the module of a number of a text
abbrev pub module_seen : Source → ℕ → Module → Elaborated
module_seen s number m = elaborated (names_of_module s number m) m

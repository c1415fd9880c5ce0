-- What is seen under names, beside the declarations of a text.
use Rattle.std.specs.Prelude.{ℕ, List, Option, option_map}
use Rattle.va_tree.specs.declared.name.NameAt.{NameAt}
use Rattle.va_sem.specs.Scopes.{Thing, Declared, node, branch, parameter, variable, function, label, alias, nothing, named}
use Rattle.va_scopes.specs.declared.bindings.Kind.{Kind}
use Rattle.va_scopes.specs.declared.bindings.Kind.TheVariants as kind
use Rattle.va_scopes.specs.declared.bindings.Seen.{Seen}
use Rattle.va_scopes.specs.declared.bindings.Binding.{Binding}

abbrev pub kind_of : Thing → Kind
kind_of node = kind.Node
kind_of branch = kind.Branch
kind_of parameter = kind.Parameter
kind_of variable = kind.Variable
kind_of function = kind.Function
kind_of label = kind.Label
kind_of (alias target) = kind.Nothing
kind_of nothing = kind.Nothing

abbrev pub thing_of : Kind → Thing
thing_of kind.Node = node
thing_of kind.Branch = branch
thing_of kind.Parameter = parameter
thing_of kind.Variable = variable
thing_of kind.Function = function
thing_of kind.Label = label
thing_of kind.Nothing = nothing

-- what is seen under the name of a declaration
abbrev pub seen_of : Declared → Seen
seen_of d = record { at = d.at; kind = kind_of d.thing }

-- what is seen under a name, where these declarations count and the first of a name hides the others
abbrev pub seen_under : List Declared → List ℕ → Option Seen
seen_under known name = option_map seen_of (named known name)

-- the declaration that a binding stands for, and its name
abbrev pub declared_by : Binding → Declared
declared_by b = record { name = b.name.now; at = b.seen.at; thing = thing_of b.seen.kind }

abbrev pub name_at : Binding → NameAt
name_at b = record { at = b.seen.at; name = b.name.now }

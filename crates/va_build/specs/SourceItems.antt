-- The items of modules that parse trees stand for. The definitions read as those of expressions do.
use Rattle.std.specs.Prelude.{ℕ, ◌+◌, Bool, true, false, if◌then◌else◌, List, [], ◌∷◌, ◌++◌, Option, Some, None}
use Rattle.predict.specs.Tree.{Tree, node, no_parts, token, subtree}
use Rattle.va_base.specs.declared.expanded.Expanded.{Expanded}
use Rattle.va_tree.specs.declared.name.NameAt.{NameAt}
use Rattle.va_tree.specs.declared.expr.Arg.{Arg}
use Rattle.va_tree.specs.declared.expr.Expr.{Expr}
use Rattle.va_tree.specs.declared.module.Ty.{Ty}
use Rattle.va_tree.specs.declared.module.Direction.{Direction}
use Rattle.va_tree.specs.declared.module.Direction.TheVariants.{Input, Output, Inout}
use Rattle.va_tree.specs.declared.module.Bound.{Bound}
use Rattle.va_tree.specs.declared.module.Declaration.{Declaration}
use Rattle.va_tree.specs.declared.module.Interval.{Interval}
use Rattle.va_tree.specs.declared.module.Range.{Range}
use Rattle.va_tree.specs.declared.module.Range.TheVariants as range
use Rattle.va_tree.specs.declared.module.Parameter.{Parameter}
use Rattle.va_tree.specs.declared.module.FunctionItem.{FunctionItem}
use Rattle.va_tree.specs.declared.module.FunctionItem.TheVariants as function
use Rattle.va_tree.specs.declared.module.ItemBody.{ItemBody}
use Rattle.va_tree.specs.declared.module.ItemBody.TheVariants as item
use Rattle.va_tree.specs.declared.source.Attribute.{Attribute}
use Rattle.va_tree.specs.declared.source.AttributeGroup.{AttributeGroup}
use Rattle.va_grammar.specs.declared.terminal.Terminal.TheVariants as kind
use Rattle.va_build.specs.TokensAt.{name_at, named, is_kind}
use Rattle.va_build.specs.SourceExpressions.{argument, expression}
use Rattle.va_build.specs.SourceStatements.{second_node, type_of, variables, statement}
use Rattle.va_build.specs.Width.{width}

-- AttributeValue: `=` and an argument, or nothing
abbrev pub attribute_value : Expanded → ℕ → Tree → Option Arg
attribute_value e at (node row (token equals (subtree value no_parts))) = Some (argument e (at + 1) value)
attribute_value e at others = None

-- Attribute: a name, and maybe a value
abbrev pub attribute : Expanded → ℕ → Tree → List Attribute
attribute e at (node row (token name (subtree value no_parts))) = (let a : Attribute = record { at = at; name = name_at e at; value = attribute_value e (at + 1) value } in a ∷ [])
attribute e at others = []

-- MoreAttributes: a comma, one, and more
abbrev pub more_attributes : Expanded → ℕ → Tree → List Attribute
more_attributes e at (node row (token comma (subtree next (subtree more no_parts)))) = attribute e (at + 1) next ++ more_attributes e (at + 1 + width next) more
more_attributes e at others = []

abbrev pub attribute_group : List Attribute → AttributeGroup
attribute_group attributes = record { attributes = attributes }

-- Attributes: what stands between `(*` and `*)`, and the rest
abbrev pub attribute_groups : Expanded → ℕ → Tree → List AttributeGroup
attribute_groups e at (node row (token left (subtree first (subtree more (token close (subtree rest no_parts)))))) = attribute_group (attribute e (at + 1) first ++ more_attributes e (at + 1 + width first) more) ∷ attribute_groups e (at + 1 + width first + width more + 1) rest
attribute_groups e at others = []

-- MoreNames: a comma, a name, and more
abbrev pub more_names : Expanded → ℕ → Tree → List NameAt
more_names e at (node row (token comma (token name (subtree more no_parts)))) = named e (at + 1) ∷ more_names e (at + 2) more
more_names e at others = []

-- OptionalType: `real`, `integer`, or nothing
abbrev pub optional_type : Tree → Option Ty
optional_type (node row (token k no_parts)) = Some (type_of k)
optional_type others = None

-- LowerBracket, UpperBracket: a square bracket, else a round one
abbrev pub is_closed : Tree → Bool
is_closed (node row (token k no_parts)) = if is_kind k kind.LeftBracket then true else is_kind k kind.RightBracket
is_closed others = false

abbrev pub bound : Bool → Expr → Bound
bound closed value = record { closed = closed; value = value }

-- whether an interval is closed below, its bounds, and whether it is closed above
abbrev pub interval_of : Bool → Expr → Expr → Bool → Interval
interval_of below low high above = record { low = bound below low; high = bound above high }

-- Interval: a bracket, an expression, `:`, another one, and a bracket
abbrev pub interval : Expanded → ℕ → Tree → List Range
interval e at (node row (subtree lower (subtree low (token colon (subtree high (subtree upper no_parts)))))) = range.From (interval_of (is_closed lower) (expression e (at + width lower) low) (expression e (at + width lower + width low + 1) high) (is_closed upper)) ∷ []
interval e at others = []

-- ExclusionRest: `:`, an expression and a bracket; or `)`, behind a single value. The expression before it comes first.
abbrev pub exclusion_rest : Expanded → Expr → ℕ → Tree → List Range
exclusion_rest e low at (node row (token colon (subtree high (subtree upper no_parts)))) = range.ExcludeInterval (interval_of false low (expression e (at + 1) high) (is_closed upper)) ∷ []
exclusion_rest e low at others = range.ExcludeValue low ∷ []

-- Exclusion: an interval that is closed below; one that is open there, or a value in parentheses; or a value
abbrev pub exclusion : Expanded → ℕ → Tree → List Range
exclusion e at (node row (token left (subtree low (token colon (subtree high (subtree upper no_parts)))))) = range.ExcludeInterval (interval_of true (expression e (at + 1) low) (expression e (at + 1 + width low + 1) high) (is_closed upper)) ∷ []
exclusion e at (node row (token left (subtree low (subtree rest no_parts)))) = exclusion_rest e (expression e (at + 1) low) (at + 1 + width low) rest
exclusion e at (node row (subtree value no_parts)) = range.ExcludeValue (expression e at value) ∷ []
exclusion e at others = []

-- one range, by the kind of its first token
abbrev pub range_of : Expanded → ℕ → ℕ → Tree → List Range
range_of e k at inner = if is_kind k kind.From then interval e at inner else exclusion e at inner

-- Ranges: `from` and an interval, or `exclude` and an exclusion; and the rest
abbrev pub ranges : Expanded → ℕ → Tree → List Range
ranges e at (node row (token k (subtree inner (subtree rest no_parts)))) = range_of e k (at + 1) inner ++ ranges e (at + 1 + width inner) rest
ranges e at others = []

-- ParameterAssignment: a name, `=`, the default, and ranges
abbrev pub parameter : Expanded → ℕ → Tree → List Parameter
parameter e at (node row (token name (token equals (subtree default (subtree rest no_parts))))) = (let p : Parameter = record { name = named e at; default = expression e (at + 2) default; ranges = ranges e (at + 2 + width default) rest } in p ∷ [])
parameter e at others = []

-- MoreParameterAssignments: a comma, one, and more
abbrev pub more_parameters : Expanded → ℕ → Tree → List Parameter
more_parameters e at (node row (token comma (subtree next (subtree more no_parts)))) = parameter e (at + 1) next ++ more_parameters e (at + 1 + width next) more
more_parameters e at others = []

-- ParameterAssignments: the first, and more
abbrev pub parameters : Expanded → ℕ → Tree → List Parameter
parameters e at (node row (subtree first (subtree more no_parts))) = parameter e at first ++ more_parameters e (at + width first) more
parameters e at others = []

abbrev pub direction_by : ℕ → Direction
direction_by k = if is_kind k kind.Input then Input else (if is_kind k kind.Output then Output else Inout)

-- Direction: `input`, `output` or `inout`
abbrev pub direction : Tree → Direction
direction (node row (token k no_parts)) = direction_by k
direction others = Inout

-- DirectionTail: the first name behind a discipline, and more; or more names behind the first. The name before it comes first; it
-- is the discipline where another one follows.
abbrev pub directed : Expanded → ℕ → Direction → NameAt → ℕ → Tree → ItemBody
directed e first to name at (node row (token next (subtree more no_parts))) = item.Direction first to (Some name) (named e at ∷ more_names e (at + 1) more)
directed e first to name at (node row (subtree more no_parts)) = item.Direction first to None (name ∷ more_names e at more)
directed e first to name at others = item.Direction first to None []

-- FunctionItem: `input`, `real` or `integer`, a name, more names, and `;`
abbrev pub function_names : ℕ → ℕ → List NameAt → FunctionItem
function_names at k names = if is_kind k kind.Input then function.Input at names else function.Variables at (type_of k) names

abbrev pub function_item : Expanded → ℕ → Tree → List FunctionItem
function_item e at (node row (token k (token name (subtree more (token semicolon no_parts))))) = function_names at k (named e (at + 1) ∷ more_names e (at + 2) more) ∷ []
function_item e at others = []

-- FunctionItems: one, and the rest
abbrev pub function_items : Expanded → ℕ → Tree → List FunctionItem
function_items e at (node row (subtree first (subtree rest no_parts))) = function_item e at first ++ function_items e (at + width first) rest
function_items e at others = []

-- AnalogItem: a function; or a statement. The word `analog` stands at the first index.
abbrev pub analog : Expanded → ℕ → ℕ → Tree → ItemBody
analog e first at (node row (token function (subtree ty (token name (token semicolon (subtree items (subtree body (token endfunction no_parts)))))))) = item.Function first (optional_type ty) (named e (at + 1 + width ty)) (function_items e (at + 1 + width ty + 2) items) (statement e (at + 1 + width ty + 2 + width items) body)
analog e first at (node row (subtree body no_parts)) = item.Analog first (statement e at body)
analog e first at others = item.Analog first (statement e at others)

abbrev pub declared_item : Expanded → ℕ → ℕ → Tree → ItemBody
declared_item e at k vars = item.Variables (let d : Declaration = record { at = at; ty = type_of k; variables = variables e (at + 1) vars } in d)

-- ItemBody: a direction; nodes of a discipline; branches; parameters, local or not; an alias; variables; or an analog block or
-- function
abbrev pub item_body : Expanded → ℕ → Tree → List ItemBody
item_body e at (node row (subtree to (token name (subtree tail (token semicolon no_parts))))) = directed e at (direction to) (named e (at + width to)) (at + width to + 1) tail ∷ []
item_body e at (node row (token discipline (token name (subtree more (token semicolon no_parts))))) = item.Nodes at (name_at e at) (named e (at + 1) ∷ more_names e (at + 2) more) ∷ []
item_body e at (node row (token branch (token left (token first (subtree second (token close (token name (subtree more (token semicolon no_parts))))))))) = item.Branch at (named e (at + 2)) (second_node e (at + 3) second) (named e (at + 3 + width second + 1) ∷ more_names e (at + 3 + width second + 2) more) ∷ []
item_body e at (node row (token k (subtree ty (subtree params (token semicolon no_parts))))) = item.Parameters at (is_kind k kind.Localparam) (optional_type ty) (parameters e (at + 1 + width ty) params) ∷ []
item_body e at (node row (token aliasparam (token name (token equals (token target (token semicolon no_parts)))))) = item.Alias at (named e (at + 1)) (named e (at + 3)) ∷ []
item_body e at (node row (token k (subtree vars (token semicolon no_parts)))) = declared_item e at k vars ∷ []
item_body e at (node row (token analog_ (subtree inner no_parts))) = analog e at (at + 1) inner ∷ []
item_body e at others = []

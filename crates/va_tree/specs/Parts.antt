-- What stands in a text outside of other statements and expressions: its outermost statements and expressions.
use Rattle.std.specs.Prelude.{List, [], ◌∷◌, ◌++◌, Option, Some, None, map, flat_map}
use Rattle.va_tree.specs.declared.expr.Arg.{Arg}
use Rattle.va_tree.specs.declared.expr.Arg.TheVariants as arg
use Rattle.va_tree.specs.declared.source.Attribute.{Attribute}
use Rattle.va_tree.specs.declared.source.AttributeGroup.{AttributeGroup}
use Rattle.va_tree.specs.declared.source.Nature.{Nature}
use Rattle.va_tree.specs.declared.source.NatureItem.{NatureItem}
use Rattle.va_tree.specs.declared.source.Discipline.{Discipline}
use Rattle.va_tree.specs.declared.source.DisciplineItem.{DisciplineItem}
use Rattle.va_tree.specs.declared.source.DisciplineItem.TheVariants as discipline
use Rattle.va_tree.specs.declared.source.Source.{Source}
use Rattle.va_tree.specs.declared.module.Interval.{Interval}
use Rattle.va_tree.specs.declared.module.Range.{Range}
use Rattle.va_tree.specs.declared.module.Range.TheVariants as range
use Rattle.va_tree.specs.declared.module.Parameter.{Parameter}
use Rattle.va_tree.specs.declared.module.ItemBody.{ItemBody}
use Rattle.va_tree.specs.declared.module.ItemBody.TheVariants as item
use Rattle.va_tree.specs.declared.module.Item.{Item}
use Rattle.va_tree.specs.declared.module.Module.{Module}
use Rattle.va_tree.specs.Expressions.{Expression, expression_of}
use Rattle.va_tree.specs.Statements.{Statement, statement_of}
use Rattle.va_tree.specs.Declarations.{initialisers}

-- an outermost expression or statement
pub data Part : Type 0 where
  expression : Expression → Part
  statement : Statement → Part

-- a string has none
abbrev pub argument_parts : Arg → List Part
argument_parts (arg.Text text) = []
argument_parts (arg.Expr e) = expression (expression_of e) ∷ []

abbrev pub attribute_parts : Option Arg → List Part
attribute_parts None = []
attribute_parts (Some value) = argument_parts value

-- the values of attributes, in order
abbrev pub attributes_parts : List AttributeGroup → List Part
attributes_parts = flat_map (λ (g : AttributeGroup). flat_map (λ (a : Attribute). attribute_parts a.value) g.attributes)

abbrev pub nature_parts : Nature → List Part
nature_parts n = attributes_parts n.attributes ++ flat_map (λ (i : NatureItem). argument_parts i.value) n.items

abbrev pub discipline_item_parts : DisciplineItem → List Part
discipline_item_parts (discipline.Binding at quantity nature) = []
discipline_item_parts (discipline.Override at quantity name value) = argument_parts value
discipline_item_parts (discipline.Domain at name) = []

abbrev pub discipline_parts : Discipline → List Part
discipline_parts d = attributes_parts d.attributes ++ flat_map discipline_item_parts d.items

abbrev pub interval_parts : Interval → List Part
interval_parts i = expression (expression_of i.low.value) ∷ expression (expression_of i.high.value) ∷ []

abbrev pub range_parts : Range → List Part
range_parts (range.From interval) = interval_parts interval
range_parts (range.ExcludeInterval interval) = interval_parts interval
range_parts (range.ExcludeValue value) = expression (expression_of value) ∷ []

-- the default, then the bounds and exclusions
abbrev pub parameter_parts : Parameter → List Part
parameter_parts p = expression (expression_of p.default) ∷ flat_map range_parts p.ranges

abbrev pub body_parts : ItemBody → List Part
body_parts (item.Direction at direction discipline names) = []
body_parts (item.Nodes at discipline names) = []
body_parts (item.Branch at first second names) = []
body_parts (item.Parameters at local ty parameters) = flat_map parameter_parts parameters
body_parts (item.Alias at name target) = []
body_parts (item.Variables declaration) = map expression (initialisers declaration.variables)
body_parts (item.Function at ty name items body) = statement (statement_of body) ∷ []
body_parts (item.Analog at body) = statement (statement_of body) ∷ []

abbrev pub item_parts : Item → List Part
item_parts i = attributes_parts i.attributes ++ body_parts i.body

abbrev pub module_parts : Module → List Part
module_parts m = attributes_parts m.attributes ++ flat_map item_parts m.items

-- Those of a whole text: of its natures, then of its disciplines, then of its modules, each in order, and of each the attributes
-- first.
abbrev pub parts_of : Source → List Part
parts_of s = flat_map nature_parts s.natures ++ flat_map discipline_parts s.disciplines ++ flat_map module_parts s.modules

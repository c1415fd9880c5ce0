-- The tokens of a text's names, in the order of the tree: of all names, whether declared, used or given to an attribute. A keyword
-- is no name but `inf`, which stands in expressions as a name does; nor is a string one.
use Rattle.std.specs.Prelude.{◌≡◌, ℕ, List, [], ◌∷◌, ◌++◌, Some, map, flat_map, option_to_list, slice_get}
use Rattle.va_tree.specs.declared.expr.Arg.{Arg}
use Rattle.va_tree.specs.declared.expr.Arg.TheVariants as arg
use Rattle.va_tree.specs.declared.name.NameAt.{NameAt}
use Rattle.va_tree.specs.declared.source.Attribute.{Attribute}
use Rattle.va_tree.specs.declared.source.AttributeGroup.{AttributeGroup}
use Rattle.va_tree.specs.declared.source.Nature.{Nature}
use Rattle.va_tree.specs.declared.source.NatureItem.{NatureItem}
use Rattle.va_tree.specs.declared.source.Discipline.{Discipline}
use Rattle.va_tree.specs.declared.source.DisciplineItem.{DisciplineItem}
use Rattle.va_tree.specs.declared.source.DisciplineItem.TheVariants as discipline
use Rattle.va_tree.specs.declared.source.Source.{Source}
use Rattle.va_tree.specs.declared.module.Interval.{Interval}
use Rattle.va_tree.specs.declared.module.Range.{Range}
use Rattle.va_tree.specs.declared.module.Range.TheVariants as range
use Rattle.va_tree.specs.declared.module.Parameter.{Parameter}
use Rattle.va_tree.specs.declared.module.Variable.{Variable}
use Rattle.va_tree.specs.declared.module.Declaration.{Declaration}
use Rattle.va_tree.specs.declared.module.FunctionItem.{FunctionItem}
use Rattle.va_tree.specs.declared.module.FunctionItem.TheVariants as function
use Rattle.va_tree.specs.declared.module.ItemBody.{ItemBody}
use Rattle.va_tree.specs.declared.module.ItemBody.TheVariants as item
use Rattle.va_tree.specs.declared.module.Item.{Item}
use Rattle.va_tree.specs.declared.module.Module.{Module}
use Rattle.va_tree.specs.Expressions.{Expression, Arguments, literal, infinity, name, group, unary, binary, choose, call, no_more, text_then, expression_then, expression_of}
use Rattle.va_tree.specs.Declarations.{if_there}
use Rattle.va_tree.specs.Statements.{Statement, Statements, Items, Defaults, null, block, only_if, if_else, cases, for_loop, while_loop, repeat_loop, event, assign, contribute, task, no_more as no_statement, statement_then, no_items, item_then, no_defaults, default_then, statement_of}

abbrev pub tokens_of : List NameAt → List ℕ
tokens_of = map (λ (n : NameAt). n.at)

abbrev mutual
  pub names_in : Expression → List ℕ
  names_in (literal at value integer) = []
  names_in (infinity at) = at ∷ []
  names_in (name at bytes) = at ∷ []
  names_in (group at inner) = names_in inner
  names_in (unary at op operand) = names_in operand
  names_in (binary at left op right) = names_in left ++ names_in right
  names_in (choose at test a b) = names_in test ++ names_in a ++ names_in b
  names_in (call at callee bytes args) = at ∷ names_in_arguments args

  pub names_in_arguments : Arguments → List ℕ
  names_in_arguments no_more = []
  names_in_arguments (text_then text rest) = names_in_arguments rest
  names_in_arguments (expression_then e rest) = names_in e ++ names_in_arguments rest

abbrev pub names_in_variable : Variable → List ℕ
names_in_variable v = v.name.at ∷ flat_map names_in (if_there v.initialiser)

abbrev pub names_in_declaration : Declaration → List ℕ
names_in_declaration d = flat_map names_in_variable d.variables

abbrev mutual
  pub names_in_statement : Statement → List ℕ
  names_in_statement (null at) = []
  names_in_statement (block at label declarations body) =
      tokens_of (option_to_list label) ++ flat_map names_in_declaration declarations ++ names_in_statements body
  names_in_statement (only_if at test a) = names_in test ++ names_in_statement a
  names_in_statement (if_else at test a b) = names_in test ++ names_in_statement a ++ names_in_statement b
  names_in_statement (cases at selector items defaults) = names_in selector ++ names_in_items items ++ names_in_defaults defaults
  names_in_statement (for_loop at target first test target' step body) =
      target.at ∷ names_in first ++ names_in test ++ target'.at ∷ names_in step ++ names_in_statement body
  names_in_statement (while_loop at test body) = names_in test ++ names_in_statement body
  names_in_statement (repeat_loop at count body) = names_in count ++ names_in_statement body
  names_in_statement (event at kind analyses body) = names_in_statement body
  names_in_statement (assign at target value) = at ∷ names_in value
  names_in_statement (contribute at access first second value) = at ∷ first.at ∷ tokens_of (option_to_list second) ++ names_in value
  names_in_statement (task at bytes args) = at ∷ names_in_arguments args

  pub names_in_statements : Statements → List ℕ
  names_in_statements no_statement = []
  names_in_statements (statement_then s rest) = names_in_statement s ++ names_in_statements rest

  pub names_in_items : Items → List ℕ
  names_in_items no_items = []
  names_in_items (item_then at values body rest) = flat_map names_in values ++ names_in_statement body ++ names_in_items rest

  pub names_in_defaults : Defaults → List ℕ
  names_in_defaults no_defaults = []
  names_in_defaults (default_then at body rest) = names_in_statement body ++ names_in_defaults rest

abbrev pub names_in_value : Arg → List ℕ
names_in_value (arg.Text text) = []
names_in_value (arg.Expr e) = names_in (expression_of e)

abbrev pub names_in_attribute : Attribute → List ℕ
names_in_attribute a = a.at ∷ flat_map names_in_value (option_to_list a.value)

abbrev pub names_in_attributes : List AttributeGroup → List ℕ
names_in_attributes = flat_map (λ (g : AttributeGroup). flat_map names_in_attribute g.attributes)

abbrev pub names_in_nature : Nature → List ℕ
names_in_nature n =
    names_in_attributes n.attributes
    ++ n.at ∷ tokens_of (option_to_list n.parent)
    ++ flat_map (λ (i : NatureItem). i.at ∷ names_in_value i.value) n.items

abbrev pub names_in_discipline_item : DisciplineItem → List ℕ
names_in_discipline_item (discipline.Binding at quantity nature) = nature.at ∷ []
names_in_discipline_item (discipline.Override at quantity overridden value) = overridden.at ∷ names_in_value value
names_in_discipline_item (discipline.Domain at domain) = domain.at ∷ []

abbrev pub names_in_discipline : Discipline → List ℕ
names_in_discipline d = names_in_attributes d.attributes ++ d.at ∷ flat_map names_in_discipline_item d.items

abbrev pub names_in_interval : Interval → List ℕ
names_in_interval i = names_in (expression_of i.low.value) ++ names_in (expression_of i.high.value)

abbrev pub names_in_range : Range → List ℕ
names_in_range (range.From interval) = names_in_interval interval
names_in_range (range.ExcludeInterval interval) = names_in_interval interval
names_in_range (range.ExcludeValue value) = names_in (expression_of value)

abbrev pub names_in_parameter : Parameter → List ℕ
names_in_parameter p = p.name.at ∷ names_in (expression_of p.default) ++ flat_map names_in_range p.ranges

abbrev pub names_in_function_item : FunctionItem → List ℕ
names_in_function_item (function.Input at names) = tokens_of names
names_in_function_item (function.Variables at ty names) = tokens_of names

abbrev pub names_in_body : ItemBody → List ℕ
names_in_body (item.Direction at direction discipline names) = tokens_of (option_to_list discipline) ++ tokens_of names
names_in_body (item.Nodes at discipline names) = at ∷ tokens_of names
names_in_body (item.Branch at first second names) = tokens_of (first ∷ option_to_list second) ++ tokens_of names
names_in_body (item.Parameters at local ty parameters) = flat_map names_in_parameter parameters
names_in_body (item.Alias at second target) = second.at ∷ target.at ∷ []
names_in_body (item.Variables declaration) = names_in_declaration declaration
names_in_body (item.Function at ty called items body) =
    called.at ∷ flat_map names_in_function_item items ++ names_in_statement (statement_of body)
names_in_body (item.Analog at body) = names_in_statement (statement_of body)

abbrev pub names_in_item : Item → List ℕ
names_in_item i = names_in_attributes i.attributes ++ names_in_body i.body

abbrev pub names_in_module : Module → List ℕ
names_in_module m = names_in_attributes m.attributes ++ m.at ∷ tokens_of m.ports ++ flat_map names_in_item m.items

-- of a whole text: of its natures, then of its disciplines, then of its modules
abbrev pub names_in_source : Source → List ℕ
names_in_source s = flat_map names_in_nature s.natures ++ flat_map names_in_discipline s.disciplines ++ flat_map names_in_module s.modules

-- each name of a text stands at a token of its own
abbrev pub EachNameHasItsToken : Source → Type 0
EachNameHasItsToken s = (i j at : ℕ) → slice_get (names_in_source s) i ≡ Some at → slice_get (names_in_source s) j ≡ Some at → i ≡ j

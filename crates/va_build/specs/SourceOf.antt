-- The source that a text stands for: its natures, disciplines and modules (Natures, Disciplines). The definitions read as those of
-- expressions do.
use Rattle.std.specs.Prelude.{◌≡◌, ℕ, ◌+◌, if◌then◌else◌, List, [], ◌∷◌, ◌++◌, map, Option, Some, None}
use Rattle.predict.specs.Tree.{Tree, node, no_parts, token, subtree}
use Rattle.predict.specs.Sentence.{IsSentenceOf}
use Rattle.va_base.specs.declared.expanded.Expanded.{Expanded}
use Rattle.va_tree.specs.declared.name.NameAt.{NameAt}
use Rattle.va_tree.specs.declared.module.Item.{Item}
use Rattle.va_tree.specs.declared.module.ItemBody.{ItemBody}
use Rattle.va_tree.specs.declared.module.Module.{Module}
use Rattle.va_tree.specs.declared.source.AttributeGroup.{AttributeGroup}
use Rattle.va_tree.specs.declared.source.Nature.{Nature}
use Rattle.va_tree.specs.declared.source.NatureItem.{NatureItem}
use Rattle.va_tree.specs.declared.source.Discipline.{Discipline}
use Rattle.va_tree.specs.declared.source.DisciplineItem.{DisciplineItem}
use Rattle.va_tree.specs.declared.source.DisciplineItem.TheVariants as discipline
use Rattle.va_tree.specs.declared.source.Quantity.{Quantity}
use Rattle.va_tree.specs.declared.source.Quantity.TheVariants.{Potential, Flow}
use Rattle.va_tree.specs.declared.source.Source.{Source}
use Rattle.va_tree.specs.Size.{LeastSizeFault, IsWithinSize}
use Rattle.va_base.specs.declared.fault.Fault.{Fault}
use Rattle.va_grammar.specs.declared.terminal.Terminal.TheVariants as kind
use Rattle.va_grammar.specs.Kinds.{kinds_of}
use Rattle.va_grammar.specs.Sets.{va_rules}
use Rattle.va_build.specs.TokensAt.{name_at, named, is_kind}
use Rattle.va_build.specs.SourceExpressions.{argument}
use Rattle.va_build.specs.SourceItems.{attribute_groups, more_names, item_body}
use Rattle.va_build.specs.Width.{width}

-- ParentNature: `:` and a name, or nothing
abbrev pub parent : Expanded → ℕ → Tree → Option NameAt
parent e at (node row (token colon (token name no_parts))) = Some (named e (at + 1))
parent e at others = None

abbrev pub nature_item : Expanded → ℕ → Tree → NatureItem
nature_item e at value = record { at = at; name = name_at e at; value = argument e (at + 2) value }

-- NatureItems: a name, `=`, an argument and `;`; and the rest
abbrev pub nature_items : Expanded → ℕ → Tree → List NatureItem
nature_items e at (node row (token name (token equals (subtree value (token semicolon (subtree rest no_parts)))))) = nature_item e at value ∷ nature_items e (at + 2 + width value + 1) rest
nature_items e at others = []

-- NatureDeclaration: `nature`, a name, maybe a parent, maybe `;`, items, and `endnature`
abbrev pub nature : Expanded → List AttributeGroup → ℕ → Tree → List Nature
nature e attributes at (node row (token nature_ (token name (subtree base (subtree semicolon (subtree items (token endnature no_parts))))))) = (let n : Nature = record { attributes = attributes; at = at + 1; name = name_at e (at + 1); parent = parent e (at + 2) base; items = nature_items e (at + 2 + width base + width semicolon) items } in n ∷ [])
nature e attributes at others = []

abbrev pub quantity : ℕ → Quantity
quantity k = if is_kind k kind.Potential then Potential else Flow

-- NatureBinding: a name and `;`; or `.`, a name, `=`, an argument and `;`. The word before it stands at the first index.
abbrev pub binding : Expanded → ℕ → Quantity → ℕ → Tree → DisciplineItem
binding e first of at (node row (token dot (token name (token equals (subtree value (token semicolon no_parts)))))) = discipline.Override first of (named e (at + 1)) (argument e (at + 3) value)
binding e first of at others = discipline.Binding first of (named e at)

-- DisciplineItem: `potential` or `flow`, and a binding; or `domain`, a name and `;`
abbrev pub discipline_item : Expanded → ℕ → Tree → DisciplineItem
discipline_item e at (node row (token k (subtree bound no_parts))) = binding e at (quantity k) (at + 1) bound
discipline_item e at others = discipline.Domain at (named e (at + 1))

-- DisciplineItems: one, and the rest
abbrev pub discipline_items : Expanded → ℕ → Tree → List DisciplineItem
discipline_items e at (node row (subtree first (subtree rest no_parts))) = discipline_item e at first ∷ discipline_items e (at + width first) rest
discipline_items e at others = []

-- DisciplineDeclaration: `discipline`, a name, maybe `;`, items, and `enddiscipline`
abbrev pub discipline_of : Expanded → List AttributeGroup → ℕ → Tree → List Discipline
discipline_of e attributes at (node row (token discipline_ (token name (subtree semicolon (subtree items (token enddiscipline no_parts)))))) = (let d : Discipline = record { attributes = attributes; at = at + 1; name = name_at e (at + 1); items = discipline_items e (at + 2 + width semicolon) items } in d ∷ [])
discipline_of e attributes at others = []

-- PortList: a name and more, or nothing
abbrev pub port_list : Expanded → ℕ → Tree → List NameAt
port_list e at (node row (token name (subtree more no_parts))) = named e at ∷ more_names e (at + 1) more
port_list e at others = []

-- Ports: a list in parentheses, or nothing
abbrev pub ports : Expanded → ℕ → Tree → List NameAt
ports e at (node row (token left (subtree list (token close no_parts)))) = port_list e (at + 1) list
ports e at others = []

-- Item: attributes, and the item itself
abbrev pub with_attributes : List AttributeGroup → ItemBody → Item
with_attributes attributes body = record { attributes = attributes; body = body }

abbrev pub item : Expanded → ℕ → Tree → List Item
item e at (node row (subtree attributes (subtree body no_parts))) = map (with_attributes (attribute_groups e at attributes)) (item_body e (at + width attributes) body)
item e at others = []

-- Items: one, and the rest
abbrev pub items : Expanded → ℕ → Tree → List Item
items e at (node row (subtree first (subtree rest no_parts))) = item e at first ++ items e (at + width first) rest
items e at others = []

-- ModuleDeclaration: `module`, a name, ports, `;`, items, and `endmodule`
abbrev pub module_of : Expanded → List AttributeGroup → ℕ → Tree → List Module
module_of e attributes at (node row (token module_ (token name (subtree list (token semicolon (subtree inner (token endmodule no_parts))))))) = (let m : Module = record { attributes = attributes; at = at + 1; name = name_at e (at + 1); ports = ports e (at + 2) list; items = items e (at + 2 + width list + 1) inner } in m ∷ [])
module_of e attributes at others = []

-- TopItemBody: a nature, a discipline or a module, of which those of one sort are taken. The attributes before it come first.
abbrev pub body_of_sort : {X : Type 0} → (Expanded → List AttributeGroup → ℕ → Tree → List X) → Expanded → List AttributeGroup → ℕ → Tree → List X
body_of_sort sort e attributes at (node row (subtree declaration no_parts)) = sort e attributes at declaration
body_of_sort sort e attributes at others = []

-- TopItem: attributes, and what they belong to
abbrev pub of_sort : {X : Type 0} → (Expanded → List AttributeGroup → ℕ → Tree → List X) → Expanded → ℕ → Tree → List X
of_sort sort e at (node row (subtree attributes (subtree body no_parts))) = body_of_sort sort e (attribute_groups e at attributes) (at + width attributes) body
of_sort sort e at others = []

-- Source: one, and the rest
abbrev pub all_of_sort : {X : Type 0} → (Expanded → List AttributeGroup → ℕ → Tree → List X) → Expanded → ℕ → Tree → List X
all_of_sort sort e at (node row (subtree first (subtree rest no_parts))) = of_sort sort e at first ++ all_of_sort sort e (at + width first) rest
all_of_sort sort e at others = []

-- the source that the parse tree of a text stands for
abbrev pub source_of : Expanded → Tree → Source
source_of e t = record { natures = all_of_sort nature e 0 t; disciplines = all_of_sort discipline_of e 0 t; modules = all_of_sort module_of e 0 t }

-- The tokens of a text are a sentence, which one parse tree alone spells, and this is the source that the tree stands for.
pub record IsSourceOf (e : Expanded) (s : Source) : Type 0 where
  pub tree : Tree
  pub sentence : IsSentenceOf va_rules tree (kinds_of e)
  pub only : (other : Tree) → IsSentenceOf va_rules other (kinds_of e) → other ≡ tree
  pub source : s ≡ source_of e tree

-- the source of the text, in which no fault of size stands
pub record IsSourceWithinSize (e : Expanded) (s : Source) : Type 0 where
  pub source : IsSourceOf e s
  pub within : IsWithinSize e s

-- The text has a source, and this is the least fault of size that stands in it, with its code.
pub record IsSourceFaulty (e : Expanded) (f : Fault) : Type 0 where
  pub faulty : Source
  pub source : IsSourceOf e faulty
  pub least : LeastSizeFault e faulty f

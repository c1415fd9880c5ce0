-- A short notation for the trees of small texts, for rows that are worked out by hand.
use Rattle.std.specs.Prelude.{ℕ, ℤ, pos, Bool, true, false, List, [], ◌∷◌, ◌++◌, Option, None, codes}
use Rattle.va_tree.specs.declared.name.NameAt.{NameAt}
use Rattle.va_tree.specs.declared.expr.Arg.{Arg}
use Rattle.va_tree.specs.declared.expr.Arg.TheVariants as arg
use Rattle.va_tree.specs.declared.expr.Expr.{Expr}
use Rattle.va_tree.specs.declared.expr.Expr.TheVariants.{Literal, Name}
use Rattle.va_tree.specs.declared.stmt.Stmt.{Stmt}
use Rattle.va_tree.specs.declared.stmt.CaseItem.{CaseItem}
use Rattle.va_tree.specs.declared.stmt.CaseDefault.{CaseDefault}
use Rattle.va_tree.specs.declared.stmt.Assignment.{Assignment}
use Rattle.va_tree.specs.declared.source.Attribute.{Attribute}
use Rattle.va_tree.specs.declared.source.AttributeGroup.{AttributeGroup}
use Rattle.va_tree.specs.declared.source.Quantity.TheVariants.{Potential, Flow}
use Rattle.va_tree.specs.declared.source.Nature.{Nature}
use Rattle.va_tree.specs.declared.source.NatureItem.{NatureItem}
use Rattle.va_tree.specs.declared.source.Discipline.{Discipline}
use Rattle.va_tree.specs.declared.source.DisciplineItem.{DisciplineItem}
use Rattle.va_tree.specs.declared.source.DisciplineItem.TheVariants.{Binding}
use Rattle.va_tree.specs.declared.source.Source.{Source}
use Rattle.va_tree.specs.declared.module.Ty.{Ty}
use Rattle.va_tree.specs.declared.module.Direction.TheVariants.{Inout}
use Rattle.va_tree.specs.declared.module.Variable.{Variable}
use Rattle.va_tree.specs.declared.module.Declaration.{Declaration}
use Rattle.va_tree.specs.declared.module.Range.{Range}
use Rattle.va_tree.specs.declared.module.Interval.{Interval}
use Rattle.va_tree.specs.declared.module.Parameter.{Parameter}
use Rattle.va_tree.specs.declared.module.ItemBody.{ItemBody}
use Rattle.va_tree.specs.declared.module.ItemBody.TheVariants as items
use Rattle.va_tree.specs.declared.module.Item.{Item}
use Rattle.va_tree.specs.declared.module.Module.{Module}
use Rattle.va_sem.specs.Lookup.{Bytes}

-- a name at a token
abbrev pub n : ℕ → Bytes → NameAt
n at name = record { at = at; name = name }

-- an integer numeral, and a real one: a mantissa and a power of ten
abbrev pub whole : ℕ → ℕ → Expr
whole at value = Literal at (record { mantissa = value; power = pos 0 }) true

abbrev pub decimal : ℕ → ℕ → ℤ → Expr
decimal at mantissa power = Literal at (record { mantissa = mantissa; power = power }) false

abbrev pub stored : NameAt → Option Expr → Variable
stored name initialiser = record { name = name; initialiser = initialiser }

abbrev pub declares : ℕ → Ty → List Variable → Declaration
declares at ty variables = record { at = at; ty = ty; variables = variables }

abbrev pub sets : NameAt → Expr → Assignment
sets target value = record { target = target; value = value }

abbrev pub item : ℕ → List Expr → Stmt → CaseItem
item at values body = record { at = at; values = values; body = body }

abbrev pub by_default : ℕ → Stmt → CaseDefault
by_default at body = record { at = at; body = body }

-- an interval, with a square bracket at an end that is closed
abbrev pub interval : Bool → Expr → Expr → Bool → Interval
interval low_closed low high high_closed =
    record { low = record { closed = low_closed; value = low }; high = record { closed = high_closed; value = high } }

abbrev pub parameter : NameAt → Expr → List Range → Parameter
parameter name default ranges = record { name = name; default = default; ranges = ranges }

abbrev pub attribute : ℕ → Bytes → Option Arg → Attribute
attribute at name value = record { at = at; name = name; value = value }

abbrev pub group : List Attribute → AttributeGroup
group attributes = record { attributes = attributes }

abbrev pub plain : ItemBody → Item
plain body = record { attributes = []; body = body }

abbrev pub with_attributes : List AttributeGroup → ItemBody → Item
with_attributes attributes body = record { attributes = attributes; body = body }

abbrev pub module_at : List AttributeGroup → ℕ → Bytes → List NameAt → List Item → Module
module_at attributes at name ports items = record { attributes = attributes; at = at; name = name; ports = ports; items = items }

abbrev pub nature_item : ℕ → Bytes → Arg → NatureItem
nature_item at name value = record { at = at; name = name; value = value }

abbrev pub nature : ℕ → Bytes → Option NameAt → List NatureItem → Nature
nature at name parent items = record { attributes = []; at = at; name = name; parent = parent; items = items }

abbrev pub discipline : ℕ → Bytes → List DisciplineItem → Discipline
discipline at name items = record { attributes = []; at = at; name = name; items = items }

-- The natures and disciplines of the rows, tokens 0 to 74:
-- nature Voltage; units = "V"; access = V; endnature
-- nature Current; units = "A"; access = I; endnature
-- nature Heat; units = "K"; access = Temp; endnature
-- nature Power; units = "W"; access = Pwr; endnature
-- discipline electrical; potential Voltage; flow Current; enddiscipline
-- discipline thermal; potential Heat; flow Power; enddiscipline
-- discipline half; potential Voltage; enddiscipline
abbrev pub natures : List Nature
natures =
    nature 1 (codes "Voltage") None (nature_item 3 (codes "units") (arg.Text (n 5 (codes "V"))) ∷ nature_item 7 (codes "access") (arg.Expr (Name 9 (codes "V"))) ∷ [])
    ∷ nature 13 (codes "Current") None (nature_item 15 (codes "units") (arg.Text (n 17 (codes "A"))) ∷ nature_item 19 (codes "access") (arg.Expr (Name 21 (codes "I"))) ∷ [])
    ∷ nature 25 (codes "Heat") None (nature_item 27 (codes "units") (arg.Text (n 29 (codes "K"))) ∷ nature_item 31 (codes "access") (arg.Expr (Name 33 (codes "Temp"))) ∷ [])
    ∷ nature 37 (codes "Power") None (nature_item 39 (codes "units") (arg.Text (n 41 (codes "W"))) ∷ nature_item 43 (codes "access") (arg.Expr (Name 45 (codes "Pwr"))) ∷ [])
    ∷ []

abbrev pub disciplines : List Discipline
disciplines =
    discipline 49 (codes "electrical") (Binding 51 Potential (n 52 (codes "Voltage")) ∷ Binding 54 Flow (n 55 (codes "Current")) ∷ [])
    ∷ discipline 59 (codes "thermal") (Binding 61 Potential (n 62 (codes "Heat")) ∷ Binding 64 Flow (n 65 (codes "Power")) ∷ [])
    ∷ discipline 69 (codes "half") (Binding 71 Potential (n 72 (codes "Voltage")) ∷ [])
    ∷ []

-- After these, the module of two ports: the first token of its further items is 93.
-- module m(a, c); inout a, c; electrical a, c;
abbrev pub text : List Item → Source
text more = record {
  natures = natures;
  disciplines = disciplines;
  modules = module_at [] 76 (codes "m") (n 78 (codes "a") ∷ n 80 (codes "c") ∷ []) (plain (items.Direction 83 Inout None (n 84 (codes "a") ∷ n 86 (codes "c") ∷ [])) ∷ plain (items.Nodes 88 (codes "electrical") (n 89 (codes "a") ∷ n 91 (codes "c") ∷ [])) ∷ more) ∷ [];
}

-- the same with modules from token 75 on
abbrev pub modules : List Module → Source
modules list = record { natures = natures; disciplines = disciplines; modules = list }

-- the same with further natures, disciplines and modules from token 75 on, and without a module
abbrev pub all_of : List Nature → List Discipline → List Module → Source
all_of more_natures more_disciplines list = record { natures = natures ++ more_natures; disciplines = disciplines ++ more_disciplines; modules = list }

abbrev pub declarations : List Nature → List Discipline → Source
declarations more_natures more_disciplines = all_of more_natures more_disciplines []

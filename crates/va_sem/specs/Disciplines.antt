-- What natures and disciplines say (Natures, Disciplines): accesses, units, and the two natures that a discipline binds. A nature is
-- seen after its declaration, and so is a discipline.
use Rattle.std.specs.Prelude.{ℕ, Bool, true, false, ◌&&◌, nat_lt, List, [], ◌∷◌, ◌++◌, map, filter, find, Option, Some, None, option_map, option_and_then, option_to_list, flat_map, codes}
use Rattle.std.specs.Str.{bytes_eq}
use Rattle.va_tree.specs.declared.expr.Arg.{Arg}
use Rattle.va_tree.specs.declared.expr.Arg.TheVariants as arg
use Rattle.va_tree.specs.declared.name.NameAt.{NameAt}
use Rattle.va_tree.specs.declared.source.Quantity.{Quantity}
use Rattle.va_tree.specs.declared.source.Quantity.TheVariants.{Potential, Flow}
use Rattle.va_tree.specs.declared.source.Nature.{Nature}
use Rattle.va_tree.specs.declared.source.NatureItem.{NatureItem}
use Rattle.va_tree.specs.declared.source.Discipline.{Discipline}
use Rattle.va_tree.specs.declared.source.DisciplineItem.{DisciplineItem}
use Rattle.va_tree.specs.declared.source.DisciplineItem.TheVariants.{Binding}
use Rattle.va_tree.specs.declared.source.Source.{Source}
use Rattle.va_tree.specs.Expressions.{Expression, name, expression_of}
use Rattle.va_sem.specs.Lookup.{Bytes}
use Rattle.va_sem.specs.TextOrder.{in_text_order}

-- a nature: the token of its name, the access that it has, and its units
pub record NatureEntry : Type 0 where
  pub name : Bytes
  pub at : ℕ
  pub access : Option Bytes
  pub units : Bytes

-- a discipline: the token of its name, and the natures of its potential and its flow
pub record DisciplineEntry : Type 0 where
  pub name : Bytes
  pub at : ℕ
  pub potential : Option NatureEntry
  pub flow : Option NatureEntry

-- the nature of a name that is declared before a token, and likewise the discipline
abbrev pub nature_before : List NatureEntry → NameAt → Option NatureEntry
nature_before natures n = find (λ (e : NatureEntry). bytes_eq e.name n.name && nat_lt e.at n.at) natures

abbrev pub discipline_before : List DisciplineEntry → NameAt → Option DisciplineEntry
discipline_before disciplines n = find (λ (e : DisciplineEntry). bytes_eq e.name n.name && nat_lt e.at n.at) disciplines

-- a name alone
abbrev pub bare_name : Expression → Option Bytes
bare_name (name at bytes) = Some bytes
bare_name other = None

-- the access that an item gives, and the units
abbrev pub access_given : Arg → Option Bytes
access_given (arg.Text text) = None
access_given (arg.Expr e) = bare_name (expression_of e)

abbrev pub units_given : Arg → Option Bytes
units_given (arg.Text text) = Some text.name
units_given (arg.Expr e) = None

-- the items of a nature that have this name
abbrev pub items_named : Bytes → Nature → List NatureItem
items_named word n = in_text_order (λ (i : NatureItem). i.at) (filter (λ (i : NatureItem). bytes_eq i.name word) n.items)

-- by the first item, and without one what the parent has
abbrev pub given_or : {T : Type 0} → (Arg → Option T) → List NatureItem → Option T → Option T
given_or given [] inherited = inherited
given_or given (first ∷ rest) inherited = given first.value

abbrev pub units_or : Option Bytes → Bytes
units_or None = []
units_or (Some units) = units

-- the parent of a nature is declared before the nature's own name
abbrev pub parent_of : List NatureEntry → Nature → NameAt → Option NatureEntry
parent_of natures n parent = nature_before natures (record { at = n.at; name = parent.name })

-- a nature after others
abbrev pub nature_entry : List NatureEntry → Nature → NatureEntry
nature_entry earlier n =
    let parent = option_and_then (parent_of earlier n) n.parent in
    record {
      name = n.name;
      at = n.at;
      access = given_or access_given (items_named (codes "access") n) (option_and_then (λ (e : NatureEntry). e.access) parent);
      units = units_or (given_or units_given (items_named (codes "units") n) (option_map (λ (e : NatureEntry). e.units) parent));
    }

abbrev pub natures_after : List NatureEntry → List Nature → List NatureEntry
natures_after earlier [] = earlier
natures_after earlier (n ∷ rest) = natures_after (earlier ++ nature_entry earlier n ∷ []) rest

-- the natures of a text, in order
abbrev pub natures_of : Source → List NatureEntry
natures_of s = natures_after [] (in_text_order (λ (n : Nature). n.at) s.natures)

-- an item that binds a nature, with its token
pub record BindingEntry : Type 0 where
  pub at : ℕ
  pub nature : NameAt

abbrev pub is_quantity : Quantity → Quantity → Bool
is_quantity Potential Potential = true
is_quantity Potential Flow = false
is_quantity Flow Potential = false
is_quantity Flow Flow = true

abbrev pub binding_of : Quantity → DisciplineItem → List BindingEntry
binding_of wanted (Binding at quantity nature) =
    map (λ (q : Quantity). record { at = at; nature = nature }) (filter (is_quantity wanted) (quantity ∷ []))
binding_of wanted other = []

-- the items of a discipline that bind a nature as its potential, or as its flow
abbrev pub bindings_of : Quantity → Discipline → List BindingEntry
bindings_of quantity d = in_text_order (λ (b : BindingEntry). b.at) (flat_map (binding_of quantity) d.items)

-- the nature of the first of them
abbrev pub bound_nature : List NatureEntry → List BindingEntry → Option NatureEntry
bound_nature natures [] = None
bound_nature natures (first ∷ rest) = nature_before natures first.nature

abbrev pub discipline_entry : List NatureEntry → Discipline → DisciplineEntry
discipline_entry natures d = record {
  name = d.name;
  at = d.at;
  potential = bound_nature natures (bindings_of Potential d);
  flow = bound_nature natures (bindings_of Flow d);
}

-- the disciplines of a text, in order
abbrev pub disciplines_of : Source → List DisciplineEntry
disciplines_of s = in_text_order (λ (e : DisciplineEntry). e.at) (map (discipline_entry (natures_of s)) s.disciplines)

-- the accesses of all natures
abbrev pub accesses_of : List NatureEntry → List Bytes
accesses_of = flat_map (λ (e : NatureEntry). option_to_list e.access)

abbrev pub has_access : Option Bytes → Bytes → Bool
has_access None word = false
has_access (Some access) word = bytes_eq access word

abbrev pub nature_has : Option NatureEntry → Bytes → Bool
nature_has None word = false
nature_has (Some e) word = has_access e.access word

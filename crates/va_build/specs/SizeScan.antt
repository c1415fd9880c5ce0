-- What is due while a parse tree is looked through: definitions that the contracts of this crate's own functions cite. No public
-- contract names them.
use Rattle.std.specs.Prelude.{◌≡◌, ◌+◌, ◌≤◌, ℕ, ◌∷◌, [], List, map, Option, Some, None, slice_get}
use Rattle.predict.specs.declared.symbol.Symbol.{Symbol}
use Rattle.predict.specs.declared.symbol.Symbol.TheVariants.{Left}
use Rattle.predict.specs.Tree.{Tree}
use Rattle.va_base.specs.declared.expanded.Expanded.{Expanded}
use Rattle.va_grammar.specs.Parts.{symbol_of}
use Rattle.va_build.specs.Due.{AreDerived}
use Rattle.va_build.specs.Reading.{parts_from, trees_behind}
use Rattle.va_build.specs.Width.{width_of}
use Rattle.va_build.specs.SizeRows.{due, deep_due, modules_due}
use Rattle.va_grammar.specs.declared.rows.Part.{Part}
use Rattle.va_build.specs.declared.size_rules.Due.{Due}

-- the one that is found, or the one behind so many of the names ahead
abbrev pub many : Option ℕ → ℕ → List ℕ → Option ℕ
many None room ahead = slice_get ahead room
many (Some name) room ahead = Some name

-- the symbols that are due
abbrev pub symbols_due : List Due → List Symbol
symbols_due = map (λ (d : Due). d.symbol)

-- the parts of one depth
abbrev pub due_parts : ℕ → List Part → List Due
due_parts depth = map (λ (part : Part). due (symbol_of part) depth)

-- how many tokens what is due spells
abbrev pub symbols_width : List Due → List Tree → ℕ
symbols_width ds ts = width_of (parts_from (symbols_due ds) ts)

-- what is due spells no more tokens than a text has
abbrev pub AreFew : List Due → ℕ → Type 0
AreFew before at = (ts : List Tree) × (at + symbols_width before ts ≤ 2000000)

-- The one stands for the same trees as the other, each at its index.
pub record SameDue (before : List Due) (at : ℕ) (now : List Due) (at_now : ℕ) : Type 0 where
  pub deep : (e : Expanded) (ts : List Tree) → deep_due e before at ts ≡ deep_due e now at_now ts
  pub modules : (e : Expanded) (ts : List Tree) → modules_due e before at ts ≡ modules_due e now at_now ts
  pub derived : (ts : List Tree) → AreDerived (symbols_due before) ts → AreDerived (symbols_due now) ts
  pub behind : (ts : List Tree) → trees_behind (symbols_due before) ts ≡ trees_behind (symbols_due now) ts
  pub wide : (ts : List Tree) → at + symbols_width before ts ≡ at_now + symbols_width now ts

-- no tree is due
abbrev pub NothingDue : List Due → ℕ → Type 0
NothingDue before at = (at_now : ℕ) × SameDue before at [] at_now

-- a tree of this nonterminal is due next
abbrev pub ComesNext : List Due → ℕ → ℕ → ℕ → List Due → ℕ → Type 0
ComesNext before at left depth now at_now = SameDue before at (due (Left left) depth ∷ now) at_now

-- The rules of a grammar.
use Rattle.std.specs.Prelude.{ℕ, ◌≡◌, ◌+◌, List, [], ◌∷◌, Option, Some}
use Rattle.predict.specs.declared.symbol.Symbol.{Symbol}
use Rattle.predict.specs.declared.symbol.Symbol.TheVariants.{Kind, Left}

pub record Rules : Type 0 where
  -- the nonterminal of a whole text
  pub start : ℕ
  -- the kind that ends each list of kinds
  pub end_kind : ℕ
  -- the row that a nonterminal gives way to where this kind comes next
  pub row_at : ℕ → ℕ → Option ℕ
  -- what a row is made of, in order
  pub symbols : ℕ → List Symbol

-- a row that some nonterminal gives way to
abbrev pub IsRow : Rules → ℕ → Type 0
IsRow rules row = (left next : ℕ) × (rules.row_at left next ≡ Some row)

-- how many of the symbols are nonterminals
abbrev pub nonterminal_count : List Symbol → ℕ
nonterminal_count [] = 0
nonterminal_count (Kind k ∷ symbols) = nonterminal_count symbols
nonterminal_count (Left left ∷ symbols) = nonterminal_count symbols + 1

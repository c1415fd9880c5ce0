-- Sets of kinds by which the first row that fits is chosen. A grammar lists its own, and shows that what is listed is exactly what
-- can begin and what can follow.
use Rattle.std.specs.Prelude.{ℕ, Bool, false, if◌then◌else◌, List, [], ◌∷◌, ◌++◌, get_or}
use Rattle.predict.specs.declared.symbol.Symbol.{Symbol}
use Rattle.predict.specs.declared.symbol.Symbol.TheVariants.{Kind, Left}
use Rattle.predict.specs.FirstFit.{Written}
use Rattle.predict.specs.Laws.{all_empty}
use Rattle.predict.specs.Table.{Row, kinds_at}

-- for each nonterminal, in the order of their numbers
pub record Sets : Type 0 where
  -- whether it can be empty
  pub empty : List Bool
  -- the kinds with which it can begin
  pub begins : List (List ℕ)
  -- the kinds that can follow it
  pub follows : List (List ℕ)

-- whether the nonterminal can be empty
abbrev pub is_empty : Sets → ℕ → Bool
is_empty sets left = get_or sets.empty left false

-- the kinds with which the symbols can begin
abbrev pub firsts : Sets → List Symbol → List ℕ
firsts sets [] = []
firsts sets (Kind k ∷ more) = k ∷ []
firsts sets (Left left ∷ more) = kinds_at sets.begins left ++ (if is_empty sets left then firsts sets more else [])

-- the kinds that a row fits
abbrev pub kinds_of : Sets → Written → List ℕ
kinds_of sets row = firsts sets row.symbols ++ (if all_empty (is_empty sets) row.symbols then kinds_at sets.follows row.left else [])

-- a row with the kinds that it fits
abbrev pub with_kinds : Sets → Written → Row
with_kinds sets row = record { left = row.left; kinds = kinds_of sets row; symbols = row.symbols }

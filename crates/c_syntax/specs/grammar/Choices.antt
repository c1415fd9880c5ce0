-- How the parse tables stand for rows and choices.
use Rattle.std.specs.Prelude.{ℕ, suc, ◌-◌, nat_eq, nat_lt, List, [], ◌∷◌, ◌++◌, map, Option, Some, None, slice_get, if◌then◌else◌}
use Rattle.predict.specs.declared.symbol.Symbol.{Symbol}
use Rattle.predict.specs.declared.symbol.Symbol.TheVariants.{Kind, Left}
use Rattle.predict.specs.Table.{Row}

-- a symbol by its number: kinds come first, and nonterminals behind them
abbrev pub symbol_numbered : ℕ → Symbol
symbol_numbered number = if nat_lt number 187 then Kind number else Left (number - 187)

-- one place further
abbrev pub further : Option ℕ → Option ℕ
further None = None
further (Some i) = Some (suc i)

-- the first place of a kind in a list
abbrev pub kind_place : List ℕ → ℕ → Option ℕ
kind_place [] next = None
kind_place (kind ∷ kinds) next = if nat_eq next kind then Some 0 else further (kind_place kinds next)

-- the row with this place in a list, if any
abbrev pub row_with_place : List ℕ → Option ℕ → Option ℕ
row_with_place rows None = None
row_with_place rows (Some place) = slice_get rows place

-- the kinds at which rows of a nonterminal are chosen, in order
abbrev pub next_kinds : List Row → ℕ → List ℕ
next_kinds [] left = []
next_kinds (row ∷ rows) left = (if nat_eq left row.left then row.kinds else []) ++ next_kinds rows left

-- and for each the row, where the rows are numbered from i on
abbrev pub next_rows : ℕ → List Row → ℕ → List ℕ
next_rows i [] left = []
next_rows i (row ∷ rows) left = (if nat_eq left row.left then map (λ kind. i) row.kinds else []) ++ next_rows (suc i) rows left

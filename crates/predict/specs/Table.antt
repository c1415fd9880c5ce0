-- A grammar as a table of rows, and a test by which it keeps both laws.
use Rattle.std.specs.Prelude.{ℕ, suc, zero, Bool, true, false, not, ◌&&◌, ◌||◌, if◌then◌else◌, nat_eq, nat_lt, List, [], ◌∷◌, Option, Some, None}
use Rattle.std.specs.List.{list_all, list_any}
use Rattle.predict.specs.declared.symbol.Symbol.{Symbol}
use Rattle.predict.specs.declared.symbol.Symbol.TheVariants.{Kind, Left}
use Rattle.predict.specs.Rules.{Rules}
use Rattle.predict.specs.Tree.{Tree, Parts, node, no_parts, token, subtree, spelling_of}
use Rattle.predict.specs.Sentence.{first}
use Rattle.predict.specs.Laws.{all_empty}
use Rattle.predict.specs.Witness.{leads, IsOpen}

pub record Row : Type 0 where
  -- the nonterminal that gives way to it
  pub left : ℕ
  -- the kinds at which it does, unless an earlier row of the nonterminal is chosen there
  pub kinds : List ℕ
  pub symbols : List Symbol

-- whether the kind is one of these
abbrev pub is_among : List ℕ → ℕ → Bool
is_among kinds k = list_any (nat_eq k) kinds

-- the number behind one more row
abbrev pub one_more : Option ℕ → Option ℕ
one_more None = None
one_more (Some i) = Some (suc i)

-- the number of the first row that fits
abbrev pub chosen : List Row → ℕ → ℕ → Option ℕ
chosen [] left next = None
chosen (row ∷ rows) left next = if nat_eq left row.left && is_among row.kinds next then Some 0 else one_more (chosen rows left next)

-- the symbols of the row with this number
abbrev pub symbols_of : List Row → ℕ → List Symbol
symbols_of [] i = []
symbols_of (row ∷ rows) zero = row.symbols
symbols_of (row ∷ rows) (suc i) = symbols_of rows i

-- The rows in order: where two of a nonterminal fit a kind, the one written first is chosen. A row's number is its place, counted from 0.
pub record Table : Type 0 where
  pub start : ℕ
  pub end_kind : ℕ
  pub rows : List Row

-- the rules that a table stands for
abbrev pub rules_of : Table → Rules
rules_of table = record { start = table.start; end_kind = table.end_kind; row_at = chosen table.rows; symbols = symbols_of table.rows }

-- What shows that a table keeps the laws.
pub record Evidence : Type 0 where
  -- a number for each nonterminal, which falls from a row's left side to what the row may begin with
  pub rank : ℕ → ℕ
  -- the nonterminals that may spell nothing
  pub empty : ℕ → Bool
  -- for each nonterminal the kinds that may come next after it
  pub following : List (List ℕ)
  -- a tree of each nonterminal before each such kind
  pub witness : ℕ → ℕ → Tree

-- the list with this number
abbrev pub kinds_at : List (List ℕ) → ℕ → List ℕ
kinds_at [] i = []
kinds_at (kinds ∷ more) zero = kinds
kinds_at (kinds ∷ more) (suc i) = kinds_at more i

-- whether the kind may come next after the nonterminal
abbrev pub follows : Evidence → ℕ → ℕ → Bool
follows e left next = is_among (kinds_at e.following left) next

-- the test of `BeginsBelow`
abbrev pub begins_below : (ℕ → ℕ) → (ℕ → Bool) → ℕ → List Symbol → Bool
begins_below rank empty n [] = true
begins_below rank empty n (Kind k ∷ symbols) = true
begins_below rank empty n (Left left ∷ symbols) = nat_lt (rank left) n && (not (empty left) || begins_below rank empty n symbols)

-- the test of `RowFits`
abbrev pub row_fits : (ℕ → ℕ → Bool) → (ℕ → ℕ → Tree) → ℕ → ℕ → List Symbol → Bool
row_fits may_follow witness end_kind next [] = true
row_fits may_follow witness end_kind next (Kind k ∷ symbols) = not (nat_eq k end_kind) && row_fits may_follow witness end_kind next symbols
row_fits may_follow witness end_kind next (Left left ∷ symbols) = may_follow left (leads witness next symbols) && row_fits may_follow witness end_kind next symbols

-- whether it is this number
abbrev pub is_this : ℕ → Option ℕ → Bool
is_this i None = false
is_this i (Some j) = nat_eq j i

abbrev mutual
  -- the test of `IsTreeOf`
  pub is_tree : Rules → ℕ → Tree → ℕ → Bool
  is_tree rules left (node row parts) next = is_this row (rules.row_at left (first (spelling_of parts) next)) && are_parts rules (rules.symbols row) parts next

  -- the test of `ArePartsOf`
  pub are_parts : Rules → List Symbol → Parts → ℕ → Bool
  are_parts rules [] no_parts next = true
  are_parts rules (Kind k ∷ symbols) (token j parts) next = nat_eq j k && are_parts rules symbols parts next
  are_parts rules (Left left ∷ symbols) (subtree t parts) next = is_tree rules left t (first (spelling_of parts) next) && are_parts rules symbols parts next
  are_parts rules [] (token j parts) next = false
  are_parts rules [] (subtree t parts) next = false
  are_parts rules (Kind k ∷ symbols) no_parts next = false
  are_parts rules (Kind k ∷ symbols) (subtree t parts) next = false
  are_parts rules (Left left ∷ symbols) no_parts next = false
  are_parts rules (Left left ∷ symbols) (token j parts) next = false

-- A row passes: its left side may spell nothing where the row may, what it may begin with has a lower rank, and it keeps to what may follow.
abbrev pub row_passes : Table → Evidence → Row → Bool
row_passes table e row =
    (not (all_empty e.empty row.symbols) || e.empty row.left)
    && (begins_below e.rank e.empty (e.rank row.left) row.symbols && list_all (λ next. row_fits (follows e) e.witness table.end_kind next row.symbols) (kinds_at e.following row.left))

-- The trees of the nonterminals from this one on are trees of them.
abbrev pub trees_pass : Rules → (ℕ → ℕ → Tree) → ℕ → List (List ℕ) → Bool
trees_pass rules witness left [] = true
trees_pass rules witness left (kinds ∷ more) = list_all (λ next. is_tree rules left (witness left next) next) kinds && trees_pass rules witness (suc left) more

-- The table keeps both laws by this evidence.
abbrev pub keeps_laws : Table → Evidence → Bool
keeps_laws table e = follows e table.start table.end_kind && (list_all (row_passes table e) table.rows && trees_pass (rules_of table) e.witness 0 e.following)

-- what may be left to read
abbrev pub table_open : Table → Evidence → List Symbol → Type 0
table_open table e = IsOpen (follows e) e.witness table.end_kind

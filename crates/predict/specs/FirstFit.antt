-- Which row of a grammar is the first that fits the next token.
use Rattle.std.specs.Prelude.{ℕ, ◌≡◌, ◌<◌, ◌⊎◌, List, [], ◌∷◌, ◌++◌, slice_get, Some}
use Rattle.predict.specs.declared.symbol.Symbol.{Symbol}
use Rattle.predict.specs.declared.symbol.Symbol.TheVariants.{Kind, Left}

-- A row as it is written.
pub record Written : Type 0 where
  -- the nonterminal that may give way to it
  pub left : ℕ
  -- what it is made of, in order
  pub symbols : List Symbol

-- A grammar: its rows in the written order, the nonterminal of a whole text, and the kind that ends a text.
pub record WrittenGrammar : Type 0 where
  pub rows : List Written
  pub start : ℕ
  pub end_kind : ℕ

-- The nonterminal has these symbols as the row with this number, counted from 0.
abbrev pub IsRowOf : WrittenGrammar → ℕ → ℕ → List Symbol → Type 0
IsRowOf g i left symbols = slice_get g.rows i ≡ Some (record { left = left; symbols = symbols })

-- The nonterminal has a row with these symbols.
abbrev pub HasRow : WrittenGrammar → ℕ → List Symbol → Type 0
HasRow g left symbols = (i : ℕ) × IsRowOf g i left symbols

-- The symbols can be empty: each is a nonterminal with a row that can be empty.
pub data CanBeEmpty (g : WrittenGrammar) : List Symbol → Type 0 where
  no_symbols : CanBeEmpty g []
  empty_row : {left : ℕ} {symbols more : List Symbol} → HasRow g left symbols → CanBeEmpty g symbols → CanBeEmpty g more → CanBeEmpty g (Left left ∷ more)

-- The symbols can begin with a kind.
pub data CanBegin (g : WrittenGrammar) : List Symbol → ℕ → Type 0 where
  -- a kind begins with itself
  kind_first : {k : ℕ} {more : List Symbol} → CanBegin g (Kind k ∷ more) k
  -- a nonterminal begins with what one of its rows begins with
  row_first : {left k : ℕ} {symbols more : List Symbol} → HasRow g left symbols → CanBegin g symbols k → CanBegin g (Left left ∷ more) k
  -- and what stands behind a nonterminal that can be empty comes first, too
  behind_empty : {left k : ℕ} {symbols more : List Symbol} → HasRow g left symbols → CanBeEmpty g symbols → CanBegin g more k → CanBegin g (Left left ∷ more) k

-- A kind can follow a nonterminal.
pub data CanFollow (g : WrittenGrammar) : ℕ → ℕ → Type 0 where
  -- the end of a text follows a whole text
  text_ends : CanFollow g g.start g.end_kind
  -- what stands behind a nonterminal in a row can begin with the kind
  in_row : {x k : ℕ} (left : ℕ) (front rest : List Symbol) → HasRow g left (front ++ Left x ∷ rest) → CanBegin g rest k → CanFollow g x k
  -- what stands behind it in a row can be empty, and the kind can follow the row
  at_row_end : {x k : ℕ} (left : ℕ) (front rest : List Symbol) → HasRow g left (front ++ Left x ∷ rest) → CanBeEmpty g rest → CanFollow g left k → CanFollow g x k

-- A row of the nonterminal fits a kind: it can begin with it, or it can be empty and the kind can follow the nonterminal.
abbrev pub Fits : WrittenGrammar → ℕ → List Symbol → ℕ → Type 0
Fits g left symbols k = CanBegin g symbols k ⊎ (CanBeEmpty g symbols × CanFollow g left k)

-- The row with this number is the first of the nonterminal that fits the kind.
pub record IsFirstFit (g : WrittenGrammar) (left k i : ℕ) : Type 0 where
  pub symbols : List Symbol
  pub written : IsRowOf g i left symbols
  pub fits : Fits g left symbols k
  pub first : (j : ℕ) (others : List Symbol) → j < i → IsRowOf g j left others → ¬ Fits g left others k

-- No row of the nonterminal fits the kind.
abbrev pub NoneFits : WrittenGrammar → ℕ → ℕ → Type 0
NoneFits g left k = (j : ℕ) (symbols : List Symbol) → IsRowOf g j left symbols → ¬ Fits g left symbols k

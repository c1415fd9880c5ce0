-- The laws of a grammar that can be parsed by the next token.
use Rattle.std.specs.Prelude.{ℕ, ◌≡◌, ◌≢◌, ◌<◌, Bool, true, false, ◌&&◌, List, [], ◌∷◌, ◌++◌, Some}
use Rattle.predict.specs.declared.symbol.Symbol.{Symbol}
use Rattle.predict.specs.declared.symbol.Symbol.TheVariants.{Kind, Left}
use Rattle.predict.specs.Rules.{Rules}
use Rattle.predict.specs.Tree.{Parts, spelling_of}
use Rattle.predict.specs.Sentence.{ArePartsOf}

-- nothing but empty nonterminals
abbrev pub all_empty : (ℕ → Bool) → List Symbol → Bool
all_empty empty [] = true
all_empty empty (Kind k ∷ symbols) = false
all_empty empty (Left left ∷ symbols) = empty left && all_empty empty symbols

-- Each nonterminal before which nothing, or only empty nonterminals, stand has a rank below n.
abbrev pub BeginsBelow : (ℕ → ℕ) → (ℕ → Bool) → ℕ → List Symbol → Type 0
BeginsBelow rank empty n [] = Unit {0}
BeginsBelow rank empty n (Kind k ∷ symbols) = Unit {0}
BeginsBelow rank empty n (Left left ∷ symbols) = (rank left < n) × (empty left ≡ true → BeginsBelow rank empty n symbols)

-- No nonterminal leads back to itself before a kind is taken.
pub record NoLeftRecursion (rules : Rules) (rank : ℕ → ℕ) (empty : ℕ → Bool) : Type 0 where
  -- A nonterminal is empty where one of its rows holds nothing but empty nonterminals.
  pub emptied : (left next row : ℕ) → rules.row_at left next ≡ Some row → all_empty empty (rules.symbols row) ≡ true → empty left ≡ true
  -- The nonterminals with which a row may begin have a lower rank than the row's left side.
  pub falls : (left next row : ℕ) → rules.row_at left next ≡ Some row → BeginsBelow rank empty (rank left) (rules.symbols row)

-- The symbols spell some list of kinds that ends with the end kind.
pub record SpellsToEnd (rules : Rules) (symbols : List Symbol) : Type 0 where
  pub parts : Parts
  pub front : List ℕ
  pub derived : ArePartsOf rules symbols parts rules.end_kind
  pub spelled : spelling_of parts ≡ front ++ rules.end_kind ∷ []

-- What is left to read can always be read to its end.
pub record NoDeadEnd (rules : Rules) (is_open : List Symbol → Type 0) : Type 0 where
  pub starts : is_open (Left rules.start ∷ Kind rules.end_kind ∷ [])
  -- A nonterminal gives way to its row at any kind.
  pub gives_way : (left next row : ℕ) (symbols : List Symbol) → rules.row_at left next ≡ Some row → is_open (Left left ∷ symbols) → is_open (rules.symbols row ++ symbols)
  -- A kind is taken.
  pub taken : (k : ℕ) (symbols : List Symbol) → is_open (Kind k ∷ symbols) → is_open symbols
  -- Nothing is left after the end kind.
  pub ended : (symbols : List Symbol) → is_open (Kind rules.end_kind ∷ symbols) → symbols ≡ []
  pub completed : (symbols : List Symbol) → is_open symbols → symbols ≢ [] → SpellsToEnd rules symbols

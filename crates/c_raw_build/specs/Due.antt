-- What is due while a parse tree is read: definitions that the contracts of this crate's own functions cite. No public contract
-- names them.
use Rattle.std.specs.Prelude.{ℕ, ◌≡◌, ◌+◌, ◌<◌, ◌≤◌, ◌^◌, Bool, true, List, [], ◌∷◌, length, slice_get, Some}
use Rattle.va_base.specs.Spelling.{begins, is_digit}
use Rattle.predict.specs.declared.symbol.Symbol.{Symbol}
use Rattle.predict.specs.declared.symbol.Symbol.TheVariants.{Kind, Left}
use Rattle.predict.specs.Sentence.{IsTreeOf}
use Rattle.predict.specs.Table.{is_among}
use Rattle.predict.specs.Tree.{Tree, spelling_of}
use Rattle.c_tree.specs.Words.{Word}
use Rattle.c_tree.specs.declared.token.CToken.{CToken}
use Rattle.c_tree.specs.tokens.Spelling.{is_token, token_kind}
use Rattle.c_tree.specs.tokens.Limits.{is_within}
use Rattle.c_tree.specs.tokens.Tokens.{bytes_of}
use Rattle.c_syntax.specs.grammar.Kinds.{kind_of}
use Rattle.c_syntax.specs.grammar.Sets.{c_rules}
use Rattle.c_raw_build.specs.Placed.{width_of}
use Rattle.c_raw_build.specs.Reading.{Ahead, trees, first_tree, later_trees, parts_from}
use Rattle.c_raw_build.specs.Words.{CText}

-- the first of the trees are derived from the nonterminals among the symbols
abbrev pub AreDerived : List Symbol → List Tree → Type 0
AreDerived [] ts = Unit {0}
AreDerived (Kind k ∷ symbols) ts = AreDerived symbols ts
AreDerived (Left left ∷ symbols) ts = ((next : ℕ) × IsTreeOf c_rules left (first_tree ts) next) × AreDerived symbols (later_trees ts)

-- These symbols are due: the first of the trees that are left to read are derived from them, and the tokens that they spell have
-- indices of 32 bits.
pub record AreDue (symbols : List Symbol) (a : Ahead) : Type 0 where
  pub derived : AreDerived symbols (trees a)
  pub fits : a.at + width_of (parts_from symbols (trees a)) < 2 ^ 32

-- whether a nonterminal is one of these
unfoldable pub is_one_of : List ℕ → ℕ → Bool
is_one_of lefts left = is_among lefts left

-- a tree of one of these nonterminals is due
pub record IsDue (lefts : List ℕ) (a : Ahead) : Type 0 where
  pub left : ℕ
  pub is_one : is_one_of lefts left ≡ true
  pub due : AreDue (Left left ∷ []) a

-- a word that is a token of this kind; a number is within the limits
pub record IsOfKind (k : ℕ) (w : Word) : Type 0 where
  pub kind_is : kind_of (token_kind w) w ≡ k
  pub token : is_token w ≡ true
  pub within : begins is_digit w ≡ true → is_within w ≡ true

-- the token with this index lies in the text, and is of this kind
pub record HasToken (text : CText) (at k : ℕ) : Type 0 where
  pub token : CToken
  pub there : slice_get text.tokens at ≡ Some token
  pub told : token.kind ≡ token_kind (bytes_of text.bytes token)
  pub within : token.first + token.len ≤ length text.bytes
  pub of_kind : IsOfKind k (bytes_of text.bytes token)

-- it is of one of these kinds
pub record HasOneOf (text : CText) (at : ℕ) (kinds : List ℕ) : Type 0 where
  pub kind : ℕ
  pub is_one : is_among kinds kind ≡ true
  pub has : HasToken text at kind

-- the token with this index lies in the text
pub record IsThere (text : CText) (at : ℕ) : Type 0 where
  pub kind : ℕ
  pub has : HasToken text at kind

-- those from one index on do, up to the one before `end`
abbrev pub AreThere : CText → (first end : ℕ) → Type 0
AreThere text first end = (at : ℕ) → first ≤ at → at < end → IsThere text at

-- tokens of these kinds stand in the text from this index on
unfoldable pub HasTokens : CText → ℕ → List ℕ → Type 0
HasTokens text at [] = Unit {0}
HasTokens text at (k ∷ kinds) = HasToken text at k × HasTokens text (at + 1) kinds

-- these symbols are due, and the tokens that they spell stand in the text
pub record AreDueIn (text : CText) (symbols : List Symbol) (a : Ahead) : Type 0 where
  pub due : AreDue symbols a
  pub tokens : HasTokens text a.at (spelling_of (parts_from symbols (trees a)))

-- a tree of one of these nonterminals is due, and the tokens that it spells stand in the text
pub record IsDueIn (text : CText) (lefts : List ℕ) (a : Ahead) : Type 0 where
  pub left : ℕ
  pub is_one : is_one_of lefts left ≡ true
  pub due : AreDueIn text (Left left ∷ []) a

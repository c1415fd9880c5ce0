-- Sentences of a grammar, and the first bad token of what is none.
use Rattle.std.specs.Prelude.{ℕ, ◌≡◌, ◌+◌, ◌<◌, List, [], ◌∷◌, ◌++◌, length, take, Some}
use Rattle.predict.specs.declared.symbol.Symbol.{Symbol}
use Rattle.predict.specs.declared.tree.ParseNode.{ParseNode}
use Rattle.predict.specs.declared.symbol.Symbol.TheVariants.{Kind, Left}
use Rattle.predict.specs.Rules.{Rules}
use Rattle.predict.specs.Tree.{Tree, Parts, node, no_parts, token, subtree, spelling, spelling_of, nodes}

-- the kind that comes first: that of the list, or the next one where the list is empty
abbrev pub first : List ℕ → ℕ → ℕ
first [] next = next
first (kind ∷ kinds) next = kind

abbrev mutual
  -- This is a tree of the nonterminal where this kind comes next after the tree: its row is the one that the
  -- nonterminal gives way to at the first kind, and its parts are those of the row's symbols.
  pub IsTreeOf : Rules → ℕ → Tree → ℕ → Type 0
  IsTreeOf rules left (node row parts) next =
      (rules.row_at left (first (spelling_of parts) next) ≡ Some row) × ArePartsOf rules (rules.symbols row) parts next

  -- These are parts of the symbols, one for each, where this kind comes next after them.
  pub ArePartsOf : Rules → List Symbol → Parts → ℕ → Type 0
  ArePartsOf rules [] no_parts next = Unit {0}
  ArePartsOf rules (Kind k ∷ symbols) (token j parts) next = (j ≡ k) × ArePartsOf rules symbols parts next
  ArePartsOf rules (Left left ∷ symbols) (subtree t parts) next =
      IsTreeOf rules left t (first (spelling_of parts) next) × ArePartsOf rules symbols parts next
  ArePartsOf rules [] (token j parts) next = ⊥
  ArePartsOf rules [] (subtree t parts) next = ⊥
  ArePartsOf rules (Kind k ∷ symbols) no_parts next = ⊥
  ArePartsOf rules (Kind k ∷ symbols) (subtree t parts) next = ⊥
  ArePartsOf rules (Left left ∷ symbols) no_parts next = ⊥
  ArePartsOf rules (Left left ∷ symbols) (token j parts) next = ⊥

-- The tree of a nonterminal spells the kinds before the next kind.
pub record Spells (rules : Rules) (left : ℕ) (t : Tree) (kinds : List ℕ) (next : ℕ) : Type 0 where
  pub derived : IsTreeOf rules left t next
  pub spelled : spelling t ≡ kinds

-- A sentence with its tree: a tree of the start spells the kinds before the end kind, and the end kind follows.
abbrev pub IsSentenceOf : Rules → Tree → List ℕ → Type 0
IsSentenceOf rules t kinds =
    (front : List ℕ) × (kinds ≡ front ++ rules.end_kind ∷ []) × Spells rules rules.start t front rules.end_kind

-- Some tree makes the kinds a sentence.
abbrev pub IsSentence : Rules → List ℕ → Type 0
IsSentence rules kinds = (t : Tree) × IsSentenceOf rules t kinds

-- Some sentence begins with the kinds.
abbrev pub BeginsSentence : Rules → List ℕ → Type 0
BeginsSentence rules kinds = (more : List ℕ) × IsSentence rules (kinds ++ more)

-- The first bad kind: some sentence begins with those before it, and none with those up to it.
pub record IsFirstBad (rules : Rules) (kinds : List ℕ) (at : ℕ) : Type 0 where
  pub within : at < length kinds
  pub good : BeginsSentence rules (take at kinds)
  pub bad : ¬ BeginsSentence rules (take (at + 1) kinds)

-- What the parser gives: the nodes of the only tree that makes the kinds a sentence.
pub record IsParsed (rules : Rules) (kinds : List ℕ) (all : List ParseNode) : Type 0 where
  pub tree : Tree
  pub sentence : IsSentenceOf rules tree kinds
  pub listed : all ≡ nodes tree
  pub only : (other : Tree) → IsSentenceOf rules other kinds → other ≡ tree

-- The last of the kinds is this one.
abbrev pub EndsWith : ℕ → List ℕ → Type 0
EndsWith k kinds = (front : List ℕ) × (kinds ≡ front ++ k ∷ [])

-- Parse trees with their places in a text: the subtrees of a row, and rows that stand one in the other.
use Rattle.std.specs.Prelude.{ℕ, zero, suc, ◌+◌, ◌==◌, ◌||◌, if◌then◌else◌, Bool, true, false, List, [], ◌∷◌, filter}
use Rattle.predict.specs.Tree.{Tree, Parts, node, no_parts, token, subtree}

abbrev mutual
  -- how many tokens a tree spells
  pub width : Tree → ℕ
  width (node row parts) = width_of parts

  pub width_of : Parts → ℕ
  width_of no_parts = 0
  width_of (token k parts) = width_of parts + 1
  width_of (subtree t parts) = width t + width_of parts

-- a tree, and the index of its first token
pub record Placed : Type 0 where
  pub at : ℕ
  pub tree : Tree

-- the index of the token behind a tree
abbrev pub end : Placed → ℕ
end p = p.at + width p.tree

-- the number of a tree's row (see `RowNumbers`)
abbrev pub row_of : Tree → ℕ
row_of (node row parts) = row

-- whether a tree is of this row
abbrev pub is_of : ℕ → Placed → Bool
is_of row p = row_of p.tree == row

abbrev pub parts_of : Tree → Parts
parts_of (node row parts) = parts

-- The subtree with this number, counted from 0, among parts whose first token has this index. Where there are fewer, a tree of no
-- tokens.
abbrev pub subtree_at : ℕ → ℕ → Parts → Placed
subtree_at i at no_parts = record { at = at; tree = node 0 no_parts }
subtree_at i at (token k parts) = subtree_at i (at + 1) parts
subtree_at zero at (subtree t parts) = record { at = at; tree = t }
subtree_at (suc i) at (subtree t parts) = subtree_at i (at + width t) parts

-- the subtree with this number of a tree
abbrev pub part : ℕ → Placed → Placed
part i p = subtree_at i p.at (parts_of p.tree)

-- whether there is a subtree among parts
abbrev pub has_subtree : Parts → Bool
has_subtree no_parts = false
has_subtree (token k parts) = has_subtree parts
has_subtree (subtree t parts) = true

abbrev mutual
  -- a tree, the last of its subtrees, the last of this one's, and so on
  pub spine : ℕ → Tree → List Placed
  spine at (node row parts) = record { at = at; tree = node row parts } ∷ spine_of at parts

  pub spine_of : ℕ → Parts → List Placed
  spine_of at no_parts = []
  spine_of at (token k parts) = spine_of (at + 1) parts
  spine_of at (subtree t parts) = if has_subtree parts then spine_of (at + width t) parts else spine at t

-- Those of a row on a spine. A list is a nonterminal whose rows end with the list of the rest, so these are its elements.
abbrev pub elements : ℕ → Placed → List Placed
elements row p = filter (is_of row) (spine p.at p.tree)

-- those of two rows
abbrev pub elements_of_two : (first more : ℕ) → Placed → List Placed
elements_of_two first more p = filter (λ q. is_of first q || is_of more q) (spine p.at p.tree)

-- what stands before the first of a row
abbrev pub before_first : ℕ → List Placed → List Placed
before_first row [] = []
before_first row (q ∷ rest) = if is_of row q then [] else q ∷ before_first row rest

-- those of a row before the first of another row
abbrev pub elements_before : (stop row : ℕ) → Placed → List Placed
elements_before stop row p = filter (is_of row) (before_first stop (spine p.at p.tree))

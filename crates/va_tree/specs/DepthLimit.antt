-- What it means that no node has the depth 501.
use Rattle.std.specs.Prelude.{◌≡◌, ◌<◌, ◌≤◌, ◌↔◌, ℕ, List, ◌∷◌, ◌++◌, Contains}
use Rattle.va_tree.specs.declared.source.Source.{Source}
use Rattle.va_tree.specs.Nodes.{Node, node, nodes_of_source}

-- Among nodes in pre-order those in a node stand right behind it, and are deeper than it.
pub record StandIn (ns : List Node) (outer : Node) (inside : List Node) : Type 0 where
  pub before : List Node
  pub after : List Node
  pub whole : ns ≡ before ++ (outer ∷ inside) ++ after
  pub deeper : (n : Node) → Contains inside n → outer.depth < n.depth

-- a node of depth 501 that this one is, or stands in
pub record At501 (ns : List Node) (n : Node) : Type 0 where
  pub at : ℕ
  pub inside : List Node
  pub stand : StandIn ns (node at 501) inside
  pub there : Contains (node at 501 ∷ inside) n

-- no node begins before one that it stands in
abbrev pub IsInOrder : List Node → Type 0
IsInOrder ns = (outer : Node) (inside : List Node) → StandIn ns outer inside → (n : Node) → Contains inside n → outer.at ≤ n.at

-- What the limit says of a text. The last two hold of the nodes deeper than 500, and say that the lowest index of one of depth 501 is
-- the lowest of them all.
pub record DepthLimit (s : Source) : Type 0 where
  -- every node has a depth of at most 500 exactly where none has the depth 501
  pub shallow : ((n : Node) → Contains (nodes_of_source s) n → n.depth ≤ 500) ↔ ((at : ℕ) → Contains (nodes_of_source s) (node at 501) → ⊥)
  -- a deeper node stands in one of depth 501
  pub around : (n : Node) → Contains (nodes_of_source s) n → 500 < n.depth → At501 (nodes_of_source s) n
  -- which begins no later
  pub first : IsInOrder (nodes_of_source s) → (n : Node) → Contains (nodes_of_source s) n → 500 < n.depth → (at : ℕ) × Contains (nodes_of_source s) (node at 501) × (at ≤ n.at)

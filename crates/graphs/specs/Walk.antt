-- What a walk in depth keeps, and the order that it gives.
use Rattle.std.specs.Prelude.{◌≡◌, ℕ, ◌+◌, ◌<◌, ◌≤◌, ◌⊎◌, Bool, true, false, List, length, slice_index, slice_index_or, ◌&&◌, nat_lt}
use Rattle.graphs.specs.declared.edge.Edge.{Edge}
use Rattle.graphs.specs.Edges.{is_edge, is_in, reaches}
use Rattle.graphs.specs.Work.{unmarked}

-- Nodes in the order in which a walk in depth is done with them: where an edge leads from a node to one that stands no earlier,
-- that one reaches each node between them.
pub record IsDepthOrder (n : ℕ) (edges : List Edge) (order : List ℕ) : Type 0 where
  pub len : length order ≡ n
  pub each : (x : ℕ) → x < n → is_in order x ≡ true
  pub below : (k : ℕ) → k < length order → slice_index order k < n
  pub back : (i j k : ℕ) → j ≤ i → i ≤ k → k < length order → is_edge edges (slice_index order j) (slice_index order k) ≡ true
      → reaches n edges (slice_index order k) (slice_index order i) ≡ true

-- A walk that has seen these nodes, has these many targets of each node's row before it, stands on this path, and is done with these.
pub record Walks (n : ℕ) (edges : List Edge) (row : ℕ → List ℕ) (seen : List Bool) (left stack done : List ℕ) : Type 0 where
  pub seen_len : length seen ≡ n
  pub left_len : length left ≡ n
  pub count : unmarked seen + length stack + length done ≡ n
  pub stack_seen : (x : ℕ) → is_in stack x ≡ true → slice_index_or seen x false ≡ true
  pub placed : (x : ℕ) → slice_index_or seen x false ≡ true → (is_in stack x ≡ true) ⊎ (is_in done x ≡ true)
  pub passed : (x k : ℕ) → x < n → slice_index left x ≤ k → k < length (row x) → slice_index_or seen (slice_index (row x) k) false ≡ true
  pub fits : (x : ℕ) → x < n → slice_index left x ≤ length (row x)
  pub finished : (x : ℕ) → is_in done x ≡ true → (x < n) × (slice_index left x ≡ 0)
  pub path : (i j : ℕ) → i ≤ j → j < length stack → reaches n edges (slice_index stack i) (slice_index stack j) ≡ true
  pub back : (i j k : ℕ) → j ≤ i → i ≤ k → k < length done → is_edge edges (slice_index done j) (slice_index done k) ≡ true
      → reaches n edges (slice_index done k) (slice_index done i) ≡ true
  pub up : (i j a : ℕ) → j ≤ i → i < length done → a < length stack → is_edge edges (slice_index done j) (slice_index stack a) ≡ true
      → reaches n edges (slice_index stack a) (slice_index done i) ≡ true

-- each node's row has its targets
pub record AreRowsOf (n : ℕ) (edges : List Edge) (row : ℕ → List ℕ) : Type 0 where
  pub row_is : (x : ℕ) → x < n → (y : ℕ) → is_in (row x) y ≡ (is_edge edges x y && nat_lt y n)

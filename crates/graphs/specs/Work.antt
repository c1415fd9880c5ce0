-- What a worklist keeps.
use Rattle.std.specs.Prelude.{◌≡◌, ℕ, ◌<◌, ◌⊎◌, Bool, true, false, cond, List, length, slice_index_or, take, ◌+◌, ◌∷◌}
use Rattle.std.specs.List.{sum_by}
use Rattle.graphs.specs.declared.edge.Edge.{Edge}
use Rattle.graphs.specs.Edges.{is_edge, is_in, reached}

-- how many nodes aren't marked
abbrev pub unmarked : List Bool → ℕ
unmarked marked = sum_by (λ m. cond m 0 1) marked

-- Of these seeds, some of them done, what is marked is reached, and a marked node leads to marked ones unless it is still open.
pub record Spreads (n : ℕ) (edges : List Edge) (seeds done : List ℕ) (marked : List Bool) (pending : List ℕ) : Type 0 where
  pub len : length marked ≡ n
  pub begun : (s : ℕ) → is_in done s ≡ true → s < n → slice_index_or marked s false ≡ true
  pub held : (x : ℕ) → is_in pending x ≡ true → slice_index_or marked x false ≡ true
  pub only : (x : ℕ) → slice_index_or marked x false ≡ true → reached n edges seeds x ≡ true
  pub onward : (x y : ℕ) → slice_index_or marked x false ≡ true → is_edge edges x y ≡ true → y < n
      → (slice_index_or marked y false ≡ true) ⊎ (is_in pending x ≡ true)

-- A row is gone through up to a place, for a node that is open.
pub record Visits (n : ℕ) (edges : List Edge) (seeds : List ℕ) (x : ℕ) (row : List ℕ) (place : ℕ) (marked : List Bool) (work : List ℕ) (total : ℕ) : Type 0 where
  pub spreads : Spreads n edges seeds seeds marked (x ∷ work)
  pub passed : (y : ℕ) → is_in (take place row) y ≡ true → slice_index_or marked y false ≡ true
  pub count : unmarked marked + length work ≡ total

-- Sixty-four sets at once, each by a bit.
use Rattle.std.specs.Prelude.{◌≡◌, ℕ, ◌+◌, ◌-◌, ◌<◌, ◌≤◌, ◌⊎◌, ◌==◌, Bool, true, cond, List, [], ◌∷◌, length, slice_index, take}
use Rattle.std.specs.List.{sum_by}
use Rattle.std.specs.Int.{bit_at}
use Rattle.graphs.specs.declared.edge.Edge.{Edge}
use Rattle.graphs.specs.declared.edge.Seed.{Seed}
use Rattle.graphs.specs.Edges.{is_edge, is_in, reached}

-- whether a mark is among marks
abbrev pub has_mark : ℕ → ℕ → Bool
has_mark marks j = bit_at marks j == 1

-- the nodes that are seeds of a mark
abbrev pub seeds_of : ℕ → List Seed → List ℕ
seeds_of j [] = []
seeds_of j (s ∷ seeds) = cond (has_mark s.marks j) (s.node ∷ seeds_of j seeds) (seeds_of j seeds)

-- how far the marks are from all
abbrev pub spare : List ℕ → ℕ
spare marks = sum_by (λ m. 18446744073709551615 - m) marks

-- Of these seeds, some of them done, the marks are reached, and a node hands its marks on unless it is still pending.
pub record Hands (n : ℕ) (edges : List Edge) (seeds done : List Seed) (marks : List ℕ) (pending : List ℕ) : Type 0 where
  pub len : length marks ≡ n
  pub begun : (j s : ℕ) → j < 64 → is_in (seeds_of j done) s ≡ true → s < n → has_mark (slice_index marks s) j ≡ true
  pub held : (x : ℕ) → is_in pending x ≡ true → x < n
  pub only : (j x : ℕ) → j < 64 → x < n → has_mark (slice_index marks x) j ≡ true → reached n edges (seeds_of j seeds) x ≡ true
  pub onward : (j x y : ℕ) → j < 64 → x < n → has_mark (slice_index marks x) j ≡ true → is_edge edges x y ≡ true → y < n
      → (has_mark (slice_index marks y) j ≡ true) ⊎ (is_in pending x ≡ true)

-- A row is gone through up to a place, for a node that is pending and has these marks.
pub record Giving (n : ℕ) (edges : List Edge) (seeds : List Seed) (x m : ℕ) (row : List ℕ) (place : ℕ) (marks : List ℕ) (work : List ℕ) (total : ℕ) : Type 0 where
  pub hands : Hands n edges seeds seeds marks (x ∷ work)
  pub here : slice_index marks x ≡ m
  pub passed : (j y : ℕ) → j < 64 → is_in (take place row) y ≡ true → has_mark m j ≡ true → has_mark (slice_index marks y) j ≡ true
  pub count : spare marks + length work ≤ total

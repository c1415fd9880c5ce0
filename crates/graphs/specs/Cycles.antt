-- Cycles, said by walks along edges.
use Rattle.std.specs.Prelude.{◌≡◌, ℕ, ◌<◌, ◌&&◌, ◌↔◌, Bool, true, List, [], ◌∷◌}
use Rattle.std.specs.Bool.{nat_lt}
use Rattle.graphs.specs.declared.edge.Edge.{Edge}
use Rattle.graphs.specs.Edges.{is_edge}
use Rattle.graphs.specs.Components.{returns_to}

-- whether a walk leads from a node through these nodes in turn to another, by an edge at each step, and stays below n
abbrev pub is_walk : ℕ → List Edge → ℕ → List ℕ → ℕ → Bool
is_walk n edges x [] y = is_edge edges x y && nat_lt y n
is_walk n edges x (z ∷ between) y = (is_edge edges x z && nat_lt z n) && is_walk n edges z between y

-- A node lies on a cycle: a walk leads from it back to it.
abbrev pub LiesOnCycle : ℕ → List Edge → ℕ → Type 0
LiesOnCycle n edges x = (between : List ℕ) × (is_walk n edges x between x ≡ true)

-- A node of a graph reaches itself by at least one edge exactly where it lies on a cycle.
abbrev pub CycleLaw : Type 0
CycleLaw = (n : ℕ) (edges : List Edge) (x : ℕ) → (returns_to n edges x ≡ true) ↔ LiesOnCycle n edges x

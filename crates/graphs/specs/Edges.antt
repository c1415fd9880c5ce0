-- Least sets of nodes that are closed under edges.
use Rattle.std.specs.Prelude.{◌≡◌, ℕ, ◌<◌, ◌==◌, ◌&&◌, ◌||◌, Bool, true, List, [], ◌∷◌}
use Rattle.std.specs.List.{list_any}
use Rattle.alg_laws.specs.Least.{least}
use Rattle.graphs.specs.declared.edge.Edge.{Edge}

-- whether an edge leads from a node to another
abbrev pub is_edge : List Edge → ℕ → ℕ → Bool
is_edge edges x y = list_any (λ (e : Edge). (e.from == x) && (e.to == y)) edges

-- whether an edge leads to a node from a node of a set
abbrev pub leads : List Edge → (ℕ → Bool) → ℕ → Bool
leads edges set y = list_any (λ (e : Edge). set e.from && (e.to == y)) edges

abbrev pub is_in : List ℕ → ℕ → Bool
is_in xs x = list_any (λ y. y == x) xs

-- A node follows from a set where it is a seed, or an edge leads to it from the set.
abbrev pub follows : List Edge → List ℕ → (ℕ → Bool) → ℕ → Bool
follows edges seeds set x = is_in seeds x || leads edges set x

-- The least set of the nodes below n that has the seeds and all to which its edges lead.
abbrev pub reached : ℕ → List Edge → List ℕ → ℕ → Bool
reached n edges seeds = least n (follows edges seeds)

-- whether a node reaches another, by edges or by none
abbrev pub reaches : ℕ → List Edge → ℕ → ℕ → Bool
reaches n edges x = reached n edges (x ∷ [])

-- A rule is that of edges and seeds: from each set of numbers below n the same follows.
abbrev pub IsOfEdges : ℕ → ((ℕ → Bool) → ℕ → Bool) → List Edge → List ℕ → Type 0
IsOfEdges n step edges seeds = (set : ℕ → Bool) → ((z : ℕ) → set z ≡ true → z < n)
    → (x : ℕ) → x < n → step set x ≡ follows edges seeds set x

-- Then the least set of the rule is what the seeds reach.
abbrev pub BridgeLaw : Type 0
BridgeLaw = (n : ℕ) (step : (ℕ → Bool) → ℕ → Bool) (edges : List Edge) (seeds : List ℕ) → IsOfEdges n step edges seeds
    → (x : ℕ) → least n step x ≡ reached n edges seeds x

-- The same, where a node follows by the one exactly when it follows by the other.
abbrev pub BothWaysLaw : Type 0
BothWaysLaw = (n : ℕ) (step : (ℕ → Bool) → ℕ → Bool) (edges : List Edge) (seeds : List ℕ)
    → ((set : ℕ → Bool) → ((z : ℕ) → set z ≡ true → z < n) → (x : ℕ) → x < n → step set x ≡ true → follows edges seeds set x ≡ true)
    → ((set : ℕ → Bool) → ((z : ℕ) → set z ≡ true → z < n) → (x : ℕ) → x < n → follows edges seeds set x ≡ true → step set x ≡ true)
    → (x : ℕ) → least n step x ≡ reached n edges seeds x

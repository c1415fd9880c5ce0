-- Nodes that reach each other.
use Rattle.std.specs.Prelude.{◌≡◌, ℕ, ◌<◌, ◌⊎◌, ◌==◌, ◌&&◌, ◌++◌, Bool, true, false, List, [], ◌∷◌, length, slice_index, slice_index_or, if◌then◌else◌}
use Rattle.graphs.specs.declared.edge.Edge.{Edge}
use Rattle.graphs.specs.Edges.{is_edge, is_in, reached, reaches}
use Rattle.graphs.specs.Work.{Spreads}

abbrev pub turned : Edge → Edge
turned e = record { from = e.to; to = e.from }

-- the targets of a node's edges
abbrev pub targets_of : List Edge → ℕ → List ℕ
targets_of [] x = []
targets_of (e ∷ edges) x = if e.from == x then e.to ∷ targets_of edges x else targets_of edges x

-- whether a node reaches itself by at least one edge: whether it is in the least set that has its edges' targets, and with a node
-- each to which an edge leads from it
abbrev pub returns_to : ℕ → List Edge → ℕ → Bool
returns_to n edges x = reached n edges (targets_of edges x) x

-- a step of a worklist: what was marked and pending stays so, and what is new is both
pub record Grows (marked : List Bool) (work : List ℕ) (marked2 : List Bool) (work2 : List ℕ) : Type 0 where
  pub kept : (z : ℕ) → slice_index_or marked z false ≡ true → slice_index_or marked2 z false ≡ true
  pub held : (z : ℕ) → is_in work z ≡ true → is_in work2 z ≡ true
  pub fresh : (z : ℕ) → is_in work2 z ≡ true → (is_in work z ≡ true) ⊎ (slice_index_or marked z false ≡ false)
  pub new : (z : ℕ) → slice_index_or marked2 z false ≡ true → (slice_index_or marked z false ≡ true) ⊎ (is_in work2 z ≡ true)

-- What reaches these roots is marked, and has a component, a node that it reaches and that reaches it.
pub record Components (n : ℕ) (edges back : List Edge) (roots : List ℕ) (marked : List Bool) (component : List ℕ) : Type 0 where
  pub component_len : length component ≡ n
  pub spreads : Spreads n back roots roots marked []
  pub named : (x : ℕ) → slice_index_or marked x false ≡ true → slice_index component x < n
  pub both : (x : ℕ) → x < n → slice_index component x < n
      → (slice_index_or marked x false ≡ true) × (reaches n edges x (slice_index component x) ≡ true) × (reaches n edges (slice_index component x) x ≡ true)
  pub same : (x y : ℕ) → x < n → y < n → slice_index component x < n → slice_index component y < n
      → reaches n edges x y ≡ true → reaches n edges y x ≡ true → slice_index component x ≡ slice_index component y

-- On top of those roots, what reaches one more is being marked.
pub record Gathers (n : ℕ) (edges back : List Edge) (roots : List ℕ) (r : ℕ) (marked : List Bool) (component work : List ℕ) : Type 0 where
  pub component_len : length component ≡ n
  pub spreads : Spreads n back (roots ++ r ∷ []) (roots ++ r ∷ []) marked work
  pub old : (x : ℕ) → reached n back roots x ≡ true → (slice_index_or marked x false ≡ true) × (slice_index component x < n)
  pub fresh : (x : ℕ) → is_in work x ≡ true → reached n back roots x ≡ false
  pub named : (x : ℕ) → slice_index_or marked x false ≡ true → (slice_index component x < n) ⊎ (is_in work x ≡ true)
  pub both : (x : ℕ) → x < n → slice_index component x < n
      → (slice_index_or marked x false ≡ true) × (reaches n edges x (slice_index component x) ≡ true) × (reaches n edges (slice_index component x) x ≡ true)
  pub here : (x : ℕ) → x < n → slice_index component x < n → (reached n back roots x ≡ true) ⊎ (slice_index component x ≡ r)
  pub same : (x y : ℕ) → x < n → y < n → slice_index component x < n → slice_index component y < n
      → reaches n edges x y ≡ true → reaches n edges y x ≡ true → slice_index component x ≡ slice_index component y

-- two lists of edges, each the other turned
pub record AreTurned (edges back : List Edge) : Type 0 where
  pub there : (x y : ℕ) → is_edge edges x y ≡ is_edge back y x

-- nodes have one component exactly where each reaches the other
pub record AreComponentsOf (n : ℕ) (edges : List Edge) (component : List ℕ) : Type 0 where
  pub len : length component ≡ n
  pub below : (x : ℕ) → x < n → slice_index component x < n
  pub same : (x y : ℕ) → x < n → y < n → (slice_index component x == slice_index component y) ≡ (reaches n edges x y && reaches n edges y x)

-- of the edges so far, those within components are marked at their start
pub record Marks (n : ℕ) (edges done : List Edge) (component : List ℕ) (returning : List Bool) : Type 0 where
  pub len : length returning ≡ n
  pub only : (x : ℕ) → slice_index_or returning x false ≡ true → returns_to n edges x ≡ true
  pub all : (x y : ℕ) → x < n → y < n → is_edge done x y ≡ true → slice_index component x ≡ slice_index component y → slice_index_or returning x false ≡ true

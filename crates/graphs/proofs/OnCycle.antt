-- What returns to itself lies on a cycle.
use Rattle.std.proofs.Common.{◌≡◌, ℕ, ◌<◌, ◌&&◌, Bool, true, false, List, [], ◌∷◌, ◌++◌, sym, ◌∙◌}
use Rattle.std.specs.Bool.{nat_lt}
use Rattle.std.proofs.lemmas.Bool.{and_parts, and_from, ltb-true, lt-ltb}
use Rattle.graphs.specs.declared.edge.Edge.{Edge}
use Rattle.graphs.specs.Edges.{is_edge, is_in, reached}
use Rattle.graphs.specs.Components.{targets_of, returns_to}
use Rattle.graphs.specs.Cycles.{is_walk, LiesOnCycle, CycleLaw}
use Rattle.graphs.proofs.Reached.{seed_reached, edge_reached}
use Rattle.graphs.proofs.Turned.{reached_induct}
use Rattle.graphs.proofs.Returning.{in_targets}

step_from : (n : ℕ) (edges : List Edge) (x y : ℕ) → is_edge edges x y ≡ true → y < n → (is_edge edges x y && nat_lt y n) ≡ true
step_from n edges x y e b = and_from (is_edge edges x y) (nat_lt y n) e (lt-ltb y n b)

-- a walk with one more edge at its end
walk_more : (n : ℕ) (edges : List Edge) (x : ℕ) (between : List ℕ) (y z : ℕ) → is_walk n edges x between y ≡ true → is_edge edges y z ≡ true → z < n → is_walk n edges x (between ++ y ∷ []) z ≡ true
walk_more n edges x [] y z w e b = and_from (is_edge edges x y && nat_lt y n) (is_edge edges y z && nat_lt z n) w (step_from n edges y z e b)
walk_more n edges x (v ∷ between) y z w e b =
    let p : ((is_edge edges x v && nat_lt v n) ≡ true) × (is_walk n edges v between y ≡ true) = and_parts (is_edge edges x v && nat_lt v n) (is_walk n edges v between y) w in
    and_from (is_edge edges x v && nat_lt v n) (is_walk n edges v (between ++ y ∷ []) z) p.0 (walk_more n edges v between y z p.1 e b)

-- to what is reached from a node by at least one edge a walk leads
walk_to : (n : ℕ) (edges : List Edge) (x y : ℕ) → reached n edges (targets_of edges x) y ≡ true → (between : List ℕ) × (is_walk n edges x between y ≡ true)
walk_to n edges x y h =
    reached_induct n edges (targets_of edges x) (λ z. (between : List ℕ) × (is_walk n edges x between z ≡ true))
    (λ z b s. ([], step_from n edges x z (sym (in_targets edges x z) ∙ s) b))
    (λ z w bz bw f e. (f.0 ++ z ∷ [], walk_more n edges x f.0 z w f.1 e bw)) y h

-- where a walk begins at what is reached, it ends there too
walk_reached : (n : ℕ) (edges : List Edge) (seeds : List ℕ) (x : ℕ) (between : List ℕ) (y : ℕ) → reached n edges seeds x ≡ true → is_walk n edges x between y ≡ true → reached n edges seeds y ≡ true
walk_reached n edges seeds x [] y r w =
    let p : (is_edge edges x y ≡ true) × (nat_lt y n ≡ true) = and_parts (is_edge edges x y) (nat_lt y n) w in
    edge_reached n edges seeds x y r p.0 (ltb-true y n p.1)
walk_reached n edges seeds x (v ∷ between) y r w =
    let p : ((is_edge edges x v && nat_lt v n) ≡ true) × (is_walk n edges v between y ≡ true) = and_parts (is_edge edges x v && nat_lt v n) (is_walk n edges v between y) w in
    let q : (is_edge edges x v ≡ true) × (nat_lt v n ≡ true) = and_parts (is_edge edges x v) (nat_lt v n) p.0 in
    walk_reached n edges seeds v between y (edge_reached n edges seeds x v r q.0 (ltb-true v n q.1)) p.1

first_step : (n : ℕ) (edges : List Edge) (x y : ℕ) → (is_edge edges x y && nat_lt y n) ≡ true → reached n edges (targets_of edges x) y ≡ true
first_step n edges x y h =
    let p : (is_edge edges x y ≡ true) × (nat_lt y n ≡ true) = and_parts (is_edge edges x y) (nat_lt y n) h in
    seed_reached n edges (targets_of edges x) y (ltb-true y n p.1) (in_targets edges x y ∙ p.0)

walked : (n : ℕ) (edges : List Edge) (x : ℕ) (between : List ℕ) (y : ℕ) → is_walk n edges x between y ≡ true → reached n edges (targets_of edges x) y ≡ true
walked n edges x [] y w = first_step n edges x y w
walked n edges x (v ∷ between) y w =
    let p : ((is_edge edges x v && nat_lt v n) ≡ true) × (is_walk n edges v between y ≡ true) = and_parts (is_edge edges x v && nat_lt v n) (is_walk n edges v between y) w in
    walk_reached n edges (targets_of edges x) v between y (first_step n edges x v p.0) p.1

pub cycles_return : CycleLaw
cycles_return n edges x = (walk_to n edges x x, λ c. walked n edges x c.0 x c.1)

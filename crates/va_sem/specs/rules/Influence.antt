-- Which variables and conditions a variable is biased by, as a graph. No public contract names it: it serves proofs inside this crate.
--
-- In a module with n variables the nodes below n are the variables. Node n stands for all unknowns, and node n + 1 for having no
-- condition over a statement. The node of a condition has the number of the first edge to it, counted from n + 2.
use Rattle.std.specs.Prelude.{◌≡◌, ℕ, ◌+◌, ◌<◌, ◌≤◌, ◌&&◌, nat_lt, Bool, true, List, [], ◌∷◌, ◌++◌, Option, Some, None, if◌then◌else◌, flat_map, length}
use Rattle.graphs.specs.declared.edge.Edge.{Edge}
use Rattle.graphs.specs.Edges.{is_edge}
use Rattle.va_tree.specs.Expressions.{Expression}
use Rattle.va_tree.specs.Statements.{Statement}
use Rattle.va_sem.specs.declared.names.Meaning.{Meaning}
use Rattle.va_sem.specs.declared.names.Meaning.TheVariants as means
use Rattle.va_sem.specs.rules.Biased.{biased_by}
use Rattle.va_sem.specs.rules.Values.{Around, Value}
use Rattle.va_sem.specs.rules.Findings.{meanings_in, any_biased, own_values, around_inner}

abbrev pub link : ℕ → ℕ → Edge
link from to = record { from = from; to = to }

-- the edges by which a name with this meaning influences a node
abbrev pub edges_by : ℕ → ℕ → Option Meaning → List Edge
edges_by n target (Some (means.Access branch turned flow)) = link n target ∷ []
edges_by n target (Some (means.Var variable)) = if nat_lt variable n then link variable target ∷ [] else []
edges_by n target _ = []

abbrev pub edges_to : ℕ → ℕ → List (Option Meaning) → List Edge
edges_to n target meanings = flat_map (edges_by n target) meanings

-- Reading expressions adds the edges by which they influence a node.
abbrev pub Reads : (ℕ → Option Meaning) → ℕ → ℕ → List Expression → List Edge → List Edge → Type 0
Reads meaning n target parts old new = new ≡ old ++ edges_to n target (meanings_in meaning parts)

-- the variable of the module that a name means
abbrev pub variable_meant : ℕ → Option Meaning → Option ℕ
variable_meant n (Some (means.Var variable)) = if nat_lt variable n then Some variable else None
variable_meant n _ = None

-- how many nodes there are
abbrev pub nodes : ℕ → List Edge → ℕ
nodes n edges = n + 2 + length edges

pub record IsWithin (n : ℕ) (edges : List Edge) : Type 0 where
  pub ends : (x y : ℕ) → is_edge edges x y ≡ true → (x < nodes n edges) × (y < nodes n edges)

-- one edge from the conditions over a statement, and those by which names influence the same node
abbrev pub added : ℕ → ℕ → ℕ → List (Option Meaning) → List Edge → List Edge
added n over target meanings old = (old ++ link over target ∷ []) ++ edges_to n target meanings

-- a set of nodes that has the end of each edge whose beginning it has
abbrev pub IsClosed : (ℕ → Bool) → List Edge → Type 0
IsClosed set edges = (x y : ℕ) → is_edge edges x y ≡ true → set x ≡ true → set y ≡ true

abbrev pub variables_of : ℕ → (ℕ → Bool) → (ℕ → Bool)
variables_of n set = λ x. set x && nat_lt x n

-- Edges were added for values with this around them. A node stands for the conditions around them, and one for the conditions
-- inside. A set that is closed under the edges and has the unknowns, has what is biased (`all`). A set of variables that is closed
-- under the rule is part of one that is closed under the edges (`only`).
pub record Collected (meaning : ℕ → Option Meaning) (n over : ℕ) (values : Around → List Value) (inside : ℕ) (inner : Around → Around) (old new : List Edge) : Type 0 where
  pub within : IsWithin n new
  pub inside_in : inside < nodes n new
  pub more : length old ≤ length new
  pub kept : (x y : ℕ) → is_edge old x y ≡ true → is_edge new x y ≡ true
  pub all : (set : ℕ → Bool) → set n ≡ true → IsClosed set new → (around : Around)
      → (any_biased meaning (variables_of n set) around.conditions ≡ true → set over ≡ true)
      → ((x : ℕ) → x < n → biased_by meaning (values around) (variables_of n set) x ≡ true → set x ≡ true)
      × (any_biased meaning (variables_of n set) (inner around).conditions ≡ true → set inside ≡ true)
  pub only : (set : ℕ → Bool) → IsClosed set old → (around : Around)
      → (set over ≡ true → any_biased meaning (variables_of n set) around.conditions ≡ true)
      → ((x : ℕ) → x < n → biased_by meaning (values around) (variables_of n set) x ≡ true → set x ≡ true)
      → (other : ℕ → Bool) × ((x : ℕ) → x < nodes n old → other x ≡ set x) × IsClosed other new
      × (other inside ≡ true → any_biased meaning (variables_of n set) (inner around).conditions ≡ true)

abbrev pub Collects : (ℕ → Option Meaning) → ℕ → ℕ → (Around → List Value) → ℕ → (Around → Around) → List Edge → List Edge → Type 0
Collects meaning n over values inside inner old new = IsWithin n old → over < nodes n old → Collected meaning n over values inside inner old new

-- the values of some statements, with the same conditions inside as around
abbrev pub CollectsAll : (ℕ → Option Meaning) → ℕ → ℕ → (Around → List Value) → List Edge → List Edge → Type 0
CollectsAll meaning n over values old new = Collects meaning n over values over (λ around. around) old new

-- what a statement evaluates itself, before the statements in it
abbrev pub CollectsOwn : (ℕ → Option Meaning) → ℕ → ℕ → Statement → ℕ → List Edge → List Edge → Type 0
CollectsOwn meaning n over s inside old new = Collects meaning n over (λ around. own_values around s) inside (around_inner s) old new

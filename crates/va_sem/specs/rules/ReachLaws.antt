-- The biased and the timed variables of a module are what edges and seeds reach: an edge leads to a variable from each that is read by
-- what makes it biased or timed, and it is a seed where an unknown or the time derivative operator is read there.
use Rattle.std.specs.Prelude.{◌≡◌, ℕ, ◌<◌, Bool, List, [], ◌∷◌, Option, Some, if◌then◌else◌, map, flat_map}
use Rattle.std.specs.List.{list_any}
use Rattle.alg_laws.specs.Least.{least}
use Rattle.graphs.specs.declared.edge.Edge.{Edge}
use Rattle.graphs.specs.Edges.{IsOfEdges, reached}
use Rattle.va_tree.specs.Expressions.{Expression}
use Rattle.va_sem.specs.declared.names.Meaning.{Meaning}
use Rattle.va_sem.specs.declared.names.Meaning.TheVariants as means
use Rattle.va_sem.specs.LookedAt.{looked_at}
use Rattle.va_sem.specs.rules.Uses.{meaning_of, is_access, is_ddt}
use Rattle.va_sem.specs.rules.Biased.{biased_by, timed_by}
use Rattle.va_sem.specs.rules.Values.{Purpose, assigned, Value}

-- the variable that a name means
abbrev pub variable_named : Option Meaning → List ℕ
variable_named (Some (means.Var variable)) = variable ∷ []
variable_named _ = []

abbrev pub edge_to : ℕ → ℕ → Edge
edge_to target variable = record { from = variable; to = target }

module _ (meaning : ℕ → Option Meaning) where
  -- the variable to which a value for this purpose is assigned
  abbrev pub targets : Purpose → List ℕ
  targets (assigned at) = variable_named (meaning at)
  targets _ = []

  -- to it from each variable that some expressions read
  abbrev pub edges_from : List Expression → Purpose → List Edge
  edges_from parts purpose = flat_map (λ target. flat_map (λ part. map (edge_to target) (variable_named (meaning_of meaning part))) parts) (targets purpose)

  -- itself, where they read a source
  abbrev pub seeds_from : (Option Meaning → Bool) → List Expression → Purpose → List ℕ
  seeds_from is_source parts purpose = if list_any (λ part. is_source (meaning_of meaning part)) parts then targets purpose else []

  -- what makes a variable biased, and what makes it timed
  abbrev pub biasing : Value → List Expression
  biasing v = flat_map looked_at (v.expression ∷ v.around.conditions)

  abbrev pub timing : Value → List Expression
  timing v = looked_at v.expression

  abbrev pub biased_edges : List Value → List Edge
  biased_edges = flat_map (λ v. edges_from (biasing v) v.purpose)

  abbrev pub biased_seeds : List Value → List ℕ
  biased_seeds = flat_map (λ v. seeds_from is_access (biasing v) v.purpose)

  abbrev pub timed_edges : List Value → List Edge
  timed_edges = flat_map (λ v. edges_from (timing v) v.purpose)

  abbrev pub timed_seeds : List Value → List ℕ
  timed_seeds = flat_map (λ v. seeds_from is_ddt (timing v) v.purpose)

-- Whatever names mean, of so many variables and these values.
pub record VariablesAreReached : Type 0 where
  pub biased : (meaning : ℕ → Option Meaning) (n : ℕ) (values : List Value) → IsOfEdges n (biased_by meaning values) (biased_edges meaning values) (biased_seeds meaning values)
  pub timed : (meaning : ℕ → Option Meaning) (n : ℕ) (values : List Value) → IsOfEdges n (timed_by meaning values) (timed_edges meaning values) (timed_seeds meaning values)
  pub biased_least : (meaning : ℕ → Option Meaning) (n : ℕ) (values : List Value) (x : ℕ)
      → least n (biased_by meaning values) x ≡ reached n (biased_edges meaning values) (biased_seeds meaning values) x
  pub timed_least : (meaning : ℕ → Option Meaning) (n : ℕ) (values : List Value) (x : ℕ)
      → least n (timed_by meaning values) x ≡ reached n (timed_edges meaning values) (timed_seeds meaning values) x

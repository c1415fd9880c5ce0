-- The rows of a module: Kirchhoff's current law at each node, and the equation of each potential branch (Contribution
-- statements, Switch branches).
use Rattle.std.specs.Prelude.{ℕ, ◌+◌, ◌==◌, Bool, false, if◌then◌else◌, List, [], ◌∷◌, ◌++◌, Option, Some, None, map}
use Rattle.alg_laws.specs.Outcome.{Outcome, gives, ◌>>=◌}
use Rattle.alg_laws.specs.Sums.{total}
use Rattle.va_sem.specs.declared.branch.BranchKind.{BranchKind}
use Rattle.va_sem.specs.declared.branch.BranchKind.TheVariants as kind
use Rattle.va_sem.specs.declared.branch.Unknown.{Unknown}
use Rattle.va_sem.specs.declared.branch.Unknown.TheVariants.{Node, Branch}
use Rattle.va_sem.specs.declared.names.BranchName.{BranchName}
use Rattle.va_tree.specs.declared.source.Quantity.TheVariants.{Potential, Flow}
use Rattle.va_meaning.specs.Elaborated.{Elaborated}
use Rattle.va_meaning.specs.Evaluation.{evaluated}
use Rattle.va_meaning.specs.Points.{Context, State, is_quantity, held_of}
use Rattle.va_meaning.specs.Unknowns.{branch_of, unknown_value, potential_of}

-- whether a branch ends at a node; the reference node is none
abbrev pub is_end : ℕ → Option ℕ → Bool
is_end node None = false
is_end node (Some minus) = minus == node

module _ {E V : Type 0} (M : Elaborated) (c : Context E V) (s : State V) where
  -- The flow of a branch: the sum that it holds, the unknown of a potential branch, and none where a potential is held by a
  -- collapsing branch.
  abbrev pub flow_of : ℕ → BranchKind → List V
  flow_of b kind.Flow = held_of c.ops Flow (s.held b) ∷ []
  flow_of b kind.Collapsing = if is_quantity Flow (s.held b).quantity then held_of c.ops Flow (s.held b) ∷ [] else []
  flow_of b kind.Potential = unknown_value M c.ops c.point (Branch b) ∷ []

  -- What a branch gives to the row of a node: its flow where it begins there, the negative where it ends there.
  abbrev pub given_to : ℕ → ℕ → BranchName → List V
  given_to node b branch =
      (if branch.plus == node then flow_of b (M.kind b) else [])
      ++ (if is_end node branch.minus then map c.ops.negative (flow_of b (M.kind b)) else [])

  -- the same of several branches, in order from number b on
  abbrev pub all_given_to : ℕ → ℕ → List BranchName → List V
  all_given_to node b [] = []
  all_given_to node b (branch ∷ rest) = given_to node b branch ++ all_given_to node (b + 1) rest

  -- The row of an unknown. That of a node is the sum of what all branches give to it. That of a potential branch is its
  -- potential, less what was contributed to it. The reference node has none.
  abbrev pub row : Unknown → V
  row (Node a) = total c.ops (all_given_to a 0 M.branches)
  row (Branch b) = c.ops.sum (potential_of M c.ops c.point (branch_of M b)) (c.ops.negative (held_of c.ops Potential (s.held b)))

-- The residuals at a point: the rows of all unknowns, in order, after an evaluation.
abbrev pub residuals : {E V : Type 0} → Elaborated → Context E V → Outcome E (List V)
residuals M c = do
  s ← evaluated M c
  gives (map (row M c s) M.unknowns)

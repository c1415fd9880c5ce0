-- The potentials and flows that an expression reads, by the values of the unknowns (Signal access functions).
use Rattle.std.specs.Prelude.{ℕ, ◌==◌, Bool, false, if◌then◌else◌, Option, Some, None, get_or}
use Rattle.std.specs.List.{position}
use Rattle.alg_laws.specs.Operations.{Operations}
use Rattle.va_sem.specs.declared.branch.Unknown.{Unknown}
use Rattle.va_sem.specs.declared.branch.Unknown.TheVariants.{Node, Branch}
use Rattle.va_sem.specs.declared.names.BranchName.{BranchName}
use Rattle.va_meaning.specs.Elaborated.{Elaborated}
use Rattle.va_meaning.specs.Points.{Point}

abbrev pub is_unknown : Unknown → Unknown → Bool
is_unknown (Node a) (Node b) = a == b
is_unknown (Branch a) (Branch b) = a == b
is_unknown (Node a) (Branch b) = false
is_unknown (Branch a) (Node b) = false

-- the value at a place; what has none is 0
abbrev pub value_at : {V : Type 0} → Operations V → (ℕ → V) → Option ℕ → V
value_at o values None = o.zero
value_at o values (Some i) = values i

-- a branch by its number
abbrev pub branch_of : Elaborated → ℕ → BranchName
branch_of M b = get_or M.branches b (record { plus = 0; minus = None; name = None })

-- a value with its sign turned, or as it is
abbrev pub signed : {V : Type 0} → Operations V → Bool → V → V
signed o turned x = if turned then o.negative x else x

module _ {V : Type 0} (M : Elaborated) (o : Operations V) (P : Point V) where
  -- the value of an unknown, by its place among the module's unknowns
  abbrev pub unknown_value : Unknown → V
  unknown_value u = value_at o P.unknowns (position (is_unknown u) M.unknowns)

  -- the potential from a node to another, or to the reference node, whose potential is 0
  abbrev pub potential_between : ℕ → Option ℕ → V
  potential_between plus None = unknown_value (Node plus)
  potential_between plus (Some minus) = o.sum (unknown_value (Node plus)) (o.negative (unknown_value (Node minus)))

  abbrev pub potential_of : BranchName → V
  potential_of branch = potential_between branch.plus branch.minus

  -- What an access reads: the potential of a branch, or the flow of a potential branch, which is an unknown. The access may
  -- name the two nodes the other way round.
  abbrev pub access_value : ℕ → Bool → Bool → V
  access_value b turned flow = signed o turned (if flow then unknown_value (Branch b) else potential_of (branch_of M b))

-- The unknowns of a module in order (Branches), and the pairs of nodes that may collapse (Switch branches): the nodes and the
-- collapsible pairs of the descriptor of OSDI 0.3.
use Rattle.std.specs.Prelude.{ℕ, ◌==◌, Bool, true, false, not, List, [], ◌∷◌, ◌++◌, Option, Some, None, map, filter, length, slice_get, IsSome}
use Rattle.std.specs.List.{range_with_len, filter_map}
use Rattle.va_base.specs.Tables.{PairLine}
use Rattle.va_sem.specs.declared.branch.BranchKind.{BranchKind}
use Rattle.va_sem.specs.declared.branch.BranchKind.TheVariants.{Collapsing, Potential}
use Rattle.va_sem.specs.declared.branch.Unknown.{Unknown}
use Rattle.va_sem.specs.declared.branch.Unknown.TheVariants.{Node, Branch}
use Rattle.va_sem.specs.declared.names.BranchName.{BranchName}
use Rattle.va_sem.specs.declared.names.ModuleNames.{ModuleNames}
use Rattle.va_tree.specs.declared.module.Module.{Module}
use Rattle.va_sem.specs.Declarations.{analog_bodies}
use Rattle.va_sem.specs.rules.Biased.{Analysis, analysis_of}
use Rattle.va_sem.specs.rules.BranchKinds.{Contribution, contributions, kind_of}

-- without what stands earlier in the list
abbrev pub first_of_each : List ℕ → List ℕ
first_of_each [] = []
first_of_each (n ∷ rest) = n ∷ filter (λ m. not (m == n)) (first_of_each rest)

-- the branches in the order of their first contributions, of either quantity
abbrev pub contributed_to : Analysis → List ℕ
contributed_to a = first_of_each (map (λ (c : Contribution). c.branch) (contributions a))

abbrev pub is_potential : Option BranchKind → Bool
is_potential (Some Potential) = true
is_potential _ = false

abbrev is_collapsing : Option BranchKind → Bool
is_collapsing (Some Collapsing) = true
is_collapsing _ = false

-- the potential branches, and the collapsing ones, in that order
abbrev pub potential_branches : Analysis → List ℕ
potential_branches a = filter (λ branch. is_potential (kind_of a branch)) (contributed_to a)

abbrev pub collapsing_branches : Analysis → List ℕ
collapsing_branches a = filter (λ branch. is_collapsing (kind_of a branch)) (contributed_to a)

-- the nodes, ports first, and then the potential branches
abbrev pub unknowns : ModuleNames → Analysis → List Unknown
unknowns names a = map Node (range_with_len 0 (length names.nodes)) ++ map Branch (potential_branches a)

abbrev pub pair_of : Option BranchName → Option PairLine
pair_of (Some branch) = Some (record { first = branch.plus; second = branch.minus })
pair_of None = None

-- the two nodes of each collapsing branch
abbrev pub collapsible_pairs : ModuleNames → Analysis → List PairLine
collapsible_pairs names a = filter_map (λ branch. pair_of (slice_get names.branches branch)) (collapsing_branches a)

-- The kinds of a module's branches in the order of `branches`, and its unknowns.
abbrev pub kinds_in : ModuleNames → Module → List (Option BranchKind)
kinds_in names m = map (kind_of (analysis_of names (analog_bodies m))) (range_with_len 0 (length names.branches))

abbrev pub unknowns_in : ModuleNames → Module → List Unknown
unknowns_in names m = unknowns names (analysis_of names (analog_bodies m))

-- each branch of a module has a kind, as where no rule is broken
abbrev pub HasKinds : ModuleNames → Module → Type 0
HasKinds names m = (branch : ℕ) → IsSome (kind_of (analysis_of names (analog_bodies m)) branch)

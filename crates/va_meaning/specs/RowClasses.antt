-- Rows of a module that keeps to classes of values: a row is of a class where all that is added up in it is.
use Rattle.std.specs.Prelude.{◌≡◌, ℕ, ◌==◌, ◌||◌, true, Some}
use Rattle.std.specs.List.{position, slice_get}
use Rattle.va_sem.specs.declared.branch.BranchKind.{BranchKind}
use Rattle.va_sem.specs.declared.branch.BranchKind.TheVariants as kind
use Rattle.va_sem.specs.declared.branch.Unknown.{Unknown}
use Rattle.va_sem.specs.declared.branch.Unknown.TheVariants.{Node, Branch}
use Rattle.va_sem.specs.declared.names.BranchName.{BranchName}
use Rattle.va_meaning.specs.Classes.{Classes, Slots, IsSure, UnknownIn, NodesIn}
use Rattle.va_meaning.specs.Elaborated.{Elaborated}
use Rattle.va_meaning.specs.Rows.{is_end}
use Rattle.va_meaning.specs.Unknowns.{is_unknown, branch_of}

module _ {C : Type 0} (M : Elaborated) (K : Classes C) (slots : Slots C) (k : C) where
  abbrev pub HeldIn : ℕ → Type 0
  HeldIn b = IsSure (λ l. K.below l k) (slots.held b)

  abbrev pub FlowIn : ℕ → BranchKind → Type 0
  FlowIn b kind.Flow = HeldIn b
  FlowIn b kind.Collapsing = HeldIn b
  FlowIn b kind.Potential = UnknownIn M K slots k (position (is_unknown (Branch b)) M.unknowns)

  -- a row is of the class
  abbrev pub RowIn : Unknown → Type 0
  RowIn (Node a) = (b : ℕ) (branch : BranchName) → slice_get M.branches b ≡ Some branch → (branch.plus == a || is_end a branch.minus) ≡ true → FlowIn b (M.kind b)
  RowIn (Branch b) = NodesIn M K slots k (branch_of M b).plus (branch_of M b).minus × HeldIn b

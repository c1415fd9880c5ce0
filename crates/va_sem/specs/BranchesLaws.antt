-- Each pair of nodes has one unnamed branch, so that a table by pairs finds what a search finds.
use Rattle.std.specs.Prelude.{◌≡◌, ℕ, ◌&&◌, not, Bool, true, Some}
use Rattle.std.specs.Option.{is_some}
use Rattle.std.specs.List.{slice_get}
use Rattle.va_tree.specs.declared.module.Module.{Module}
use Rattle.va_tree.specs.declared.source.Source.{Source}
use Rattle.va_sem.specs.Branches.{BranchEntry, same_pair}
use Rattle.va_sem.specs.Meanings.{known_of}

-- two unnamed branches of one pair of nodes, in this or the other direction
abbrev pub are_one : BranchEntry → BranchEntry → Bool
are_one b c = not (is_some b.name) && not (is_some c.name) && same_pair b c

pub record UnnamedBranchesAreApart : Type 0 where
  pub once : (s : Source) (m : Module) (i j : ℕ) (b c : BranchEntry) → slice_get (known_of s m).branches i ≡ Some b → slice_get (known_of s m).branches j ≡ Some c
      → are_one b c ≡ true → i ≡ j

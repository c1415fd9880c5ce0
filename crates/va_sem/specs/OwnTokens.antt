-- The names of a module and their tokens.
use Rattle.std.specs.Prelude.{◌≡◌, ℕ, Some, Contains}
use Rattle.std.specs.List.{slice_get}
use Rattle.va_sem.specs.Meanings.{known_of}
use Rattle.va_sem.specs.Sites.{Site}
use Rattle.va_tree.specs.declared.module.Module.{Module}
use Rattle.va_tree.specs.declared.source.Source.{Source}
use Rattle.va_tree.specs.OwnTokens.{EachNameHasItsToken}

-- Each name of a module stands at a token of its own, as in every text.
abbrev pub HasOwnTokens : Source → Module → Type 0
HasOwnTokens s m = (i j : ℕ) (a b : Site) → slice_get (known_of s m).sites i ≡ Some a → slice_get (known_of s m).sites j ≡ Some b
    → a.at ≡ b.at → i ≡ j

-- So it is where each name of the text has a token of its own.
pub record NamesHaveOwnTokens : Type 0 where
  pub in_modules : (s : Source) → EachNameHasItsToken s → (m : Module) → Contains s.modules m → HasOwnTokens s m

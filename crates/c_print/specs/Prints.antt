-- What a part of the printer does: it writes some words behind the text so far.
use Rattle.std.specs.Prelude.{◌≡◌, ℕ, List, ◌++◌}
use Rattle.c_tree.specs.short.Text.{Word, spelled}

-- the new text is the old one and then these words
pub record Prints (old new : List ℕ) (words : List Word) : Type 0 where
  pub is : new ≡ old ++ spelled words

-- How the bytes of a reader come into a list.
use Rattle.std.specs.Prelude.{◌≡◌, ◌++◌, ℕ, List, Option}
use Rattle.std.specs.Io.KnownBytes.{Consumes}

-- some bytes go from what the reader has left, where that is told, to the end of the list
pub record Moves (left_before left_now : Option (List ℕ)) (before now : List ℕ) : Type 0 where
  pub bytes : List ℕ
  pub taken : Consumes left_before left_now bytes
  pub put : now ≡ before ++ bytes

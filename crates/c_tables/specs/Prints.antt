-- What a part of the report does: it writes some bytes behind the text so far.
use Rattle.std.specs.Prelude.{◌≡◌, ℕ, List, ◌++◌}

-- the new text is the old one and then these bytes
pub record Prints (old new bytes : List ℕ) : Type 0 where
  pub is : new ≡ old ++ bytes

-- What a part of the rules of form does: it blames some tokens, and the least token that was blamed so far is kept.
use Rattle.std.specs.Prelude.{◌≡◌, ℕ, min, List, Option, Some, None}
use Rattle.c_tree.specs.Form.{least_of}

-- the lesser of two tokens, where they are there
abbrev pub lesser : Option ℕ → Option ℕ → Option ℕ
lesser None other = other
lesser (Some x) None = Some x
lesser (Some x) (Some y) = Some (min x y)

-- the new least token is the least of the old one and these tokens
pub record Blames (old new : Option ℕ) (tokens : List ℕ) : Type 0 where
  pub is : new ≡ lesser old (least_of tokens)

-- Things of a text in the order of their tokens, and their numbers in that order.
use Rattle.std.specs.Prelude.{ℕ, ◌==◌, nat_le, List, [], ◌∷◌, if◌then◌else◌}
use Rattle.std.specs.List.{position_or_len}

-- a thing before those that stand later in the text
abbrev pub put_in : {T : Type 0} → (T → ℕ) → T → List T → List T
put_in token thing [] = thing ∷ []
put_in token thing (next ∷ rest) =
    if nat_le (token thing) (token next) then thing ∷ next ∷ rest else next ∷ put_in token thing rest

-- in the order of the text
abbrev pub in_text_order : {T : Type 0} → (T → ℕ) → List T → List T
in_text_order token [] = []
in_text_order token (thing ∷ rest) = put_in token thing (in_text_order token rest)

-- the number of the thing that stands at a token, among the tokens of such things
abbrev pub number_at : List ℕ → ℕ → ℕ
number_at tokens at = position_or_len (λ token. token == at) tokens

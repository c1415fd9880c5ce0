-- The token at the front of a text, as the parts of the tokenizer speak of it.
use Rattle.std.specs.Prelude.{◌≡◌, ℕ, zero, suc, ◌+◌, ◌≤◌, length, Bool, false, not, ◌==◌, ◌&&◌, ◌||◌, List, [], ◌∷◌, take, Option, Some, None}
use Rattle.va_base.specs.Longest.{longest}
use Rattle.va_base.specs.Spelling.{is_letter, is_digit}
use Rattle.c_tree.specs.declared.token.CToken.{CToken}
use Rattle.c_tree.specs.declared.token.CTokenKind.{CTokenKind}
use Rattle.c_tree.specs.tokens.Spelling.{is_power, is_escape, is_double_mark, token_kind}
use Rattle.c_tree.specs.tokens.Tokens.{front_len}
use Rattle.c_syntax.specs.declared.front.FrontToken.{FrontToken}

-- a token of this kind and length
abbrev pub front : CTokenKind → ℕ → FrontToken
front kind len = record { kind = kind; len = len }

-- a token of this length at the front of a text
abbrev pub front_with : List ℕ → Option ℕ → Option FrontToken
front_with text None = None
front_with text (Some n) = Some (front (token_kind (take n text)) n)

-- the token at the front of a text
abbrev pub front_of : List ℕ → Option FrontToken
front_of text = front_with text (front_len text)

-- a length, counted from so many bytes before
abbrev pub shifted : ℕ → Option ℕ → Option ℕ
shifted at None = None
shifted at (Some n) = Some (at + n)

-- the length of the longest power at the front, or 0
abbrev pub above_zero : ℕ → Option ℕ
above_zero zero = None
above_zero (suc n) = Some (suc n)

abbrev pub is_power_front : List ℕ → ℕ → Type 0
is_power_front text n = longest is_power text ≡ above_zero n

-- a byte that begins no token but a mark
abbrev pub is_other_byte : ℕ → Bool
is_other_byte byte = not (is_letter byte || is_digit byte || byte == 35 || byte == 46 || byte == 34)

-- a point and a letter stand at the front
abbrev pub begins_name : List ℕ → Bool
begins_name [] = false
begins_name (c ∷ []) = false
begins_name (c ∷ d ∷ rest) = c == 46 && is_letter d

-- `\` and three digits that stand for a byte of a string stand at the front
abbrev pub begins_escape : List ℕ → Bool
begins_escape [] = false
begins_escape (b ∷ []) = false
begins_escape (b ∷ c ∷ []) = false
begins_escape (b ∷ c ∷ d ∷ []) = false
begins_escape (b ∷ c ∷ d ∷ e ∷ rest) = b == 92 && is_escape c d e

-- a mark of two bytes stands at the front
abbrev pub begins_double_mark : List ℕ → Bool
begins_double_mark [] = false
begins_double_mark (c ∷ []) = false
begins_double_mark (c ∷ d ∷ rest) = is_double_mark c d

-- the bytes of a token lie in a text
abbrev pub IsWithin : List ℕ → CToken → Type 0
IsWithin text token = token.first + token.len ≤ length text

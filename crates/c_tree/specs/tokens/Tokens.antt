-- The tokens of a C file in order, and the first byte that begins none.
use Rattle.std.specs.Prelude.{ℕ, zero, suc, ◌+◌, ◌-◌, Bool, false, List, [], ◌∷◌, Option, Some, None, if◌then◌else◌, take, drop}
use Rattle.va_base.specs.Longest.{longest}
use Rattle.va_base.specs.Spelling.{begins, is_digit}
use Rattle.c_tree.specs.declared.token.CToken.{CToken}
use Rattle.c_tree.specs.tokens.Spelling.{is_separator, is_token, token_kind}
use Rattle.c_tree.specs.tokens.Limits.{is_within}

-- a front of this length, where it isn't a number outside the limits
abbrev pub limited : List ℕ → Option ℕ → Option ℕ
limited text None = None
limited text (Some n) = if begins is_digit text then (if is_within (take n text) then Some n else None) else Some n

-- the length of the token at the front: of the longest one, unless that is a number outside the limits
unfoldable pub front_len : List ℕ → Option ℕ
front_len text = limited text (longest is_token text)

-- what the bytes of a file give
pub record CTokens : Type 0 where
  -- the tokens before the first byte that begins none
  pub tokens : List CToken
  -- the index of that byte
  pub bad : Option ℕ

-- a token at this index, with the bytes of a text from there on
abbrev pub token_at : ℕ → ℕ → List ℕ → CToken
token_at at len text = record { kind = token_kind (take len text); first = at; len = len }

-- a token before others
abbrev pub token_before : CToken → CTokens → CTokens
token_before token more = record { tokens = token ∷ more.tokens; bad = more.bad }

-- where a token of this length stands at the front, or none does
abbrev pub tokens_at : ℕ → List ℕ → Option ℕ → CTokens → CTokens
tokens_at at text None more = record { tokens = []; bad = Some at }
tokens_at at text (Some len) more = token_before (token_at at len text) more

-- the length of a front, less its first byte
abbrev pub less_one : Option ℕ → ℕ
less_one None = 0
less_one (Some n) = n - 1

-- What is left of a text gives. Its first byte has this index, and the first `rest` of its bytes belong to the token before.
unfoldable pub tokens_from : ℕ → ℕ → List ℕ → CTokens
tokens_from at rest [] = record { tokens = []; bad = None }
tokens_from at (suc rest) (c ∷ text) = tokens_from (at + 1) rest text
tokens_from at zero (c ∷ text) =
    if is_separator c then tokens_from (at + 1) 0 text
    else tokens_at at (c ∷ text) (front_len (c ∷ text)) (tokens_from (at + 1) (less_one (front_len (c ∷ text))) text)

-- what the bytes of a C file give
abbrev pub c_tokens_of : List ℕ → CTokens
c_tokens_of text = tokens_from 0 0 text

-- the bytes of a token
abbrev pub bytes_of : List ℕ → CToken → List ℕ
bytes_of text token = take token.len (drop token.first text)

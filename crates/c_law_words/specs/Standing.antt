-- Words that stand for themselves: each is one token, and a space or a line end stands behind it.
use Rattle.std.specs.Prelude.{◌≡◌, ℕ, ◌+◌, Bool, true, not, ◌==◌, ◌&&◌, ◌||◌, List, [], ◌∷◌, length, map, None}
use Rattle.std.specs.List.{list_all}
use Rattle.va_base.specs.Spelling.{is_digit, begins}
use Rattle.c_tree.specs.Words.{Word, ends_line, spelled}
use Rattle.c_tree.specs.declared.token.CToken.{CToken}
use Rattle.c_tree.specs.tokens.Spelling.{is_token, token_kind}
use Rattle.c_tree.specs.tokens.Limits.{is_within}
use Rattle.c_tree.specs.tokens.Tokens.{bytes_of, c_tokens_of}

-- A word is a token. A number is within the limits, and a line ends behind an include.
abbrev pub is_alone : Word → Bool
is_alone w = is_token w && (not (begins is_digit w) || is_within w) && (not (begins (λ byte. byte == 35) w) || ends_line w)

-- the tokens of words of which the first has this index
abbrev pub tokens_of_words : ℕ → List Word → List CToken
tokens_of_words at [] = []
tokens_of_words at (w ∷ words) =
    record { kind = token_kind w; first = at; len = length w } ∷ tokens_of_words (at + length w + 1) words

-- The tokens of a text of such words are the words, in order, and all bytes make tokens.
pub record AreRead (words : List Word) : Type 0 where
  pub all : c_tokens_of (spelled words) ≡ record { tokens = tokens_of_words 0 words; bad = None }
  pub bytes : map (bytes_of (spelled words)) (tokens_of_words 0 words) ≡ words

-- words that stand for themselves are read
abbrev pub WordsAreRead : Type 0
WordsAreRead = (words : List Word) → list_all is_alone words ≡ true → AreRead words

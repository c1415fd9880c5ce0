-- Rows that were worked out by hand: texts, and their tokens with their places.
use Rattle.std.specs.Prelude.{◌≡◌, ℕ, List, [], ◌∷◌, ◌++◌, codes, map}
use Rattle.va_base.specs.declared.token.Token.{Token}
use Rattle.va_base.specs.declared.token.TokenKind.{TokenKind}
use Rattle.va_base.specs.declared.token.TokenKind.TheVariants.{Word, System, Tick, Number, Text, Mark, Newline, Bad}
use Rattle.va_lexer.specs.Tokens.{tokens_of}

-- a token of file 0: its kind, the index of its first byte, its length, its line and its column
abbrev pub token : TokenKind → ℕ → ℕ → ℕ → ℕ → Token
token kind first len line col = record { kind = kind; file = 0; first = first; len = len; place = record { file = 0; line = line; col = col } }

abbrev pub tokens : List ℕ → List Token
tokens = tokens_of 0

-- a line end between texts
abbrev pub line_end : List ℕ
line_end = 10 ∷ []

pub record WorkedTokens : Type 0 where
  pub longest_mark : tokens (codes "a<+b") ≡ token Word 0 1 1 1 ∷ token Mark 1 2 1 2 ∷ token Word 3 1 1 4 ∷ []
  pub attribute_mark_and_parenthesis : tokens (codes "(*)") ≡ token Mark 0 2 1 1 ∷ token Mark 2 1 1 3 ∷ []
  pub scale_before_letters : tokens (codes "1.5mA") ≡ token Number 0 4 1 1 ∷ token Word 4 1 1 5 ∷ []
  pub point_without_digits : tokens (codes "1.e3") ≡ token Number 0 1 1 1 ∷ token Mark 1 1 1 2 ∷ token Word 2 2 1 3 ∷ []
  pub numeral_past_the_limits : tokens (codes "1e10000 x") ≡ token Bad 0 7 1 1 ∷ token Word 8 1 1 9 ∷ []
  pub escaped_word_takes_marks : tokens (codes "\\a,b; c") ≡ token Word 0 5 1 1 ∷ token Word 6 1 1 7 ∷ []
  pub escaped_backslash_at_line_end :
      tokens (codes "\\a\\" ++ line_end) ≡ token Word 0 3 1 1 ∷ token Newline 3 1 1 4 ∷ []
  pub line_goes_on : tokens (codes "a \\" ++ line_end ++ codes "b") ≡ token Word 0 1 1 1 ∷ token Word 4 1 2 1 ∷ []
  pub line_comment_ends_before_line_end :
      tokens (codes "a// b" ++ line_end ++ codes "c") ≡ token Word 0 1 1 1 ∷ token Newline 5 1 1 6 ∷ token Word 6 1 2 1 ∷ []
  pub line_ends_in_comments_count : tokens (codes "/*" ++ line_end ++ codes "*/a") ≡ token Word 5 1 2 3 ∷ []
  pub open_comment : tokens (codes "a/*b" ++ line_end) ≡ token Word 0 1 1 1 ∷ token Bad 1 4 1 2 ∷ []
  pub open_string_ends_with_its_line :
      tokens (codes "\"ab" ++ line_end ++ codes "c") ≡ token Bad 0 3 1 1 ∷ token Newline 3 1 1 4 ∷ token Word 4 1 2 1 ∷ []
  pub string_with_escaped_quote : tokens (codes "\"a\\\"b\"c") ≡ token Text 0 6 1 1 ∷ token Word 6 1 1 7 ∷ []

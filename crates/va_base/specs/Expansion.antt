-- What is known of a text after expansion.
use Rattle.std.specs.Prelude.{◌≡◌, ◌≤◌, ◌+◌, ℕ, Bool, true, false, List, [], ◌∷◌, ◌++◌, length, take, drop, Option, Some, None, IsTrue, IsSome, All, slice_get}
use Rattle.va_base.specs.declared.expanded.Expanded.{Expanded}
use Rattle.va_base.specs.declared.file.FileText.{FileText}
use Rattle.va_base.specs.declared.token.Token.{Token}
use Rattle.va_base.specs.declared.token.TokenKind.{TokenKind}
use Rattle.va_base.specs.declared.token.TokenKind.TheVariants.{Word, System, Tick, Number, Text, Mark, Newline, Bad, End}
use Rattle.va_base.specs.Spelling.{spells}
use Rattle.va_base.specs.Numerals.{decimal_of}

-- the bytes of a file from an index on, so many
abbrev pub bytes_from : Option FileText → ℕ → ℕ → List ℕ
bytes_from None first len = []
bytes_from (Some file) first len = take len (drop first file.bytes)

-- the bytes of a token, among the files by their numbers
abbrev pub token_bytes : List FileText → Token → List ℕ
token_bytes files token = bytes_from (slice_get files token.file) token.first token.len

abbrev pub LiesWithin : Option FileText → ℕ → ℕ → Type 0
LiesWithin None first len = ⊥
LiesWithin (Some file) first len = first + len ≤ length file.bytes

-- the token's file is among the files, and its bytes lie in it
abbrev pub LiesIn : List FileText → Token → Type 0
LiesIn files token = LiesWithin (slice_get files token.file) token.first token.len

-- the kinds of tokens that are left after expansion, but for the end
abbrev pub is_kept : TokenKind → Bool
is_kept Word = true
is_kept System = true
is_kept Tick = false
is_kept Number = true
is_kept Text = true
is_kept Mark = true
is_kept Newline = false
is_kept Bad = false
is_kept End = false

-- a token before the end: of a kind that is left, spelled by its bytes; and a numeral lies within the limits
pub record IsExpandedToken (files : List FileText) (token : Token) : Type 0 where
  pub kept : IsTrue (is_kept token.kind)
  pub lies : LiesIn files token
  pub spelled : IsTrue (spells token.kind (token_bytes files token))
  pub limited : token.kind ≡ Number → IsSome (decimal_of (token_bytes files token))

-- The conditions on the tokens of a text after expansion: such tokens, of which there are at most 2000000, and then the end.
pub record IsExpanded (e : Expanded) : Type 0 where
  pub before : List Token
  pub end : Token
  pub ends : e.tokens ≡ before ++ end ∷ []
  pub end_kind : end.kind ≡ End
  pub end_lies : LiesIn e.files end
  pub each : All (IsExpandedToken e.files) before
  pub few : length before ≤ 2000000

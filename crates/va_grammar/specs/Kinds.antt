-- The kinds of the tokens of a text (Lexical conventions).
use Rattle.std.specs.Prelude.{ℕ, ◌==◌, Bool, false, if◌then◌else◌, List, [], ◌∷◌, length, map, Option, Some, None}
use Rattle.std.specs.Str.{bytes_eq}
use Rattle.va_base.specs.declared.expanded.Expanded.{Expanded}
use Rattle.va_base.specs.declared.file.FileText.{FileText}
use Rattle.va_base.specs.declared.token.Token.{Token}
use Rattle.va_base.specs.declared.token.TokenKind.{TokenKind}
use Rattle.va_base.specs.declared.token.TokenKind.TheVariants as token
use Rattle.va_base.specs.Expansion.{token_bytes}
use Rattle.va_grammar.specs.Terminals.{terminal_number, spelling_of, keywords, marks}
use Rattle.va_grammar.specs.declared.terminal.Terminal.{Terminal}
use Rattle.va_grammar.specs.declared.terminal.Terminal.TheVariants.{EndOfText, Name, System, Number, Text}

-- whether a spelling is that of these bytes
abbrev pub is_spelling : Option (List ℕ) → List ℕ → Bool
is_spelling None bytes = false
is_spelling (Some spelling) bytes = bytes_eq spelling bytes

-- whether a spelling has so many bytes
abbrev pub is_long : ℕ → Option (List ℕ) → Bool
is_long n None = false
is_long n (Some spelling) = length spelling == n

-- the kinds whose spelling has so many bytes
abbrev pub as_long : ℕ → List Terminal → List Terminal
as_long n [] = []
as_long n (terminal ∷ rest) = if is_long n (spelling_of terminal) then terminal ∷ as_long n rest else as_long n rest

-- the one among some kinds that these bytes spell, or else another
abbrev pub spelled_among : List Terminal → List ℕ → Terminal → Terminal
spelled_among [] bytes other = other
spelled_among (terminal ∷ rest) bytes other = if is_spelling (spelling_of terminal) bytes then terminal else spelled_among rest bytes other

-- The kind of a token. An escaped word is a name, since no keyword begins with `\`. There are no backquoted words, line ends
-- and bad tokens after expansion.
abbrev pub kind_of : TokenKind → List ℕ → Terminal
kind_of token.Word bytes = spelled_among keywords bytes Name
kind_of token.System bytes = System
kind_of token.Tick bytes = EndOfText
kind_of token.Number bytes = Number
kind_of token.Text bytes = Text
kind_of token.Mark bytes = spelled_among marks bytes EndOfText
kind_of token.Newline bytes = EndOfText
kind_of token.Bad bytes = EndOfText
kind_of token.End bytes = EndOfText

-- the number of a token's kind
abbrev pub kind_in : List FileText → Token → ℕ
kind_in files token = terminal_number (kind_of token.kind (token_bytes files token))

-- the numbers of the kinds of a text's tokens, in order
abbrev pub kinds_of : Expanded → List ℕ
kinds_of e = map (kind_in e.files) e.tokens

-- The place of a fault in a text, for the words of a reader of the text.
use Rattle.std.specs.Prelude.{ℕ, ◌+◌, ◌==◌, List, [], ◌∷◌, fold, take, length, Option, Some, None, slice_get, if◌then◌else◌}
use Rattle.va_base.specs.declared.place.Place.{Place}
use Rattle.c_tree.specs.declared.token.CToken.{CToken}
use Rattle.c_tree.specs.tokens.Tokens.{CTokens, c_tokens_of}
use Rattle.c_syntax.specs.declared.error.CErr.{CErr}
use Rattle.c_syntax.specs.declared.error.CErr.TheVariants.{BadByte, Syntax, Form, NoMemory}

-- the place after a byte: the next column, or the next line's first one
abbrev pub after : Place → ℕ → Place
after place byte =
    if byte == 10 then record { file = place.file; line = place.line + 1; col = 1 }
    else record { file = place.file; line = place.line; col = place.col + 1 }

-- the place of the byte with this index; that of the end is behind the last byte
abbrev pub place_at : List ℕ → ℕ → Place
place_at text index = fold after (record { file = 0; line = 1; col = 1 }) (take index text)

-- the index of the first byte of a token, or of the end where there is no such token
abbrev pub first_of : ℕ → Option CToken → ℕ
first_of end None = end
first_of end (Some token) = token.first

abbrev pub token_start : List ℕ → ℕ → ℕ
token_start text number = first_of (length text) (slice_get (c_tokens_of text).tokens number)

-- the place of a fault
abbrev pub fault_place : List ℕ → CErr → Place
fault_place text (BadByte at) = place_at text at
fault_place text (Syntax number) = place_at text (token_start text number)
fault_place text (Form number) = place_at text (token_start text number)
fault_place text NoMemory = place_at text 0

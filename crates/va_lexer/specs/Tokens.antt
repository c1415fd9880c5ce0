-- The tokens of a text with their places (Lexical conventions): piece after piece, at each place the longest.
use Rattle.std.specs.Prelude.{ℕ, zero, suc, ◌+◌, ◌-◌, ◌==◌, List, [], ◌∷◌, ◌++◌, Option, Some, None, fold, if◌then◌else◌}
use Rattle.va_base.specs.declared.place.Place.{Place}
use Rattle.va_base.specs.declared.token.Token.{Token}
use Rattle.va_base.specs.declared.token.TokenKind.{TokenKind}
use Rattle.va_lexer.specs.declared.Line.{Line}
use Rattle.va_lexer.specs.declared.piece.Piece.{Piece}
use Rattle.va_lexer.specs.Pieces.{front}

-- the place after a byte: the next column, or the next line's first one
abbrev pub after : Place → ℕ → Place
after place byte =
    if byte == 10 then record { file = place.file; line = place.line + 1; col = 1 }
    else record { file = place.file; line = place.line; col = place.col + 1 }

-- the place after some bytes
abbrev pub places_after : Place → List ℕ → Place
places_after = fold after

-- the place at an index of a line
abbrev pub place_in : ℕ → Line → ℕ → Place
place_in file line at = record { file = file; line = line.number; col = at + 1 - line.start }

-- the token that a piece gives, where it begins at this index and place
abbrev pub token_of : Option TokenKind → ℕ → ℕ → Place → List Token
token_of None first len place = []
token_of (Some kind) first len place =
    (let token : Token = record { kind = kind; file = place.file; first = first; len = len; place = place } in token) ∷ []

-- The tokens of what is left of a text. Its first byte has this index and place, and the first `rest` of its bytes belong
-- to the piece before.
unfoldable pub tokens_from : ℕ → Place → ℕ → List ℕ → List Token
tokens_from at place rest [] = []
tokens_from at place (suc rest) (c ∷ text) = tokens_from (at + 1) (after place c) rest text
tokens_from at place zero (c ∷ text) =
    token_of (front (c ∷ text)).kind at (front (c ∷ text)).len place
    ++ tokens_from (at + 1) (after place c) ((front (c ∷ text)).len - 1) text

-- the tokens of the text of a file, by the file's number
abbrev pub tokens_of : ℕ → List ℕ → List Token
tokens_of file text = tokens_from 0 (record { file = file; line = 1; col = 1 }) 0 text

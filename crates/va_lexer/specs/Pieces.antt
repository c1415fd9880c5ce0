-- The piece at the front of a text: the longest token or separator there, or bytes that are no token.
use Rattle.std.specs.Prelude.{ℕ, ◌+◌, Bool, true, false, not, ◌==◌, ◌&&◌, ◌||◌, List, [], ◌∷◌, length, take, Option, Some, None, if◌then◌else◌}
use Rattle.std.specs.Option.{is_some}
use Rattle.std.specs.List.{prefix_len}
use Rattle.va_base.specs.declared.token.TokenKind.{TokenKind}
use Rattle.va_base.specs.declared.token.TokenKind.TheVariants.{Word, System, Tick, Number, Text, Mark, Newline, Bad}
use Rattle.va_base.specs.Longest.{longest}
use Rattle.va_base.specs.Spelling.{begins, byte_then, is_letter, is_digit, is_word, is_system, is_tick, is_numeral, is_text, is_double_mark, is_mark, is_newline, is_in_line}
use Rattle.va_base.specs.Numerals.{decimal_of}
use Rattle.va_lexer.specs.declared.piece.Piece.{Piece}
use Rattle.va_lexer.specs.Separators.{is_blank, is_separator, is_block_comment}

-- bytes that spell a token of some kind
abbrev pub is_token : List ℕ → Bool
is_token bytes =
    is_word bytes || is_system bytes || is_tick bytes || is_numeral bytes || is_text bytes || is_mark bytes || is_newline bytes

abbrev pub is_piece : List ℕ → Bool
is_piece bytes = is_token bytes || is_separator bytes

-- the kind of a numeral: one that is outside the limits is no token
abbrev pub numeral_kind : List ℕ → TokenKind
numeral_kind bytes = if is_some (decimal_of bytes) then Number else Bad

-- the kind of a token
abbrev pub token_kind : List ℕ → TokenKind
token_kind bytes =
    if is_word bytes then Word
    else (if is_system bytes then System
    else (if is_tick bytes then Tick
    else (if is_numeral bytes then numeral_kind bytes
    else (if is_text bytes then Text
    else (if is_mark bytes then Mark
    else Newline)))))

-- a separator has no kind
abbrev pub piece_kind : List ℕ → Option TokenKind
piece_kind bytes = if is_separator bytes then None else Some (token_kind bytes)

abbrev pub piece : Option TokenKind → ℕ → Piece
piece kind len = record { kind = kind; len = len }

-- so many bytes that are no token
abbrev pub bad : ℕ → Piece
bad len = piece (Some Bad) len

-- `/*` stands at the front, and no front is a comment: the comment has no end
abbrev pub is_open_comment : List ℕ → Bool
is_open_comment text = byte_then 47 (begins (λ byte. byte == 42)) text && not (is_some (longest is_block_comment text))

-- `"` stands at the front, and no front is a string
abbrev pub is_open_text : List ℕ → Bool
is_open_text text = begins (λ byte. byte == 34) text && not (is_some (longest is_text text))

-- the longest piece, or one byte that begins none
abbrev pub longest_piece : List ℕ → Option ℕ → Piece
longest_piece text None = bad 1
longest_piece text (Some n) = piece (piece_kind (take n text)) n

-- The piece at the front of a text that is not empty: the longest token or separator, or one byte that begins none. But a
-- comment without an end is bad up to the text's end, and where `"` begins no string, it is bad up to the line's end.
unfoldable pub front : List ℕ → Piece
front text =
    if is_open_comment text then bad (length text)
    else (if is_open_text text then bad (prefix_len is_in_line text) else longest_piece text (longest is_piece text))

-- a byte that begins no piece but a mark
abbrev pub is_other_byte : ℕ → Bool
is_other_byte byte =
    not (is_letter byte || is_blank byte || is_digit byte || byte == 10 || byte == 34 || byte == 36 || byte == 96 || byte == 92 || byte == 47)

-- a mark of two bytes stands at the front
abbrev pub begins_double_mark : List ℕ → Bool
begins_double_mark [] = false
begins_double_mark (c ∷ []) = false
begins_double_mark (c ∷ d ∷ rest) = is_double_mark c d

-- a length, counted from so many bytes before
abbrev pub shifted : ℕ → Option ℕ → Option ℕ
shifted at None = None
shifted at (Some n) = Some (at + n)

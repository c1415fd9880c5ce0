-- The small texts of the rows that are worked out by hand, and how a row shows what an expansion gives.
use Rattle.std.specs.Prelude.{ℕ, zero, suc, ◌+◌, ◌-◌, Bool, not, ◌==◌, ◌&&◌, ◌||◌, List, [], ◌∷◌, ◌++◌, map, length, take, drop, Option, Some, None, if◌then◌else◌, codes, get_or, flat_map}
use Rattle.std.specs.Fmt.{decimal}
use Rattle.std.specs.List.{prefix_len, list_any}
use Rattle.va_base.specs.declared.fault.Fault.{Fault}
use Rattle.va_base.specs.declared.token.Token.{Token}
use Rattle.va_base.specs.declared.token.TokenKind.{TokenKind}
use Rattle.va_base.specs.declared.token.TokenKind.TheVariants.{Word, Tick, Number, Text, Mark, Newline, Bad}
use Rattle.va_base.specs.Faults.{spelling_of_code}
use Rattle.va_base.specs.Spelling.{is_letter, is_digit, is_word_byte, is_visible}
use Rattle.va_io.specs.Outside.{Holdings, held}
use Rattle.va_preproc.specs.Lexemes.{Bytes}
use Rattle.va_preproc.specs.Expansion.{Limits, Expansion, lacking, faulty, expanded, limits, expansion_within}

-- a kind and a length
abbrev pub Shape : Type 0
Shape = TokenKind × ℕ

-- a string that is closed before the line's end, and one that isn't, by the length up to its next `"` or line end
abbrev pub quoted : ℕ → ℕ → Shape
quoted n next = if next == 34 then (Text, n + 2) else (Bad, n + 1)

-- whether a byte is an operator or a bracket that is one byte long
abbrev pub is_mark_byte : ℕ → Bool
is_mark_byte c = list_any (λ byte. byte == c) (codes "()[],;:.=<>+-*/%!?@")

-- the kind and the length of the token that begins with a byte. Comments and long operators are left out.
abbrev pub shape : ℕ → Bytes → Shape
shape c rest =
    let next = get_or rest 0 0 in
    let string = prefix_len (λ byte. not (byte == 34 || byte == 10)) rest in
    if is_letter c then (Word, 1 + prefix_len is_word_byte rest)
    else (if is_digit c then (Number, 1 + prefix_len is_word_byte rest)
    else (if c == 34 then quoted string (get_or rest string 0)
    else (if c == 96 && is_letter next then (Tick, 1 + prefix_len is_word_byte rest)
    else (if c == 92 && is_visible next then (Word, 1 + prefix_len is_visible rest)
    else (if c == 40 && next == 42 || c == 42 && next == 41 || c == 60 && next == 43 then (Mark, 2)
    else (if is_mark_byte c then (Mark, 1)
    else (Bad, 1)))))))

abbrev pub is_blank : ℕ → Bool
is_blank c = c == 9 || c == 13 || c == 32

-- What a byte begins: a line end, a blank or a token.
pub data Start : Type 0 where
  of_line_end : Start
  of_blank : Start
  of_token : Shape → Start

abbrev pub start_of : ℕ → Bytes → Start
start_of c rest = if c == 10 then of_line_end else (if is_blank c then of_blank else of_token (shape c rest))

-- the tokens of a small text from a byte on, with their places, after so many bytes of a token that began before
abbrev pub small_from : ℕ → ℕ → ℕ → ℕ → ℕ → Bytes → List Token
small_from file line col first inside [] = []
small_from file line col first (suc inside) (c ∷ rest) = small_from file line (suc col) (suc first) inside rest
small_from file line col first zero (c ∷ rest) = elim (start_of c rest) [
  | of_line_end ↦
      record { kind = Newline; file = file; first = first; len = 1; place = record { file = file; line = line; col = col } }
      ∷ small_from file (suc line) 1 (suc first) zero rest
  | of_blank ↦ small_from file line (suc col) (suc first) zero rest
  | of_token shape ↦
      record { kind = shape.0; file = file; first = first; len = shape.1; place = record { file = file; line = line; col = col } }
      ∷ small_from file line (suc col) (suc first) (shape.1 - 1) rest
]

abbrev pub small_tokens : ℕ → Bytes → List Token
small_tokens file text = small_from file 1 1 0 0 text

-- a text of these lines
abbrev pub lines : List Bytes → Bytes
lines = flat_map (λ line. line ++ 10 ∷ [])

-- files of small texts by their names
abbrev pub file : Bytes → List Bytes → Bytes × Bytes
file name text = (name, lines text)

-- the bytes of a token of a file
abbrev pub bytes_in : Option Bytes → Token → Bytes
bytes_in None token = []
bytes_in (Some bytes) token = take token.len (drop token.first bytes)

-- How a row shows an expansion: the words of the result with spaces between them; or the line by which the fault is reported.
pub data Shown : Type 0 where
  no_file : Shown
  text : Bytes → Shown
  fault : Bytes → Shown

-- name, line, column and code
abbrev pub fault_line : Bytes → Fault → Bytes
fault_line name f =
    name ++ codes ":" ++ decimal f.place.line ++ codes ":" ++ decimal f.place.col ++ codes ": " ++ spelling_of_code f.code

-- all but the end
abbrev pub before_end : List Token → List Token
before_end tokens = take (length tokens - 1) tokens

-- what files of these names hold of a token
abbrev pub word_of : Holdings → List Bytes → Token → Bytes
word_of holds asked token = bytes_in (held holds (get_or asked token.file [])) token

abbrev pub shown : Holdings → Expansion → Shown
shown holds (lacking name) = no_file
shown holds (faulty stop) = fault (fault_line (get_or stop.asked stop.fault.place.file []) stop.fault)
shown holds (expanded tokens asked) = text (drop 1 (flat_map (λ token. 32 ∷ word_of holds asked token) (before_end tokens)))

-- the expansion of the first of some files, within limits and within those of every expansion
abbrev pub small_within : Limits → Holdings → Expansion
small_within most holds = expansion_within most small_tokens holds (get_or (map (λ entry. entry.0) holds) 0 [])

abbrev pub small : Holdings → Expansion
small = small_within limits

-- what it gives
abbrev pub files_give : Holdings → Shown
files_give holds = shown holds (small holds)

abbrev pub files_give_within : Limits → Holdings → Shown
files_give_within most holds = shown holds (small_within most holds)

-- the same of one file
abbrev pub gives : List Bytes → Shown
gives main = files_give (file (codes "m.va") main ∷ [])

-- a token's file, line and column
abbrev pub Spot : Type 0
Spot = ℕ × ℕ × ℕ

-- the places of a result, that of its end included
abbrev pub spots : Expansion → List Spot
spots (expanded tokens asked) = map (λ token. (token.place.file, token.place.line, token.place.col)) tokens
spots _ = []

abbrev pub gives_spots : List Bytes → List Spot
gives_spots main = spots (small (file (codes "m.va") main ∷ []))

-- the number of tokens before a fault
abbrev pub fault_at : Expansion → ℕ
fault_at (faulty stop) = stop.fault.at
fault_at _ = 0

-- How tokens are spelled (Lexical conventions, Numbers, Strings): for each kind a test on a whole list of bytes.
use Rattle.std.specs.Prelude.{ℕ, Bool, true, false, not, ◌==◌, ◌&&◌, ◌||◌, nat_le, List, [], ◌∷◌, if◌then◌else◌, drop, codes, ℤ, pos, negsuc, Option, Some, None}
use Rattle.std.specs.Option.{is_some}
use Rattle.std.specs.List.{list_all, list_any, prefix_len, take_while, slice_split}
use Rattle.std.specs.Str.{bytes_eq}
use Rattle.va_base.specs.declared.token.TokenKind.{TokenKind}
use Rattle.va_base.specs.declared.token.TokenKind.TheVariants.{Word, System, Tick, Number, Text, Mark, Newline, Bad, End}

abbrev pub is_digit : ℕ → Bool
is_digit byte = nat_le 48 byte && nat_le byte 57

-- an ASCII letter or `_`
abbrev pub is_letter : ℕ → Bool
is_letter byte = nat_le 65 byte && nat_le byte 90 || nat_le 97 byte && nat_le byte 122 || byte == 95

-- what words and system names go on with: a letter, a digit, `_` or `$`
abbrev pub is_word_byte : ℕ → Bool
is_word_byte byte = is_letter byte || is_digit byte || byte == 36

-- what an escaped word is made of: an ASCII byte that shows
abbrev pub is_visible : ℕ → Bool
is_visible byte = nat_le 33 byte && nat_le byte 126

-- what a string may hold: a tab, an ASCII byte that shows, a space, or a byte above 127
abbrev pub is_text_byte : ℕ → Bool
is_text_byte byte = byte == 9 || nat_le 32 byte && nat_le byte 126 || nat_le 128 byte

-- what stands on one line
abbrev pub is_in_line : ℕ → Bool
is_in_line byte = not (byte == 10)

-- the first byte passes
abbrev pub begins : (ℕ → Bool) → List ℕ → Bool
begins test [] = false
begins test (c ∷ rest) = test c

abbrev pub is_empty : List ℕ → Bool
is_empty [] = true
is_empty (c ∷ rest) = false

-- a certain byte, and then what passes
abbrev pub byte_then : ℕ → (List ℕ → Bool) → List ℕ → Bool
byte_then byte test [] = false
byte_then byte test (c ∷ rest) = c == byte && test rest

-- one or more bytes, all of which pass
abbrev pub are_some : (ℕ → Bool) → List ℕ → Bool
are_some test bytes = not (is_empty bytes) && list_all test bytes

-- a word of the first form: a letter or `_`, then letters, digits, `_` and `$`
abbrev pub is_simple_word : List ℕ → Bool
is_simple_word [] = false
is_simple_word (c ∷ rest) = is_letter c && list_all is_word_byte rest

-- a word of the second form: `\`, then bytes that show
abbrev pub is_escaped_word : List ℕ → Bool
is_escaped_word = byte_then 92 (are_some is_visible)

abbrev pub is_word : List ℕ → Bool
is_word bytes = is_simple_word bytes || is_escaped_word bytes

-- `$`, then letters, digits, `_` and `$`
abbrev pub is_system : List ℕ → Bool
is_system = byte_then 36 (are_some is_word_byte)

-- a backquote and a word of the first form
abbrev pub is_tick : List ℕ → Bool
is_tick = byte_then 96 is_simple_word

-- what numbers are written with
abbrev pub is_digit_byte : ℕ → Bool
is_digit_byte byte = is_digit byte || byte == 95

-- groups of zero or more `_` and one digit: digits and `_`, the last of which is a digit
abbrev pub are_digit_groups : List ℕ → Bool
are_digit_groups [] = true
are_digit_groups (c ∷ rest) = (is_digit c || c == 95 && not (is_empty rest)) && are_digit_groups rest

-- a digit and then such groups
abbrev pub are_digits : List ℕ → Bool
are_digits [] = false
are_digits (c ∷ rest) = is_digit c && are_digit_groups rest

-- digits, as many as stand there, and then what passes
abbrev pub are_digits_then : (List ℕ → Bool) → List ℕ → Bool
are_digits_then test bytes = are_digits (take_while is_digit_byte bytes) && test (drop (prefix_len is_digit_byte bytes) bytes)

-- the power of ten of a scale factor: T G M K k m u n p f a
abbrev pub scale_power : ℕ → Option ℤ
scale_power byte =
    if byte == 84 then Some (pos 12)
    else (if byte == 71 then Some (pos 9)
    else (if byte == 77 then Some (pos 6)
    else (if byte == 75 then Some (pos 3)
    else (if byte == 107 then Some (pos 3)
    else (if byte == 109 then Some (negsuc 2)
    else (if byte == 117 then Some (negsuc 5)
    else (if byte == 110 then Some (negsuc 8)
    else (if byte == 112 then Some (negsuc 11)
    else (if byte == 102 then Some (negsuc 14)
    else (if byte == 97 then Some (negsuc 17)
    else None))))))))))

abbrev pub is_sign : ℕ → Bool
is_sign byte = byte == 43 || byte == 45

-- `e` or `E`
abbrev pub is_exponent_letter : ℕ → Bool
is_exponent_letter byte = byte == 101 || byte == 69

-- what follows that letter: digits under at most one sign
abbrev pub is_exponent : List ℕ → Bool
is_exponent [] = false
is_exponent (c ∷ rest) = are_digits (if is_sign c then rest else c ∷ rest)

-- nothing, a scale factor, or an exponent
abbrev pub is_tail : List ℕ → Bool
is_tail [] = true
is_tail (c ∷ rest) = is_some (scale_power c) && is_empty rest || is_exponent_letter c && is_exponent rest

-- a tail, before which a point and digits may stand
abbrev pub is_after_whole : List ℕ → Bool
is_after_whole [] = true
is_after_whole (c ∷ rest) = if c == 46 then are_digits_then is_tail rest else is_tail (c ∷ rest)

-- a numeral (Numbers), within the limits or not: digits; where there is one, a point and digits; and a tail
unfoldable pub is_numeral : List ℕ → Bool
is_numeral = are_digits_then is_after_whole

-- What follows a string's first quote: bytes of a string up to the next quote, which is the last byte. `\` takes the next
-- byte of a string with it, be it a quote or not.
abbrev pub is_text_rest : List ℕ → Bool
is_text_rest [] = false
is_text_rest (c ∷ []) = c == 34
is_text_rest (c ∷ d ∷ rest) =
    if c == 92 then is_text_byte d && is_text_rest rest else is_text_byte c && not (c == 34) && is_text_rest (d ∷ rest)

abbrev pub is_text : List ℕ → Bool
is_text = byte_then 34 is_text_rest

-- the operators and brackets of one byte (Operators)
abbrev pub is_single_mark : ℕ → Bool
is_single_mark byte = list_any (λ mark. mark == byte) (codes "()[],;:.=<>+-*/%!?@")

-- those of two bytes; `(*` and `*)` hold attributes (Attributes)
abbrev pub is_double_mark : ℕ → ℕ → Bool
is_double_mark c d = list_any (bytes_eq (c ∷ d ∷ [])) (slice_split (λ byte. byte == 32) (codes "== != <= <+ >= ** && || (* *)"))

abbrev pub is_mark : List ℕ → Bool
is_mark [] = false
is_mark (c ∷ []) = is_single_mark c
is_mark (c ∷ d ∷ []) = is_double_mark c d
is_mark (c ∷ d ∷ e ∷ rest) = false

-- a line end
abbrev pub is_newline : List ℕ → Bool
is_newline = byte_then 10 is_empty

-- bytes that spell a token of this kind
abbrev pub spells : TokenKind → List ℕ → Bool
spells Word bytes = is_word bytes
spells System bytes = is_system bytes
spells Tick bytes = is_tick bytes
spells Number bytes = is_numeral bytes
spells Text bytes = is_text bytes
spells Mark bytes = is_mark bytes
spells Newline bytes = is_newline bytes
spells Bad bytes = false
spells End bytes = is_empty bytes

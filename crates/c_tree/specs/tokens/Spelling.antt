-- How the tokens of a C file are spelled: for each kind a test on a whole list of bytes. Two bytes separate tokens, the space
-- and the line end.
use Rattle.std.specs.Prelude.{ℕ, Bool, true, false, not, ◌==◌, ◌&&◌, ◌||◌, nat_le, List, [], ◌∷◌, ◌+◌, ◌*◌, ◌-◌, if◌then◌else◌, codes}
use Rattle.std.specs.List.{list_all, list_any, slice_split}
use Rattle.std.specs.Str.{bytes_eq}
use Rattle.va_base.specs.Spelling.{is_digit, is_letter, is_empty, is_in_line, are_some, byte_then}
use Rattle.c_tree.specs.declared.token.CTokenKind.{CTokenKind}
use Rattle.c_tree.specs.declared.token.CTokenKind.TheVariants.{Include, Word, Field, Integer, Unsigned, Real, Text, Mark}

-- a space or a line end
abbrev pub is_separator : ℕ → Bool
is_separator byte = byte == 10 || byte == 32

-- what words go on with: a letter, a digit or `_`
abbrev pub is_word_byte : ℕ → Bool
is_word_byte byte = is_letter byte || is_digit byte

-- certain bytes, and then what passes
abbrev pub text_then : List ℕ → (List ℕ → Bool) → List ℕ → Bool
text_then [] test = test
text_then (c ∷ text) test = byte_then c (text_then text test)

-- What follows the `#` of an include: `include`, and all that stands on its line.
abbrev pub is_include_rest : List ℕ → Bool
is_include_rest = text_then (codes "include") (list_all is_in_line)

abbrev mutual
  -- what follows a point in the name of a field of a struct's element: a word, behind which more points and words may stand
  pub is_after_point : List ℕ → Bool
  is_after_point [] = false
  is_after_point (c ∷ rest) = is_letter c && is_in_name rest

  -- what follows the first letter of such a word
  pub is_in_name : List ℕ → Bool
  is_in_name [] = true
  is_in_name (c ∷ rest) = if c == 46 then is_after_point rest else is_word_byte c && is_in_name rest

-- a power of ten: digits, before which a `-` may stand
abbrev pub is_power : List ℕ → Bool
is_power [] = false
is_power (c ∷ rest) = are_some is_digit (if c == 45 then rest else c ∷ rest)

-- what follows a number's digits: nothing; `u`; or `e` and a power
abbrev pub is_number_tail : List ℕ → Bool
is_number_tail [] = true
is_number_tail (c ∷ rest) = if c == 117 then is_empty rest else c == 101 && is_power rest

-- what follows a number's first digit: digits and a tail
abbrev pub is_number_rest : List ℕ → Bool
is_number_rest [] = true
is_number_rest (c ∷ rest) = if is_digit c then is_number_rest rest else is_number_tail (c ∷ rest)

-- What stands as itself in a string: a space or an ASCII byte that shows, but `"`, `?`, `\` and the backquote.
abbrev pub is_plain : ℕ → Bool
is_plain byte = nat_le 32 byte && nat_le byte 126 && not (byte == 34 || byte == 63 || byte == 92 || byte == 96)

abbrev pub is_octal_digit : ℕ → Bool
is_octal_digit byte = nat_le 48 byte && nat_le byte 55

-- the number that three octal digits give
abbrev pub octal_value : ℕ → ℕ → ℕ → ℕ
octal_value c d e = 64 * (c - 48) + 8 * (d - 48) + (e - 48)

-- Three octal digits that stand behind a `\` for a byte which doesn't stand as itself.
abbrev pub is_escape : ℕ → ℕ → ℕ → Bool
is_escape c d e =
    is_octal_digit c && is_octal_digit d && is_octal_digit e && nat_le (octal_value c d e) 255 && not (is_plain (octal_value c d e))

abbrev mutual
  -- what follows a string's first quote: plain bytes and escapes, and the quote that ends it
  pub is_string_rest : List ℕ → Bool
  is_string_rest [] = false
  is_string_rest (c ∷ rest) =
      if c == 34 then is_empty rest else (if c == 92 then is_escape_then rest else is_plain c && is_string_rest rest)

  -- what follows a `\` there
  pub is_escape_then : List ℕ → Bool
  is_escape_then [] = false
  is_escape_then (c ∷ []) = false
  is_escape_then (c ∷ d ∷ []) = false
  is_escape_then (c ∷ d ∷ e ∷ rest) = is_escape c d e && is_string_rest rest

-- marks of one byte
abbrev pub is_single_mark : ℕ → Bool
is_single_mark byte = list_any (λ mark. mark == byte) (codes "(){}[];,*=+-/%<>!&|")

-- marks of two bytes
abbrev pub is_double_mark : ℕ → ℕ → Bool
is_double_mark c d = list_any (bytes_eq (c ∷ d ∷ [])) (slice_split (λ byte. byte == 32) (codes "-> && <= >= == != += -="))

abbrev pub is_mark : List ℕ → Bool
is_mark [] = false
is_mark (c ∷ []) = is_single_mark c
is_mark (c ∷ d ∷ []) = is_double_mark c d
is_mark (c ∷ d ∷ e ∷ rest) = false

-- Bytes that spell a token, or a number that is outside the limits. The first byte tells what may follow: that of a word, a
-- number, an include, the name of a field, a string, or else a mark.
abbrev pub is_token : List ℕ → Bool
is_token [] = false
is_token (c ∷ rest) =
    if is_letter c then list_all is_word_byte rest
    else (if is_digit c then is_number_rest rest
    else (if c == 35 then is_include_rest rest
    else (if c == 46 then is_after_point rest
    else (if c == 34 then is_string_rest rest
    else is_mark (c ∷ rest)))))

-- the kind of a number, by its tail
abbrev pub tail_kind : List ℕ → CTokenKind
tail_kind [] = Integer
tail_kind (c ∷ rest) = if c == 117 then Unsigned else Real

-- and by all that follows its first digit
abbrev pub number_kind : List ℕ → CTokenKind
number_kind [] = Integer
number_kind (c ∷ rest) = if is_digit c then number_kind rest else tail_kind (c ∷ rest)

-- the kind of a token
abbrev pub token_kind : List ℕ → CTokenKind
token_kind [] = Mark
token_kind (c ∷ rest) =
    if is_letter c then Word
    else (if is_digit c then number_kind rest
    else (if c == 35 then Include
    else (if c == 46 then Field
    else (if c == 34 then Text
    else Mark))))

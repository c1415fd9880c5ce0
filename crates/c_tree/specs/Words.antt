-- The words of a C text: its tokens as bytes, each followed by a space or a line end.
use Rattle.std.specs.Prelude.{ℕ, suc, max, false, ◌+◌, ◌/◌, ◌%◌, ◌==◌, ◌&&◌, ◌||◌, nat_le, Bool, if◌then◌else◌, ℤ, pos, negsuc}
use Rattle.std.specs.Prelude.{List, [], ◌∷◌, ◌++◌, codes, decimal}
use Rattle.std.specs.List.{flat_map, slice_split, list_any}

-- a word: its bytes, which hold no space but in an include and in a string
abbrev pub Word : Type 0
Word = List ℕ

-- whether a line ends behind a word: behind `;`, `{`, `}` and an include, which alone begins with `#`
abbrev pub ends_line : Word → Bool
ends_line [] = false
ends_line (c ∷ []) = c == 59 || c == 123 || c == 125
ends_line (c ∷ d ∷ rest) = c == 35

-- a word with the space or the line end behind it
unfoldable pub spaced : Word → List ℕ
spaced word = word ++ (if ends_line word then 10 else 32) ∷ []

-- the text of some words
abbrev pub spelled : List Word → List ℕ
spelled = flat_map spaced

-- the words of a line of C that is written with one space between its words
unfoldable pub template : List ℕ → List Word
template text = slice_split (λ byte. byte == 32) text

-- a name that ends with a number
abbrev pub numbered : List ℕ → ℕ → Word
numbered name n = name ++ decimal n

-- an unsigned number, as `3u`
abbrev pub unsigned : ℕ → Word
unsigned n = decimal n ++ codes "u"

-- one word
abbrev pub word : Word → List Word
word w = w ∷ []

-- the power of a real, as `4` and `-4`
abbrev pub power_digits : ℤ → List ℕ
power_digits (pos n) = decimal n
power_digits (negsuc n) = codes "-" ++ decimal (suc n)

-- a real: its mantissa, `e`, and its power of ten, as `15e-4`
abbrev pub real_word : ℕ → ℤ → Word
real_word mantissa power = decimal mantissa ++ codes "e" ++ power_digits power

-- a byte that stands as itself in a string: a letter, a digit, a space or one of these marks
abbrev pub stands_as_itself : ℕ → Bool
stands_as_itself byte =
    nat_le 65 byte && nat_le byte 90 || nat_le 97 byte && nat_le byte 122 || nat_le 48 byte && nat_le byte 57 || byte == 32
    || list_any (λ mark. mark == byte) (codes "!#$%&'()*+,-./:;<=>@[]^_{|}~")

-- a byte of a string; any other is `\` and three octal digits
abbrev pub string_byte : ℕ → List ℕ
string_byte byte =
    if stands_as_itself byte then byte ∷ []
    else 92 ∷ (48 + byte / 64) ∷ (48 + byte / 8 % 8) ∷ (48 + byte % 8) ∷ []

-- a string between its quotes
unfoldable pub string_word : List ℕ → Word
string_word bytes = codes "\"" ++ flat_map string_byte bytes ++ codes "\""

-- the length of an array of so many elements: C has none of length 0
abbrev pub array_length : ℕ → ℕ
array_length n = max n 1

-- the words of some parts, with a mark before each but the first
abbrev pub marked : {T : Type 0} → Word → (T → List Word) → List T → List Word
marked mark words = flat_map (λ part. word mark ++ words part)

-- with a comma between each two
abbrev pub with_commas : {T : Type 0} → (T → List Word) → List T → List Word
with_commas words [] = []
with_commas words (first ∷ more) = words first ++ marked (codes ",") words more

-- what each file begins with
unfoldable pub include_words : List Word
include_words =
    word (codes "#include \"osdi_0_3.h\"") ++ word (codes "#include <math.h>") ++ word (codes "#include <stddef.h>")
    ++ word (codes "#include <stdint.h>") ++ word (codes "#include <stdlib.h>")

-- `KIND * NAME = ( KIND * ) FROM ;`, by which a function takes the instance or the model from its argument FROM
unfoldable pub cast_words : List ℕ → List ℕ → List ℕ → ℕ → List Word
cast_words kind name from k =
    word (numbered kind k) ++ word (codes "*") ++ word name ++ template (codes "= (")
    ++ word (numbered kind k) ++ template (codes "* )") ++ word from ++ word (codes ";")

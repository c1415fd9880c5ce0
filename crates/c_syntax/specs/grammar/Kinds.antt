-- The kind of a token of a C file, by its own kind and its bytes.
use Rattle.std.specs.Prelude.{ℕ, Bool, false, not, ◌+◌, ◌==◌, ◌&&◌, List, [], ◌∷◌, ◌++◌, codes, map, drop, take, get_or, Option, Some, None, if◌then◌else◌}
use Rattle.std.specs.Option.{unwrap_or, is_some}
use Rattle.std.specs.List.{list_all, prefix_len}
use Rattle.std.specs.Str.{bytes_eq}
use Rattle.va_base.specs.Spelling.{is_digit, is_empty}
use Rattle.va_base.specs.Numerals.{decimal_of}
use Rattle.c_tree.specs.Words.{Word, template, include_words}
use Rattle.c_tree.specs.declared.token.CTokenKind.{CTokenKind}
use Rattle.c_tree.specs.declared.token.CTokenKind.TheVariants.{Include, Word as OfWord, Field, Integer, Unsigned, Real, Text, Mark}
use Rattle.c_tree.specs.declared.token.CToken.{CToken}
use Rattle.c_tree.specs.tokens.Tokens.{bytes_of}
use Rattle.c_tree.specs.tokens.Limits.{has_no_leading_zero, is_at_most}
use Rattle.c_syntax.specs.grammar.Names.{mark_names, word_names, field_names, place_of}

-- the kind of a name that stands in angle brackets, by its place
abbrev pub other : ℕ
other = 1

-- the number in a name: digits without a leading zero, at most 4294967295
abbrev pub is_number_in_name : List ℕ → Bool
is_number_in_name digits =
    not (is_empty digits) && list_all is_digit digits && has_no_leading_zero digits && is_at_most 4294967295 (decimal_of digits)

-- what follows a number in a name: `_` and a number
abbrev pub is_second_number : List ℕ → Bool
is_second_number [] = false
is_second_number (c ∷ rest) = c == 95 && is_number_in_name rest

-- two numbers with `_` between them
abbrev pub are_two_numbers : List ℕ → Bool
are_two_numbers bytes =
    is_number_in_name (take (prefix_len is_digit bytes) bytes) && is_second_number (drop (prefix_len is_digit bytes) bytes)

abbrev pub is_no_digit : ℕ → Bool
is_no_digit byte = not (is_digit byte)

-- the names that end with one number, without it, and the kind of each
unfoldable pub numbered_names : List Word
numbered_names =
    template (codes "v a p g r q er eq o h model_ inst_ access_ setup_model_ setup_instance_ eval_ load_residual_resist_")
    ++ template (codes "load_residual_react_ load_jacobian_resist_ load_jacobian_react_ load_jacobian_tran_ load_spice_rhs_dc_")
    ++ template (codes "load_spice_rhs_tran_ nodes_ entries_ collapse_ params_")

abbrev pub numbered_kinds : List ℕ
numbered_kinds = 12 ∷ 13 ∷ 14 ∷ 14 ∷ 14 ∷ 14 ∷ 14 ∷ 14 ∷ 14 ∷ 14 ∷ 16 ∷ 17 ∷ 18 ∷ 19 ∷ 20 ∷ 21 ∷ 22 ∷ 23 ∷ 24 ∷ 25 ∷ 26 ∷ 27 ∷ 28 ∷ 29 ∷ 30 ∷ 31 ∷ 32 ∷ []

-- the kind with this place in a list
abbrev pub kind_with_place : List ℕ → Option ℕ → Option ℕ
kind_with_place kinds None = None
kind_with_place kinds (Some place) = Some (get_or kinds place 1)

-- the kind of a function of a module, by its numbers
abbrev pub function_kind : List ℕ → Option ℕ
function_kind numbers = if are_two_numbers numbers then Some 15 else None

-- the kind of a name that ends with a number, by what stands before its first digit and by the rest
abbrev pub numbered_kind : Word → List ℕ → Option ℕ
numbered_kind name rest =
    if bytes_eq name (codes "fn_") then function_kind rest
    else (if is_number_in_name rest then kind_with_place numbered_kinds (place_of numbered_names name) else None)

-- the functions of C's library
unfoldable pub function_names : List Word
function_names = template (codes "exp log log10 sqrt sin cos tan asin acos atan sinh cosh tanh asinh acosh atanh floor ceil pow atan2 hypot")

-- a kind by its place among names that are numbered from some number on, or else another
abbrev pub kind_from : ℕ → Option ℕ → ℕ → ℕ
kind_from first None kind = kind
kind_from first (Some place) kind = first + place

-- the kind of a word that has no number
abbrev pub plain_word_kind : Word → ℕ
plain_word_kind word = kind_from 65 (place_of word_names word) (if is_some (place_of function_names word) then 11 else other)

-- the kind of a word
abbrev pub word_kind : Word → ℕ
word_kind word =
    unwrap_or (numbered_kind (take (prefix_len is_no_digit word) word) (drop (prefix_len is_no_digit word) word)) (plain_word_kind word)

abbrev pub integer_kind : Word → ℕ
integer_kind word = if bytes_eq word (codes "0") then 33 else (if bytes_eq word (codes "1") then 34 else 8)

abbrev pub unsigned_kind : Word → ℕ
unsigned_kind word =
    if bytes_eq word (codes "0u") then 35 else (if bytes_eq word (codes "1u") then 36 else (if bytes_eq word (codes "3u") then 37 else 9))

-- the kind of a token
abbrev pub kind_of : CTokenKind → Word → ℕ
kind_of Include word = kind_from 2 (place_of include_words word) other
kind_of OfWord word = word_kind word
kind_of Field word = kind_from 135 (place_of field_names word) other
kind_of Integer word = integer_kind word
kind_of Unsigned word = unsigned_kind word
kind_of Real word = 10
kind_of Text word = 7
kind_of Mark word = kind_from 38 (place_of mark_names word) other

-- the kind of a token of a text
abbrev pub kind_in : List ℕ → CToken → ℕ
kind_in text token = kind_of token.kind (bytes_of text token)

-- the kinds of tokens of a text, and that of its end
abbrev pub kinds_of : List ℕ → List CToken → List ℕ
kinds_of text tokens = map (kind_in text) tokens ++ 0 ∷ []

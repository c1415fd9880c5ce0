-- What the tokens of a C text stand for, by their indices: numbers, names and strings.
use Rattle.std.specs.Prelude.{ℕ, zero, suc, pos, ◌+◌, ◌-◌, ◌*◌, ◌==◌, ◌&&◌, nat_le, Bool, if◌then◌else◌, List, [], ◌∷◌, ◌++◌, codes, take, drop, length, get_or, Option, Some, None, slice_get}
use Rattle.std.specs.List.{prefix_len}
use Rattle.std.specs.Option.{unwrap_or}
use Rattle.std.specs.Str.{bytes_eq}
use Rattle.alg_laws.specs.declared.function.Fun1.TheVariants.{Exp, Ln, Log, Sqrt, Sin, Cos, Tan, Asin, Acos, Atan, Sinh, Cosh, Tanh, Asinh, Acosh, Atanh, Floor, Ceil}
use Rattle.alg_laws.specs.declared.function.Fun2.TheVariants.{Pow, Atan2, Hypot}
use Rattle.va_base.specs.declared.exact.Decimal.{Decimal}
use Rattle.va_base.specs.Numerals.{number_of, decimal_of}
use Rattle.va_base.specs.Spelling.{is_digit}
use Rattle.c_tree.specs.declared.body.CCallee.{CCallee}
use Rattle.c_tree.specs.declared.body.CCallee.TheVariants.{Fun1, Fun2}
use Rattle.c_tree.specs.declared.body.CField.{CField}
use Rattle.c_tree.specs.declared.body.CField.TheVariants.{Param, Given, Resist, React, EntryResist, EntryReact, OpVar, Stored, Temperature}
use Rattle.c_tree.specs.declared.token.CToken.{CToken}
use Rattle.c_tree.specs.tokens.Tokens.{bytes_of}
use Rattle.c_tree.specs.Raw.{At}
use Rattle.c_syntax.specs.grammar.Names.{place_of}
use Rattle.c_syntax.specs.grammar.Kinds.{function_names, is_no_digit, kind_in}

-- the bytes of a text, and its tokens
pub record CText : Type 0 where
  pub bytes : List ℕ
  pub tokens : List CToken

abbrev pub word_of : CText → Option CToken → List ℕ
word_of text None = []
word_of text (Some token) = bytes_of text.bytes token

-- the bytes of the token with this index; none where there is no such token
abbrev pub word_at : CText → ℕ → List ℕ
word_at text i = word_of text (slice_get text.tokens i)

-- the number that the digits of a token give, as of `3`, `3u`, `v3` and `inst_3`
abbrev pub number_at : CText → ℕ → ℕ
number_at text i = number_of (word_at text i)

-- with its index
abbrev pub numbered_at : CText → ℕ → At ℕ
numbered_at text i = record { at = i; value = number_at text i }

-- how many bytes of a name `fn_0_1` stand before its second number, behind `fn_`
abbrev pub first_len : List ℕ → ℕ
first_len word = prefix_len is_digit (drop 3 word)

-- the two numbers of a name `fn_0_1`: the module's, and the function's
abbrev pub first_number : List ℕ → ℕ
first_number word = number_of (take (first_len word) (drop 3 word))

abbrev pub second_number : List ℕ → ℕ
second_number word = number_of (drop (first_len word) (drop 3 word))

-- the function's number of a name `fn_0_1`
unfoldable pub function_at : CText → ℕ → ℕ
function_at text i = second_number (word_at text i)

abbrev pub number_zero : Decimal
number_zero = record { mantissa = 0; power = pos 0 }

-- the exact value of a real
unfoldable pub real_at : CText → ℕ → Decimal
real_at text i = unwrap_or (decimal_of (word_at text i)) number_zero

-- what stands before the first digit
abbrev pub letters_of : List ℕ → List ℕ
letters_of word = take (prefix_len is_no_digit word) word

-- a field of a struct by its letters and its number; the one without a number is the temperature
abbrev pub field_lettered : List ℕ → ℕ → CField
field_lettered letters n =
    if bytes_eq letters (codes "p") then Param n
    else (if bytes_eq letters (codes "g") then Given n
    else (if bytes_eq letters (codes "r") then Resist n
    else (if bytes_eq letters (codes "q") then React n
    else (if bytes_eq letters (codes "er") then EntryResist n
    else (if bytes_eq letters (codes "eq") then EntryReact n
    else (if bytes_eq letters (codes "o") then OpVar n
    else (if bytes_eq letters (codes "h") then Stored n else Temperature)))))))

-- the field that a token names
unfoldable pub field_at : CText → ℕ → CField
field_at text i = field_lettered (letters_of (word_at text i)) (number_at text i)

-- the functions of C's library, in the order of their names (see `function_names`)
abbrev pub library_functions : List CCallee
library_functions =
    Fun1 Exp ∷ Fun1 Ln ∷ Fun1 Log ∷ Fun1 Sqrt ∷ Fun1 Sin ∷ Fun1 Cos ∷ Fun1 Tan ∷ Fun1 Asin ∷ Fun1 Acos ∷ Fun1 Atan ∷ Fun1 Sinh ∷
    Fun1 Cosh ∷ Fun1 Tanh ∷ Fun1 Asinh ∷ Fun1 Acosh ∷ Fun1 Atanh ∷ Fun1 Floor ∷ Fun1 Ceil ∷ Fun2 Pow ∷ Fun2 Atan2 ∷ Fun2 Hypot ∷ []

-- the function of C's library that a token names
unfoldable pub library_function_at : CText → ℕ → CCallee
library_function_at text i =
    get_or library_functions (unwrap_or (place_of function_names (word_at text i)) 0) (Fun1 Exp)

-- the byte that three octal digits give
abbrev pub octal : ℕ → ℕ → ℕ → ℕ
octal a b c = 64 * (a - 48) + 8 * (b - 48) + (c - 48)

-- The bytes that stand between the quotes of a string, one by one: `\` and three octal digits give one byte, and each other byte gives itself.
abbrev pub string_bytes : List ℕ → List ℕ
string_bytes [] = []
string_bytes (a ∷ []) = a ∷ []
string_bytes (a ∷ b ∷ []) = a ∷ b ∷ []
string_bytes (a ∷ b ∷ c ∷ []) = a ∷ b ∷ c ∷ []
string_bytes (a ∷ b ∷ c ∷ d ∷ rest) = if a == 92 then octal b c d ∷ string_bytes rest else a ∷ string_bytes (b ∷ c ∷ d ∷ rest)

-- what stands between the quotes
abbrev pub between_quotes : List ℕ → List ℕ
between_quotes word = take (length word - 2) (drop 1 word)

-- the bytes that a string stands for
unfoldable pub string_at : CText → ℕ → List ℕ
string_at text i = string_bytes (between_quotes (word_at text i))

-- The kinds of the names that hold a module's number: `fn_0_1` is the first of them, `params_0` the last.
unfoldable pub has_module_number : ℕ → Bool
has_module_number kind = nat_le 15 kind && nat_le kind 32

-- the module's number in a name of this kind
unfoldable pub module_number : ℕ → List ℕ → ℕ
module_number kind word = if kind == 15 then first_number word else number_of word

-- the module's number in the token with this index, if it holds one
abbrev pub module_numbers_of : CText → ℕ → Option CToken → List (At ℕ)
module_numbers_of text i None = []
module_numbers_of text i (Some token) =
    if has_module_number (kind_in text.bytes token)
    then record { at = i; value = module_number (kind_in text.bytes token) (bytes_of text.bytes token) } ∷ [] else []

-- the module's number in each C name among so many tokens from one on
abbrev pub module_numbers : CText → ℕ → ℕ → List (At ℕ)
module_numbers text first zero = []
module_numbers text first (suc n) = module_numbers_of text first (slice_get text.tokens first) ++ module_numbers text (first + 1) n

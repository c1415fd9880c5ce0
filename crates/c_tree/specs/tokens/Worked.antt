-- Rows that were worked out by hand: texts, and what their bytes give.
use Rattle.std.specs.Prelude.{◌≡◌, ℕ, List, [], ◌∷◌, ◌++◌, codes, Some, None}
use Rattle.c_tree.specs.declared.token.CToken.{CToken}
use Rattle.c_tree.specs.declared.token.CTokenKind.{CTokenKind}
use Rattle.c_tree.specs.declared.token.CTokenKind.TheVariants as kind
use Rattle.c_tree.specs.tokens.Tokens.{CTokens, c_tokens_of}

-- a token: its kind, the index of its first byte, and its length
abbrev pub token : CTokenKind → ℕ → ℕ → CToken
token kind first len = record { kind = kind; first = first; len = len }

abbrev pub include : ℕ → ℕ → CToken
include = token kind.Include

abbrev pub word : ℕ → ℕ → CToken
word = token kind.Word

abbrev pub field : ℕ → ℕ → CToken
field = token kind.Field

abbrev pub integer : ℕ → ℕ → CToken
integer = token kind.Integer

abbrev pub unsigned : ℕ → ℕ → CToken
unsigned = token kind.Unsigned

abbrev pub real : ℕ → ℕ → CToken
real = token kind.Real

abbrev pub text : ℕ → ℕ → CToken
text = token kind.Text

abbrev pub mark : ℕ → ℕ → CToken
mark = token kind.Mark

-- a text of these tokens
abbrev pub all : List CToken → CTokens
all tokens = record { tokens = tokens; bad = None }

-- a text of these tokens up to the byte with this index, which begins none
abbrev pub up_to : ℕ → List CToken → CTokens
up_to at tokens = record { tokens = tokens; bad = Some at }

-- bytes that show no letter
abbrev pub line_end : List ℕ
line_end = 10 ∷ []

abbrev pub carriage_return : List ℕ
carriage_return = 13 ∷ []

abbrev pub tab : List ℕ
tab = 9 ∷ []

pub record WorkedTokens : Type 0 where
  pub longest_marks : c_tokens_of (codes "<=->&&") ≡ all (mark 0 2 ∷ mark 2 2 ∷ mark 4 2 ∷ [])
  pub marks_are_not_joined :
      c_tokens_of (codes "++||<<=")
      ≡ all (mark 0 1 ∷ mark 1 1 ∷ mark 2 1 ∷ mark 3 1 ∷ mark 4 1 ∷ mark 5 2 ∷ [])
  pub compound_marks : c_tokens_of (codes "+=-=*=") ≡ all (mark 0 2 ∷ mark 2 2 ∷ mark 4 1 ∷ mark 5 1 ∷ [])
  pub arrow_after_minus : c_tokens_of (codes "-->") ≡ all (mark 0 1 ∷ mark 1 2 ∷ [])
  pub equal_signs : c_tokens_of (codes "===!==") ≡ all (mark 0 2 ∷ mark 2 1 ∷ mark 3 2 ∷ mark 5 1 ∷ [])
  pub brackets :
      c_tokens_of (codes "(){}[];,")
      ≡ all (mark 0 1 ∷ mark 1 1 ∷ mark 2 1 ∷ mark 3 1 ∷ mark 4 1 ∷ mark 5 1 ∷ mark 6 1 ∷ mark 7 1 ∷ [])
  pub operators_apart :
      c_tokens_of (codes "= + - / % < > ! & | *")
      ≡ all (mark 0 1 ∷ mark 2 1 ∷ mark 4 1 ∷ mark 6 1 ∷ mark 8 1 ∷ mark 10 1 ∷ mark 12 1 ∷ mark 14 1 ∷ mark 16 1 ∷ mark 18 1 ∷ mark 20 1 ∷ [])
  pub number_before_word : c_tokens_of (codes "3x") ≡ all (integer 0 1 ∷ word 1 1 ∷ [])
  pub unsigned_before_word : c_tokens_of (codes "3ue5") ≡ all (unsigned 0 2 ∷ word 2 2 ∷ [])
  pub words_are_not_split : c_tokens_of (codes "constint32_t") ≡ all (word 0 12 ∷ [])
  pub word_with_digits : c_tokens_of (codes "_a1 B_2") ≡ all (word 0 3 ∷ word 4 3 ∷ [])
  pub power_needs_digits : c_tokens_of (codes "3e") ≡ all (integer 0 1 ∷ word 1 1 ∷ [])
  pub power_has_no_plus :
      c_tokens_of (codes "3e+5")
      ≡ all (integer 0 1 ∷ word 1 1 ∷ mark 2 1 ∷ integer 3 1 ∷ [])
  pub power_letter_is_small : c_tokens_of (codes "1E5") ≡ all (integer 0 1 ∷ word 1 2 ∷ [])
  pub power_of_minus_alone :
      c_tokens_of (codes "3e-x")
      ≡ all (integer 0 1 ∷ word 1 1 ∷ mark 2 1 ∷ word 3 1 ∷ [])
  pub real_number : c_tokens_of (codes "15e-4") ≡ all (real 0 5 ∷ [])
  pub zero_real : c_tokens_of (codes "0e5 0e0") ≡ all (real 0 3 ∷ real 4 3 ∷ [])
  pub zeros : c_tokens_of (codes "0 0u") ≡ all (integer 0 1 ∷ unsigned 2 2 ∷ [])
  pub greatest_integer : c_tokens_of (codes "2147483647") ≡ all (integer 0 10 ∷ [])
  pub integer_past : c_tokens_of (codes "2147483648") ≡ up_to 0 ([])
  pub greatest_unsigned : c_tokens_of (codes "4294967295u") ≡ all (unsigned 0 11 ∷ [])
  pub unsigned_past : c_tokens_of (codes "4294967296u") ≡ up_to 0 ([])
  pub real_of_large_digits :
      c_tokens_of (codes "2147483648e0 2147483648u")
      ≡ all (real 0 12 ∷ unsigned 13 11 ∷ [])
  pub greatest_power : c_tokens_of (codes "1e9999 1e-9999") ≡ all (real 0 6 ∷ real 7 7 ∷ [])
  pub power_past : c_tokens_of (codes "1e10000") ≡ up_to 0 ([])
  pub power_past_below : c_tokens_of (codes "x 1e-10000") ≡ up_to 2 (word 0 1 ∷ [])
  pub greatest_mantissa :
      c_tokens_of (codes "170141183460469231731687303715884105727e0")
      ≡ all (real 0 41 ∷ [])
  pub mantissa_past : c_tokens_of (codes "170141183460469231731687303715884105728e0") ≡ up_to 0 ([])
  pub leading_zero : c_tokens_of (codes "a 00") ≡ up_to 2 (word 0 1 ∷ [])
  pub leading_zero_of_unsigned : c_tokens_of (codes "03u") ≡ up_to 0 ([])
  pub leading_zero_of_real : c_tokens_of (codes "01e3") ≡ up_to 0 ([])
  pub leading_zero_of_power : c_tokens_of (codes "1e03") ≡ up_to 0 ([])
  pub leading_zero_of_negative_power : c_tokens_of (codes "1e-03") ≡ up_to 0 ([])
  pub minus_before_power_0 : c_tokens_of (codes "1e-0") ≡ up_to 0 ([])
  pub minus_before_number : c_tokens_of (codes "-1") ≡ all (mark 0 1 ∷ integer 1 1 ∷ [])
  pub field_names : c_tokens_of (codes ".name .payload.parameter_id") ≡ all (field 0 5 ∷ field 6 21 ∷ [])
  pub point_and_space : c_tokens_of (codes "a . name") ≡ up_to 2 (word 0 1 ∷ [])
  pub point_and_digit : c_tokens_of (codes ".5") ≡ up_to 0 ([])
  pub point_behind_field : c_tokens_of (codes ".a.5") ≡ up_to 2 (field 0 2 ∷ [])
  pub field_behind_word : c_tokens_of (codes "a.b") ≡ all (word 0 1 ∷ field 1 2 ∷ [])
  pub string : c_tokens_of (codes "\"a b\" \"\"") ≡ all (text 0 5 ∷ text 6 2 ∷ [])
  pub strings_with_marks : c_tokens_of (codes "\"#include;\" x") ≡ all (text 0 11 ∷ word 12 1 ∷ [])
  pub string_with_escapes : c_tokens_of (codes "\"\\042\\377\\000\"") ≡ all (text 0 14 ∷ [])
  pub escape_of_a_plain_byte : c_tokens_of (codes "x \"\\101\"") ≡ up_to 2 (word 0 1 ∷ [])
  pub escape_past_a_byte : c_tokens_of (codes "\"\\400\"") ≡ up_to 0 ([])
  pub escape_of_two_digits : c_tokens_of (codes "\"\\01\"") ≡ up_to 0 ([])
  pub escape_in_hexadecimal : c_tokens_of (codes "\"\\x41\"") ≡ up_to 0 ([])
  pub escaped_quote : c_tokens_of (codes "\"\\\"\"") ≡ up_to 0 ([])
  pub bare_question_mark : c_tokens_of (codes "\"a?\"") ≡ up_to 0 ([])
  pub bare_backquote : c_tokens_of (codes "\"`\"") ≡ up_to 0 ([])
  pub string_without_end : c_tokens_of (codes "a \"b") ≡ up_to 2 (word 0 1 ∷ [])
  pub string_over_lines : c_tokens_of (codes "\"a" ++ line_end ++ codes "b\"") ≡ up_to 0 ([])
  pub include_to_line_end :
      c_tokens_of (codes "#include <math.h>" ++ line_end ++ codes "x")
      ≡ all (include 0 17 ∷ word 18 1 ∷ [])
  pub include_alone : c_tokens_of (codes "#include") ≡ all (include 0 8 ∷ [])
  pub include_of_any_bytes : c_tokens_of (codes "#includex  \"y\"") ≡ all (include 0 14 ∷ [])
  pub include_behind_word : c_tokens_of (codes "x#include y") ≡ all (word 0 1 ∷ include 1 10 ∷ [])
  pub include_with_carriage_return :
      c_tokens_of (codes "#include <math.h>" ++ carriage_return ++ line_end ++ codes "x")
      ≡ all (include 0 18 ∷ word 19 1 ∷ [])
  pub hash_alone : c_tokens_of (codes "x # include") ≡ up_to 2 (word 0 1 ∷ [])
  pub hash_define : c_tokens_of (codes "#define A") ≡ up_to 0 ([])
  pub tab_separates_nothing : c_tokens_of (codes "a" ++ tab ++ codes "b") ≡ up_to 1 (word 0 1 ∷ [])
  pub carriage_return_separates_nothing :
      c_tokens_of (codes "a" ++ carriage_return ++ line_end ++ codes "b")
      ≡ up_to 1 (word 0 1 ∷ [])
  pub line_end_separates :
      c_tokens_of (codes "a" ++ line_end ++ codes "b" ++ line_end)
      ≡ all (word 0 1 ∷ word 2 1 ∷ [])
  pub dollar : c_tokens_of (codes "$x") ≡ up_to 0 ([])
  pub other_bytes : c_tokens_of (codes "a : b") ≡ up_to 2 (word 0 1 ∷ [])
  pub question_mark : c_tokens_of (codes "?") ≡ up_to 0 ([])
  pub no_bytes : c_tokens_of [] ≡ all ([])
  pub spaces_alone : c_tokens_of (codes "  " ++ line_end ++ codes " ") ≡ all ([])

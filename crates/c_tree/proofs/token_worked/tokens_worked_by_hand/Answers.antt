use Rattle.std.proofs.Common.{refl}
use Rattle.va_base.specs.Longest.{longest}
use Rattle.va_base.specs.Spelling.{is_numeral}
use Rattle.va_base.specs.Numerals.{number_of, digit_count, value_of, decimal_of}
use Rattle.c_tree.specs.tokens.Tokens.{front_len, tokens_from}
use Rattle.c_tree.proofs.token_worked.tokens_worked_by_hand.Goals as goal

-- each row by computation
pub returns : goal.returns
unfolding longest is_numeral number_of digit_count value_of decimal_of front_len tokens_from
returns c = record {
  longest_marks = refl;
  marks_are_not_joined = refl;
  compound_marks = refl;
  arrow_after_minus = refl;
  equal_signs = refl;
  brackets = refl;
  operators_apart = refl;
  number_before_word = refl;
  unsigned_before_word = refl;
  words_are_not_split = refl;
  word_with_digits = refl;
  power_needs_digits = refl;
  power_has_no_plus = refl;
  power_letter_is_small = refl;
  power_of_minus_alone = refl;
  real_number = refl;
  zero_real = refl;
  zeros = refl;
  greatest_integer = refl;
  integer_past = refl;
  greatest_unsigned = refl;
  unsigned_past = refl;
  real_of_large_digits = refl;
  greatest_power = refl;
  power_past = refl;
  power_past_below = refl;
  greatest_mantissa = refl;
  mantissa_past = refl;
  leading_zero = refl;
  leading_zero_of_unsigned = refl;
  leading_zero_of_real = refl;
  leading_zero_of_power = refl;
  leading_zero_of_negative_power = refl;
  minus_before_power_0 = refl;
  minus_before_number = refl;
  field_names = refl;
  point_and_space = refl;
  point_and_digit = refl;
  point_behind_field = refl;
  field_behind_word = refl;
  string = refl;
  strings_with_marks = refl;
  string_with_escapes = refl;
  escape_of_a_plain_byte = refl;
  escape_past_a_byte = refl;
  escape_of_two_digits = refl;
  escape_in_hexadecimal = refl;
  escaped_quote = refl;
  bare_question_mark = refl;
  bare_backquote = refl;
  string_without_end = refl;
  string_over_lines = refl;
  include_to_line_end = refl;
  include_alone = refl;
  include_of_any_bytes = refl;
  include_behind_word = refl;
  include_with_carriage_return = refl;
  hash_alone = refl;
  hash_define = refl;
  tab_separates_nothing = refl;
  carriage_return_separates_nothing = refl;
  line_end_separates = refl;
  dollar = refl;
  other_bytes = refl;
  question_mark = refl;
  no_bytes = refl;
  spaces_alone = refl;
}

-- What the words of a print give back: each number, real, string, field and function that a file spells is read from its word.
use Rattle.std.specs.Prelude.{◌≡◌, ℕ, true, List, decimal, Some, get_or}
use Rattle.std.specs.List.{list_all}
use Rattle.std.specs.Option.{unwrap_or}
use Rattle.alg_laws.specs.declared.function.Fun1.{Fun1}
use Rattle.alg_laws.specs.declared.function.Fun1.TheVariants.{Exp}
use Rattle.alg_laws.specs.declared.function.Fun2.{Fun2}
use Rattle.va_base.specs.declared.exact.Decimal.{Decimal}
use Rattle.va_base.specs.Numerals.{number_of, decimal_of, is_within_limits}
use Rattle.c_tree.specs.declared.body.CCallee.{CCallee}
use Rattle.c_tree.specs.declared.body.CCallee.TheVariants as callee
use Rattle.c_tree.specs.declared.body.CField.{CField}
use Rattle.c_tree.specs.Spelling.{is_unsigned, is_integer, are_bytes, spells_field, is_field_name}
use Rattle.c_tree.specs.Text.{field_word, fun1_word, fun2_word, function_word}
use Rattle.c_tree.specs.Words.{Word, numbered, unsigned, real_word, string_word}
use Rattle.c_syntax.specs.grammar.Names.{place_of}
use Rattle.c_syntax.specs.grammar.Kinds.{is_no_digit, function_names}
use Rattle.c_raw_build.specs.Words.{first_number, second_number, letters_of, field_lettered, library_functions, string_bytes, between_quotes}

-- the field that a word names
abbrev pub field_in : Word → CField
field_in w = field_lettered (letters_of w) (number_of w)

-- the function of C's library that a word names
abbrev pub library_function : Word → CCallee
library_function w = get_or library_functions (unwrap_or (place_of function_names w) 0) (callee.Fun1 Exp)

pub record WordsGiveBack : Type 0 where
  pub integers : (n : ℕ) → is_integer n ≡ true → number_of (decimal n) ≡ n
  pub numbers : (n : ℕ) → is_unsigned n ≡ true → number_of (unsigned n) ≡ n
  -- of a name that holds no digit and the number behind it
  pub numbered_names : (name : List ℕ) (n : ℕ) → list_all is_no_digit name ≡ true → is_unsigned n ≡ true → number_of (numbered name n) ≡ n
  pub reals : (d : Decimal) → is_within_limits d ≡ true → decimal_of (real_word d.mantissa d.power) ≡ Some d
  pub strings : (bytes : List ℕ) → are_bytes bytes ≡ true → string_bytes (between_quotes (string_word bytes)) ≡ bytes
  pub fields : (f : CField) → spells_field f ≡ true → field_in (field_word f) ≡ f
  pub field_names : (name : List ℕ) → is_field_name name ≡ true → field_word (field_in name) ≡ name
  -- a function of a module, by its module's number and its own
  pub modules : (k j : ℕ) → is_unsigned k ≡ true → is_unsigned j ≡ true → first_number (function_word k j) ≡ k
  pub functions : (k j : ℕ) → is_unsigned k ≡ true → is_unsigned j ≡ true → second_number (function_word k j) ≡ j
  pub one_argument : (f : Fun1) → library_function (fun1_word f) ≡ callee.Fun1 f
  pub two_arguments : (f : Fun2) → library_function (fun2_word f) ≡ callee.Fun2 f

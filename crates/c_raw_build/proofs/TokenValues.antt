-- What the tokens of a text spell is within the limits of its reader.
use Rattle.std.proofs.Common.{◌≡◌, ◌<◌, ◌≤◌, ◌+◌, ◌-◌, ◌*◌, ◌^◌, ℕ, zero, suc, List, [], ◌∷◌, length, take, drop, drop-cons, get_or, fold, refl, ap, sym, subst, ◌∙◌, arith, None, eq-eqb}
use Rattle.std.specs.Prelude.{Bool, true, false, ◌≢◌, ◌||◌, if◌then◌else◌, nat_eq, nat_le, nat_lt, codes}
use Rattle.std.specs.Option.{is_some}
use Rattle.std.proofs.lemmas.Bool.{and_parts}
use Rattle.std.proofs.lemmas.Bool.Decides.{nat_tests}
use Rattle.std.proofs.lemmas.List.{take_rest}
use Rattle.std.specs.List.{prefix_len}
use Rattle.va_base.specs.Spelling.{is_digit}
use Rattle.va_base.specs.Numerals.{number_of, decimal_of}
use Rattle.va_base.proofs.NumberOf.{next_number}
use Rattle.va_base.proofs.Tests.{true_not_false}
use Rattle.c_tree.specs.Words.{Word}
use Rattle.c_tree.specs.Spelling.{are_bytes, is_unsigned, is_integer}
use Rattle.c_tree.specs.tokens.Spelling.{token_kind}
use Rattle.c_tree.specs.tokens.Tokens.{bytes_of}
use Rattle.c_syntax.specs.grammar.Kinds.{kind_of}
use Rattle.c_syntax.proofs.Tables.{numbers_from}
use Rattle.predict.specs.Table.{is_among}
use Rattle.c_raw_build.specs.Due.{IsOfKind, HasToken, HasOneOf, IsThere}
use Rattle.c_raw_build.specs.TokenKinds as token_kinds
use Rattle.c_raw_build.specs.Words.{CText, word_of, word_at, has_module_number, first_number, second_number, string_bytes, between_quotes}
use Rattle.c_raw_build.proofs.DueRows.{Each, each_at}
use Rattle.c_raw_build.proofs.NameNumbers.{name_value, function_name, temp_word}
use Rattle.c_raw_build.proofs.Numbers.{unsigned_value, integer_value, real_spelled}
use Rattle.c_raw_build.proofs.Strings.{string_value}

-- the word of a token that stands in the text
word_is : {text : CText} {at k : ℕ} (h : HasToken text at k) → word_at text at ≡ bytes_of text.bytes h.token
word_is {text} {at} {k} h = ap (word_of text) h.there

of_kind : {text : CText} {at k : ℕ} → HasToken text at k → IsOfKind k (word_at text at)
of_kind {text} {at} {k} h = subst (IsOfKind k) (sym (word_is h)) h.of_kind

-- what holds of each of the kinds that a token can be of
by_kind : {text : CText} {at : ℕ} (P : Word → Type 0) (kinds : List ℕ) → HasOneOf text at kinds → Each (λ (k : ℕ). IsOfKind k (word_at text at) → P (word_at text at)) kinds
    → P (word_at text at)
by_kind {text} {at} P kinds h each = each_at (λ (k : ℕ). IsOfKind k (word_at text at) → P (word_at text at)) kinds h.kind each h.is_one (of_kind h.has)

pub one_there : {text : CText} {at : ℕ} {kinds : List ℕ} → HasOneOf text at kinds → IsThere text at
one_there h = record { kind = h.kind; has = h.has }

lt_of : (m n : ℕ) → nat_lt m n ≡ true → m < n
lt_of m n h = grind (arith, nat_tests)

unsigned_less : (n : ℕ) → is_unsigned n ≡ true → n < 2 ^ 32
unsigned_less n h = lt_of n (2 ^ 32) h

integer_less : (n : ℕ) → is_integer n ≡ true → n < 2 ^ 32
integer_less n h = let less : n < 2 ^ 31 = lt_of n (2 ^ 31) h in omega (arith, less)

-- numbers, locals and arguments are of 32 bits
pub number_fits : {text : CText} {at : ℕ} → HasOneOf text at token_kinds.numbers → number_of (word_at text at) < 2 ^ 32
number_fits {text} {at} h =
    let w : Word = word_at text at in
    let n : ℕ = number_of w in
    by_kind (λ (v : Word). number_of v < 2 ^ 32) token_kinds.numbers h (
      λ k. integer_less n (integer_value 8 w refl k),
      (
        λ k. unsigned_less n (unsigned_value 9 w refl k),
        (
          λ k. unsigned_less n (name_value 12 w refl refl refl k),
          (
            λ k. unsigned_less n (name_value 13 w refl refl refl k),
            (
              λ k. integer_less n (integer_value 33 w refl k),
              (
                λ k. integer_less n (integer_value 34 w refl k),
                (
                  λ k. unsigned_less n (unsigned_value 35 w refl k),
                  (
                    λ k. unsigned_less n (unsigned_value 36 w refl k),
                    (λ k. unsigned_less n (unsigned_value 37 w refl k), tt),
                  ),
                ),
              ),
            ),
          ),
        ),
      ),
    )

no_number : number_of (codes "temp") ≡ 0
unfolding number_of
no_number = refl

-- a field's number is
pub field_fits : {text : CText} {at : ℕ} → HasOneOf text at token_kinds.fields → number_of (word_at text at) < 2 ^ 32
field_fits {text} {at} h =
    let w : Word = word_at text at in
    by_kind (λ (v : Word). number_of v < 2 ^ 32) token_kinds.fields h (
      λ k. unsigned_less (number_of w) (name_value 14 w refl refl refl k),
      (λ k. (let none : number_of w ≡ 0 = ap number_of (temp_word w k) ∙ no_number in omega (arith, none)), tt),
    )

-- the second number in the name of a module's function is
pub record FunctionFits (w : Word) : Type 0 where
  pub long : 3 ≤ length w
  pub first : first_number w < 2 ^ 32
  pub second : second_number w < 2 ^ 32

pub function_word_fits : (w : Word) → IsOfKind 15 w → FunctionFits w
function_word_fits w k =
    let name = function_name w k in
    record { long = name.long; first = unsigned_less (first_number w) name.first; second = unsigned_less (second_number w) name.second }

pub function_fits : {text : CText} {at : ℕ} → HasOneOf text at token_kinds.module_functions → FunctionFits (word_at text at)
function_fits {text} {at} h = by_kind FunctionFits token_kinds.module_functions h (function_word_fits (word_at text at), tt)

-- a real has a value within the limits
pub real_fits : {text : CText} {at : ℕ} → HasOneOf text at token_kinds.reals → decimal_of (word_at text at) ≡ None → ⊥
real_fits {text} {at} h none =
    true_not_false (by_kind (λ (v : Word). is_some (decimal_of v) ≡ true) token_kinds.reals h (real_spelled (word_at text at), tt)) (ap is_some none)

-- a string gives bytes
pub string_fits : {text : CText} {at : ℕ} → HasOneOf text at token_kinds.strings → are_bytes (string_bytes (between_quotes (word_at text at))) ≡ true
string_fits {text} {at} h = by_kind (λ (v : Word). are_bytes (string_bytes (between_quotes v)) ≡ true) token_kinds.strings h (string_value (word_at text at), tt)

-- Numbers from their digits.

grown : (b : Bool) (n d : ℕ) → n ≤ (if b then 10 * n + d else n)
grown true n d = omega arith
grown false n d = omega arith

fold_grows : (a : ℕ) (xs : List ℕ) → a ≤ fold next_number a xs
fold_grows a [] = omega arith
fold_grows a (x ∷ xs) =
    let more : next_number a x ≤ fold next_number (next_number a x) xs = fold_grows (next_number a x) xs in
    let step : a ≤ next_number a x = grown (is_digit x) a (x - 48) in
    omega arith

-- with one more digit a number is at most the whole
pub digit_fits : (bytes : List ℕ) (i number : ℕ) → i < length bytes → number_of bytes ≡ fold next_number number (drop i bytes) → is_digit (get_or bytes i 0) ≡ true
    → 10 * number + (get_or bytes i 0 - 48) ≤ number_of bytes
digit_fits bytes i number inside whole d =
    let byte : ℕ = get_or bytes i 0 in
    let rest : List ℕ = drop (suc i) bytes in
    let split : number_of bytes ≡ fold next_number number (byte ∷ rest) = whole ∙ ap (fold next_number number) (drop-cons bytes i 0 inside) in
    let step : next_number number byte ≡ 10 * number + (byte - 48) = ap (λ b. if b then 10 * number + (byte - 48) else number) d in
    let grows : next_number number byte ≤ fold next_number (next_number number byte) rest = fold_grows (next_number number byte) rest in
    omega (arith, split, step, grows)

-- Names that hold a module's number.

in_range : (n from k : ℕ) → from ≤ k → k < from + n → is_among (numbers_from from n) k ≡ true
in_range zero from k low high = absurd (omega (arith, low, high))
in_range (suc n) from k low high = by_test (nat_eq k from) refl (λ other. in_range n (suc from) k (omega (arith, low, other)) (omega (arith, high)))
  where
    by_test : (b : Bool) → nat_eq k from ≡ b → (k ≢ from → is_among (numbers_from (suc from) n) k ≡ true) → (b || is_among (numbers_from (suc from) n) k) ≡ true
    by_test true e rest = refl
    by_test false e rest = rest (λ same. true_not_false (eq-eqb k from same) e)

le_of : (m n : ℕ) → nat_le m n ≡ true → m ≤ n
le_of m n h = grind (arith, nat_tests)

-- but for functions, it is the number that their digits give
pub module_name_fits : (k : ℕ) (w : Word) → has_module_number k ≡ true → k ≢ 15 → IsOfKind k w → number_of w < 2 ^ 32
unfolding has_module_number
module_name_fits k w h other is =
    let p = and_parts (nat_le 15 k) (nat_le k 32) h in
    let low : 16 ≤ k = omega (arith, le_of 15 k p.0, other) in
    let high : k < 16 + 17 = omega (arith, le_of k 32 p.1) in
    let n : ℕ = number_of w in
    each_at (λ (j : ℕ). IsOfKind j w → n < 2 ^ 32) (numbers_from 16 17) k (
    (λ i. unsigned_less n (name_value 16 w refl refl refl i), (λ i. unsigned_less n (name_value 17 w refl refl refl i), (λ i. unsigned_less n (name_value 18 w refl refl refl i), (λ i. unsigned_less n (name_value 19 w refl refl refl i), (λ i. unsigned_less n (name_value 20 w refl refl refl i), (λ i. unsigned_less n (name_value 21 w refl refl refl i), (λ i. unsigned_less n (name_value 22 w refl refl refl i), (λ i. unsigned_less n (name_value 23 w refl refl refl i), (λ i. unsigned_less n (name_value 24 w refl refl refl i), (λ i. unsigned_less n (name_value 25 w refl refl refl i), (λ i. unsigned_less n (name_value 26 w refl refl refl i), (λ i. unsigned_less n (name_value 27 w refl refl refl i), (λ i. unsigned_less n (name_value 28 w refl refl refl i), (λ i. unsigned_less n (name_value 29 w refl refl refl i), (λ i. unsigned_less n (name_value 30 w refl refl refl i), (λ i. unsigned_less n (name_value 31 w refl refl refl i), (λ i. unsigned_less n (name_value 32 w refl refl refl i), tt)))))))))))))))))
    ) (in_range 17 16 k low high) is

-- the kind that the token's own kind and its word give
pub kind_given : {text : CText} {at k : ℕ} (w : Word) (h : HasToken text at k) → w ≡ word_at text at → IsOfKind (kind_of h.token.kind w) w
kind_given {text} {at} {k} w h is =
    let same : w ≡ bytes_of text.bytes h.token = is ∙ word_is h in
    let told : h.token.kind ≡ token_kind w = h.told ∙ ap token_kind (sym same) in
    let known : IsOfKind k w = subst (IsOfKind k) (sym same) h.of_kind in
    record { kind_is = ap (λ c. kind_of c w) (sym told); token = known.token; within = known.within }

-- so many bytes behind a front of the bytes behind the third
pub behind_front : (w : Word) (n : ℕ) → n ≡ prefix_len is_digit (take (length w - 3) (drop 3 w))
    → take (length (take (length w - 3) (drop 3 w)) - n) (drop n (take (length w - 3) (drop 3 w))) ≡ drop (prefix_len is_digit (drop 3 w)) (drop 3 w)
behind_front w n is =
    let numbers : List ℕ = take (length w - 3) (drop 3 w) in
    let whole : numbers ≡ drop 3 w = take_rest w 3 in
    let count : n ≡ prefix_len is_digit (drop 3 w) = is ∙ ap (prefix_len is_digit) whole in
    take_rest numbers n ∙ (λ j. drop (count j) (whole j))

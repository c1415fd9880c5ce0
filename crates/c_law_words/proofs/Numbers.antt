-- The numbers of a text: `3`, `3u`, `15e-4` and the numbers in names.
use Rattle.std.proofs.Common.{◌≡◌, ◌<◌, ◌≤◌, ◌+◌, ◌^◌, ℕ, List, [], ◌∷◌, ◌++◌, length, take, drop, refl, ap, sym, subst, ◌∙◌, arith, Some}
use Rattle.std.specs.Prelude.{Bool, true, false, not, ◌==◌, ◌&&◌, ◌||◌, nat_le, nat_lt, decimal, pos, ℤ, ◌-ℤ◌, codes}
use Rattle.std.specs.List.{list_all, prefix_len}
use Rattle.std.proofs.lemmas.Bool.{and_parts, and_from, ltb-true}
use Rattle.std.proofs.lemmas.Bool.Decides.{nat_tests}
use Rattle.std.proofs.lemmas.List.{append-nil, drop_all}
use Rattle.va_base.specs.declared.exact.Decimal.{Decimal}
use Rattle.va_base.specs.Spelling.{is_digit, is_letter, is_empty, is_digit_byte, are_digits, are_digit_groups, is_after_whole, is_numeral, begins}
use Rattle.va_base.specs.Numerals as numerals
use Rattle.va_base.specs.Numerals.{number_of, digit_count, is_mantissa_byte, mantissa_of, fraction_of, tail_power, is_power, decimal_of}
use Rattle.va_base.proofs.Decimals.{power_of, decimal-some}
use Rattle.va_base.proofs.Tests.{true_not_false, or_left, or_right}
use Rattle.c_tree.specs.Words.{Word, unsigned}
use Rattle.c_tree.specs.declared.token.CTokenKind.TheVariants.{Integer, Unsigned}
use Rattle.c_tree.specs.tokens.Spelling.{is_number_tail, is_number_rest, is_token, tail_kind, number_kind, token_kind}
use Rattle.c_tree.specs.tokens.Limits.{has_no_leading_zero, is_at_most, is_tail_within, tail_of, is_within}
use Rattle.c_syntax.proofs.Longest.{cond_true, cond_false}
use Rattle.c_syntax.specs.grammar.Kinds.{is_number_in_name}
use Rattle.c_law_words.specs.Standing.{is_alone}
use Rattle.c_law_words.proofs.Digits.{decimal_written, front_passes, front_taken, front_dropped}

digit_no_letter : (c : ℕ) → is_digit c ≡ true → is_letter c ≡ false
digit_no_letter c e = grind (arith, nat_tests)

pub digit_no_mark : (c byte : ℕ) → is_digit c ≡ true → byte ≡ 35 → (c == byte) ≡ false
digit_no_mark c byte e f = grind (arith, nat_tests)

number_rest_is : (xs tail : List ℕ) → list_all is_digit xs ≡ true → begins is_digit tail ≡ false → is_number_rest (xs ++ tail) ≡ is_number_tail tail
number_rest_is [] [] h b = refl
number_rest_is [] (t ∷ tail) h b = cond_false (is_digit t) (is_number_rest tail) (is_number_tail (t ∷ tail)) b
number_rest_is (x ∷ xs) tail h b =
    let p = and_parts (is_digit x) (list_all is_digit xs) h in
    cond_true (is_digit x) (is_number_rest (xs ++ tail)) (is_number_tail (x ∷ (xs ++ tail))) p.0 ∙ number_rest_is xs tail p.1 b

number_kind_is : (xs tail : List ℕ) → list_all is_digit xs ≡ true → begins is_digit tail ≡ false → number_kind (xs ++ tail) ≡ tail_kind tail
number_kind_is [] [] h b = refl
number_kind_is [] (t ∷ tail) h b = cond_false (is_digit t) (number_kind tail) (tail_kind (t ∷ tail)) b
number_kind_is (x ∷ xs) tail h b =
    let p = and_parts (is_digit x) (list_all is_digit xs) h in
    cond_true (is_digit x) (number_kind (xs ++ tail)) (tail_kind (x ∷ (xs ++ tail))) p.0 ∙ number_kind_is xs tail p.1 b

-- digits before a tail
pub record Numeral (ds tail : List ℕ) : Type 0 where
  pub token : is_token (ds ++ tail) ≡ is_number_tail tail
  pub kind : token_kind (ds ++ tail) ≡ tail_kind tail
  pub digit : begins is_digit (ds ++ tail) ≡ true
  pub other : begins (λ byte. byte == 35) (ds ++ tail) ≡ false

pub numeral : (ds tail : List ℕ) → list_all is_digit ds ≡ true → begins is_digit ds ≡ true → begins is_digit tail ≡ false → Numeral ds tail
numeral [] tail all some b = absurd (true_not_false some refl)
numeral (d ∷ ds) tail all some b =
    let p = and_parts (is_digit d) (list_all is_digit ds) all in
    record {
      token = cond_false (is_letter d) _ _ (digit_no_letter d p.0) ∙ cond_true (is_digit d) _ _ p.0 ∙ number_rest_is ds tail p.1 b;
      kind = cond_false (is_letter d) _ _ (digit_no_letter d p.0) ∙ cond_true (is_digit d) _ _ p.0 ∙ number_kind_is ds tail p.1 b;
      digit = p.0;
      other = digit_no_mark d 35 p.0 refl;
    }

-- what is tested on a number
within_is : (ds tail : List ℕ) → list_all is_digit ds ≡ true → begins is_digit tail ≡ false
    → is_within (ds ++ tail) ≡ (has_no_leading_zero ds && is_tail_within (ds ++ tail) ds tail)
within_is ds tail all b =
    let digits = front_taken is_digit ds tail all b in
    let rest = front_dropped is_digit ds tail all b in
    λ i. has_no_leading_zero (digits i) && is_tail_within (ds ++ tail) (digits i) (rest i)

pub alone_tests : (w : Word) → is_token w ≡ true → is_within w ≡ true → begins (λ byte. byte == 35) w ≡ false → is_alone w ≡ true
alone_tests w token within other =
    and_from (is_token w && (not (begins is_digit w) || is_within w)) _
    (and_from (is_token w) _ token (or_right (not (begins is_digit w)) (is_within w) within))
    (or_left (not (begins (λ byte. byte == 35) w)) _ (ap not other))

pub number_alone : (ds tail : List ℕ) → list_all is_digit ds ≡ true → begins is_digit ds ≡ true → begins is_digit tail ≡ false
    → is_number_tail tail ≡ true → has_no_leading_zero ds ≡ true → is_tail_within (ds ++ tail) ds tail ≡ true → is_alone (ds ++ tail) ≡ true
number_alone ds tail all some b t plain within =
    let n = numeral ds tail all some b in
    alone_tests (ds ++ tail) (n.token ∙ t) (within_is ds tail all b ∙ and_from (has_no_leading_zero ds) _ plain within) n.other

-- digits are what a numeral of Verilog-A is made of
pub weaker : (p q : ℕ → Bool) → ((x : ℕ) → p x ≡ true → q x ≡ true) → (xs : List ℕ) → list_all p xs ≡ true → list_all q xs ≡ true
weaker p q f [] h = refl
weaker p q f (x ∷ xs) h =
    let r = and_parts (p x) (list_all p xs) h in
    and_from (q x) (list_all q xs) (f x r.0) (weaker p q f xs r.1)

groups_are : (xs : List ℕ) → list_all is_digit xs ≡ true → are_digit_groups xs ≡ true
groups_are [] h = refl
groups_are (x ∷ xs) h =
    let r = and_parts (is_digit x) (list_all is_digit xs) h in
    and_from (is_digit x || (x == 95 && not (is_empty xs))) (are_digit_groups xs) (or_left (is_digit x) _ r.0) (groups_are xs r.1)

pub digits_are : (xs : List ℕ) → list_all is_digit xs ≡ true → begins is_digit xs ≡ true → are_digits xs ≡ true
digits_are [] h s = absurd (true_not_false s refl)
digits_are (x ∷ xs) h s =
    let r = and_parts (is_digit x) (list_all is_digit xs) h in
    and_from (is_digit x) (are_digit_groups xs) r.0 (groups_are xs r.1)

no_point : (x : ℕ) → is_digit x ≡ true → not (x == 46) ≡ true
no_point x h = grind (arith, nat_tests)

no_fraction : (xs : List ℕ) → list_all is_digit xs ≡ true → fraction_of xs ≡ []
no_fraction xs h =
    let passed : prefix_len (λ x. not (x == 46)) xs ≡ length xs =
    ap (prefix_len (λ x. not (x == 46))) (sym (append-nil xs)) ∙ front_passes (λ x. not (x == 46)) xs [] (weaker is_digit (λ x. not (x == 46)) no_point xs h) refl in
    drop_all (prefix_len (λ x. not (x == 46)) xs + 1) xs (omega (arith, passed))

no_digits : digit_count [] ≡ 0
unfolding digit_count
no_digits = refl

numeral_is : (ds tail : List ℕ) → list_all is_digit ds ≡ true → begins is_digit ds ≡ true → begins is_digit_byte tail ≡ false → is_after_whole tail ≡ true → is_numeral (ds ++ tail) ≡ true
unfolding is_numeral
numeral_is ds tail all some b after =
    let bytes = weaker is_digit is_digit_byte (λ x h. or_left (is_digit x) (x == 95) h) ds all in
    let front = prefix_len is_digit_byte (ds ++ tail) in
    and_from (are_digits (take front (ds ++ tail))) (is_after_whole (drop front (ds ++ tail))) (ap are_digits (front_taken is_digit_byte ds tail bytes b) ∙ digits_are ds all some)
    (ap is_after_whole (front_dropped is_digit_byte ds tail bytes b) ∙ after)

-- the value of a number with a tail
pub value_found : (ds tail : List ℕ) (power : ℤ) → list_all is_digit ds ≡ true → begins is_digit ds ≡ true → begins is_mantissa_byte tail ≡ false
    → begins is_digit_byte tail ≡ false → is_after_whole tail ≡ true → number_of ds < 2 ^ 127 → tail_power tail -ℤ pos 0 ≡ power → is_power power ≡ true
    → decimal_of (ds ++ tail) ≡ Some (let d : Decimal = record { mantissa = number_of ds; power = power } in d)
value_found ds tail power all some m b after small same fits =
    let bytes = weaker is_digit is_mantissa_byte (λ x h. or_left (is_digit_byte x) (x == 46) (or_left (is_digit x) (x == 95) h)) ds all in
    let mantissa : mantissa_of (ds ++ tail) ≡ ds = front_taken is_mantissa_byte ds tail bytes m in
    let rest : numerals.tail_of (ds ++ tail) ≡ tail = front_dropped is_mantissa_byte ds tail bytes m in
    let power_is : power_of (ds ++ tail) ≡ power =
    (λ i. tail_power (rest i) -ℤ pos (digit_count (fraction_of (mantissa i))))
    ∙ ap (λ l. tail_power tail -ℤ pos (digit_count l)) (no_fraction ds all) ∙ ap (λ n. tail_power tail -ℤ pos n) no_digits ∙ same in
    decimal-some (ds ++ tail) (numeral_is ds tail all some b after) (subst (λ l. number_of l < 2 ^ 127) (sym mantissa) small) (ap is_power power_is ∙ fits)
    ∙ (λ i. Some (let d : Decimal = record { mantissa = number_of (mantissa i); power = power_is i } in d))

-- digits alone
pub digits_value : (ds : List ℕ) → list_all is_digit ds ≡ true → begins is_digit ds ≡ true → number_of ds < 2 ^ 127
    → decimal_of ds ≡ Some (let d : Decimal = record { mantissa = number_of ds; power = pos 0 } in d)
digits_value ds all some small = ap decimal_of (sym (append-nil ds)) ∙ value_found ds [] (pos 0) all some refl refl refl small refl refl

pub at_most : (limit : ℕ) (ds : List ℕ) → list_all is_digit ds ≡ true → begins is_digit ds ≡ true → number_of ds ≤ limit → limit < 2 ^ 127
    → is_at_most limit (decimal_of ds) ≡ true
at_most limit ds all some le small =
    ap (is_at_most limit) (digits_value ds all some (omega (arith, le, small))) ∙ le_is (number_of ds) limit le
  where
    le_is : (m n : ℕ) → m ≤ n → nat_le m n ≡ true
    le_is m n h = grind (arith, nat_tests)

-- `3`
pub record IntegerWord (n : ℕ) : Type 0 where
  pub alone : is_alone (decimal n) ≡ true
  pub kind : token_kind (decimal n) ≡ Integer

pub integer_word : (n : ℕ) → nat_lt n (2 ^ 31) ≡ true → IntegerWord n
integer_word n h =
    let less : n < 2 ^ 31 = ltb-true n (2 ^ 31) h in
    let d = decimal_written n (omega (arith, less)) in
    let whole = append-nil (decimal n) in
    record {
      alone = ap is_alone (sym whole) ∙ number_alone (decimal n) [] d.digits d.some refl refl d.plain
          (at_most 2147483647 (decimal n) d.digits d.some (let value = d.value in omega (arith, value, less)) (omega arith));
      kind = ap token_kind (sym whole) ∙ (numeral (decimal n) [] d.digits d.some refl).kind;
    }

-- `3u`
pub record UnsignedWord (n : ℕ) : Type 0 where
  pub alone : is_alone (unsigned n) ≡ true
  pub kind : token_kind (unsigned n) ≡ Unsigned

pub unsigned_word : (n : ℕ) → nat_lt n (2 ^ 32) ≡ true → UnsignedWord n
unsigned_word n h =
    let less : n < 2 ^ 32 = ltb-true n (2 ^ 32) h in
    let d = decimal_written n (omega (arith, less)) in
    record {
      alone = number_alone (decimal n) (codes "u") d.digits d.some refl refl d.plain
          (at_most 4294967295 (decimal n) d.digits d.some (let value = d.value in omega (arith, value, less)) (omega arith));
      kind = (numeral (decimal n) (codes "u") d.digits d.some refl).kind;
    }

-- the number of a name
pub name_number : (n : ℕ) → nat_lt n (2 ^ 32) ≡ true → is_number_in_name (decimal n) ≡ true
name_number n h =
    let less : n < 2 ^ 32 = ltb-true n (2 ^ 32) h in
    let d = decimal_written n (omega (arith, less)) in
    and_from (not (is_empty (decimal n)) && list_all is_digit (decimal n) && has_no_leading_zero (decimal n)) _
    (and_from (not (is_empty (decimal n)) && list_all is_digit (decimal n)) _ (and_from (not (is_empty (decimal n))) _ (some_there (decimal n) d.some) d.digits) d.plain)
    (at_most 4294967295 (decimal n) d.digits d.some (let value = d.value in omega (arith, value, less)) (omega arith))
  where
    some_there : (ds : List ℕ) → begins is_digit ds ≡ true → not (is_empty ds) ≡ true
    some_there [] s = absurd (true_not_false s refl)
    some_there (d ∷ ds) s = refl

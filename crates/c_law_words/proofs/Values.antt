-- What is read from the words of a print.
use Rattle.std.proofs.Common.{◌≡◌, inl, inr, ◌<◌, ◌≤◌, ◌+◌, ◌-◌, ◌*◌, ◌^◌, ℕ, suc, List, [], ◌∷◌, ◌++◌, length, take, drop, get_or, refl, ap, sym, subst, ◌∙◌, arith, append_assoc}
use Rattle.std.specs.Prelude.{Bool, true, false, not, ◌==◌, ◌&&◌, ◌/◌, ◌%◌, if◌then◌else◌, nat_lt, nat_eq, fold, decimal, codes}
use Rattle.std.specs.List.{list_all, list_any, flat_map, prefix_len}
use Rattle.std.specs.Int.{IsInRange}
use Rattle.std.specs.Str.{bytes_eq}
use Rattle.std.proofs.lemmas.Bool.{and_parts, and_from, ltb-true, or_cases, eqb-true, eq-eqb}
use Rattle.std.proofs.lemmas.Bool.Decides.{nat_tests}
use Rattle.std.proofs.lemmas.Fmt.{decimal-digits_value}
use Rattle.std.proofs.lemmas.List.{take-append-drop, length-append}
use Rattle.std.proofs.lemmas.List.Sums.{fold-append}
use Rattle.std.proofs.lemmas.Slice.Eq.{bytes_eq-Decides}
use Rattle.std.proofs.lemmas.Str.Parse.{IsNumeralModel, IsDigitsTest, FoldsDigits, numerals_by_fold}
use Rattle.std.proofs.Math.Seq.{take-append_seam}
use Rattle.alg_laws.specs.declared.function.Fun1.{Fun1}
use Rattle.alg_laws.specs.declared.function.Fun1.TheVariants.{Exp, Ln, Log, Sqrt, Sin, Cos, Tan, Asin, Acos, Atan, Sinh, Cosh, Tanh, Asinh, Acosh, Atanh, Floor, Ceil}
use Rattle.alg_laws.specs.declared.function.Fun2.{Fun2}
use Rattle.alg_laws.specs.declared.function.Fun2.TheVariants.{Pow, Atan2, Hypot}
use Rattle.va_base.specs.Spelling.{is_digit, begins}
use Rattle.va_base.specs.Numerals.{number_of}
use Rattle.va_base.proofs.NumberOf.{next_number, number_of-fold}
use Rattle.va_base.proofs.Tests.{true_not_false}
use Rattle.c_tree.specs.declared.body.CCallee.TheVariants as callee
use Rattle.c_tree.specs.declared.body.CField.{CField}
use Rattle.c_tree.specs.declared.body.CField.TheVariants.{Param, Given, Resist, React, EntryResist, EntryReact, OpVar, Stored, Temperature}
use Rattle.c_tree.specs.Spelling.{is_unsigned, is_integer, are_bytes, is_number_text, is_lettered, is_field_name, spells_field}
use Rattle.c_tree.specs.Text.{field_word, fun1_word, fun2_word, function_word}
use Rattle.c_tree.specs.Words.{template, numbered, unsigned, stands_as_itself, string_byte, string_word}
use Rattle.c_syntax.proofs.Longest.{cond_true, cond_false}
use Rattle.c_syntax.specs.grammar.Kinds.{is_no_digit, function_names}
use Rattle.c_raw_build.specs.Words.{octal, string_bytes, between_quotes, first_number, second_number, field_lettered}
use Rattle.c_law_words.specs.Values.{field_in, library_function, WordsGiveBack}
use Rattle.c_law_words.proofs.Pieces.{◌▹◌}
use Rattle.c_law_words.proofs.Digits.{IsDecimal, decimal_written, front_taken, front_dropped}
use Rattle.c_law_words.proofs.Reals.{real_value}
use Rattle.c_law_words.proofs.Strings.{all_below, below_told, not_is}

written : (n : ℕ) → is_unsigned n ≡ true → IsDecimal n (decimal n)
written n h = let less : n < 2 ^ 32 = ltb-true n (2 ^ 32) h in decimal_written n (omega (arith, less))

-- bytes that are no digits give nothing
silent : (xs : List ℕ) (a : ℕ) → list_all is_no_digit xs ≡ true → fold next_number a xs ≡ a
silent [] a h = refl
silent (x ∷ xs) a h =
    let p = and_parts (is_no_digit x) (list_all is_no_digit xs) h in
    ap (λ n. fold next_number n xs) (cond_false (is_digit x) (10 * a + (x - 48)) a (not_is (is_digit x) p.0)) ∙ silent xs a p.1

digits_before : (ds tail : List ℕ) → list_all is_no_digit tail ≡ true → number_of (ds ++ tail) ≡ number_of ds
digits_before ds tail h = number_of-fold (ds ++ tail) ∙ fold-append next_number 0 ds tail ∙ silent tail (fold next_number 0 ds) h ∙ sym (number_of-fold ds)

digits_behind : (name ds : List ℕ) → list_all is_no_digit name ≡ true → number_of (name ++ ds) ≡ number_of ds
digits_behind name ds h =
    number_of-fold (name ++ ds) ∙ fold-append next_number 0 name ds ∙ ap (λ n. fold next_number n ds) (silent name 0 h) ∙ sym (number_of-fold ds)

pub integer_back : (n : ℕ) → is_integer n ≡ true → number_of (decimal n) ≡ n
integer_back n h = let less : n < 2 ^ 31 = ltb-true n (2 ^ 31) h in (decimal_written n (omega (arith, less))).value

pub unsigned_back : (n : ℕ) → is_unsigned n ≡ true → number_of (unsigned n) ≡ n
unsigned_back n h = digits_before (decimal n) (codes "u") refl ∙ (written n h).value

pub numbered_back : (name : List ℕ) (n : ℕ) → list_all is_no_digit name ≡ true → is_unsigned n ≡ true → number_of (numbered name n) ≡ n
numbered_back name n e h = digits_behind name (decimal n) e ∙ (written n h).value

-- the two numbers of a module's function
record TwoNumbers (k j : ℕ) : Type 0 where
  first : first_number (function_word k j) ≡ k
  second : second_number (function_word k j) ≡ j

two_numbers : (k j : ℕ) → is_unsigned k ≡ true → is_unsigned j ≡ true → TwoNumbers k j
two_numbers k j h g =
    let digits = (written k h).digits in
    let rest = decimal k ++ 95 ∷ decimal j in
    let whole : function_word k j ≡ codes "fn_" ++ rest = append_assoc (codes "fn_") (decimal k) (95 ∷ decimal j) in
    let taken : take (prefix_len is_digit rest) rest ≡ decimal k = front_taken is_digit (decimal k) (95 ∷ decimal j) digits refl in
    let dropped : drop (prefix_len is_digit rest) rest ≡ 95 ∷ decimal j = front_dropped is_digit (decimal k) (95 ∷ decimal j) digits refl in
    record {
      first = ap first_number whole ∙ ap number_of taken ∙ (written k h).value;
      second = ap second_number whole ∙ ap number_of dropped ∙ digits_behind (codes "_") (decimal j) refl ∙ (written j g).value;
    }

pub function_back : (k j : ℕ) → is_unsigned k ≡ true → is_unsigned j ≡ true → second_number (function_word k j) ≡ j
function_back k j h g = (two_numbers k j h g).second

-- strings
plain_back : (a : ℕ) (rest : List ℕ) → (a == 92) ≡ false → string_bytes (a ∷ rest) ≡ a ∷ string_bytes rest
plain_back a [] h = refl
plain_back a (b ∷ []) h = refl
plain_back a (b ∷ c ∷ []) h = refl
plain_back a (b ∷ c ∷ d ∷ rest) h = cond_false (a == 92) _ _ h

-- a byte as its spelling gives it back
abbrev is_given : ℕ → Bool
is_given byte = if stands_as_itself byte then not (byte == 92) else nat_eq (octal (48 + byte / 64) (48 + byte / 8 % 8) (48 + byte % 8)) byte

unfoldable each_is_given : Bool
each_is_given = all_below 256 is_given

bytes_given : each_is_given ≡ true
unfolding each_is_given
bytes_given = refl

byte_given : (byte : ℕ) → byte < 256 → is_given byte ≡ true
unfolding each_is_given
byte_given byte lt = below_told 256 byte is_given lt bytes_given

byte_back : (byte : ℕ) (b : Bool) (rest : List ℕ)
    → (if b then not (byte == 92) else nat_eq (octal (48 + byte / 64) (48 + byte / 8 % 8) (48 + byte % 8)) byte) ≡ true
    → string_bytes ((if b then byte ∷ [] else 92 ∷ (48 + byte / 64) ∷ (48 + byte / 8 % 8) ∷ (48 + byte % 8) ∷ []) ++ rest) ≡ byte ∷ string_bytes rest
byte_back byte true rest h = plain_back byte rest (not_is (byte == 92) h)
byte_back byte false rest h = ap (λ n. n ∷ string_bytes rest) (eqb-true (octal (48 + byte / 64) (48 + byte / 8 % 8) (48 + byte % 8)) byte h)

bytes_back : (bytes : List ℕ) → are_bytes bytes ≡ true → string_bytes (flat_map string_byte bytes) ≡ bytes
bytes_back [] h = refl
bytes_back (b ∷ bytes) h =
    let p = and_parts (nat_lt b 256) (are_bytes bytes) h in
    byte_back b (stands_as_itself b) (flat_map string_byte bytes) (byte_given b (ltb-true b 256 p.0)) ∙ ap (λ l. b ∷ l) (bytes_back bytes p.1)

pub string_back : (bytes : List ℕ) → are_bytes bytes ≡ true → string_bytes (between_quotes (string_word bytes)) ≡ bytes
unfolding string_word
string_back bytes h =
    let inside = flat_map string_byte bytes in
    let count : suc (length (inside ++ 34 ∷ [])) - 2 ≡ length inside = omega (arith, length-append inside (34 ∷ [])) in
    ap (λ n. string_bytes (take n (inside ++ 34 ∷ []))) count ∙ ap string_bytes (take-append_seam inside (34 ∷ [])) ∙ bytes_back bytes h

-- fields
pub field_split : (name ds : List ℕ) (n : ℕ) → list_all is_no_digit name ≡ true → begins is_no_digit ds ≡ false → number_of ds ≡ n
    → field_in (name ++ ds) ≡ field_lettered name n
field_split name ds n e b v =
    let letters = front_taken is_no_digit name ds e b in
    let number = digits_behind name ds e ∙ v in
    λ i. field_lettered (letters i) (number i)

pub no_first : (ds : List ℕ) → begins is_digit ds ≡ true → begins is_no_digit ds ≡ false
no_first [] h = absurd (true_not_false h refl)
no_first (d ∷ ds) h = ap not h

numbered_field : (name : List ℕ) (n : ℕ) → list_all is_no_digit name ≡ true → is_unsigned n ≡ true → field_in (numbered name n) ≡ field_lettered name n
numbered_field name n e h = let d = written n h in field_split name (decimal n) n e (no_first (decimal n) d.some) d.value

pub field_back : (f : CField) → spells_field f ≡ true → field_in (field_word f) ≡ f
unfolding number_of
field_back (Param i) h = numbered_field (codes "p") i refl h
field_back (Given i) h = numbered_field (codes "g") i refl h
field_back (Resist i) h = numbered_field (codes "r") i refl h
field_back (React i) h = numbered_field (codes "q") i refl h
field_back (EntryResist i) h = numbered_field (codes "er") i refl h
field_back (EntryReact i) h = numbered_field (codes "eq") i refl h
field_back (OpVar i) h = numbered_field (codes "o") i refl h
field_back (Stored i) h = numbered_field (codes "h") i refl h
field_back Temperature h = refl

-- digits without a leading zero are what is written of their number
abbrev are_digits : List ℕ → Type 0
are_digits ds = list_all is_digit ds ≡ true

digits_folded : FoldsDigits (fold next_number)
digits_folded =
    record {
      empty = λ n. refl;
      more = λ n c cs r. ap (λ m. fold next_number m cs) (cond_true (is_digit c) (10 * n + (c - 48)) n (in_range c r) ∙ (let same : 10 * n + (c - 48) ≡ n * 10 + (c - 48) = omega arith in same));
    }
  where
    in_range : (c : ℕ) → IsInRange 48 57 c → is_digit c ≡ true
    in_range c r = let low = r.0 in let high = r.1 in grind (arith, nat_tests)

digits_tested : IsDigitsTest are_digits
digits_tested =
    record {
      empty = refl;
      parts = λ c cs h. let p = and_parts (is_digit c) (list_all is_digit cs) h in (range c p.0, p.1);
      more = λ c cs r h. and_from (is_digit c) (list_all is_digit cs) (in_range c r) h;
    }
  where
    in_range : (c : ℕ) → IsInRange 48 57 c → is_digit c ≡ true
    in_range c r = let low = r.0 in let high = r.1 in grind (arith, nat_tests)

    range : (c : ℕ) → is_digit c ≡ true → IsInRange 48 57 c
    range c h = (grind (arith, nat_tests), grind (arith, nat_tests))

model : IsNumeralModel are_digits (fold next_number 0)
model = numerals_by_fold are_digits digits_tested (fold next_number) digits_folded

written_back : (ds : List ℕ) → are_digits ds → 0 < length ds → (get_or ds 0 0 ≡ 48 → length ds ≡ 1) → number_of ds < 2 ^ 64 → decimal (number_of ds) ≡ ds
written_back ds h some plain small =
    ap decimal (number_of-fold ds)
    ∙ decimal-digits_value model ds h some plain (let same = number_of-fold ds in subst (λ n. n < 2 ^ 64) same small)

pub number_text_back : (ds : List ℕ) → is_number_text ds ≡ true → (decimal (number_of ds) ≡ ds) × (begins is_digit ds ≡ true)
number_text_back [] h = absurd (true_not_false h refl)
number_text_back (c ∷ []) h =
    (written_back (c ∷ []) (and_from (is_digit c) true h refl) (omega arith) (λ e. refl) (few c h), h)
  where
    few : (x : ℕ) → is_digit x ≡ true → number_of (x ∷ []) < 2 ^ 64
    few x e =
        let value : number_of (x ∷ []) ≡ 10 * 0 + (x - 48) = number_of-fold (x ∷ []) ∙ cond_true (is_digit x) _ _ e in
        let most : x ≤ 57 = grind (arith, nat_tests) in
        omega (arith, value, most)
number_text_back (c ∷ d ∷ rest) h =
    let digits = list_all is_digit (c ∷ d ∷ rest) in
    let p = and_parts (not (c == 48) && digits) (nat_lt (number_of (c ∷ d ∷ rest)) (2 ^ 32)) h in
    let q = and_parts (not (c == 48)) digits p.0 in
    let less : number_of (c ∷ d ∷ rest) < 2 ^ 32 = ltb-true (number_of (c ∷ d ∷ rest)) (2 ^ 32) p.1 in
    (written_back (c ∷ d ∷ rest) q.1 (omega arith) (λ e. absurd (no_zero c q.0 e)) (omega (arith, less)), (and_parts (is_digit c) (list_all is_digit (d ∷ rest)) q.1).0)
  where
    no_zero : (x : ℕ) → not (x == 48) ≡ true → x ≡ 48 → ⊥
    no_zero x e f = true_not_false e (ap not (eq-eqb x 48 f))

-- a name of these letters, by what they make of a number
lettered_back : (name letters : List ℕ) → list_all is_no_digit letters ≡ true → ((n : ℕ) → field_word (field_lettered letters n) ≡ numbered letters n)
    → is_lettered name letters ≡ true → field_word (field_in name) ≡ name
lettered_back name letters e spells h =
    let ds = drop (length letters) name in
    let p = and_parts (bytes_eq (take (length letters) name) letters) (is_number_text ds) h in
    let front = (bytes_eq-Decides (take (length letters) name) letters).0 p.0 in
    let whole : letters ++ ds ≡ name = ap (λ l. l ++ ds) (sym front) ∙ take-append-drop (length letters) name in
    let number = number_text_back ds p.1 in
    ap (λ w. field_word (field_in w)) (sym whole)
    ∙ ap field_word (field_split letters ds (number_of ds) e (no_first ds number.1) refl)
    ∙ spells (number_of ds) ∙ ap (λ l. letters ++ l) number.0 ∙ whole

abbrev AllBack : List ℕ → List (List ℕ) → Type 0
AllBack name [] = Unit {0}
AllBack name (letters ∷ all) = (is_lettered name letters ≡ true → field_word (field_in name) ≡ name) × AllBack name all

-- of some letters, one stands before a number
any_back : (name : List ℕ) (all : List (List ℕ)) → AllBack name all → list_any (is_lettered name) all ≡ true → field_word (field_in name) ≡ name
any_back name [] backs h = absurd (true_not_false h refl)
any_back name (letters ∷ all) backs h =
    elim (or_cases (is_lettered name letters) (list_any (is_lettered name) all) h) [
      | inl e ↦ backs.0 e
      | inr e ↦ any_back name all backs.1 e
    ]

pub field_name_back : (name : List ℕ) → is_field_name name ≡ true → field_word (field_in name) ≡ name
field_name_back name h =
    any_back name (codes "p" ∷ codes "g" ∷ codes "r" ∷ codes "q" ∷ codes "er" ∷ codes "eq" ∷ codes "o" ∷ codes "h" ∷ [])
    (lettered_back name (codes "p") refl (λ n. refl) ▹ lettered_back name (codes "g") refl (λ n. refl)
    ▹ lettered_back name (codes "r") refl (λ n. refl) ▹ lettered_back name (codes "q") refl (λ n. refl)
    ▹ lettered_back name (codes "er") refl (λ n. refl) ▹ lettered_back name (codes "eq") refl (λ n. refl)
    ▹ lettered_back name (codes "o") refl (λ n. refl) ▹ lettered_back name (codes "h") refl (λ n. refl) ▹ tt) h

-- functions of C's library
pub fun1_back : (f : Fun1) → library_function (fun1_word f) ≡ callee.Fun1 f
unfolding template function_names
fun1_back Exp = refl
fun1_back Ln = refl
fun1_back Log = refl
fun1_back Sqrt = refl
fun1_back Sin = refl
fun1_back Cos = refl
fun1_back Tan = refl
fun1_back Asin = refl
fun1_back Acos = refl
fun1_back Atan = refl
fun1_back Sinh = refl
fun1_back Cosh = refl
fun1_back Tanh = refl
fun1_back Asinh = refl
fun1_back Acosh = refl
fun1_back Atanh = refl
fun1_back Floor = refl
fun1_back Ceil = refl

pub fun2_back : (f : Fun2) → library_function (fun2_word f) ≡ callee.Fun2 f
unfolding template function_names
fun2_back Pow = refl
fun2_back Atan2 = refl
fun2_back Hypot = refl

pub words_give_back : WordsGiveBack
words_give_back =
    record {
      integers = integer_back;
      numbers = unsigned_back;
      numbered_names = numbered_back;
      reals = real_value;
      strings = string_back;
      fields = field_back;
      field_names = field_name_back;
      modules = λ k j h g. (two_numbers k j h g).first;
      functions = function_back;
      one_argument = fun1_back;
      two_arguments = fun2_back;
    }

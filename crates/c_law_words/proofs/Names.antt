-- The words of a text that end with numbers, and those of many tokens of one kind.
use Rattle.std.proofs.Common.{◌≡◌, ◌<◌, ◌+◌, ◌^◌, ℕ, List, [], ◌∷◌, ◌++◌, refl, ap, sym, subst, ◌∙◌, arith, append_assoc, Some, None, Option, eqb-true}
use Rattle.std.specs.Prelude.{Bool, true, false, not, ◌==◌, ◌&&◌, ◌||◌, nat_eq, nat_lt, decimal, unwrap_or, codes}
use Rattle.std.specs.List.{list_all}
use Rattle.std.specs.Str.{bytes_eq}
use Rattle.std.proofs.lemmas.Bool.{and_parts, and_from, ltb-true}
use Rattle.std.proofs.lemmas.Bool.Decides.{nat_tests}
use Rattle.std.proofs.lemmas.List.Folds.{list_all-append}
use Rattle.alg_laws.specs.declared.function.Fun1.{Fun1}
use Rattle.alg_laws.specs.declared.function.Fun1.TheVariants.{Exp, Ln, Log, Sqrt, Sin, Cos, Tan, Asin, Acos, Atan, Sinh, Cosh, Tanh, Asinh, Acosh, Atanh, Floor, Ceil}
use Rattle.alg_laws.specs.declared.function.Fun2.{Fun2}
use Rattle.alg_laws.specs.declared.function.Fun2.TheVariants.{Pow, Atan2, Hypot}
use Rattle.va_base.specs.Spelling.{is_digit, is_letter, is_empty, is_numeral, begins}
use Rattle.va_base.specs.Numerals.{decimal_of, value_of, number_of, digit_count}
use Rattle.va_base.proofs.Tests.{true_not_false, or_left, or_right}
use Rattle.c_tree.specs.Text.{fun1_word, fun2_word, function_word}
use Rattle.c_tree.specs.Words.{Word, template, numbered}
use Rattle.c_tree.specs.declared.token.CTokenKind.TheVariants.{Word as OfWord}
use Rattle.c_tree.specs.tokens.Spelling.{is_word_byte, is_token, token_kind}
use Rattle.c_syntax.specs.grammar.Names.{word_names, place_of}
use Rattle.c_syntax.specs.grammar.Kinds.{is_no_digit, is_number_in_name, is_second_number, are_two_numbers, numbered_names, numbered_kinds, kind_with_place, numbered_kind, function_names, plain_word_kind, word_kind, kind_of}
use Rattle.c_syntax.proofs.Longest.{cond_true, cond_false}
use Rattle.c_law_words.specs.Standing.{is_alone}
use Rattle.c_law_words.specs.Kinds.{kind_of_word}
use Rattle.c_law_words.proofs.Digits.{decimal_written, front_taken, front_dropped}
use Rattle.c_law_words.proofs.Numbers.{weaker, name_number}
use Rattle.c_law_words.proofs.Pieces.{IsWord}

letter_no_digit : (c : ℕ) → is_letter c ≡ true → is_digit c ≡ false
letter_no_digit c e = grind (arith, nat_tests)

letter_no_mark : (c byte : ℕ) → is_letter c ≡ true → byte ≡ 35 → (c == byte) ≡ false
letter_no_mark c byte e f = grind (arith, nat_tests)

letter_alone : (c : ℕ) (xs : List ℕ) → is_letter c ≡ true → list_all is_word_byte xs ≡ true → is_alone (c ∷ xs) ≡ true
letter_alone c xs l h =
    and_from (is_token (c ∷ xs) && (not (is_digit c) || _)) _
    (and_from (is_token (c ∷ xs)) _ (cond_true (is_letter c) _ _ l ∙ h) (or_left (not (is_digit c)) _ (ap not (letter_no_digit c l))))
    (or_left (not (c == 35)) _ (ap not (letter_no_mark c 35 l refl)))

-- letters, and no digit among them
abbrev pub is_plain_name : Word → Bool
is_plain_name [] = false
is_plain_name (c ∷ cs) = is_letter c && list_all is_word_byte cs && list_all is_no_digit (c ∷ cs)

-- a name with something behind it
pub record NameThen (name rest : List ℕ) : Type 0 where
  alone : is_alone (name ++ rest) ≡ true
  kind : token_kind (name ++ rest) ≡ OfWord
  split : word_kind (name ++ rest) ≡ unwrap_or (numbered_kind name rest) (plain_word_kind (name ++ rest))

name_then : (name rest : List ℕ) → is_plain_name name ≡ true → list_all is_word_byte rest ≡ true → begins is_no_digit rest ≡ false → NameThen name rest
name_then [] rest n w b = absurd (true_not_false n refl)
name_then (c ∷ cs) rest n w b =
    let p = and_parts (is_letter c && list_all is_word_byte cs) (list_all is_no_digit (c ∷ cs)) n in
    let q = and_parts (is_letter c) (list_all is_word_byte cs) p.0 in
    let taken = front_taken is_no_digit (c ∷ cs) rest p.1 b in
    let dropped = front_dropped is_no_digit (c ∷ cs) rest p.1 b in
    record {
      alone = letter_alone c (cs ++ rest) q.0 (list_all-append is_word_byte cs rest ∙ and_from (list_all is_word_byte cs) _ q.1 w);
      kind = cond_true (is_letter c) _ _ q.0;
      split = λ i. unwrap_or (numbered_kind (taken i) (dropped i)) (plain_word_kind (c ∷ (cs ++ rest)));
    }

digits_are_word_bytes : (ds : List ℕ) → list_all is_digit ds ≡ true → list_all is_word_byte ds ≡ true
digits_are_word_bytes = weaker is_digit is_word_byte (λ x h. or_right (is_letter x) (is_digit x) h)

digit_first : (ds : List ℕ) → is_number_in_name ds ≡ true → (list_all is_digit ds ≡ true) × (begins is_no_digit ds ≡ false)
digit_first [] h = absurd (true_not_false h refl)
digit_first (d ∷ ds) h =
    let p = and_parts (not (is_empty (d ∷ ds)) && list_all is_digit (d ∷ ds) && _) _ h in
    let q = and_parts (not (is_empty (d ∷ ds)) && list_all is_digit (d ∷ ds)) _ p.0 in
    let r = and_parts (not (is_empty (d ∷ ds))) (list_all is_digit (d ∷ ds)) q.0 in
    (r.1, ap not (and_parts (is_digit d) (list_all is_digit ds) r.1).0)

abbrev pub has_kind : ℕ → Option ℕ → Bool
has_kind kind None = false
has_kind kind (Some k) = nat_eq k kind

-- a name of this kind where a number stands behind it
unfoldable pub is_numbered : Word → ℕ → Bool
is_numbered name kind = is_plain_name name && not (bytes_eq name (codes "fn_")) && has_kind kind (kind_with_place numbered_kinds (place_of numbered_names name))

kind_found : (found : Option ℕ) (kind : ℕ) → has_kind kind found ≡ true → found ≡ Some kind
kind_found None kind h = absurd (true_not_false h refl)
kind_found (Some k) kind h = ap Some (eqb-true k kind h)

pub numbered_word : (name ds : List ℕ) (kind : ℕ) → is_numbered name kind ≡ true → is_number_in_name ds ≡ true → IsWord kind (name ++ ds)
unfolding is_numbered
numbered_word name ds kind n h =
    let p = and_parts (is_plain_name name && not (bytes_eq name (codes "fn_"))) (has_kind kind (kind_with_place numbered_kinds (place_of numbered_names name))) n in
    let q = and_parts (is_plain_name name) (not (bytes_eq name (codes "fn_"))) p.0 in
    let d = digit_first ds h in
    let t = name_then name ds q.0 (digits_are_word_bytes ds d.0) d.1 in
    let other : bytes_eq name (codes "fn_") ≡ false = not_is (bytes_eq name (codes "fn_")) q.1 in
    let found : numbered_kind name ds ≡ Some kind =
    cond_false (bytes_eq name (codes "fn_")) _ _ other ∙ cond_true (is_number_in_name ds) _ _ h ∙ kind_found _ kind p.1 in
    record { alone = t.alone; kind_is = ap (λ k. kind_of k (name ++ ds)) t.kind ∙ t.split ∙ ap (λ o. unwrap_or o (plain_word_kind (name ++ ds))) found }
  where
    not_is : (b : Bool) → not b ≡ true → b ≡ false
    not_is true e = absurd (true_not_false e refl)
    not_is false e = refl

pub local_word : (k : ℕ) → nat_lt k (2 ^ 32) ≡ true → IsWord 12 (numbered (codes "v") k)
unfolding is_numbered numbered_names template
local_word k h = numbered_word (codes "v") (decimal k) 12 refl (name_number k h)

pub argument_word : (k : ℕ) → nat_lt k (2 ^ 32) ≡ true → IsWord 13 (numbered (codes "a") k)
unfolding is_numbered numbered_names template
argument_word k h = numbered_word (codes "a") (decimal k) 13 refl (name_number k h)

pub param_word : (k : ℕ) → nat_lt k (2 ^ 32) ≡ true → IsWord 14 (numbered (codes "p") k)
unfolding is_numbered numbered_names template
param_word k h = numbered_word (codes "p") (decimal k) 14 refl (name_number k h)

pub given_word : (k : ℕ) → nat_lt k (2 ^ 32) ≡ true → IsWord 14 (numbered (codes "g") k)
unfolding is_numbered numbered_names template
given_word k h = numbered_word (codes "g") (decimal k) 14 refl (name_number k h)

pub resist_word : (k : ℕ) → nat_lt k (2 ^ 32) ≡ true → IsWord 14 (numbered (codes "r") k)
unfolding is_numbered numbered_names template
resist_word k h = numbered_word (codes "r") (decimal k) 14 refl (name_number k h)

pub react_word : (k : ℕ) → nat_lt k (2 ^ 32) ≡ true → IsWord 14 (numbered (codes "q") k)
unfolding is_numbered numbered_names template
react_word k h = numbered_word (codes "q") (decimal k) 14 refl (name_number k h)

pub entry_resist_word : (k : ℕ) → nat_lt k (2 ^ 32) ≡ true → IsWord 14 (numbered (codes "er") k)
unfolding is_numbered numbered_names template
entry_resist_word k h = numbered_word (codes "er") (decimal k) 14 refl (name_number k h)

pub entry_react_word : (k : ℕ) → nat_lt k (2 ^ 32) ≡ true → IsWord 14 (numbered (codes "eq") k)
unfolding is_numbered numbered_names template
entry_react_word k h = numbered_word (codes "eq") (decimal k) 14 refl (name_number k h)

pub opvar_word : (k : ℕ) → nat_lt k (2 ^ 32) ≡ true → IsWord 14 (numbered (codes "o") k)
unfolding is_numbered numbered_names template
opvar_word k h = numbered_word (codes "o") (decimal k) 14 refl (name_number k h)

pub stored_word : (k : ℕ) → nat_lt k (2 ^ 32) ≡ true → IsWord 14 (numbered (codes "h") k)
unfolding is_numbered numbered_names template
stored_word k h = numbered_word (codes "h") (decimal k) 14 refl (name_number k h)

pub model_word : (k : ℕ) → nat_lt k (2 ^ 32) ≡ true → IsWord 16 (numbered (codes "model_") k)
unfolding is_numbered numbered_names template
model_word k h = numbered_word (codes "model_") (decimal k) 16 refl (name_number k h)

pub inst_word : (k : ℕ) → nat_lt k (2 ^ 32) ≡ true → IsWord 17 (numbered (codes "inst_") k)
unfolding is_numbered numbered_names template
inst_word k h = numbered_word (codes "inst_") (decimal k) 17 refl (name_number k h)

pub access_word : (k : ℕ) → nat_lt k (2 ^ 32) ≡ true → IsWord 18 (numbered (codes "access_") k)
unfolding is_numbered numbered_names template
access_word k h = numbered_word (codes "access_") (decimal k) 18 refl (name_number k h)

pub setup_model_word : (k : ℕ) → nat_lt k (2 ^ 32) ≡ true → IsWord 19 (numbered (codes "setup_model_") k)
unfolding is_numbered numbered_names template
setup_model_word k h = numbered_word (codes "setup_model_") (decimal k) 19 refl (name_number k h)

pub setup_instance_word : (k : ℕ) → nat_lt k (2 ^ 32) ≡ true → IsWord 20 (numbered (codes "setup_instance_") k)
unfolding is_numbered numbered_names template
setup_instance_word k h = numbered_word (codes "setup_instance_") (decimal k) 20 refl (name_number k h)

pub eval_word : (k : ℕ) → nat_lt k (2 ^ 32) ≡ true → IsWord 21 (numbered (codes "eval_") k)
unfolding is_numbered numbered_names template
eval_word k h = numbered_word (codes "eval_") (decimal k) 21 refl (name_number k h)

pub residual_resist_word : (k : ℕ) → nat_lt k (2 ^ 32) ≡ true → IsWord 22 (numbered (codes "load_residual_resist_") k)
unfolding is_numbered numbered_names template
residual_resist_word k h = numbered_word (codes "load_residual_resist_") (decimal k) 22 refl (name_number k h)

pub residual_react_word : (k : ℕ) → nat_lt k (2 ^ 32) ≡ true → IsWord 23 (numbered (codes "load_residual_react_") k)
unfolding is_numbered numbered_names template
residual_react_word k h = numbered_word (codes "load_residual_react_") (decimal k) 23 refl (name_number k h)

pub jacobian_resist_word : (k : ℕ) → nat_lt k (2 ^ 32) ≡ true → IsWord 24 (numbered (codes "load_jacobian_resist_") k)
unfolding is_numbered numbered_names template
jacobian_resist_word k h = numbered_word (codes "load_jacobian_resist_") (decimal k) 24 refl (name_number k h)

pub jacobian_react_word : (k : ℕ) → nat_lt k (2 ^ 32) ≡ true → IsWord 25 (numbered (codes "load_jacobian_react_") k)
unfolding is_numbered numbered_names template
jacobian_react_word k h = numbered_word (codes "load_jacobian_react_") (decimal k) 25 refl (name_number k h)

pub jacobian_tran_word : (k : ℕ) → nat_lt k (2 ^ 32) ≡ true → IsWord 26 (numbered (codes "load_jacobian_tran_") k)
unfolding is_numbered numbered_names template
jacobian_tran_word k h = numbered_word (codes "load_jacobian_tran_") (decimal k) 26 refl (name_number k h)

pub spice_rhs_dc_word : (k : ℕ) → nat_lt k (2 ^ 32) ≡ true → IsWord 27 (numbered (codes "load_spice_rhs_dc_") k)
unfolding is_numbered numbered_names template
spice_rhs_dc_word k h = numbered_word (codes "load_spice_rhs_dc_") (decimal k) 27 refl (name_number k h)

pub spice_rhs_tran_word : (k : ℕ) → nat_lt k (2 ^ 32) ≡ true → IsWord 28 (numbered (codes "load_spice_rhs_tran_") k)
unfolding is_numbered numbered_names template
spice_rhs_tran_word k h = numbered_word (codes "load_spice_rhs_tran_") (decimal k) 28 refl (name_number k h)

pub nodes_word : (k : ℕ) → nat_lt k (2 ^ 32) ≡ true → IsWord 29 (numbered (codes "nodes_") k)
unfolding is_numbered numbered_names template
nodes_word k h = numbered_word (codes "nodes_") (decimal k) 29 refl (name_number k h)

pub entries_word : (k : ℕ) → nat_lt k (2 ^ 32) ≡ true → IsWord 30 (numbered (codes "entries_") k)
unfolding is_numbered numbered_names template
entries_word k h = numbered_word (codes "entries_") (decimal k) 30 refl (name_number k h)

pub collapse_word : (k : ℕ) → nat_lt k (2 ^ 32) ≡ true → IsWord 31 (numbered (codes "collapse_") k)
unfolding is_numbered numbered_names template
collapse_word k h = numbered_word (codes "collapse_") (decimal k) 31 refl (name_number k h)

pub params_word : (k : ℕ) → nat_lt k (2 ^ 32) ≡ true → IsWord 32 (numbered (codes "params_") k)
unfolding is_numbered numbered_names template
params_word k h = numbered_word (codes "params_") (decimal k) 32 refl (name_number k h)

-- a function of a module
pub module_function_word : (k j : ℕ) → nat_lt k (2 ^ 32) ≡ true → nat_lt j (2 ^ 32) ≡ true → IsWord 15 (function_word k j)
module_function_word k j h g =
    let first = digit_first (decimal k) (name_number k h) in
    let second = digit_first (decimal j) (name_number j g) in
    let rest = decimal k ++ 95 ∷ decimal j in
    let whole : function_word k j ≡ codes "fn_" ++ rest = append_assoc (codes "fn_") (decimal k) (95 ∷ decimal j) in
    let bytes : list_all is_word_byte rest ≡ true =
    list_all-append is_word_byte (decimal k) (95 ∷ decimal j) ∙ and_from (list_all is_word_byte (decimal k)) _ (digits_are_word_bytes (decimal k) first.0) (digits_are_word_bytes (decimal j) second.0) in
    let d = decimal_first k h in
    let t = name_then (codes "fn_") rest refl bytes (no_digit_first (decimal k) (95 ∷ decimal j) d) in
    let two : are_two_numbers rest ≡ true =
    (λ i. is_number_in_name (front_taken is_digit (decimal k) (95 ∷ decimal j) first.0 refl i) && is_second_number (front_dropped is_digit (decimal k) (95 ∷ decimal j) first.0 refl i))
    ∙ and_from (is_number_in_name (decimal k)) _ (name_number k h) (name_number j g) in
    let found : numbered_kind (codes "fn_") rest ≡ Some 15 = cond_true (are_two_numbers rest) (Some 15) None two in
    let word : IsWord 15 (codes "fn_" ++ rest) =
    record { alone = t.alone; kind_is = ap (λ c. kind_of c (codes "fn_" ++ rest)) t.kind ∙ t.split ∙ ap (λ o. unwrap_or o (plain_word_kind (codes "fn_" ++ rest))) found } in
    subst (λ w. IsWord 15 w) (sym whole) word
  where
    decimal_first : (n : ℕ) → nat_lt n (2 ^ 32) ≡ true → begins is_digit (decimal n) ≡ true
    decimal_first n e = let less : n < 2 ^ 32 = ltb-true n (2 ^ 32) e in (decimal_written n (omega (arith, less))).some

    no_digit_first : (xs ys : List ℕ) → begins is_digit xs ≡ true → begins is_no_digit (xs ++ ys) ≡ false
    no_digit_first [] ys e = absurd (true_not_false e refl)
    no_digit_first (x ∷ xs) ys e = ap not e

-- a word that is looked at
abbrev pub is_word_of : ℕ → Word → Bool
is_word_of kind w = is_alone w && nat_eq (kind_of_word w) kind

pub looked_at : (kind : ℕ) (w : Word) → is_word_of kind w ≡ true → IsWord kind w
looked_at kind w h =
    let p = and_parts (is_alone w) (nat_eq (kind_of_word w) kind) h in
    record { alone = p.0; kind_is = eqb-true (kind_of_word w) kind p.1 }

-- functions of C's library
pub fun1_named : (f : Fun1) → IsWord 11 (fun1_word f)
unfolding template word_names numbered_names function_names decimal_of is_numeral value_of number_of digit_count
fun1_named Exp = looked_at 11 (fun1_word Exp) refl
fun1_named Ln = looked_at 11 (fun1_word Ln) refl
fun1_named Log = looked_at 11 (fun1_word Log) refl
fun1_named Sqrt = looked_at 11 (fun1_word Sqrt) refl
fun1_named Sin = looked_at 11 (fun1_word Sin) refl
fun1_named Cos = looked_at 11 (fun1_word Cos) refl
fun1_named Tan = looked_at 11 (fun1_word Tan) refl
fun1_named Asin = looked_at 11 (fun1_word Asin) refl
fun1_named Acos = looked_at 11 (fun1_word Acos) refl
fun1_named Atan = looked_at 11 (fun1_word Atan) refl
fun1_named Sinh = looked_at 11 (fun1_word Sinh) refl
fun1_named Cosh = looked_at 11 (fun1_word Cosh) refl
fun1_named Tanh = looked_at 11 (fun1_word Tanh) refl
fun1_named Asinh = looked_at 11 (fun1_word Asinh) refl
fun1_named Acosh = looked_at 11 (fun1_word Acosh) refl
fun1_named Atanh = looked_at 11 (fun1_word Atanh) refl
fun1_named Floor = looked_at 11 (fun1_word Floor) refl
fun1_named Ceil = looked_at 11 (fun1_word Ceil) refl

pub fun2_named : (f : Fun2) → IsWord 11 (fun2_word f)
unfolding template word_names numbered_names function_names decimal_of is_numeral value_of number_of digit_count
fun2_named Pow = looked_at 11 (fun2_word Pow) refl
fun2_named Atan2 = looked_at 11 (fun2_word Atan2) refl
fun2_named Hypot = looked_at 11 (fun2_word Hypot) refl

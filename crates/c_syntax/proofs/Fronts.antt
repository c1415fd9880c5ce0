-- The token at the front of a text, by its first byte.
use Rattle.std.proofs.Common.{◌≡◌, ◌<◌, ◌≤◌, ◌+◌, ℕ, zero, suc, List, [], ◌∷◌, length, take, refl, ap, sym, ◌∙◌, arith, Option, Some, None}
use Rattle.std.specs.Prelude.{Bool, true, false, not, ◌==◌, ◌||◌, cond, IsTrue, IfSome}
use Rattle.std.specs.List.{list_all, prefix_len}
use Rattle.std.proofs.lemmas.Bool.Decides.{nat_tests}
use Rattle.va_base.specs.Longest.{one_more, longest}
use Rattle.va_base.specs.Spelling.{is_digit, is_letter, begins}
use Rattle.va_base.proofs.Longest.{longest-cons, IsLongest-from}
use Rattle.va_base.proofs.Tests.{true_not_false, or_left}
use Rattle.c_tree.specs.declared.token.CTokenKind.{CTokenKind}
use Rattle.c_tree.specs.declared.token.CTokenKind.TheVariants.{Word, Mark}
use Rattle.c_tree.specs.tokens.Spelling.{is_word_byte, is_number_rest, is_mark, is_token, number_kind, token_kind}
use Rattle.c_tree.specs.tokens.Limits.{is_within}
use Rattle.c_tree.specs.tokens.Tokens.{limited, front_len}
use Rattle.c_syntax.specs.Fronts.{front, front_with, front_of, is_other_byte}
use Rattle.c_syntax.proofs.Longest.{cond_true, cond_false, no_left, no_right, longest-all}

-- what is no number has no limits
limited-other : (text : List ℕ) (n : ℕ) → begins is_digit text ≡ false → limited text (Some n) ≡ Some n
limited-other text n e = cond_false (begins is_digit text) (cond (is_within (take n text)) (Some n) None) (Some n) e

limited-digit : (text : List ℕ) (n : ℕ) (b : Bool) → begins is_digit text ≡ true → is_within (take n text) ≡ b
    → limited text (Some n) ≡ cond b (Some n) None
limited-digit text n b e f =
    cond_true (begins is_digit text) (cond (is_within (take n text)) (Some n) None) (Some n) e
    ∙ ap (λ x. cond x (Some n) None) f

-- a token that is no number, by the test of what may follow its first byte
pub front-some : (q : List ℕ → Bool) (c : ℕ) (rest : List ℕ) (n : ℕ) (k : CTokenKind) → is_digit c ≡ false
    → ((xs : List ℕ) → is_token (c ∷ xs) ≡ q xs) → ((xs : List ℕ) → token_kind (c ∷ xs) ≡ k) → longest q rest ≡ Some n
    → front_of (c ∷ rest) ≡ Some (front k (suc n))
unfolding front_len
front-some q c rest n k d same kind l =
    let whole : longest is_token (c ∷ rest) ≡ Some (suc n) = longest-cons is_token q c rest same ∙ ap (one_more false) l in
    ap (front_with (c ∷ rest)) (ap (limited (c ∷ rest)) whole ∙ limited-other (c ∷ rest) (suc n) d)
    ∙ ap (λ j. Some (front j (suc n))) (kind (take n rest))

pub front-none : (q : List ℕ → Bool) (c : ℕ) (rest : List ℕ) → ((xs : List ℕ) → is_token (c ∷ xs) ≡ q xs) → longest q rest ≡ None
    → front_of (c ∷ rest) ≡ None
unfolding front_len
front-none q c rest same l =
    let whole : longest is_token (c ∷ rest) ≡ None = longest-cons is_token q c rest same ∙ ap (one_more false) l in
    ap (front_with (c ∷ rest)) (ap (limited (c ∷ rest)) whole)

digit_no_letter : (c : ℕ) → is_digit c ≡ true → is_letter c ≡ false
digit_no_letter c e = grind (arith, nat_tests)

letter_no_digit : (c : ℕ) → is_letter c ≡ true → is_digit c ≡ false
letter_no_digit c e = grind (arith, nat_tests)

picked : (text : List ℕ) (n : ℕ) (b : Bool) → front_with text (cond b (Some n) None) ≡ cond b (front_with text (Some n)) None
picked text n true = refl
picked text n false = refl

-- a number, where it is within the limits
pub front-number : (c : ℕ) (rest : List ℕ) (n : ℕ) (b : Bool) → is_digit c ≡ true → longest is_number_rest rest ≡ Some n
    → is_within (c ∷ take n rest) ≡ b → front_of (c ∷ rest) ≡ cond b (Some (front (number_kind (take n rest)) (suc n))) None
unfolding front_len
front-number c rest n b d l w =
    let other = digit_no_letter c d in
    let same : (xs : List ℕ) → is_token (c ∷ xs) ≡ is_number_rest xs = λ xs. cond_false (is_letter c) _ _ other ∙ cond_true (is_digit c) _ _ d in
    let kind : (xs : List ℕ) → token_kind (c ∷ xs) ≡ number_kind xs = λ xs. cond_false (is_letter c) _ _ other ∙ cond_true (is_digit c) _ _ d in
    let whole : longest is_token (c ∷ rest) ≡ Some (suc n) = longest-cons is_token is_number_rest c rest same ∙ ap (one_more false) l in
    ap (front_with (c ∷ rest)) (ap (limited (c ∷ rest)) whole ∙ limited-digit (c ∷ rest) (suc n) b d w)
    ∙ picked (c ∷ rest) (suc n) b ∙ ap (λ k. cond b (Some (front k (suc n))) None) (kind (take n rest))

pub front-letter : (c : ℕ) (rest : List ℕ) → is_letter c ≡ true → front_of (c ∷ rest) ≡ Some (front Word (suc (prefix_len is_word_byte rest)))
front-letter c rest e =
    front-some (list_all is_word_byte) c rest (prefix_len is_word_byte rest) Word (letter_no_digit c e)
    (λ xs. cond_true (is_letter c) _ _ e) (λ xs. cond_true (is_letter c) _ _ e) (longest-all is_word_byte rest)

letter_word : (c : ℕ) → is_letter c ≡ true → is_word_byte c ≡ true
letter_word c e = or_left (is_letter c) (is_digit c) e

-- words count from their first letter
pub word-first : (c : ℕ) (rest : List ℕ) → is_letter c ≡ true → prefix_len is_word_byte (c ∷ rest) ≡ suc (prefix_len is_word_byte rest)
word-first c rest e =
    cond_true (is_word_byte c) (1 + prefix_len is_word_byte rest) 0 (letter_word c e)
    ∙ (let one : 1 + prefix_len is_word_byte rest ≡ suc (prefix_len is_word_byte rest) = omega arith in one)

-- a word
pub front-word : (text : List ℕ) → IsTrue (begins is_letter text) → front_of text ≡ Some (front Word (prefix_len is_word_byte text))
front-word [] e = absurd (true_not_false e refl)
front-word (c ∷ rest) e = front-letter c rest e ∙ ap (λ n. Some (front Word n)) (sym (word-first c rest e))

not_none : (b : Bool) → not b ≡ true → b ≡ false
not_none true e = absurd (true_not_false refl (sym e))
not_none false e = refl

-- a byte that begins no token but a mark
record IsOther (c : ℕ) : Type 0 where
  letter : is_letter c ≡ false
  digit : is_digit c ≡ false
  hash : (c == 35) ≡ false
  point : (c == 46) ≡ false
  quote : (c == 34) ≡ false

other_is : (c : ℕ) → is_other_byte c ≡ true → IsOther c
other_is c e =
    let none = not_none _ e in
    let e4 = no_left (is_letter c || is_digit c || c == 35 || c == 46) (c == 34) none in
    let e3 = no_left (is_letter c || is_digit c || c == 35) (c == 46) e4 in
    let e2 = no_left (is_letter c || is_digit c) (c == 35) e3 in
    record {
      letter = no_left (is_letter c) (is_digit c) e2;
      digit = no_right (is_letter c) (is_digit c) e2;
      hash = no_right (is_letter c || is_digit c) (c == 35) e3;
      point = no_right (is_letter c || is_digit c || c == 35) (c == 46) e4;
      quote = no_right (is_letter c || is_digit c || c == 35 || c == 46) (c == 34) none;
    }

token_other : (c : ℕ) (xs : List ℕ) → IsOther c → is_token (c ∷ xs) ≡ is_mark (c ∷ xs)
token_other c xs o =
    cond_false (is_letter c) _ _ o.letter ∙ cond_false (is_digit c) _ _ o.digit ∙ cond_false (c == 35) _ _ o.hash
    ∙ cond_false (c == 46) _ _ o.point ∙ cond_false (c == 34) _ _ o.quote

kind_other : (c : ℕ) (xs : List ℕ) → IsOther c → token_kind (c ∷ xs) ≡ Mark
kind_other c xs o =
    cond_false (is_letter c) _ _ o.letter ∙ cond_false (is_digit c) _ _ o.digit ∙ cond_false (c == 35) _ _ o.hash
    ∙ cond_false (c == 46) _ _ o.point ∙ cond_false (c == 34) _ _ o.quote

one_less : (q : List ℕ → Bool) (c : ℕ) (rest : List ℕ) (n : ℕ) → q [] ≡ false → longest q (c ∷ rest) ≡ Some n
    → (m : ℕ) × (n ≡ suc m) × (longest (λ xs. q (c ∷ xs)) rest ≡ Some m)
one_less q c rest n e l = found (longest (λ xs. q (c ∷ xs)) rest) refl
  where
    found : (r : Option ℕ) → longest (λ xs. q (c ∷ xs)) rest ≡ r → (m : ℕ) × (n ≡ suc m) × (longest (λ xs. q (c ∷ xs)) rest ≡ Some m)
    found None h =
        let none : longest q (c ∷ rest) ≡ one_more false None = longest-cons q (λ xs. q (c ∷ xs)) c rest (λ xs. refl) ∙ ap (λ b. one_more b (longest (λ xs. q (c ∷ xs)) rest)) e ∙ ap (one_more false) h in
        absurd (let no : None ≡ Some n = sym none ∙ l in cc)
    found (Some m) h =
        let some : longest q (c ∷ rest) ≡ Some (suc m) = longest-cons q (λ xs. q (c ∷ xs)) c rest (λ xs. refl) ∙ ap (λ b. one_more b (longest (λ xs. q (c ∷ xs)) rest)) e ∙ ap (one_more false) h in
        (m, (let same : Some n ≡ Some (suc m) = sym l ∙ some in cc), h)

-- a mark
pub front-mark-some : (text : List ℕ) (n : ℕ) → IsTrue (begins is_other_byte text) → longest is_mark text ≡ Some n → front_of text ≡ Some (front Mark n)
front-mark-some [] n e l = absurd (true_not_false e refl)
front-mark-some (c ∷ rest) n e l =
    let o = other_is c e in
    let less = one_less is_mark c rest n refl l in
    front-some (λ xs. is_mark (c ∷ xs)) c rest less.0 Mark o.digit (λ xs. token_other c xs o) (λ xs. kind_other c xs o) less.2
    ∙ ap (λ k. Some (front Mark k)) (sym less.1)

none_less : (q : List ℕ → Bool) (c : ℕ) (rest : List ℕ) → q [] ≡ false → longest q (c ∷ rest) ≡ None → longest (λ xs. q (c ∷ xs)) rest ≡ None
none_less q c rest e l = found (longest (λ xs. q (c ∷ xs)) rest) refl
  where
    found : (r : Option ℕ) → longest (λ xs. q (c ∷ xs)) rest ≡ r → longest (λ xs. q (c ∷ xs)) rest ≡ None
    found None h = h
    found (Some m) h =
        let some : longest q (c ∷ rest) ≡ Some (suc m) = longest-cons q (λ xs. q (c ∷ xs)) c rest (λ xs. refl) ∙ ap (λ b. one_more b (longest (λ xs. q (c ∷ xs)) rest)) e ∙ ap (one_more false) h in
        absurd (let no : None ≡ Some (suc m) = sym l ∙ some in cc)

pub front-mark-none : (text : List ℕ) → IsTrue (begins is_other_byte text) → longest is_mark text ≡ None → front_of text ≡ None
front-mark-none [] e l = absurd (true_not_false e refl)
front-mark-none (c ∷ rest) e l =
    let o = other_is c e in
    front-none (λ xs. is_mark (c ∷ xs)) c rest (λ xs. token_other c xs o) (none_less is_mark c rest refl l)

-- a token has at least one byte, and no more than there are
limited_is : (text : List ℕ) (r : Option ℕ) (n : ℕ) → limited text r ≡ Some n → r ≡ Some n
limited_is text None n e = e
limited_is text (Some m) n e = which (begins is_digit text) (is_within (take m text)) e
  where
    which : (a b : Bool) → cond a (cond b (Some m) None) (Some m) ≡ Some n → Some m ≡ Some n
    which false b h = h
    which true true h = h
    which true false h = absurd (let no : None ≡ Some n = h in cc)

some_len : (text : List ℕ) (n : ℕ) → front_len text ≡ Some n → (0 < n) × (n ≤ length text)
unfolding front_len
some_len text zero e =
    absurd (true_not_false (IsLongest-from is_token text 0 (limited_is text (longest is_token text) 0 e)).passes refl)
some_len text (suc n) e =
    (omega arith, (IsLongest-from is_token text (suc n) (limited_is text (longest is_token text) (suc n) e)).within)

pub front-fits : (text : List ℕ) (r : Option ℕ) → front_len text ≡ r
    → IfSome (front_with text r) (λ f. 0 < f.len) × IfSome (front_with text r) (λ f. f.len ≤ length text)
front-fits text None e = (tt, tt)
front-fits text (Some n) e = some_len text n e

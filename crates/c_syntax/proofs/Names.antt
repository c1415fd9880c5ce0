-- Includes, and the names of fields.
use Rattle.std.proofs.Common.{◌≡◌, ◌≤◌, ◌+◌, ℕ, suc, List, [], ◌∷◌, ◌++◌, length, take, drop, refl, ap, sym, ◌∙◌, arith, Some, None, subst, append_assoc, take-append-drop}
use Rattle.std.specs.Prelude.{Bool, true, false, ◌==◌, ◌&&◌, cond, IsTrue, codes}
use Rattle.std.specs.List.{list_all, prefix_len}
use Rattle.std.proofs.lemmas.Bool.{eqb-true, eq-eqb}
use Rattle.std.proofs.lemmas.List.{length-drop}
use Rattle.va_base.specs.Longest.{one_more, longest}
use Rattle.va_base.specs.Spelling.{is_letter, begins, is_in_line}
use Rattle.va_base.proofs.Longest.{longest-none, longest-cons, longest-nil}
use Rattle.va_base.proofs.Tests.{not_true, true_not_false, and_left, and_right}
use Rattle.c_tree.specs.declared.token.CTokenKind.TheVariants.{Include, Field}
use Rattle.c_tree.specs.tokens.Spelling.{is_word_byte, text_then, is_include_rest, is_after_point, is_in_name}
use Rattle.c_syntax.specs.Fronts.{front, front_of, begins_name}
use Rattle.c_syntax.proofs.Longest.{cond_true, cond_false, rest_of, first-literal, none_passes, longest-all, drop-drop}
use Rattle.c_syntax.proofs.Fronts.{front-some, front-none}

-- certain bytes and then what passes
pub longest-text : (text : List ℕ) (test : List ℕ → Bool) (rest : List ℕ) (n : ℕ) → longest test rest ≡ Some n
    → longest (text_then text test) (text ++ rest) ≡ Some (length text + n)
longest-text [] test rest n e = e ∙ ap (λ k. Some k) (let same : n ≡ 0 + n = omega arith in same)
longest-text (b ∷ text) test rest n e =
    longest-cons (text_then (b ∷ text) test) (text_then text test) b (text ++ rest) (λ xs. ap (λ x. x && text_then text test xs) (eq-eqb b b refl))
    ∙ ap (one_more false) (longest-text text test rest n e)
    ∙ ap (λ k. Some k) (let same : suc (length text + n) ≡ length (b ∷ text) + n = omega arith in same)

-- what passes begins with them
text_begins : (text : List ℕ) (test : List ℕ → Bool) (xs : List ℕ) → text_then text test xs ≡ true → (rest : List ℕ) × (xs ≡ text ++ rest)
text_begins [] test xs e = (xs, refl)
text_begins (b ∷ text) test [] e = absurd (true_not_false e refl)
text_begins (b ∷ text) test (c ∷ xs) e =
    let same : c ≡ b = eqb-true c b (and_left (c == b) (text_then text test xs) e) in
    let more = text_begins text test xs (and_right (c == b) (text_then text test xs) e) in
    (more.0, let whole : c ∷ xs ≡ b ∷ (text ++ more.0) = cc (same, more.1) in whole)

pub no_text : (text : List ℕ) (test : List ℕ → Bool) (xs : List ℕ) → ((rest : List ℕ) → xs ≡ text ++ rest → ⊥) → longest (text_then text test) xs ≡ None
no_text text test xs none =
    longest-none (text_then text test) xs (λ m le. not_true _ (λ e.
    let b = text_begins text test (take m xs) e in
    none (b.0 ++ drop m xs) (sym (take-append-drop m xs) ∙ ap (λ t. t ++ drop m xs) b.1 ∙ append_assoc text b.0 (drop m xs))))

-- an include
pub front-include : (text rest : List ℕ) → IsTrue (begins (λ first. first == 35) text) → rest_of text ≡ codes "include" ++ rest
    → front_of text ≡ Some (front Include (8 + prefix_len is_in_line rest))
front-include text rest e is =
    let n = prefix_len is_in_line rest in
    ap front_of (first-literal 35 text e ∙ ap (λ t. 35 ∷ t) is)
    ∙ front-some is_include_rest 35 (codes "include" ++ rest) (7 + n) Include refl (λ xs. refl) (λ xs. refl)
    (longest-text (codes "include") (list_all is_in_line) rest n (longest-all is_in_line rest))
    ∙ ap (λ k. Some (front Include k)) (let one : suc (7 + n) ≡ 8 + n = omega arith in one)

pub front-no_include : (text : List ℕ) → IsTrue (begins (λ first. first == 35) text) → ((rest : List ℕ) → rest_of text ≡ codes "include" ++ rest → ⊥)
    → front_of text ≡ None
front-no_include text e none =
    ap front_of (first-literal 35 text e)
    ∙ front-none is_include_rest 35 (rest_of text) (λ xs. refl) (no_text (codes "include") (list_all is_in_line) (rest_of text) none)

-- names
word_no_point : (c : ℕ) → is_word_byte c ≡ true → (c == 46) ≡ false
word_no_point c w = not_true _ (λ q. true_not_false (sym (ap is_word_byte (eqb-true c 46 q)) ∙ w) refl)

name_more : (c : ℕ) (rest : List ℕ) (n : ℕ) (b : Bool) → is_word_byte c ≡ b
    → longest is_in_name (drop (cond b (1 + prefix_len is_word_byte rest) 0) (c ∷ rest)) ≡ Some n
    → ((k : ℕ) → longest is_in_name (drop (prefix_len is_word_byte rest) rest) ≡ Some k → longest is_in_name rest ≡ Some (prefix_len is_word_byte rest + k))
    → longest is_in_name (c ∷ rest) ≡ Some (cond b (1 + prefix_len is_word_byte rest) 0 + n)
name_more c rest n true w e more =
    let m = prefix_len is_word_byte rest in
    let cut : longest is_in_name (drop m rest) ≡ Some n =
    ap (λ k. longest is_in_name (drop k (c ∷ rest))) (let one : suc m ≡ 1 + m = omega arith in one) ∙ e in
    longest-cons is_in_name is_in_name c rest (λ xs. cond_false (c == 46) _ _ (word_no_point c w) ∙ ap (λ x. x && is_in_name xs) w)
    ∙ ap (one_more true) (more n cut) ∙ ap (λ k. Some k) (let same : suc (m + n) ≡ 1 + m + n = omega arith in same)
name_more c rest n false w e more = e ∙ ap (λ k. Some k) (let same : n ≡ 0 + n = omega arith in same)

-- the bytes of a word, and what stands behind it
pub name-word : (text : List ℕ) (n : ℕ) → longest is_in_name (drop (prefix_len is_word_byte text) text) ≡ Some n
    → longest is_in_name text ≡ Some (prefix_len is_word_byte text + n)
name-word [] n e = e ∙ ap (λ k. Some k) (let same : n ≡ 0 + n = omega arith in same)
name-word (c ∷ rest) n e = name_more c rest n (is_word_byte c) refl e (name-word rest)

-- a point and a letter, and what stands behind them
pub name-point : (text : List ℕ) (n : ℕ) → begins_name text ≡ true → longest is_in_name (drop 2 text) ≡ Some n → longest is_in_name text ≡ Some (2 + n)
name-point [] n b e = absurd (true_not_false b refl)
name-point (c ∷ []) n b e = absurd (true_not_false b refl)
name-point (c ∷ d ∷ rest) n b e =
    let letter = and_right (c == 46) (is_letter d) b in
    longest-cons is_in_name is_after_point c (d ∷ rest) (λ xs. cond_true (c == 46) _ _ (and_left (c == 46) (is_letter d) b))
    ∙ ap (one_more true) (longest-cons is_after_point is_in_name d rest (λ xs. ap (λ x. x && is_in_name xs) letter) ∙ ap (one_more false) e)
    ∙ ap (λ k. Some k) (let two : suc (suc n) ≡ 2 + n = omega arith in two)

no_letter : (text : List ℕ) → begins is_letter text ≡ false → longest is_after_point text ≡ None
no_letter [] e = longest-nil is_after_point [] refl
no_letter (d ∷ rest) e = longest-cons is_after_point (λ xs. false) d rest (λ xs. ap (λ x. x && is_in_name xs) e) ∙ ap (one_more false) (none_passes rest)

no_name : (c : ℕ) (rest : List ℕ) → c ≡ 46 → begins_name (c ∷ rest) ≡ false → begins is_letter rest ≡ false
no_name c [] p b = refl
no_name c (d ∷ rest) p b = let P : ℕ → Type 0 = λ x. (x == 46 && is_letter d) ≡ false in subst P p b

-- what goes on with no name
pub name-stop : (text : List ℕ) → begins_name text ≡ false → begins is_word_byte text ≡ false → longest is_in_name text ≡ Some 0
name-stop [] b w = longest-nil is_in_name [] refl
name-stop (c ∷ rest) b w = stop (c == 46) refl
  where
    stop : (x : Bool) → (c == 46) ≡ x → longest is_in_name (c ∷ rest) ≡ Some 0
    stop true p =
        longest-cons is_in_name is_after_point c rest (λ xs. cond_true (c == 46) _ _ p)
        ∙ ap (one_more true) (no_letter rest (no_name c rest (eqb-true c 46 p) b))
    stop false p =
        longest-cons is_in_name (λ xs. false) c rest (λ xs. cond_false (c == 46) _ _ p ∙ ap (λ x. x && is_in_name xs) w)
        ∙ ap (one_more true) (none_passes rest)

-- a word ends where no byte of it follows
word_end : (c : ℕ) (rest : List ℕ) (b : Bool) → is_word_byte c ≡ b
    → begins is_word_byte (drop (prefix_len is_word_byte rest) rest) ≡ false
    → begins is_word_byte (drop (cond b (1 + prefix_len is_word_byte rest) 0) (c ∷ rest)) ≡ false
word_end c rest true w e =
    let m = prefix_len is_word_byte rest in
    ap (λ k. begins is_word_byte (drop k (c ∷ rest))) (let one : 1 + m ≡ suc m = omega arith in one) ∙ e
word_end c rest false w e = w

pub word-ends : (text : List ℕ) → begins is_word_byte (drop (prefix_len is_word_byte text) text) ≡ false
word-ends [] = refl
word-ends (c ∷ rest) = word_end c rest (is_word_byte c) refl (word-ends rest)

-- the name of a field
pub front-field : (text : List ℕ) (n : ℕ) → begins_name text ≡ true → longest is_in_name (drop 2 text) ≡ Some n → front_of text ≡ Some (front Field (2 + n))
front-field [] n b e = absurd (true_not_false b refl)
front-field (c ∷ []) n b e = absurd (true_not_false b refl)
front-field (c ∷ d ∷ rest) n b e =
    let letter = and_right (c == 46) (is_letter d) b in
    ap (λ x. front_of (x ∷ d ∷ rest)) (eqb-true c 46 (and_left (c == 46) (is_letter d) b))
    ∙ front-some is_after_point 46 (d ∷ rest) (suc n) Field refl (λ xs. refl) (λ xs. refl)
    (longest-cons is_after_point is_in_name d rest (λ xs. ap (λ x. x && is_in_name xs) letter) ∙ ap (one_more false) e)
    ∙ ap (λ k. Some (front Field k)) (let two : suc (suc n) ≡ 2 + n = omega arith in two)

pub front-no_field : (text : List ℕ) → IsTrue (begins (λ first. first == 46) text) → begins_name text ≡ false → front_of text ≡ None
front-no_field [] e b = absurd (true_not_false e refl)
front-no_field (c ∷ rest) e b =
    let point = eqb-true c 46 e in
    ap (λ x. front_of (x ∷ rest)) point
    ∙ front-none is_after_point 46 rest (λ xs. refl) (no_letter rest (no_name c rest point b))

name_long : (text : List ℕ) → begins_name text ≡ true → 2 ≤ length text
name_long [] b = absurd (true_not_false b refl)
name_long (c ∷ []) b = absurd (true_not_false b refl)
name_long (c ∷ d ∷ rest) b = omega arith

-- one more name: a point, and a word of r + 1 bytes
pub record NextName (text : List ℕ) (at r : ℕ) : Type 0 where
  pub long : at + 2 ≤ length text
  pub ends : begins is_word_byte (drop (at + 2 + r) text) ≡ false
  pub whole : (n : ℕ) → longest is_in_name (drop (at + 2 + r) text) ≡ Some n → longest is_in_name (drop at text) ≡ Some (2 + (r + n))

pub next-name : (text : List ℕ) (at r : ℕ) → at ≤ length text → r ≡ prefix_len is_word_byte (drop (at + 2) text) → begins_name (drop at text) ≡ true
    → NextName text at r
next-name text at r le count b =
    let t = drop (at + 2) text in
    let past : drop (prefix_len is_word_byte t) t ≡ drop (at + 2 + r) text = ap (λ k. drop k t) (sym count) ∙ drop-drop (at + 2) r text in
    record {
      long = omega (arith, name_long (drop at text) b, length-drop at text);
      ends = ap (begins is_word_byte) (sym past) ∙ word-ends t;
      whole = λ n e. name-point (drop at text) (r + n) b
          (ap (longest is_in_name) (drop-drop at 2 text) ∙ name-word t n (ap (longest is_in_name) past ∙ e) ∙ ap (λ k. Some (k + n)) (sym count));
    }

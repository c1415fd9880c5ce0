-- The tokens of words that stand for themselves.
use Rattle.std.proofs.Common.{◌≡◌, ◌<◌, ◌≤◌, ◌+◌, ◌-◌, ℕ, suc, List, [], ◌∷◌, ◌++◌, length, take, drop, refl, ap, sym, subst, ◌∙◌, arith, append_assoc, Some, None}
use Rattle.std.specs.Prelude.{Bool, true, false, not, ◌==◌, ◌&&◌, ◌||◌, if◌then◌else◌, map, codes}
use Rattle.std.specs.List.{list_all, list_any, slice_split}
use Rattle.std.specs.Str.{bytes_eq}
use Rattle.std.proofs.lemmas.Bool.{and_parts, eqb-true}
use Rattle.std.proofs.lemmas.List.{length-append}
use Rattle.std.proofs.Math.Seq.{take-append_seam, take-append-add, drop-append_seam}
use Rattle.va_base.specs.Longest.{IsLongest}
use Rattle.va_base.specs.Spelling.{is_digit, is_in_line}
use Rattle.va_base.proofs.Longest.{longest_is}
use Rattle.va_base.proofs.Tests.{true_not_false, and_false, or_false}
use Rattle.c_tree.specs.Words.{Word, ends_line, spaced, spelled}
use Rattle.c_tree.specs.declared.token.CToken.{CToken}
use Rattle.c_tree.specs.declared.token.CTokenKind.{CTokenKind}
use Rattle.c_tree.specs.tokens.Spelling.{is_separator, is_token, token_kind}
use Rattle.c_tree.specs.tokens.Limits.{is_within}
use Rattle.c_tree.specs.tokens.Tokens.{limited, front_len, token_at, token_before, tokens_at, less_one, tokens_from, bytes_of}
use Rattle.c_syntax.proofs.Longest.{cond_true, cond_false, no_left, no_right}
use Rattle.c_law_words.specs.Standing.{is_alone, tokens_of_words, WordsAreRead}
use Rattle.c_law_words.proofs.Separate.{Separates, token_stops}

-- the second of two bytes
abbrev is_second : ℕ → List ℕ → Bool
is_second d [] = false
is_second d (a ∷ []) = false
is_second d (a ∷ b ∷ rest) = d == b

abbrev double_marks : List (List ℕ)
double_marks = slice_split (λ byte. byte == 32) (codes "-> && <= >= == != += -=")

one_second : (c d : ℕ) (mark : List ℕ) → is_second d mark ≡ false → bytes_eq (c ∷ d ∷ []) mark ≡ false
one_second c d [] h = refl
one_second c d (a ∷ []) h = and_false (c == a) false refl
one_second c d (a ∷ b ∷ rest) h = and_false (c == a) (bytes_eq (d ∷ []) (b ∷ rest)) (ap (λ t. t && bytes_eq [] rest) h)

no_second : (c d : ℕ) (marks : List (List ℕ)) → list_any (is_second d) marks ≡ false → list_any (bytes_eq (c ∷ d ∷ [])) marks ≡ false
no_second c d [] h = refl
no_second c d (mark ∷ marks) h =
    or_false (bytes_eq (c ∷ d ∷ []) mark) (list_any (bytes_eq (c ∷ d ∷ [])) marks)
    (one_second c d mark (no_left (is_second d mark) (list_any (is_second d) marks) h))
    (no_second c d marks (no_right (is_second d mark) (list_any (is_second d) marks) h))

-- the two separators
space_separates : Separates 32
space_separates = record { word_byte = refl; digit = refl; u = refl; e = refl; point = refl; second = λ c. no_second c 32 double_marks refl }

line_separates : Separates 10
line_separates = record { word_byte = refl; digit = refl; u = refl; e = refl; point = refl; second = λ c. no_second c 10 double_marks refl }

-- what stands behind a word
abbrev behind : Word → ℕ
behind w = if ends_line w then 10 else 32

behind_separates : (w : Word) → Separates (behind w)
behind_separates w = by_end (ends_line w)
  where
    by_end : (b : Bool) → Separates (if b then 10 else 32)
    by_end true = line_separates
    by_end false = space_separates

separator_is : (w : Word) → is_separator (behind w) ≡ true
separator_is w = by_end (ends_line w)
  where
    by_end : (b : Bool) → is_separator (if b then 10 else 32) ≡ true
    by_end true = refl
    by_end false = refl

-- the parts of the test on a word
record Alone (c : ℕ) (xs : List ℕ) : Type 0 where
  token : is_token (c ∷ xs) ≡ true
  within : is_digit c ≡ true → is_within (c ∷ xs) ≡ true
  include : (c == 35) ≡ true → is_in_line (behind (c ∷ xs)) ≡ false

implies : (a b : Bool) → (not a || b) ≡ true → a ≡ true → b ≡ true
implies true b h e = h
implies false b h e = absurd (true_not_false e refl)

alone_parts : (c : ℕ) (xs : List ℕ) → is_alone (c ∷ xs) ≡ true → Alone c xs
alone_parts c xs h =
    let first = is_token (c ∷ xs) && (not (is_digit c) || is_within (c ∷ xs)) in
    let p = and_parts first (not (c == 35) || ends_line (c ∷ xs)) h in
    let q = and_parts (is_token (c ∷ xs)) (not (is_digit c) || is_within (c ∷ xs)) p.0 in
    record {
      token = q.0;
      within = implies (is_digit c) (is_within (c ∷ xs)) q.1;
      include = λ e. ap (λ b. is_in_line (if b then 10 else 32)) (implies (c == 35) (ends_line (c ∷ xs)) p.1 e);
    }

-- the word is the longest token at the front of it with what stands behind it
word_longest : (c : ℕ) (xs more : List ℕ) → Alone c xs → IsLongest is_token (c ∷ (xs ++ behind (c ∷ xs) ∷ more)) (suc (length xs))
word_longest c xs more a =
    record {
      within = omega (arith, length-append xs (behind (c ∷ xs) ∷ more));
      passes = ap (λ l. is_token (c ∷ l)) (take-append_seam xs (behind (c ∷ xs) ∷ more)) ∙ a.token;
      longer = longer;
    }
  where
    cut : (j : ℕ) → is_token (take (suc (length xs) + suc j) (c ∷ (xs ++ behind (c ∷ xs) ∷ more))) ≡ false
    cut j =
        ap is_token (take-append-add (c ∷ xs) (behind (c ∷ xs) ∷ more) (suc j))
        ∙ token_stops (behind (c ∷ xs)) (behind_separates (c ∷ xs)) (take j more) c xs a.include a.token

    longer : (m : ℕ) → suc (length xs) < m → m ≤ length (c ∷ (xs ++ behind (c ∷ xs) ∷ more)) → is_token (take m (c ∷ (xs ++ behind (c ∷ xs) ∷ more))) ≡ false
    longer m lt le =
        let j = m - suc (suc (length xs)) in
        let same : suc (length xs) + suc j ≡ m = omega (arith, lt) in
        subst (λ (n : ℕ). is_token (take n (c ∷ (xs ++ behind (c ∷ xs) ∷ more))) ≡ false) same (cut j)

limited_word : (b : Bool) (c n : ℕ) (text word : List ℕ) → is_digit c ≡ b → take n (c ∷ text) ≡ word → (b ≡ true → is_within word ≡ true)
    → limited (c ∷ text) (Some n) ≡ Some n
limited_word true c n text word d t w =
    cond_true (is_digit c) (if is_within (take n (c ∷ text)) then Some n else None) (Some n) d
    ∙ cond_true (is_within (take n (c ∷ text))) (Some n) None (ap is_within t ∙ w refl)
limited_word false c n text word d t w = cond_false (is_digit c) (if is_within (take n (c ∷ text)) then Some n else None) (Some n) d

word_front : (c : ℕ) (xs more : List ℕ) → Alone c xs → front_len (c ∷ (xs ++ behind (c ∷ xs) ∷ more)) ≡ Some (suc (length xs))
unfolding front_len
word_front c xs more a =
    ap (limited (c ∷ (xs ++ behind (c ∷ xs) ∷ more))) (longest_is is_token (c ∷ (xs ++ behind (c ∷ xs) ∷ more)) (suc (length xs)) (word_longest c xs more a))
    ∙ limited_word (is_digit c) c (suc (length xs)) (xs ++ behind (c ∷ xs) ∷ more) (c ∷ xs) refl
    (ap (λ l. c ∷ l) (take-append_seam xs (behind (c ∷ xs) ∷ more))) a.within

-- no mark, and so no token, begins with a separator
no_token_first : (s : ℕ) (xs : List ℕ) → s ≡ 10 → is_token (s ∷ xs) ≡ true → false ≡ true
no_token_first s xs e h = by_rest xs (subst (λ (n : ℕ). is_token (n ∷ xs) ≡ true) e h)
  where
    by_rest : (ys : List ℕ) → is_token (10 ∷ ys) ≡ true → false ≡ true
    by_rest [] g = g
    by_rest (d ∷ []) g = g
    by_rest (d ∷ e ∷ ys) g = g

no_token_space : (s : ℕ) (xs : List ℕ) → s ≡ 32 → is_token (s ∷ xs) ≡ true → false ≡ true
no_token_space s xs e h = by_rest xs (subst (λ (n : ℕ). is_token (n ∷ xs) ≡ true) e h)
  where
    by_rest : (ys : List ℕ) → is_token (32 ∷ ys) ≡ true → false ≡ true
    by_rest [] g = g
    by_rest (d ∷ []) g = g
    by_rest (d ∷ e ∷ ys) g = g

first_no_separator : (c : ℕ) (xs : List ℕ) → is_token (c ∷ xs) ≡ true → is_separator c ≡ false
first_no_separator c xs h = by_tests (c == 10) (c == 32) refl refl
  where
    by_tests : (a b : Bool) → (c == 10) ≡ a → (c == 32) ≡ b → (a || b) ≡ false
    by_tests true b d e = absurd (true_not_false (no_token_first c xs (eqb-true c 10 d) h) refl)
    by_tests false true d e = absurd (true_not_false (no_token_space c xs (eqb-true c 32 e) h) refl)
    by_tests false false d e = refl

-- the rest of a word is passed
word_passed : (at : ℕ) (xs text : List ℕ) → tokens_from at (length xs) (xs ++ text) ≡ tokens_from (at + length xs) 0 text
unfolding tokens_from
word_passed at [] text = ap (λ i. tokens_from i 0 text) (let same : at ≡ at + 0 = omega arith in same)
word_passed at (x ∷ xs) text =
    word_passed (at + 1) xs text ∙ ap (λ i. tokens_from i 0 text) (let same : at + 1 + length xs ≡ at + suc (length xs) = omega arith in same)

separator_passed : (at s : ℕ) (text : List ℕ) → is_separator s ≡ true → tokens_from at 0 (s ∷ text) ≡ tokens_from (at + 1) 0 text
unfolding tokens_from
separator_passed at s text e = cond_true (is_separator s) _ _ e

-- a word with what stands behind it
word_read : (at c : ℕ) (xs more : List ℕ) → Alone c xs
    → tokens_from at 0 (c ∷ (xs ++ behind (c ∷ xs) ∷ more))
    ≡ token_before (record { kind = token_kind (c ∷ xs); first = at; len = suc (length xs) }) (tokens_from (at + suc (length xs) + 1) 0 more)
unfolding tokens_from
word_read at c xs more a =
    let text = xs ++ behind (c ∷ xs) ∷ more in
    cond_false (is_separator c) _ _ (first_no_separator c xs a.token)
    ∙ ap (λ r. tokens_at at (c ∷ text) r (tokens_from (at + 1) (less_one r) text)) (word_front c xs more a)
    ∙ ap (token_before (token_at at (suc (length xs)) (c ∷ text)))
    (ap (λ k. tokens_from (at + 1) k text) (let less : suc (length xs) - 1 ≡ length xs = omega arith in less)
    ∙ word_passed (at + 1) xs (behind (c ∷ xs) ∷ more)
    ∙ separator_passed (at + 1 + length xs) (behind (c ∷ xs)) more (separator_is (c ∷ xs))
    ∙ ap (λ i. tokens_from i 0 more) (let same : at + 1 + length xs + 1 ≡ at + suc (length xs) + 1 = omega arith in same))
    ∙ ap (λ w. token_before (let t : CToken = record { kind = token_kind w; first = at; len = suc (length xs) } in t) (tokens_from (at + suc (length xs) + 1) 0 more))
    (ap (λ l. c ∷ l) (take-append_seam xs (behind (c ∷ xs) ∷ more)))

spelled_first : (w : Word) (words : List Word) → spelled (w ∷ words) ≡ w ++ behind w ∷ spelled words
unfolding spaced
spelled_first w words = append_assoc w (behind w ∷ []) (spelled words)

tokens_nil : (at : ℕ) → tokens_from at 0 [] ≡ record { tokens = []; bad = None }
unfolding tokens_from
tokens_nil at = refl

tokens_read : (at : ℕ) (words : List Word) → list_all is_alone words ≡ true → tokens_from at 0 (spelled words) ≡ record { tokens = tokens_of_words at words; bad = None }
tokens_read at [] h = tokens_nil at
tokens_read at ([] ∷ words) h = absurd (true_not_false h refl)
tokens_read at ((c ∷ xs) ∷ words) h =
    let p = and_parts (is_alone (c ∷ xs)) (list_all is_alone words) h in
    ap (tokens_from at 0) (spelled_first (c ∷ xs) words)
    ∙ word_read at c xs (spelled words) (alone_parts c xs p.0)
    ∙ ap (token_before (record { kind = token_kind (c ∷ xs); first = at; len = suc (length xs) })) (tokens_read (at + suc (length xs) + 1) words p.1)

-- what the tokens' kinds and bytes give, word by word
module _ {X : Type 0} (f : CTokenKind → List ℕ → X) where
  words_given : (before : List ℕ) (words : List Word) (text : List ℕ) (at : ℕ) → text ≡ before ++ spelled words → at ≡ length before
      → map (λ (t : CToken). f t.kind (bytes_of text t)) (tokens_of_words at words) ≡ map (λ w. f (token_kind w) w) words
  words_given before [] text at e n = refl
  words_given before (w ∷ words) text at e n =
      let here : bytes_of text (record { kind = token_kind w; first = at; len = length w }) ≡ w =
      ap (λ i. take (length w) (drop i text)) n ∙ ap (λ l. take (length w) (drop (length before) l)) (e ∙ ap (λ l. before ++ l) (spelled_first w words))
      ∙ ap (take (length w)) (drop-append_seam before (w ++ behind w ∷ spelled words)) ∙ take-append_seam w (behind w ∷ spelled words) in
      let next : text ≡ (before ++ w ++ behind w ∷ []) ++ spelled words =
      e ∙ ap (λ l. before ++ l) (spelled_first w words) ∙ sym (append_assoc (before ++ w) (behind w ∷ []) (spelled words) ∙ append_assoc before w (behind w ∷ spelled words)) in
      let length_is : at + length w + 1 ≡ length (before ++ w ++ behind w ∷ []) =
      omega (arith, n, length-append (before ++ w) (behind w ∷ []), length-append before w) in
      λ i. f (token_kind w) (here i) ∷ words_given (before ++ w ++ behind w ∷ []) words text (at + length w + 1) next length_is i

map_same : (words : List Word) → map (λ w. w) words ≡ words
map_same [] = refl
map_same (w ∷ words) = ap (λ l. w ∷ l) (map_same words)

-- what the kinds and bytes of the tokens of a text give
pub read_words : {X : Type 0} (f : CTokenKind → List ℕ → X) (words : List Word)
    → map (λ (t : CToken). f t.kind (bytes_of (spelled words) t)) (tokens_of_words 0 words) ≡ map (λ w. f (token_kind w) w) words
read_words f words = words_given f [] words (spelled words) 0 refl refl

pub words_are_read : WordsAreRead
words_are_read words h = record { all = tokens_read 0 words h; bytes = read_words (λ k w. w) words ∙ map_same words }

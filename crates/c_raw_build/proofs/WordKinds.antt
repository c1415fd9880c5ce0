-- Which kind of token a word of some kind is, and what the kinds of names with numbers tell.
use Rattle.std.proofs.Common.{◌≡◌, ◌⊎◌, inl, inr, ◌<◌, ◌+◌, ℕ, zero, suc, List, [], ◌∷◌, length, take, drop, get_or, refl, ap, sym, subst, ◌∙◌, arith, Some, None, Option}
use Rattle.std.specs.Prelude.{Bool, true, false, not, ◌==◌, ◌&&◌, ◌||◌, if◌then◌else◌, nat_lt, nat_le, codes, slice_get, cond}
use Rattle.std.specs.List.{list_all, prefix_len, filter}
use Rattle.std.specs.Option.{unwrap_or, is_some}
use Rattle.std.specs.Str.{bytes_eq}
use Rattle.std.proofs.lemmas.Bool.{and_parts, and_from, or_cases}
use Rattle.std.proofs.lemmas.Bool.Decides.{nat_tests}
use Rattle.std.proofs.lemmas.Slice.Eq.{bytes_eq-Decides}
use Rattle.va_base.proofs.Longest.{some_none, some_same}
use Rattle.va_base.proofs.Tests.{or_left, or_right}
use Rattle.c_tree.specs.Words.{Word, template, include_words}
use Rattle.c_tree.specs.declared.token.CTokenKind.{CTokenKind}
use Rattle.c_tree.specs.declared.token.CTokenKind.TheVariants.{Include, Word as OfWord, Field, Integer, Unsigned, Real, Text, Mark}
use Rattle.c_tree.specs.tokens.Spelling.{token_kind}
use Rattle.c_syntax.specs.grammar.Names.{mark_names, word_names, field_names, place_of, one_further}
use Rattle.c_syntax.specs.grammar.Kinds.{is_number_in_name, are_two_numbers, is_no_digit, numbered_names, numbered_kinds, kind_with_place, function_kind, numbered_kind, function_names, kind_from, plain_word_kind, word_kind, kind_of}
use Rattle.c_raw_build.specs.Due.{IsOfKind}

-- a name stands at the place that is found for it
pub place_holds : (names : List Word) (w : Word) (i : ℕ) → place_of names w ≡ Some i → slice_get names i ≡ Some w
place_holds [] w i h = absurd (some_none (sym h))
place_holds (name ∷ names) w i h = by_test (bytes_eq name w) refl h (place_holds names w)
  where
    by_place : (o : Option ℕ) → place_of names w ≡ o → one_further o ≡ Some i → ((j : ℕ) → place_of names w ≡ Some j → slice_get names j ≡ Some w)
        → slice_get (name ∷ names) i ≡ Some w
    by_place None p h more = absurd (some_none (sym h))
    by_place (Some j) p h more = subst (λ n. slice_get (name ∷ names) n ≡ Some w) (some_same h) (more j p)

    by_test : (b : Bool) → bytes_eq name w ≡ b → (if b then Some 0 else one_further (place_of names w)) ≡ Some i
        → ((j : ℕ) → place_of names w ≡ Some j → slice_get names j ≡ Some w) → slice_get (name ∷ names) i ≡ Some w
    by_test true e h more = subst (λ n. slice_get (name ∷ names) n ≡ Some w) (some_same h) (ap Some ((bytes_eq-Decides name w).0 e))
    by_test false e h more = by_place (place_of names w) refl h more

-- and the place is within the names
place_few : (names : List Word) (i : ℕ) (w : Word) → slice_get names i ≡ Some w → i < length names
place_few [] i w h = absurd (some_none (sym h))
place_few (name ∷ names) zero w h = omega arith
place_few (name ∷ names) (suc i) w h = omega (arith, place_few names i w h)

-- what all of a list and the other value pass, the one at a place does
pub got_passes : {A : Type 0} (test : A → Bool) (xs : List A) (i : ℕ) (d : A) → list_all test xs ≡ true → test d ≡ true → test (get_or xs i d) ≡ true
got_passes test [] i d h e = e
got_passes test (x ∷ xs) zero d h e = (and_parts (test x) (list_all test xs) h).0
got_passes test (x ∷ xs) (suc i) d h e = got_passes test xs i d (and_parts (test x) (list_all test xs) h).1 e

-- the kinds that words of a kind of token can have
abbrev pub may_have : CTokenKind → ℕ → Bool
may_have Include k = nat_lt k 7
may_have OfWord k = k == 1 || k == 11 || nat_le 12 k && nat_le k 32 || nat_le 65 k && nat_lt k 135
may_have Field k = k == 1 || nat_le 135 k
may_have Integer k = k == 8 || k == 33 || k == 34
may_have Unsigned k = k == 9 || k == 35 || k == 36 || k == 37
may_have Real k = k == 10
may_have Text k = k == 7
may_have Mark k = k == 1 || nat_le 38 k && nat_lt k 65

-- a kind by its place among names
placed_kind : (test : ℕ → Bool) (from : ℕ) (names : List Word) (kind : ℕ) (w : Word) → ((i : ℕ) → i < length names → test (from + i) ≡ true) → test kind ≡ true
    → test (kind_from from (place_of names w) kind) ≡ true
placed_kind test from names kind w h e = by_place (place_of names w) refl
  where
    by_place : (o : Option ℕ) → place_of names w ≡ o → test (kind_from from o kind) ≡ true
    by_place None p = e
    by_place (Some i) p = h i (place_few names i w (place_holds names w i p))

include_has : (i : ℕ) → i < 5 → may_have Include (2 + i) ≡ true
include_has i h = grind (arith, nat_tests)

mark_has : (i : ℕ) → i < 27 → may_have Mark (38 + i) ≡ true
mark_has i h = or_right (38 + i == 1) _ (and_from (nat_le 38 (38 + i)) (nat_lt (38 + i) 65) (grind (arith, nat_tests)) (grind (arith, nat_tests)))

field_has : (i : ℕ) → may_have Field (135 + i) ≡ true
field_has i = or_right (135 + i == 1) _ (grind (arith, nat_tests))

-- the kinds of words without numbers
abbrev pub is_plain_kind : ℕ → Bool
is_plain_kind k = k == 1 || k == 11 || nat_le 65 k && nat_lt k 135

plain_has : (i : ℕ) → i < 70 → is_plain_kind (65 + i) ≡ true
plain_has i h = or_right (65 + i == 1 || 65 + i == 11) _ (and_from (nat_le 65 (65 + i)) (nat_lt (65 + i) 135) (grind (arith, nat_tests)) (grind (arith, nat_tests)))

-- the kinds of names with numbers
abbrev pub is_numbered_kind : ℕ → Bool
is_numbered_kind k = nat_le 12 k && nat_le k 32

-- how many names there are
includes_few : length include_words ≡ 5
unfolding include_words
includes_few = refl

marks_few : length mark_names ≡ 27
unfolding mark_names template
marks_few = refl

words_few : length word_names ≡ 70
unfolding word_names template
words_few = refl

pub plain_kind : (w : Word) → is_plain_kind (plain_word_kind w) ≡ true
plain_kind w =
    placed_kind is_plain_kind 65 word_names (if is_some (place_of function_names w) then 11 else 1) w (λ i h. plain_has i (subst (λ n. i < n) words_few h)) (other (is_some (place_of function_names w)))
  where
    other : (b : Bool) → is_plain_kind (if b then 11 else 1) ≡ true
    other true = refl
    other false = refl

-- a name with one number, by its kind
pub record IsNumbered (name rest : List ℕ) (k : ℕ) : Type 0 where
  pub number : is_number_in_name rest ≡ true
  pub kind : kind_with_place numbered_kinds (place_of numbered_names name) ≡ Some k

-- the name of a module's function, by its kind
pub record IsFunction (name rest : List ℕ) (k : ℕ) : Type 0 where
  pub name_is : name ≡ codes "fn_"
  pub numbers : are_two_numbers rest ≡ true
  pub kind : 15 ≡ k

pub numbered_cases : (name rest : List ℕ) (k : ℕ) → numbered_kind name rest ≡ Some k → IsNumbered name rest k ⊎ IsFunction name rest k
numbered_cases name rest k h = by_name (bytes_eq name (codes "fn_")) refl h
  where
    by_two : (b : Bool) → are_two_numbers rest ≡ b → name ≡ codes "fn_" → (if b then Some 15 else None) ≡ Some k → IsNumbered name rest k ⊎ IsFunction name rest k
    by_two true e n h = inr (record { name_is = n; numbers = e; kind = some_same h })
    by_two false e n h = absurd (some_none (sym h))

    by_number : (b : Bool) → is_number_in_name rest ≡ b → (if b then kind_with_place numbered_kinds (place_of numbered_names name) else None) ≡ Some k
        → IsNumbered name rest k ⊎ IsFunction name rest k
    by_number true e h = inl (record { number = e; kind = h })
    by_number false e h = absurd (some_none (sym h))

    by_name : (b : Bool) → bytes_eq name (codes "fn_") ≡ b
        → (if b then function_kind rest else (if is_number_in_name rest then kind_with_place numbered_kinds (place_of numbered_names name) else None)) ≡ Some k
        → IsNumbered name rest k ⊎ IsFunction name rest k
    by_name true e h = by_two (are_two_numbers rest) refl ((bytes_eq-Decides name (codes "fn_")).0 e) h
    by_name false e h = by_number (is_number_in_name rest) refl h

-- the kinds in the list, less that of a function
abbrev pub is_listed_kind : ℕ → Bool
is_listed_kind k = is_numbered_kind k && not (k == 15)

names_few : length numbered_names ≡ 27
unfolding numbered_names template
names_few = refl

pub listed_kind : (name : List ℕ) (k : ℕ) → kind_with_place numbered_kinds (place_of numbered_names name) ≡ Some k → is_listed_kind k ≡ true
listed_kind name k h = by_place (place_of numbered_names name) refl h
  where
    by_place : (o : Option ℕ) → place_of numbered_names name ≡ o → kind_with_place numbered_kinds o ≡ Some k → is_listed_kind k ≡ true
    by_place None p h = absurd (some_none (sym h))
    by_place (Some i) p h =
        let few : i < 27 = subst (λ n. i < n) names_few (place_few numbered_names i name (place_holds numbered_names name i p)) in
        subst (λ n. is_listed_kind n ≡ true) (some_same h) (within numbered_kinds i few refl)
      where
        within : (kinds : List ℕ) (i : ℕ) → i < length kinds → list_all is_listed_kind kinds ≡ true → is_listed_kind (get_or kinds i 1) ≡ true
        within [] i few all = absurd (omega (arith, few))
        within (x ∷ kinds) zero few all = (and_parts (is_listed_kind x) (list_all is_listed_kind kinds) all).0
        within (x ∷ kinds) (suc i) few all = within kinds i (omega (arith, few)) (and_parts (is_listed_kind x) (list_all is_listed_kind kinds) all).1

pub numbered_has : (name rest : List ℕ) (k : ℕ) → numbered_kind name rest ≡ Some k → is_numbered_kind k ≡ true
numbered_has name rest k h =
    elim (numbered_cases name rest k h) [
      | inl n ↦ (and_parts (is_numbered_kind k) (not (k == 15)) (listed_kind name k n.kind)).0
      | inr f ↦ subst (λ n. is_numbered_kind n ≡ true) f.kind refl
    ]

word_has : (w : Word) → may_have OfWord (word_kind w) ≡ true
word_has w = by_number (numbered_kind (take (prefix_len is_no_digit w) w) (drop (prefix_len is_no_digit w) w)) refl
  where
    plain_may : (k : ℕ) → is_plain_kind k ≡ true → may_have OfWord k ≡ true
    plain_may k h =
        elim (or_cases (k == 1 || k == 11) (nat_le 65 k && nat_lt k 135) h) [
          | inl e ↦ or_left (k == 1 || k == 11 || nat_le 12 k && nat_le k 32) _ (or_left (k == 1 || k == 11) _ e)
          | inr e ↦ or_right (k == 1 || k == 11 || nat_le 12 k && nat_le k 32) _ e
        ]

    by_number : (o : Option ℕ) → numbered_kind (take (prefix_len is_no_digit w) w) (drop (prefix_len is_no_digit w) w) ≡ o → may_have OfWord (unwrap_or o (plain_word_kind w)) ≡ true
    by_number None e = plain_may (plain_word_kind w) (plain_kind w)
    by_number (Some k) e =
        or_left (k == 1 || k == 11 || nat_le 12 k && nat_le k 32) _
        (or_right (k == 1 || k == 11) (nat_le 12 k && nat_le k 32) (numbered_has (take (prefix_len is_no_digit w) w) (drop (prefix_len is_no_digit w) w) k e))

-- a word's kind is one that its kind of token can have
kind_has : (kind : CTokenKind) (w : Word) → may_have kind (kind_of kind w) ≡ true
kind_has Include w = placed_kind (may_have Include) 2 include_words 1 w (λ i h. include_has i (subst (λ n. i < n) includes_few h)) refl
kind_has OfWord w = word_has w
kind_has Field w = placed_kind (may_have Field) 135 field_names 1 w (λ i h. field_has i) refl
kind_has Integer w = by_tests (bytes_eq w (codes "0")) (bytes_eq w (codes "1"))
  where
    by_tests : (a b : Bool) → may_have Integer (if a then 33 else (if b then 34 else 8)) ≡ true
    by_tests true b = refl
    by_tests false true = refl
    by_tests false false = refl
kind_has Unsigned w = by_tests (bytes_eq w (codes "0u")) (bytes_eq w (codes "1u")) (bytes_eq w (codes "3u"))
  where
    by_tests : (a b c : Bool) → may_have Unsigned (if a then 35 else (if b then 36 else (if c then 37 else 9))) ≡ true
    by_tests true b c = refl
    by_tests false true c = refl
    by_tests false false true = refl
    by_tests false false false = refl
kind_has Real w = refl
kind_has Text w = refl
kind_has Mark w = placed_kind (may_have Mark) 38 mark_names 1 w (λ i h. mark_has i (subst (λ n. i < n) marks_few h)) refl

-- which kind of token a word is, by its kind
word_may : (k : ℕ) (w : Word) → IsOfKind k w → may_have (token_kind w) k ≡ true
word_may k w h = ap (may_have (token_kind w)) (sym h.kind_is) ∙ kind_has (token_kind w) w

-- the kinds of tokens
abbrev pub all_kinds : List CTokenKind
all_kinds = Include ∷ OfWord ∷ Field ∷ Integer ∷ Unsigned ∷ Real ∷ Text ∷ Mark ∷ []

-- what passes a test stands among what it keeps
kept : {A : Type 0} (test : A → Bool) (xs : List A) (x : A) (i : ℕ) → slice_get xs i ≡ Some x → test x ≡ true → (j : ℕ) × (slice_get (filter test xs) j ≡ Some x)
kept test [] x i h e = absurd (some_none (sym h))
kept {A} test (y ∷ xs) x zero h e = (0, ap (λ b. slice_get (cond b (y ∷ filter test xs) (filter test xs)) 0) (ap test (some_same h) ∙ e) ∙ h)
kept {A} test (y ∷ xs) x (suc i) h e = by_test (test y) (kept test xs x i h e)
  where
    by_test : (b : Bool) → ((j : ℕ) × (slice_get (filter test xs) j ≡ Some x)) → (j : ℕ) × (slice_get (cond b (y ∷ filter test xs) (filter test xs)) j ≡ Some x)
    by_test true p = (suc p.0, p.1)
    by_test false p = p

one_left : (target kind : CTokenKind) (j : ℕ) → slice_get (target ∷ []) j ≡ Some kind → kind ≡ target
one_left target kind zero h = sym (some_same h)
one_left target kind (suc j) h = absurd (some_none (sym h))

place_of_kind : (kind : CTokenKind) → (i : ℕ) × (slice_get all_kinds i ≡ Some kind)
place_of_kind Include = (0, refl)
place_of_kind OfWord = (1, refl)
place_of_kind Field = (2, refl)
place_of_kind Integer = (3, refl)
place_of_kind Unsigned = (4, refl)
place_of_kind Real = (5, refl)
place_of_kind Text = (6, refl)
place_of_kind Mark = (7, refl)

-- words of one kind of token alone have this kind
pub token_is : (target : CTokenKind) (k : ℕ) (w : Word) → filter (λ kind. may_have kind k) all_kinds ≡ target ∷ [] → IsOfKind k w → token_kind w ≡ target
token_is target k w only h =
    let place = place_of_kind (token_kind w) in
    let left = kept (λ kind. may_have kind k) all_kinds (token_kind w) place.0 place.1 (word_may k w h) in
    one_left target (token_kind w) left.0 (subst (λ l. slice_get l left.0 ≡ Some (token_kind w)) only left.1)

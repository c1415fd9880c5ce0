-- How what rules blame follows one another.
use Rattle.std.proofs.Common.{◌≡◌, ◌<◌, ◌≤◌, ◌+◌, ℕ, suc, List, [], ◌∷◌, ◌++◌, length, get_or, drop, drop-cons, refl, ap, sym, ◌∙◌, add-one, arith, subst}
use Rattle.std.specs.Prelude.{map, min, Option, Some, None, Bool, true, false, ◌&&◌}
use Rattle.std.specs.List.{flat_map, enumerate_from, list_all}
use Rattle.std.proofs.lemmas.List.Folds.{list_all_at}
use Rattle.std.proofs.lemmas.Grind.{flat_map-append}
use Rattle.std.proofs.Math.ListN.{drop_of_length-le}
use Rattle.c_tree.specs.Form.{least_of}
use Rattle.c_tree.specs.Raw as raw
use Rattle.c_tree.specs.rules.Numbering.{wants}
use Rattle.c_form.specs.Blames.{Blames, lesser}

true_is_false : true ≡ false → ⊥
true_is_false e = cc e

false_is_true : false ≡ true → ⊥
false_is_true e = cc e

min-assoc : (x y z : ℕ) → min (min x y) z ≡ min x (min y z)
min-assoc x y z = omega arith

pub lesser-assoc : (a b c : Option ℕ) → lesser (lesser a b) c ≡ lesser a (lesser b c)
lesser-assoc None b c = refl
lesser-assoc (Some x) None c = refl
lesser-assoc (Some x) (Some y) None = refl
lesser-assoc (Some x) (Some y) (Some z) = ap (λ n. Some n) (min-assoc x y z)

-- the least of some tokens, by its first
pub least_first : (x : ℕ) (rest : List ℕ) → least_of (x ∷ rest) ≡ lesser (Some x) (least_of rest)
least_first x rest = by_rest (least_of rest) refl
  where
    by_rest : (least : Option ℕ) → least_of rest ≡ least → least_of (x ∷ rest) ≡ lesser (Some x) least
    by_rest None e = rw e refl
    by_rest (Some y) e = rw e refl

pub least_append : (xs ys : List ℕ) → least_of (xs ++ ys) ≡ lesser (least_of xs) (least_of ys)
least_append [] ys = refl
least_append (x ∷ xs) ys =
    least_first x (xs ++ ys) ∙ ap (lesser (Some x)) (least_append xs ys)
    ∙ sym (lesser-assoc (Some x) (least_of xs) (least_of ys)) ∙ ap (λ least. lesser least (least_of ys)) (sym (least_first x xs))

pub lesser-none : (a : Option ℕ) → lesser a None ≡ a
lesser-none None = refl
lesser-none (Some x) = refl

pub blames_none : (old : Option ℕ) → Blames old old []
blames_none old = record { is = sym (lesser-none old) }

pub blames_then : (old mid new : Option ℕ) (first more : List ℕ) → Blames old mid first → Blames mid new more → Blames old new (first ++ more)
blames_then old mid new first more a b = record {
  is = b.is ∙ ap (λ least. lesser least (least_of more)) a.is ∙ lesser-assoc old (least_of first) (least_of more)
      ∙ ap (lesser old) (sym (least_append first more));
}

-- the same in a row, as the calls of a rule
infixl 5 ◌▸◌
pub ◌▸◌ : {old mid new : Option ℕ} {first more : List ℕ} → Blames old mid first → Blames mid new more → Blames old new (first ++ more)
a ▸ b = blames_then _ _ _ _ _ a b

-- the same of the elements of two lists
pub blames_both : {T : Type 0} (part : T → List ℕ) (old mid new : Option ℕ) (first more : List T) → Blames old mid (flat_map part first)
    → Blames mid new (flat_map part more) → Blames old new (flat_map part (first ++ more))
blames_both part old mid new first more a b = subst (Blames old new) (sym (flat_map-append part first more)) (a ▸ b)

-- the same tokens, told in another way
pub blames_as : {old new : Option ℕ} {tokens other : List ℕ} → Blames old new tokens → tokens ≡ other → Blames old new other
blames_as {old} {new} a e = subst (Blames old new) e a

-- what is blamed of elements, each seen by a view
abbrev pub parts_of : {T : Type 0} {L : Type 0} → (T → L) → (L → List ℕ) → List T → List ℕ
parts_of view part elements = flat_map part (map view elements)

-- the element at a place, and those behind it
pub blames_at : {T : Type 0} {L : Type 0} (view : T → L) (part : L → List ℕ) (old mid new : Option ℕ) (elements : List T) (i : ℕ) (d : T)
    → i < length elements → Blames old mid (part (view (get_or elements i d)))
    → Blames mid new (parts_of view part (drop (i + 1) elements)) → Blames old new (parts_of view part (drop i elements))
blames_at view part old mid new elements i d h a b =
    let front : drop i elements ≡ get_or elements i d ∷ drop (i + 1) elements = rw add-one (drop-cons elements i d h) in
    rw front (a ▸ b)

-- the same of an element that is given
pub blames_element : {T : Type 0} {L : Type 0} (view : T → L) (part : L → List ℕ) (old mid new : Option ℕ) (elements : List T) (i : ℕ) (element : T)
    → i < length elements → element ≡ get_or elements i element → Blames old mid (part (view element))
    → Blames mid new (parts_of view part (drop (i + 1) elements)) → Blames old new (parts_of view part (drop i elements))
blames_element view part old mid new elements i element h e a b =
    let front : drop i elements ≡ element ∷ drop (i + 1) elements =
    rw (add-one, drop-cons elements i element h) (ap (λ t. t ∷ drop (suc i) elements) (sym e)) in
    rw front (a ▸ b)

pub blames_last : {T : Type 0} {L : Type 0} (view : T → L) (part : L → List ℕ) (old : Option ℕ) (elements : List T) (i : ℕ) → length elements ≤ i
    → Blames old old (parts_of view part (drop i elements))
blames_last view part old elements i h = rw (drop_of_length-le elements h) (blames_none old)

-- the same of elements that are numbered from i on
abbrev pub numbered_parts : {T : Type 0} {L : Type 0} → (T → L) → (ℕ × L → List ℕ) → ℕ → List T → List ℕ
numbered_parts view part i elements = flat_map part (enumerate_from i (map view elements))

pub blames_numbered : {T : Type 0} {L : Type 0} (view : T → L) (part : ℕ × L → List ℕ) (old mid new : Option ℕ) (elements : List T) (i : ℕ) (element : T)
    → i < length elements → element ≡ get_or elements i element → Blames old mid (part (i, view element))
    → Blames mid new (numbered_parts view part (i + 1) (drop (i + 1) elements)) → Blames old new (numbered_parts view part i (drop i elements))
blames_numbered view part old mid new elements i element h e a b =
    let front : drop i elements ≡ element ∷ drop (i + 1) elements =
    rw (add-one, drop-cons elements i element h) (ap (λ t. t ∷ drop (suc i) elements) (sym e)) in
    rw front (a ▸ b)

-- the same of an element that is read with some other element in its place
pub blames_numbered_at : {T : Type 0} {L : Type 0} (view : T → L) (part : ℕ × L → List ℕ) (old mid new : Option ℕ) (elements : List T) (i : ℕ) (d : T)
    → i < length elements → Blames old mid (part (i, view (get_or elements i d)))
    → Blames mid new (numbered_parts view part (i + 1) (drop (i + 1) elements)) → Blames old new (numbered_parts view part i (drop i elements))
blames_numbered_at view part old mid new elements i d h a b =
    let front : drop i elements ≡ get_or elements i d ∷ drop (i + 1) elements = rw add-one (drop-cons elements i d h) in
    rw front (a ▸ b)

pub blames_last_numbered : {T : Type 0} {L : Type 0} (view : T → L) (part : ℕ × L → List ℕ) (old : Option ℕ) (elements : List T) (i : ℕ)
    → length elements ≤ i → Blames old old (numbered_parts view part i (drop i elements))
blames_last_numbered view part old elements i h = rw (drop_of_length-le elements h) (blames_none old)

-- a number that is wanted, told in another way
pub wants-as : {old new : Option ℕ} {n m : ℕ} (number : raw.At ℕ) → Blames old new (wants n number) → n ≡ m → Blames old new (wants m number)
wants-as {old} {new} number a e = subst (λ k. Blames old new (wants k number)) e a

-- what is blamed first of all
pub least_is : {least : Option ℕ} {tokens : List ℕ} → Blames None least tokens → least ≡ least_of tokens
least_is a = a.is

-- the same of elements that are seen as they are
pub blames_plain : {T : Type 0} (part : T → List ℕ) (old mid new : Option ℕ) (elements : List T) (i : ℕ) (element : T)
    → i < length elements → element ≡ get_or elements i element → Blames old mid (part element)
    → Blames mid new (flat_map part (drop (i + 1) elements)) → Blames old new (flat_map part (drop i elements))
blames_plain part old mid new elements i element h e a b =
    let front : drop i elements ≡ element ∷ drop (i + 1) elements =
    rw (add-one, drop-cons elements i element h) (ap (λ t. t ∷ drop (suc i) elements) (sym e)) in
    rw front (a ▸ b)

pub plain_last : {T : Type 0} (part : T → List ℕ) (old : Option ℕ) (elements : List T) (i : ℕ) → length elements ≤ i
    → Blames old old (flat_map part (drop i elements))
plain_last part old elements i h = rw (drop_of_length-le elements h) (blames_none old)

-- an element of a list that passes throughout
pub passes-at : {T : Type 0} (test : T → Bool) (xs : List T) (i : ℕ) (d : T) → list_all test xs ≡ true → i < length xs → test (get_or xs i d) ≡ true
passes-at test xs i d all h = by_test (test (get_or xs i d)) refl
  where
    by_test : (b : Bool) → test (get_or xs i d) ≡ b → test (get_or xs i d) ≡ true
    by_test true e = e
    by_test false e = absurd (true_is_false (sym all ∙ list_all_at test xs i d h e))

-- one more that passes
pub passes-more : {T : Type 0} (test : T → Bool) (xs : List T) (x : T) → list_all test xs ≡ true → test x ≡ true → list_all test (xs ++ x ∷ []) ≡ true
passes-more test [] x all e = rw e refl
passes-more test (y ∷ xs) x all e = by_test (test y) refl (λ k. passes-more test xs x k e)
  where
    by_test : (b : Bool) → test y ≡ b → (list_all test xs ≡ true → list_all test (xs ++ x ∷ []) ≡ true) → list_all test ((y ∷ xs) ++ x ∷ []) ≡ true
    by_test true h more = rw h (more (rw h at all))
    by_test false h more = absurd (false_is_true (rw h at all))

-- four tests that hold together
pub both-four : (a b d e : Bool) → (a && b && d && e) ≡ true → (a ≡ true) × (b ≡ true) × (d ≡ true) × (e ≡ true)
both-four true true true true h = (refl, refl, refl, refl)
both-four true true true false h = cc h
both-four true true false e h = cc h
both-four true false d e h = cc h
both-four false b d e h = cc h

-- numbers that a rule doesn't look at
pub unnumbered : {T : Type 0} (part : T → List ℕ) (i : ℕ) (elements : List T) → flat_map (λ p. part p.1) (enumerate_from i elements) ≡ flat_map part elements
unnumbered part i [] = refl
unnumbered part i (x ∷ elements) = ap (λ l. part x ++ l) (unnumbered part (i + 1) elements)

-- The names of parameters, which are distinct.
use Rattle.std.proofs.Common.{◌≡◌, ◌≤◌, ◌<◌, ◌+◌, ◌⊎◌, inl, inr, ℕ, zero, suc, List, [], ◌∷◌, ◌++◌, map, length, take, get_or, refl, ap, sym, ◌∙◌, subst, arith}
use Rattle.std.specs.Prelude.{Contains, Bool, true, false, ◌&&◌, Some, None, Option}
use Rattle.std.specs.List.{IsDistinct, AllByRecursion, list_all, list_any}
use Rattle.std.specs.Cmp.Lexicographic.{nat_list_eq_equiv}
use Rattle.std.specs.Str.{bytes_eq}
use Rattle.std.proofs.Math.Seq.{take-suc}
use Rattle.std.proofs.lemmas.Bool.{false≢true}
use Rattle.std.proofs.lemmas.List.{map-append, length-map, length-append}
use Rattle.std.proofs.lemmas.List.Folds.{list_all-append}
use Rattle.std.proofs.lemmas.List.Elements.{Contains-append_right}
use Rattle.std.proofs.lemmas.Map.Views.{list_any-from_Contains}
use Rattle.std.proofs.lemmas.Slice.Eq.{bytes_eq-Decides}
use Rattle.va_tree.specs.declared.module.Item.{Item}
use Rattle.first_form.specs.Form.{parameter_name, AreNamed, is_free}
use Rattle.first_form.specs.Reading.{MayFollow, AddsName, HasNames}

-- what an option holds, and another value where it holds none
abbrev or_else : {X : Type 0} → X → Option X → X
or_else d None = d
or_else d (Some x) = x

pub some-injective : {X : Type 0} (a b : X) → Some a ≡ Some b → a ≡ b
some-injective a b e = ap (or_else a) e

pub and-left : (a b : Bool) → (a && b) ≡ true → a ≡ true
and-left true b e = refl
and-left false b e = e

pub and-right : (a b : Bool) → (a && b) ≡ true → b ≡ true
and-right true b e = e
and-right false b e = absurd (false≢true e)

pub and-both : (a b : Bool) → a ≡ true → b ≡ true → (a && b) ≡ true
and-both true b e f = f
and-both false b e f = e

-- a name that a test finds among none of some
pub not-contained : (name : List ℕ) (names : List (List ℕ)) → list_any (bytes_eq name) names ≡ false → Contains names name → ⊥
not-contained name names e h = false≢true (sym e ∙ list_any-from_Contains {eq = bytes_eq} nat_list_eq_equiv name names h)

-- names that a test tells apart
not-same : (x y : List ℕ) (b : Bool) → b ≡ bytes_eq x y → (x ≡ y → ⊥) → bytes_eq x y ≡ false
not-same x y true e n = absurd (n ((bytes_eq-Decides x y).0 (sym e)))
not-same x y false e n = sym e

apart-from : (x y : List ℕ) → (x ≡ y → ⊥) → bytes_eq x y ≡ false
apart-from x y n = not-same x y (bytes_eq x y) refl n

all-push : (P : List ℕ → Type 0) (xs : List (List ℕ)) (y : List ℕ) → AllByRecursion P xs → P y → AllByRecursion P (xs ++ y ∷ [])
all-push P [] y a p = (p, tt)
all-push P (x ∷ xs) y a p = (a.0, all-push P xs y a.1 p)

all-middle : (P : List ℕ → Type 0) (xs : List (List ℕ)) (y : List ℕ) (zs : List (List ℕ)) → AllByRecursion P (xs ++ y ∷ zs) → P y
all-middle P [] y zs a = a.0
all-middle P (x ∷ xs) y zs a = all-middle P xs y zs a.1

contains-first : (x : List ℕ) (xs : List (List ℕ)) → Contains (x ∷ xs) x
contains-first x xs = (0, omega arith, refl)

contains-more : (x y : List ℕ) (xs : List (List ℕ)) → Contains xs y → Contains (x ∷ xs) y
contains-more x y xs h = Contains-append_right (x ∷ []) xs y h

contains-cases : (x y : List ℕ) (xs : List (List ℕ)) → Contains (x ∷ xs) y → (x ≡ y) ⊎ Contains xs y
contains-cases x y xs (zero, lt, e) = inl e
contains-cases x y xs (suc k, lt, e) = inr (k, omega arith, e)

distinct-push : (xs : List (List ℕ)) (y : List ℕ) → IsDistinct bytes_eq xs → (Contains xs y → ⊥) → IsDistinct bytes_eq (xs ++ y ∷ [])
unfolding IsDistinct
distinct-push [] y d n = (tt, tt)
distinct-push (x ∷ xs) y d n = (
  all-push (λ z. bytes_eq x z ≡ false) xs y d.0 (apart-from x y (λ e. n (0, omega arith, e))),
  distinct-push xs y d.1 (λ h. n (contains-more x y xs h)),
)

distinct-apart : (xs : List (List ℕ)) (y : List ℕ) (zs : List (List ℕ)) → IsDistinct bytes_eq (xs ++ y ∷ zs) → Contains xs y → ⊥
unfolding IsDistinct
distinct-apart [] y zs d (k, lt, e) = omega arith
distinct-apart (x ∷ xs) y zs d (zero, lt, e) =
    false≢true (sym (all-middle (λ z. bytes_eq x z ≡ false) xs y zs d.0) ∙ (bytes_eq-Decides x y).1 e)
distinct-apart (x ∷ xs) y zs d (suc k, lt, e) = distinct-apart xs y zs d.1 (k, omega arith, e)

pub distinct-ports : (first second : List ℕ) → (first ≡ second → ⊥) → IsDistinct bytes_eq (first ∷ second ∷ [])
unfolding IsDistinct
distinct-ports first second n = ((apart-from first second n, tt), (tt, tt))

pub ports-apart : (first second : List ℕ) (names : List (List ℕ)) → IsDistinct bytes_eq (first ∷ second ∷ names) → first ≡ second → ⊥
ports-apart first second names d e = distinct-apart (first ∷ []) second names d (0, omega arith, e)

module _ (first second : List ℕ) where
  -- the name of an item's parameter is there already, or there is no room for it
  pub name-taken : (item : Item) (old : List (List ℕ)) (name : List ℕ) → parameter_name item.body ≡ Some name
      → Contains old name ⊎ (length old ≡ 4096) → (other : List ℕ) → MayFollow first second item old other → ⊥
  name-taken item old name e (inl h) other m =
      let P : List ℕ → Type 0 = λ n. Contains (first ∷ second ∷ old) n in
      m.fresh (subst P (some-injective name other (sym e ∙ m.named)) (contains-more first name (second ∷ old) (contains-more second name old h)))
  name-taken item old name e (inr h) other m = let f = m.few in omega arith

  -- no items, and no names
  pub names-begin : (names : List (List ℕ)) → names ≡ [] → (first ≡ second → ⊥) → HasNames first second [] names
  names-begin names e n = let P : List (List ℕ) → Type 0 = λ ns. HasNames first second [] ns in subst P (sym e) (record { named = refl; free = refl; distinct = distinct-ports first second n; few = omega arith })

  -- an item more
  names-push : (some : List Item) (item : Item) (old new : List (List ℕ)) → HasNames first second some old → AddsName first second item old new
      → HasNames first second (some ++ item ∷ []) new
  names-push some item old new h a =
      let P : List (List ℕ) → Type 0 = λ ns. HasNames first second (some ++ item ∷ []) ns in
      subst P (sym a.added) (record {
        named = map-append (λ (i : Item). parameter_name i.body) some (item ∷ [])
            ∙ (λ j. h.named j ++ a.may.named j ∷ []) ∙ sym (map-append Some old (a.name ∷ []));
        free = list_all-append is_free old (a.name ∷ []) ∙ and-both (list_all is_free old) (list_all is_free (a.name ∷ [])) h.free
            (and-both (is_free a.name) true a.may.free refl);
        distinct = distinct-push (first ∷ second ∷ old) a.name h.distinct a.may.fresh;
        few = let k = a.may.few in omega (arith, length-append old (a.name ∷ []));
      })

  pub names-step : (items : List Item) (i : ℕ) (item d : Item) (old new : List (List ℕ)) → item ≡ get_or items i d → i < length items
      → HasNames first second (take i items) old → AddsName first second item old new → HasNames first second (take (i + 1) items) new
  names-step items i item d old new e lt h a =
      let P : List Item → Type 0 = λ is. HasNames first second is new in
      let Q : Item → Type 0 = λ x. AddsName first second x old new in
      let R : ℕ → Type 0 = λ k. HasNames first second (take k items) new in
      let next : suc i ≡ i + 1 = omega arith in
      subst R next (subst P (sym (take-suc items i d lt)) (names-push (take i items) (get_or items i d) old new h (subst Q e a)))

  -- the name that follows some
  record NextName (item : Item) (old names : List (List ℕ)) : Type 0 where
    name : List ℕ
    rest : List (List ℕ)
    parted : names ≡ old ++ name ∷ rest
    named : parameter_name item.body ≡ Some name

  first-some : {x y : Option (List ℕ)} {xs ys : List (Option (List ℕ))} → x ∷ xs ≡ y ∷ ys → x ≡ y
  first-some e = cc

  rest-some : {x y : Option (List ℕ)} {xs ys : List (Option (List ℕ))} → x ∷ xs ≡ y ∷ ys → xs ≡ ys
  rest-some e = cc

  next-name : (items : List Item) (i : ℕ) (d : Item) (old names : List (List ℕ)) → i < length items → AreNamed items names
      → AreNamed (take i items) old → NextName (get_or items i d) old names
  next-name [] i d old names lt all some = absurd (omega arith)
  next-name (x ∷ items) zero d [] [] lt all some = cc
  next-name (x ∷ items) zero d [] (n ∷ ns) lt all some = record { name = n; rest = ns; parted = refl; named = first-some all }
  next-name (x ∷ items) zero d (o ∷ os) names lt all some = cc
  next-name (x ∷ items) (suc i) d old [] lt all some = cc
  next-name (x ∷ items) (suc i) d [] (n ∷ ns) lt all some = cc
  next-name (x ∷ items) (suc i) d (o ∷ os) (n ∷ ns) lt all some =
      let r = next-name items i d os ns (omega arith) (rest-some all) (rest-some some) in
      let same : n ≡ o = some-injective n o (sym (first-some all) ∙ first-some some) in
      record { name = r.name; rest = r.rest; parted = λ j. same j ∷ r.parted j; named = r.named }

  -- an item whose parameter may not follow
  pub names-stuck : (items : List Item) (i : ℕ) (item d : Item) (old : List (List ℕ)) → item ≡ get_or items i d → i < length items
      → HasNames first second (take i items) old → ((name : List ℕ) → MayFollow first second item old name → ⊥)
      → (names : List (List ℕ)) → HasNames first second items names → ⊥
  names-stuck items i item d old e lt h none names all =
      let r = next-name items i d old names lt all.named h.named in
      let D : List (List ℕ) → Type 0 = λ ns. IsDistinct bytes_eq (first ∷ second ∷ ns) in
      let L : List (List ℕ) → Type 0 = λ ns. length ns ≤ 4096 in
      let F : List (List ℕ) → Type 0 = λ ns. list_all is_free ns ≡ true in
      let few : length (old ++ r.name ∷ r.rest) ≤ 4096 = subst L r.parted all.few in
      none r.name (record {
        named = ap (λ x. parameter_name x.body) e ∙ r.named;
        free = and-left (is_free r.name) (list_all is_free r.rest)
            (and-right (list_all is_free old) (list_all is_free (r.name ∷ r.rest))
            (sym (list_all-append is_free old (r.name ∷ r.rest)) ∙ subst F r.parted all.free));
        fresh = distinct-apart (first ∷ second ∷ old) r.name r.rest (subst D r.parted all.distinct);
        few = omega (arith, length-append old (r.name ∷ r.rest));
      })

-- What is in a list, and what holds of each of its elements.
use Rattle.std.specs.Prelude.{◌≡◌, ◌≢◌, ◌⊎◌, ℕ, zero, suc, ◌+◌, ◌<◌, ◌==◌, nat_le, Bool, true, false, List, [], ◌∷◌, ◌++◌, filter, filter_map, flat_map, length, map, Contains, Option, Some, None, if◌then◌else◌}
use Rattle.std.specs.List.{AllByRecursion, cons_option, slice_get}
use Rattle.std.proofs.Common.{refl, sym, ◌∙◌, ap, subst, arith, inl, inr}
use Rattle.std.proofs.lemmas.Bool.Decides.{eqb_tells}
use Rattle.va_sem.specs.TextOrder.{put_in, in_text_order, number_at}

abbrev pub Has : {X : Type 0} → List X → X → Type 0
Has [] x = ⊥
Has (y ∷ ys) x = (y ≡ x) ⊎ Has ys x

pub all_of_has : {X : Type 0} (P : X → Type 0) (xs : List X) → ((x : X) → Has xs x → P x) → AllByRecursion P xs
all_of_has P [] h = tt
all_of_has P (x ∷ xs) h = (h x (inl refl), all_of_has P xs (λ y k. h y (inr k)))

pub has_of_all : {X : Type 0} (P : X → Type 0) (xs : List X) (x : X) → AllByRecursion P xs → Has xs x → P x
has_of_all P [] x h k = absurd k
has_of_all P (y ∷ ys) x h (inl e) = subst P e h.0
has_of_all P (y ∷ ys) x h (inr k) = has_of_all P ys x h.1 k

pub all_left : {X : Type 0} (P : X → Type 0) (xs ys : List X) → AllByRecursion P (xs ++ ys) → AllByRecursion P xs
all_left P [] ys h = tt
all_left P (x ∷ xs) ys h = (h.0, all_left P xs ys h.1)

pub all_right : {X : Type 0} (P : X → Type 0) (xs ys : List X) → AllByRecursion P (xs ++ ys) → AllByRecursion P ys
all_right P [] ys h = h
all_right P (x ∷ xs) ys h = all_right P xs ys h.1

pub all_join : {X : Type 0} (P : X → Type 0) (xs ys : List X) → AllByRecursion P xs → AllByRecursion P ys → AllByRecursion P (xs ++ ys)
all_join P [] ys h k = k
all_join P (x ∷ xs) ys h k = (h.0, all_join P xs ys h.1 k)

-- what holds of all elements of all lists
pub all_flat : {X Y : Type 0} (P : Y → Type 0) (f : X → List Y) (xs : List X) → AllByRecursion (λ x. AllByRecursion P (f x)) xs → AllByRecursion P (flat_map f xs)
all_flat P f [] h = tt
all_flat P f (x ∷ xs) h = all_join P (f x) (flat_map f xs) h.0 (all_flat P f xs h.1)

pub has_left : {X : Type 0} (xs ys : List X) (x : X) → Has xs x → Has (xs ++ ys) x
has_left [] ys x h = absurd h
has_left (y ∷ xs) ys x (inl e) = inl e
has_left (y ∷ xs) ys x (inr h) = inr (has_left xs ys x h)

pub has_right : {X : Type 0} (xs ys : List X) (x : X) → Has ys x → Has (xs ++ ys) x
has_right [] ys x h = h
has_right (y ∷ xs) ys x h = inr (has_right xs ys x h)

one_more : {X : Type 0} (y : X) (xs ys : List X) (x : X) → Has xs x ⊎ Has ys x → Has (y ∷ xs) x ⊎ Has ys x
one_more y xs ys x (inl h) = inl (inr h)
one_more y xs ys x (inr h) = inr h

pub has_append : {X : Type 0} (xs ys : List X) (x : X) → Has (xs ++ ys) x → Has xs x ⊎ Has ys x
has_append [] ys x h = inr h
has_append (y ∷ xs) ys x (inl e) = inl (inl e)
has_append (y ∷ xs) ys x (inr h) = one_more y xs ys x (has_append xs ys x h)

pub has_flat : {X Y : Type 0} (f : X → List Y) (xs : List X) (x : X) (y : Y) → Has xs x → Has (f x) y → Has (flat_map f xs) y
has_flat f [] x y h k = absurd h
has_flat f (z ∷ xs) x y (inl e) k = has_left (f z) (flat_map f xs) y (subst (λ w. Has (f w) y) (sym e) k)
has_flat f (z ∷ xs) x y (inr h) k = has_right (f z) (flat_map f xs) y (has_flat f xs x y h k)

pub all_map : {X Y : Type 0} (P : Y → Type 0) (f : X → Y) (xs : List X) → ((x : X) → P (f x)) → AllByRecursion P (map f xs)
all_map P f [] h = tt
all_map P f (x ∷ xs) h = (h x, all_map P f xs h)

-- where it holds of what each element gives
pub all_map_has : {X Y : Type 0} (P : Y → Type 0) (f : X → Y) (xs : List X) → ((x : X) → Has xs x → P (f x)) → AllByRecursion P (map f xs)
all_map_has P f [] h = tt
all_map_has P f (x ∷ xs) h = (h x (inl refl), all_map_has P f xs (λ y k. h y (inr k)))

pub all_flat_has : {X Y : Type 0} (P : Y → Type 0) (f : X → List Y) (xs : List X) → ((x : X) → Has xs x → AllByRecursion P (f x)) → AllByRecursion P (flat_map f xs)
all_flat_has P f [] h = tt
all_flat_has P f (x ∷ xs) h = all_join P (f x) (flat_map f xs) (h x (inl refl)) (all_flat_has P f xs (λ y k. h y (inr k)))

pub all_mapped : {X Y : Type 0} (P : X → Type 0) (Q : Y → Type 0) (f : X → Y) → ((x : X) → P x → Q (f x)) → (xs : List X) → AllByRecursion P xs → AllByRecursion Q (map f xs)
all_mapped P Q f h [] k = tt
all_mapped P Q f h (x ∷ xs) k = (h x k.0, all_mapped P Q f h xs k.1)

all_if : {X : Type 0} (P : X → Type 0) (b : Bool) (x : X) (xs : List X) → P x → AllByRecursion P xs → AllByRecursion P (if b then x ∷ xs else xs)
all_if P true x xs h k = (h, k)
all_if P false x xs h k = k

pub all_filter : {X : Type 0} (P : X → Type 0) (t : X → Bool) (xs : List X) → AllByRecursion P xs → AllByRecursion P (filter t xs)
all_filter P t [] h = tt
all_filter P t (x ∷ xs) h = all_if P (t x) x (filter t xs) h.0 (all_filter P t xs h.1)

has_if : {X : Type 0} (b : Bool) (x : X) (xs : List X) → b ≡ true → Has (if b then x ∷ xs else xs) x
has_if true x xs e = inl refl
has_if false x xs e = absurd (cc (e))

has_in_if : {X : Type 0} (b : Bool) (z x : X) (xs : List X) → Has xs x → Has (if b then z ∷ xs else xs) x
has_in_if true z x xs h = inr h
has_in_if false z x xs h = h

pub has_filter : {X : Type 0} (t : X → Bool) (xs : List X) (x : X) → Has xs x → t x ≡ true → Has (filter t xs) x
has_filter t [] x h e = absurd h
has_filter t (z ∷ xs) x (inl is) e = subst (λ w. Has (if t z then z ∷ filter t xs else filter t xs) w) is (has_if (t z) z (filter t xs) (ap t is ∙ e))
has_filter t (z ∷ xs) x (inr h) e = has_in_if (t z) z x (filter t xs) (has_filter t xs x h e)

of_filter_if : {X : Type 0} (t : X → Bool) (b : Bool) (z x : X) (kept xs : List X) → t z ≡ b → (Has kept x → Has xs x × (t x ≡ true))
    → Has (if b then z ∷ kept else kept) x → Has (z ∷ xs) x × (t x ≡ true)
of_filter_if t true z x kept xs e more (inl is) = (inl is, ap t (sym is) ∙ e)
of_filter_if t true z x kept xs e more (inr h) = (let r = more h in (inr r.0, r.1))
of_filter_if t false z x kept xs e more h = (let r = more h in (inr r.0, r.1))

pub has_of_filter : {X : Type 0} (t : X → Bool) (xs : List X) (x : X) → Has (filter t xs) x → Has xs x × (t x ≡ true)
has_of_filter t [] x h = absurd h
has_of_filter t (z ∷ xs) x h = of_filter_if t (t z) z x (filter t xs) xs refl (has_of_filter t xs x) h

pub contained_has : {X : Type 0} (xs : List X) (x : X) → Contains xs x → Has xs x
contained_has [] x (k, within, is) = absurd (omega (arith, within))
contained_has (y ∷ xs) x (zero, within, is) = inl is
contained_has (y ∷ xs) x (suc k, within, is) = inr (contained_has xs x (k, omega (arith, within), is))

pub has_contained : {X : Type 0} (xs : List X) (x : X) → Has xs x → Contains xs x
has_contained [] x h = absurd h
has_contained (y ∷ xs) x (inl e) = (0, omega arith, e)
has_contained (y ∷ xs) x (inr h) = (let r = has_contained xs x h in (suc r.0, omega (arith, r.1), r.2))

-- an element from whose list another comes
pub record From {X Y : Type 0} (P : X → Y → Type 0) (xs : List X) (y : Y) : Type 0 where
  pub source : X
  pub has : Has xs source
  pub gives : P source y

pub from_more : {X Y : Type 0} (P : X → Y → Type 0) (x : X) (xs : List X) (y : Y) → From P xs y → From P (x ∷ xs) y
from_more P x xs y r = record { source = r.source; has = inr r.has; gives = r.gives }

from_either : {X Y : Type 0} (f : X → List Y) (x : X) (xs : List X) (y : Y) → Has (f x) y ⊎ From (λ x y. Has (f x) y) xs y → From (λ x y. Has (f x) y) (x ∷ xs) y
from_either f x xs y (inl h) = record { source = x; has = inl refl; gives = h }
from_either f x xs y (inr r) = from_more (λ x y. Has (f x) y) x xs y r

second : {A B C : Type 0} → (B → C) → A ⊎ B → A ⊎ C
second g (inl a) = inl a
second g (inr b) = inr (g b)

pub from_flat : {X Y : Type 0} (f : X → List Y) (xs : List X) (y : Y) → Has (flat_map f xs) y → From (λ x y. Has (f x) y) xs y
from_flat f [] y h = absurd h
from_flat f (x ∷ xs) y h = from_either f x xs y (second (from_flat f xs y) (has_append (f x) (flat_map f xs) y h))

-- the element that a map makes another of
pub from_map : {X Y : Type 0} (f : X → Y) (xs : List X) (y : Y) → Has (map f xs) y → From (λ x y. f x ≡ y) xs y
from_map f [] y h = absurd h
from_map f (x ∷ xs) y (inl e) = record { source = x; has = inl refl; gives = e }
from_map f (x ∷ xs) y (inr h) = from_more (λ x y. f x ≡ y) x xs y (from_map f xs y h)

has_kept : {Y : Type 0} (o : Option Y) (ys : List Y) (y : Y) → o ≡ Some y → Has (cons_option o ys) y
has_kept None ys y e = absurd (cc (e))
has_kept (Some z) ys y e = inl (cc (e))

has_after : {Y : Type 0} (o : Option Y) (ys : List Y) (y : Y) → Has ys y → Has (cons_option o ys) y
has_after None ys y h = h
has_after (Some z) ys y h = inr h

pub has_filter_map : {X Y : Type 0} (f : X → Option Y) (xs : List X) (x : X) (y : Y) → Has xs x → f x ≡ Some y → Has (filter_map f xs) y
has_filter_map f [] x y h e = absurd h
has_filter_map f (z ∷ xs) x y (inl is) e = has_kept (f z) (filter_map f xs) y (ap f is ∙ e)
has_filter_map f (z ∷ xs) x y (inr h) e = has_after (f z) (filter_map f xs) y (has_filter_map f xs x y h e)

filter_either : {X Y : Type 0} (f : X → Option Y) (x : X) (xs : List X) (o : Option Y) (y : Y) → f x ≡ o → (Has (filter_map f xs) y → From (λ x y. f x ≡ Some y) xs y)
    → Has (cons_option o (filter_map f xs)) y → From (λ x y. f x ≡ Some y) (x ∷ xs) y
filter_either f x xs None y e rest h = from_more (λ x y. f x ≡ Some y) x xs y (rest h)
filter_either f x xs (Some z) y e rest (inl is) = record { source = x; has = inl refl; gives = e ∙ ap Some is }
filter_either f x xs (Some z) y e rest (inr h) = from_more (λ x y. f x ≡ Some y) x xs y (rest h)

pub from_filter_map : {X Y : Type 0} (f : X → Option Y) (xs : List X) (y : Y) → Has (filter_map f xs) y → From (λ x y. f x ≡ Some y) xs y
from_filter_map f [] y h = absurd h
from_filter_map f (x ∷ xs) y h = filter_either f x xs (f x) y refl (from_filter_map f xs y) h

module _ {X : Type 0} (key : X → ℕ) where
  put_either : (x z : X) (rest : List X) (y : X) (b : Bool) → (Has (put_in key x rest) y → (x ≡ y) ⊎ Has rest y)
      → Has (if b then x ∷ z ∷ rest else z ∷ put_in key x rest) y → (x ≡ y) ⊎ Has (z ∷ rest) y
  put_either x z rest y true more (inl e) = inl e
  put_either x z rest y true more (inr h) = inr h
  put_either x z rest y false more (inl e) = inr (inl e)
  put_either x z rest y false more (inr h) = second (λ k. inr k) (more h)

  from_put : (x : X) (xs : List X) (y : X) → Has (put_in key x xs) y → (x ≡ y) ⊎ Has xs y
  from_put x [] y (inl e) = inl e
  from_put x [] y (inr h) = absurd h
  from_put x (z ∷ rest) y h = put_either x z rest y (nat_le (key x) (key z)) (from_put x rest y) h

  pub from_order : (xs : List X) (y : X) → Has (in_text_order key xs) y → Has xs y
  from_order [] y h = absurd h
  from_order (x ∷ xs) y h = second (from_order xs y) (from_put x (in_text_order key xs) y h)

  into_either : (x z : X) (rest : List X) (y : X) (b : Bool) → ((x ≡ y) ⊎ Has rest y → Has (put_in key x rest) y) → (x ≡ y) ⊎ Has (z ∷ rest) y
      → Has (if b then x ∷ z ∷ rest else z ∷ put_in key x rest) y
  into_either x z rest y true more (inl e) = inl e
  into_either x z rest y true more (inr h) = inr h
  into_either x z rest y false more (inl e) = inr (more (inl e))
  into_either x z rest y false more (inr (inl e)) = inl e
  into_either x z rest y false more (inr (inr h)) = inr (more (inr h))

  into_put : (x : X) (xs : List X) (y : X) → (x ≡ y) ⊎ Has xs y → Has (put_in key x xs) y
  into_put x [] y h = h
  into_put x (z ∷ rest) y h = into_either x z rest y (nat_le (key x) (key z)) (into_put x rest y) h

  pub into_order : (xs : List X) (y : X) → Has xs y → Has (in_text_order key xs) y
  into_order [] y h = h
  into_order (x ∷ xs) y h = into_put x (in_text_order key xs) y (second (into_order xs y) h)

  pub all_in_order : (P : X → Type 0) (xs : List X) → AllByRecursion P xs → AllByRecursion P (in_text_order key xs)
  all_in_order P xs h = all_of_has P (in_text_order key xs) (λ y k. has_of_all P xs y h (from_order xs y k))

pub index_has : {X : Type 0} (xs : List X) (i : ℕ) (x : X) → slice_get xs i ≡ Some x → Has xs x
index_has [] i x e = absurd (cc (e))
index_has (y ∷ xs) zero x e = inl (cc (e))
index_has (y ∷ xs) (suc i) x e = inr (index_has xs i x e)

-- a place of an element
pub record Place {X : Type 0} (xs : List X) (x : X) : Type 0 where
  pub at : ℕ
  pub is : slice_get xs at ≡ Some x

pub has_place : {X : Type 0} (xs : List X) (x : X) → Has xs x → Place xs x
has_place [] x h = absurd h
has_place (y ∷ xs) x (inl e) = record { at = 0; is = ap Some e }
has_place (y ∷ xs) x (inr h) = (let r = has_place xs x h in record { at = suc r.at; is = r.is })

pub has_map : {X Y : Type 0} (f : X → Y) (xs : List X) (x : X) → Has xs x → Has (map f xs) (f x)
has_map f [] x h = absurd h
has_map f (z ∷ xs) x (inl e) = inl (ap f e)
has_map f (z ∷ xs) x (inr h) = inr (has_map f xs x h)

-- the number of what stands at a token is a place of it
placed_step : (t : ℕ) (ts : List ℕ) (at : ℕ) → (((t == at) ≡ true) × (t ≡ at)) ⊎ (((t == at) ≡ false) × (t ≢ at)) → (Has ts at → slice_get ts (number_at ts at) ≡ Some at)
    → (t ≡ at) ⊎ Has ts at → slice_get (t ∷ ts) (number_at (t ∷ ts) at) ≡ Some at
placed_step t ts at (inl both) more h = rw both.0 (ap Some both.1)
placed_step t ts at (inr both) more (inl e) = absurd (both.1 e)
placed_step t ts at (inr both) more (inr h) =
    rw both.0 (let one : 1 + number_at ts at ≡ suc (number_at ts at) = omega arith in ap (slice_get (t ∷ ts)) one ∙ more h)

pub placed : (tokens : List ℕ) (at : ℕ) → Has tokens at → slice_get tokens (number_at tokens at) ≡ Some at
placed [] at h = absurd h
placed (t ∷ ts) at h = placed_step t ts at (eqb_tells t at) (placed ts at) h

-- lists of which no element is there
pub left_empty : {X : Type 0} (xs ys : List X) → xs ++ ys ≡ [] → xs ≡ []
left_empty [] ys e = refl
left_empty (x ∷ xs) ys e = absurd (cc (e))

pub right_empty : {X : Type 0} (xs ys : List X) → xs ++ ys ≡ [] → ys ≡ []
right_empty [] ys e = e
right_empty (x ∷ xs) ys e = absurd (cc (e))

pub each_empty : {X Y : Type 0} (f : X → List Y) (xs : List X) (x : X) → flat_map f xs ≡ [] → Has xs x → f x ≡ []
each_empty f [] x e h = absurd h
each_empty f (y ∷ xs) x e (inl is) = ap f (sym is) ∙ left_empty (f y) (flat_map f xs) e
each_empty f (y ∷ xs) x e (inr h) = each_empty f xs x (right_empty (f y) (flat_map f xs) e) h

pub map_empty : {X Y : Type 0} (f : X → Y) (xs : List X) → map f xs ≡ [] → xs ≡ []
map_empty f [] e = refl
map_empty f (x ∷ xs) e = absurd (cc (e))

-- the element at a place
pub record Element {X : Type 0} (xs : List X) (i : ℕ) : Type 0 where
  pub element : X
  pub is : slice_get xs i ≡ Some element

pub element_at : {X : Type 0} (xs : List X) (i : ℕ) → i < length xs → Element xs i
element_at [] i less = absurd (omega (arith, less))
element_at (x ∷ xs) zero less = record { element = x; is = refl }
element_at (x ∷ xs) (suc i) less = (let r = element_at xs i (omega (arith, less)) in record { element = r.element; is = r.is })

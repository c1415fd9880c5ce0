-- Lists of blamed tokens that are empty, and what follows for their parts.
use Rattle.std.specs.Prelude.{◌≡◌, ℕ, zero, suc, ◌+◌, ◌==◌, Bool, true, false, if◌then◌else◌, List, [], ◌∷◌, ◌++◌, map, Some, slice_get}
use Rattle.std.specs.List.{flat_map, enumerate_from}
use Rattle.std.proofs.Common.{refl, subst, arith}
use Rattle.std.proofs.lemmas.Bool.Decides.{nat_tests}
use Rattle.c_tree.specs.Spelling.{EachHas}
use Rattle.c_tree.specs.Raw.{At}
use Rattle.c_tree.specs.rules.Bodies.{tokens_of, repeated}

pub no_parts : {T : Type 0} (xs ys : List T) → xs ++ ys ≡ [] → (xs ≡ []) × (ys ≡ [])
no_parts [] ys h = (refl, h)
no_parts (x ∷ xs) ys h = cc (h)

pub flat_none : {S T : Type 0} (f : S → List T) (xs : List S) → flat_map f xs ≡ [] → EachHas (λ x. f x ≡ []) xs
flat_none f [] h = tt
flat_none f (x ∷ xs) h =
    let p = no_parts (f x) (flat_map f xs) h in
    (p.0, flat_none f xs p.1)

pub each_split : {T : Type 0} (P : T → Type 0) (xs ys : List T) → EachHas P (xs ++ ys) → EachHas P xs × EachHas P ys
each_split P [] ys h = (tt, h)
each_split P (x ∷ xs) ys h =
    let p = each_split P xs ys h.1 in
    ((h.0, p.0), p.1)

pub each_get : {T : Type 0} (P : T → Type 0) (xs : List T) (i : ℕ) (x : T) → EachHas P xs → slice_get xs i ≡ Some x → P x
each_get P [] i x h k = cc (k)
each_get P (y ∷ ys) zero x h k = subst P (let e : y ≡ x = cc (k) in e) h.0
each_get P (y ∷ ys) (suc i) x h k = each_get P ys i x h.1 k

pub each_weaker : {T : Type 0} (P Q : T → Type 0) → ((x : T) → P x → Q x) → (xs : List T) → EachHas P xs → EachHas Q xs
each_weaker P Q k [] h = tt
each_weaker P Q k (x ∷ xs) h = (k x h.0, each_weaker P Q k xs h.1)

pub each_both : {T : Type 0} (P Q : T → Type 0) (xs : List T) → EachHas P xs → EachHas Q xs → EachHas (λ x. P x × Q x) xs
each_both P Q [] h k = tt
each_both P Q (x ∷ xs) h k = ((h.0, k.0), each_both P Q xs h.1 k.1)

pub each_mapped : {S T : Type 0} (f : S → T) (P : T → Type 0) (xs : List S) → EachHas (λ x. P (f x)) xs → EachHas P (map f xs)
each_mapped f P [] h = tt
each_mapped f P (x ∷ xs) h = (h.0, each_mapped f P xs h.1)

pub each_unmapped : {S T : Type 0} (f : S → T) (P : T → Type 0) (xs : List S) → EachHas P (map f xs) → EachHas (λ x. P (f x)) xs
each_unmapped f P [] h = tt
each_unmapped f P (x ∷ xs) h = (h.0, each_unmapped f P xs h.1)

-- an element with its number
pub each_numbered : {T : Type 0} (P : ℕ × T → Type 0) (k i : ℕ) (x : T) (xs : List T) → EachHas P (enumerate_from k xs)
    → slice_get xs i ≡ Some x → P (k + i, x)
each_numbered P k i x [] h e = cc (e)
each_numbered P k zero x (y ∷ ys) h e =
    let same : y ≡ x = cc (e) in
    let here : k ≡ k + 0 = omega arith in
    subst (λ z. P (z, x)) here (subst (λ z. P (k, z)) same h.0)
each_numbered P k (suc i) x (y ∷ ys) h e =
    let next : k + 1 + i ≡ k + suc i = omega arith in
    subst (λ z. P (z, x)) next (each_numbered P (k + 1) i x ys h.1 e)

pub tokens_split : (i : ℕ) (xs ys : List (At ℕ)) → tokens_of i (xs ++ ys) ≡ [] → (tokens_of i xs ≡ []) × (tokens_of i ys ≡ [])
tokens_split i [] ys h = (refl, h)
tokens_split i (x ∷ xs) ys h = by_test (x.value == i) h (λ k. tokens_split i xs ys k)
  where
    by_test : (test : Bool) → (if test then x.at ∷ tokens_of i (xs ++ ys) else tokens_of i (xs ++ ys)) ≡ []
        → (tokens_of i (xs ++ ys) ≡ [] → (tokens_of i xs ≡ []) × (tokens_of i ys ≡ []))
        → ((if test then x.at ∷ tokens_of i xs else tokens_of i xs) ≡ []) × (tokens_of i ys ≡ [])
    by_test true k later = cc (k)
    by_test false k later = later k

-- a number that isn't among some differs from each
pub tokens_head : (i : ℕ) (x : At ℕ) (rest : List (At ℕ)) → tokens_of i (x ∷ rest) ≡ [] → ((x.value == i) ≡ false) × (tokens_of i rest ≡ [])
tokens_head i x rest h = by_test (x.value == i) h
  where
    by_test : (test : Bool) → (if test then x.at ∷ tokens_of i rest else tokens_of i rest) ≡ []
        → (test ≡ false) × (tokens_of i rest ≡ [])
    by_test true k = cc (k)
    by_test false k = (refl, k)

pub repeated_split : (xs ys : List (At ℕ)) → repeated (xs ++ ys) ≡ [] → (repeated xs ≡ []) × (repeated ys ≡ [])
repeated_split [] ys h = (refl, h)
repeated_split (x ∷ xs) ys h =
    let a = no_parts (tokens_of x.value (xs ++ ys)) (repeated (xs ++ ys)) h in
    let b = repeated_split xs ys a.1 in
    let d = tokens_split x.value xs ys a.0 in
    ((λ i. d.0 i ++ b.0 i), b.1)

pub turned_test : (a b : ℕ) → (a == b) ≡ false → (b == a) ≡ false
turned_test a b h = grind (arith, nat_tests)

pub same_test : (a b : ℕ) → (a == b) ≡ true → a ≡ b
same_test a b h = grind (arith, nat_tests)

pub turned_true : (a b : ℕ) → (a == b) ≡ true → (b == a) ≡ true
turned_true a b h = grind (arith, nat_tests)

-- Lists of blamed tokens that are as long as one another.
use Rattle.std.specs.Prelude.{◌≡◌, ◌↔◌, ℕ, ◌+◌, Bool, true, false, if◌then◌else◌, List, [], ◌∷◌, ◌++◌, length, map}
use Rattle.std.specs.List.{flat_map, enumerate_from}
use Rattle.std.proofs.Common.{refl, ap, sym, ◌∙◌}
use Rattle.std.proofs.lemmas.List.{length-append, nil_from_length}

-- as many tokens are blamed
abbrev pub Alike : List ℕ → List ℕ → Type 0
Alike xs ys = length xs ≡ length ys

pub both : (a b c d : List ℕ) → Alike a b → Alike c d → Alike (a ++ c) (b ++ d)
both a b c d h k = length-append a c ∙ (λ i. h i + k i) ∙ sym (length-append b d)

pub flat_alike : {S T : Type 0} (f : T → List ℕ) (g : S → List ℕ) (h : S → T) → ((x : S) → Alike (g x) (f (h x))) → (xs : List S)
    → Alike (flat_map g xs) (flat_map f (map h xs))
flat_alike f g h same [] = refl
flat_alike f g h same (x ∷ xs) = both (g x) (f (h x)) (flat_map g xs) (flat_map f (map h xs)) (same x) (flat_alike f g h same xs)

pub none_alike : (xs ys : List ℕ) → Alike xs ys → xs ≡ [] ↔ ys ≡ []
none_alike xs ys h =
    (λ e. nil_from_length ys (sym h ∙ ap length e), λ e. nil_from_length xs (h ∙ ap length e))

pub one_alike : (test : Bool) (a b : ℕ) → Alike (if test then [] else a ∷ []) (if test then [] else b ∷ [])
one_alike true a b = refl
one_alike false a b = refl

pub one_alike_else : (test : Bool) (a b : ℕ) → Alike (if test then a ∷ [] else []) (if test then b ∷ [] else [])
one_alike_else true a b = refl
one_alike_else false a b = refl

pub enumerate_mapped : {S T : Type 0} (h : S → T) (k : ℕ) (xs : List S)
    → enumerate_from k (map h xs) ≡ map (λ p. (p.0, h p.1)) (enumerate_from k xs)
enumerate_mapped h k [] = refl
enumerate_mapped h k (x ∷ xs) = ap (λ l. (k, h x) ∷ l) (enumerate_mapped h (k + 1) xs)

pub map_map : {R S T : Type 0} (f : S → T) (g : R → S) (xs : List R) → map f (map g xs) ≡ map (λ x. f (g x)) xs
map_map f g [] = refl
map_map f g (x ∷ xs) = ap (λ l. f (g x) ∷ l) (map_map f g xs)

pub map_same : {S T : Type 0} (f g : S → T) → ((x : S) → f x ≡ g x) → (xs : List S) → map f xs ≡ map g xs
map_same f g same [] = refl
map_same f g same (x ∷ xs) = λ i. same x i ∷ map_same f g same xs i

-- the parts of mapped elements
pub flat_mapped : {R S T U : Type 0} (f : S → List U) (g : R → List T) (h : R → S) (k : T → U)
    → ((x : R) → f (h x) ≡ map k (g x)) → (xs : List R) → flat_map f (map h xs) ≡ map k (flat_map g xs)
flat_mapped f g h k same [] = refl
flat_mapped f g h k same (x ∷ xs) =
    (λ i. same x i ++ flat_mapped f g h k same xs i) ∙ sym (mapped_both k (g x) (flat_map g xs))
  where
    mapped_both : {A B : Type 0} (m : A → B) (xs ys : List A) → map m (xs ++ ys) ≡ map m xs ++ map m ys
    mapped_both m [] ys = refl
    mapped_both m (y ∷ xs) ys = ap (λ l. m y ∷ l) (mapped_both m xs ys)

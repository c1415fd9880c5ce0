-- The ends of lists.
use Rattle.std.specs.Prelude.{◌≡◌, List, [], ◌∷◌, ◌++◌, refl}
use Rattle.std.proofs.Common.{ap, sym, ◌∙◌}

-- two lists that end with one element each
pub same_ends : {X : Type 0} (xs ys : List X) (x y : X) → xs ++ x ∷ [] ≡ ys ++ y ∷ [] → (xs ≡ ys) × (x ≡ y)
same_ends [] [] x y h = (refl, cc)
same_ends [] (b ∷ []) x y h = cc
same_ends [] (b ∷ c ∷ ys) x y h = cc
same_ends (a ∷ []) [] x y h = cc
same_ends (a ∷ c ∷ xs) [] x y h = cc
same_ends {X} (a ∷ xs) (b ∷ ys) x y h =
    let rest : xs ++ x ∷ [] ≡ ys ++ y ∷ [] = cc in
    let first : a ≡ b = cc in
    let ends = same_ends xs ys x y rest in
    ((λ j. first j ∷ ends.0 j), ends.1)

last_of_two : {X : Type 0} (front : List X) (a b : X) → front ++ a ∷ b ∷ [] ≡ (front ++ a ∷ []) ++ b ∷ []
last_of_two [] a b = refl
last_of_two {X} (x ∷ front) a b = ap (λ (l : List X). x ∷ l) (last_of_two front a b)

-- a list of which the last two were taken
pub two_taken : {X : Type 0} (whole middle rest front : List X) (a b x y : X) → whole ≡ front ++ a ∷ b ∷ [] → whole ≡ middle ++ y ∷ [] → middle ≡ rest ++ x ∷ [] → (rest ≡ front) × (x ≡ a) × (y ≡ b)
two_taken {X} whole middle rest front a b x y h p q =
    let outer = same_ends middle (front ++ a ∷ []) y b (sym p ∙ h ∙ last_of_two front a b) in
    let inner = same_ends rest front x a (sym q ∙ outer.0) in
    (inner.0, inner.1, outer.1)

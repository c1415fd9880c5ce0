-- Lists of tokens that have the same least one.
use Rattle.std.proofs.Common.{◌≡◌, ℕ, List, [], ◌∷◌, ◌++◌, refl, ap, sym, ◌∙◌, arith}
use Rattle.std.specs.Prelude.{min, Option, Some, None}
use Rattle.std.specs.List.{flat_map}
use Rattle.c_tree.specs.Form.{least_of}
use Rattle.c_form.specs.Blames.{lesser}
use Rattle.c_form.proofs.Blaming.{least_append, lesser-assoc}

min-swap : (x y : ℕ) → min x y ≡ min y x
min-swap x y = omega arith

lesser-comm : (a b : Option ℕ) → lesser a b ≡ lesser b a
lesser-comm None None = refl
lesser-comm None (Some y) = refl
lesser-comm (Some x) None = refl
lesser-comm (Some x) (Some y) = ap (λ n. Some n) (min-swap x y)

-- four of them, the second and the third in the other order
lesser-middle : (a b c d : Option ℕ) → lesser (lesser a b) (lesser c d) ≡ lesser (lesser a c) (lesser b d)
lesser-middle a b c d =
    lesser-assoc a b (lesser c d)
    ∙ ap (lesser a) (sym (lesser-assoc b c d) ∙ ap (λ t. lesser t d) (lesser-comm b c) ∙ lesser-assoc c b d)
    ∙ sym (lesser-assoc a c (lesser b d))

pub least_both : (a b c d : List ℕ) → least_of a ≡ least_of c → least_of b ≡ least_of d → least_of (a ++ b) ≡ least_of (c ++ d)
least_both a b c d e f =
    least_append a b ∙ ap (λ t. lesser t (least_of b)) e ∙ ap (lesser (least_of c)) f ∙ sym (least_append c d)

pub least_middle : (a b c d : List ℕ) → least_of ((a ++ b) ++ (c ++ d)) ≡ least_of ((a ++ c) ++ (b ++ d))
least_middle a b c d =
    least_append (a ++ b) (c ++ d) ∙ ap (λ t. lesser t (least_of (c ++ d))) (least_append a b)
    ∙ ap (lesser (lesser (least_of a) (least_of b))) (least_append c d)
    ∙ lesser-middle (least_of a) (least_of b) (least_of c) (least_of d)
    ∙ sym (least_append (a ++ c) (b ++ d) ∙ ap (λ t. lesser t (least_of (b ++ d))) (least_append a c)
    ∙ ap (lesser (lesser (least_of a) (least_of c))) (least_append b d))

-- what two rules find in elements, one behind the other
pub least_split : {T : Type 0} (f g : T → List ℕ) (xs : List T)
    → least_of (flat_map (λ x. f x ++ g x) xs) ≡ least_of (flat_map f xs ++ flat_map g xs)
least_split f g [] = refl
least_split f g (x ∷ xs) =
    least_both (f x ++ g x) (flat_map (λ x. f x ++ g x) xs) (f x ++ g x) (flat_map f xs ++ flat_map g xs) refl (least_split f g xs)
    ∙ least_middle (f x) (g x) (flat_map f xs) (flat_map g xs)

-- what is found in elements, where each part has the same least token
pub least_each : {T : Type 0} (f g : T → List ℕ) → ((x : T) → least_of (f x) ≡ least_of (g x)) → (xs : List T)
    → least_of (flat_map f xs) ≡ least_of (flat_map g xs)
least_each f g e [] = refl
least_each f g e (x ∷ xs) = least_both (f x) (flat_map f xs) (g x) (flat_map g xs) (e x) (least_each f g e xs)

-- Fronts of bytes that pass a test.
use Rattle.std.proofs.Common.{◌≡◌, ◌+◌, ℕ, suc, List, [], ◌∷◌, ◌++◌, length, take, refl, ap, ◌∙◌, arith}
use Rattle.std.specs.Prelude.{Bool, true, false}
use Rattle.std.specs.List.{list_all, prefix_len}
use Rattle.std.proofs.lemmas.Bool.{and_parts, and_from}
use Rattle.std.proofs.Math.Seq.{take-append_seam}
use Rattle.va_base.specs.Spelling.{begins}
use Rattle.c_syntax.proofs.Longest.{cond_true, cond_false}

-- a front of bytes that pass, where the rest doesn't go on with one
front_passes : (p : ℕ → Bool) (xs rest : List ℕ) → list_all p xs ≡ true → begins p rest ≡ false → prefix_len p (xs ++ rest) ≡ length xs
front_passes p [] [] h b = refl
front_passes p [] (y ∷ rest) h b = cond_false (p y) (1 + prefix_len p rest) 0 b
front_passes p (x ∷ xs) rest h b =
    let q = and_parts (p x) (list_all p xs) h in
    cond_true (p x) (1 + prefix_len p (xs ++ rest)) 0 q.0 ∙ ap (λ n. 1 + n) (front_passes p xs rest q.1 b) ∙ (let same : 1 + length xs ≡ suc (length xs) = omega arith in same)

pub front_taken : (p : ℕ → Bool) (xs rest : List ℕ) → list_all p xs ≡ true → begins p rest ≡ false → take (prefix_len p (xs ++ rest)) (xs ++ rest) ≡ xs
front_taken p xs rest h b = ap (λ n. take n (xs ++ rest)) (front_passes p xs rest h b) ∙ take-append_seam xs rest

-- what all pass is a stronger test
pub weaker : (p q : ℕ → Bool) → ((x : ℕ) → p x ≡ true → q x ≡ true) → (xs : List ℕ) → list_all p xs ≡ true → list_all q xs ≡ true
weaker p q f [] h = refl
weaker p q f (x ∷ xs) h =
    let r = and_parts (p x) (list_all p xs) h in
    and_from (q x) (list_all q xs) (f x r.0) (weaker p q f xs r.1)

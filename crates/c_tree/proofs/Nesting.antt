-- Blocks and their flat lists determine each other.
use Rattle.std.proofs.Common.{◌≡◌, ◌≤◌, ℕ, zero, suc, List, [], ◌∷◌, ◌++◌, length, take, drop, refl, ap, sym, ◌∙◌, arith, append_assoc}
use Rattle.std.proofs.lemmas.List.{length-take, length-drop, take_at, drop_at}
use Rattle.c_tree.specs.declared.body.CAtom.{CAtom}
use Rattle.c_tree.specs.declared.body.CSimple.{CSimple}
use Rattle.c_tree.specs.declared.body.CStatement.{CStatement}
use Rattle.c_tree.specs.declared.body.CStatement.TheVariants.{Simple, If, For}
use Rattle.c_tree.specs.Blocks.{Block, done, simple, choice, loop, flat_of, nested, block_of, BlocksOfLists}

-- a part of a list is within the bound of the list
part : (i : ℕ) (l : List CStatement) (n : ℕ) → suc (length l) ≤ suc n → length (take i l) ≤ n
part i l n h = omega (arith, length-take i l)

rest_of : (i : ℕ) (l : List CStatement) (n : ℕ) → suc (length l) ≤ suc n → length (drop i l) ≤ n
rest_of i l n h = omega (arith, length-drop i l)

middle : (i j : ℕ) (l : List CStatement) (n : ℕ) → suc (length l) ≤ suc n → length (take j (drop i l)) ≤ n
middle i j l n h = omega (arith, length-drop i l, length-take j (drop i l))

last : (i j : ℕ) (l : List CStatement) (n : ℕ) → suc (length l) ≤ suc n → length (drop j (drop i l)) ≤ n
last i j l n h = omega (arith, length-drop i l, length-drop j (drop i l))

-- each bound that is great enough gives the same block
enough : (n m : ℕ) (body : List CStatement) → length body ≤ n → length body ≤ m → nested n body ≡ nested m body
unfolding nested
enough zero zero body h k = refl
enough zero (suc m) [] h k = refl
enough zero (suc m) (s ∷ rest) h k = absurd (let no : ⊥ = omega arith in no)
enough (suc n) zero [] h k = refl
enough (suc n) zero (s ∷ rest) h k = absurd (let no : ⊥ = omega arith in no)
enough (suc n) (suc m) [] h k = refl
enough (suc n) (suc m) (Simple s ∷ rest) h k = ap (simple s) (enough n m rest (omega arith) (omega arith))
enough (suc n) (suc m) (If test first second ∷ rest) h k =
    let a = enough n m (take first rest) (part first rest n h) (part first rest m k) in
    let b = enough n m (take second (drop first rest)) (middle first second rest n h) (middle first second rest m k) in
    let c = enough n m (drop second (drop first rest)) (last first second rest n h) (last first second rest m k) in
    λ i. choice test (a i) (b i) (c i)
enough (suc n) (suc m) (For before test turn ∷ rest) h k =
    let a = enough n m (take before rest) (part before rest n h) (part before rest m k) in
    let b = enough n m (take turn (drop before rest)) (middle before turn rest n h) (middle before turn rest m k) in
    let c = enough n m (drop turn (drop before rest)) (last before turn rest n h) (last before turn rest m k) in
    λ i. loop (a i) test (b i) (c i)

pub block-none : block_of [] ≡ done
unfolding nested
block-none = refl

pub block-simple : (s : CSimple) (rest : List CStatement) → block_of (Simple s ∷ rest) ≡ simple s (block_of rest)
unfolding nested
block-simple s rest = refl

pub block-choice : (test : CAtom) (first second : ℕ) (rest : List CStatement)
    → block_of (If test first second ∷ rest)
    ≡ choice test (block_of (take first rest)) (block_of (take second (drop first rest))) (block_of (drop second (drop first rest)))
unfolding nested
block-choice test first second rest =
    let n = length rest in
    let a = enough n (length (take first rest)) (take first rest) (omega (arith, length-take first rest)) (omega arith) in
    let b = enough n (length (take second (drop first rest))) (take second (drop first rest))
    (omega (arith, length-drop first rest, length-take second (drop first rest))) (omega arith) in
    let c = enough n (length (drop second (drop first rest))) (drop second (drop first rest))
    (omega (arith, length-drop first rest, length-drop second (drop first rest))) (omega arith) in
    λ i. choice test (a i) (b i) (c i)

pub block-loop : (before : ℕ) (test : CAtom) (turn : ℕ) (rest : List CStatement)
    → block_of (For before test turn ∷ rest)
    ≡ loop (block_of (take before rest)) test (block_of (take turn (drop before rest))) (block_of (drop turn (drop before rest)))
unfolding nested
block-loop before test turn rest =
    let n = length rest in
    let a = enough n (length (take before rest)) (take before rest) (omega (arith, length-take before rest)) (omega arith) in
    let b = enough n (length (take turn (drop before rest))) (take turn (drop before rest))
    (omega (arith, length-drop before rest, length-take turn (drop before rest))) (omega arith) in
    let c = enough n (length (drop turn (drop before rest))) (drop turn (drop before rest))
    (omega (arith, length-drop before rest, length-drop turn (drop before rest))) (omega arith) in
    λ i. loop (a i) test (b i) (c i)

-- the parts of a list that is put together of three
first_of : (xs ys zs : List CStatement) → take (length xs) (xs ++ ys ++ zs) ≡ xs
first_of xs ys zs = ap (take (length xs)) (append_assoc xs ys zs) ∙ take_at xs (ys ++ zs) (length xs) refl

after_first : (xs ys zs : List CStatement) → drop (length xs) (xs ++ ys ++ zs) ≡ ys ++ zs
after_first xs ys zs = ap (drop (length xs)) (append_assoc xs ys zs) ∙ drop_at xs (ys ++ zs) (length xs) refl

second_of : (xs ys zs : List CStatement) → take (length ys) (drop (length xs) (xs ++ ys ++ zs)) ≡ ys
second_of xs ys zs = ap (take (length ys)) (after_first xs ys zs) ∙ take_at ys zs (length ys) refl

third_of : (xs ys zs : List CStatement) → drop (length ys) (drop (length xs) (xs ++ ys ++ zs)) ≡ zs
third_of xs ys zs = ap (drop (length ys)) (after_first xs ys zs) ∙ drop_at ys zs (length ys) refl

pub block-flat : (b : Block) → block_of (flat_of b) ≡ b
block-flat done = block-none
block-flat (simple s rest) = block-simple s (flat_of rest) ∙ ap (simple s) (block-flat rest)
block-flat (choice test first second rest) =
    let xs = flat_of first in
    let ys = flat_of second in
    let zs = flat_of rest in
    let a = ap block_of (first_of xs ys zs) ∙ block-flat first in
    let b = ap block_of (second_of xs ys zs) ∙ block-flat second in
    let c = ap block_of (third_of xs ys zs) ∙ block-flat rest in
    block-choice test (length xs) (length ys) (xs ++ ys ++ zs) ∙ (λ i. choice test (a i) (b i) (c i))
block-flat (loop before test turn rest) =
    let xs = flat_of before in
    let ys = flat_of turn in
    let zs = flat_of rest in
    let a = ap block_of (first_of xs ys zs) ∙ block-flat before in
    let b = ap block_of (second_of xs ys zs) ∙ block-flat turn in
    let c = ap block_of (third_of xs ys zs) ∙ block-flat rest in
    block-loop (length xs) test (length ys) (xs ++ ys ++ zs) ∙ (λ i. loop (a i) test (b i) (c i))

pub blocks_of_lists : BlocksOfLists
blocks_of_lists = record {
  from_blocks = block-flat;
  one_block = λ b c e. sym (block-flat b) ∙ ap block_of e ∙ block-flat c;
  fits = λ body. (λ h. (block_of body, h), λ h. ap (λ l. flat_of (block_of l)) (sym h.1) ∙ ap flat_of (block-flat h.0) ∙ h.1);
  none = block-none;
  simple_first = block-simple;
  choice_first = block-choice;
  loop_first = block-loop;
}

-- Bounds of what is blamed.
use Rattle.std.proofs.Common.{◌≡◌, ◌≤◌, ℕ, suc, List, [], ◌∷◌, ◌++◌, refl, ap, sym, ◌∙◌, inl, inr, arith, subst}
use Rattle.std.specs.Prelude.{Bool, true, false, if◌then◌else◌, ◌==◌, Option, Some, None}
use Rattle.std.specs.List.{flat_map}
use Rattle.std.proofs.lemmas.Bool.{eqb-true, eq-eqb}
use Rattle.c_tree.specs.declared.body.CAtom.{CAtom}
use Rattle.c_tree.specs.Form.{least_of}
use Rattle.c_tree.specs.Raw.{At}
use Rattle.c_tree.specs.rules.Bodies.{local_of, tokens_of}
use Rattle.c_form.specs.Blames.{Blames, lesser}
use Rattle.c_form.proofs.Blaming.{least_first}
use Rattle.c_form_settings.specs.Passes.{Above, AllAbove, Among, tokens_where}

pub both-above : (bound : ℕ) (x y : List ℕ) → AllAbove bound x → AllAbove bound y → AllAbove bound (x ++ y)
both-above bound [] y a b = b
both-above bound (token ∷ x) y a b = (a.0, both-above bound x y a.1 b)

pub first-above : (bound : ℕ) (x y : List ℕ) → AllAbove bound (x ++ y) → AllAbove bound x
first-above bound [] y a = tt
first-above bound (token ∷ x) y a = (a.0, first-above bound x y a.1)

pub second-above : (bound : ℕ) (x y : List ℕ) → AllAbove bound (x ++ y) → AllAbove bound y
second-above bound [] y a = a
second-above bound (token ∷ x) y a = second-above bound x y a.1

-- the lesser of two tokens
lesser-above : (bound : ℕ) (a b : Option ℕ) → Above bound a → Above bound b → Above bound (lesser a b)
lesser-above bound None b p q = q
lesser-above bound (Some x) None p q = p
lesser-above bound (Some x) (Some y) p q = omega (arith, p, q)

lesser-first : (bound : ℕ) (a b : Option ℕ) → Above bound (lesser a b) → Above bound a
lesser-first bound None b p = tt
lesser-first bound (Some x) None p = p
lesser-first bound (Some x) (Some y) p = omega (arith, p)

lesser-second : (bound : ℕ) (a b : Option ℕ) → Above bound (lesser a b) → Above bound b
lesser-second bound None b p = p
lesser-second bound (Some x) None p = tt
lesser-second bound (Some x) (Some y) p = omega (arith, p)

-- the least of some tokens
pub least-above : (bound : ℕ) (tokens : List ℕ) → AllAbove bound tokens → Above bound (least_of tokens)
least-above bound [] a = tt
least-above bound (token ∷ tokens) a =
    subst (Above bound) (sym (least_first token tokens)) (lesser-above bound (Some token) (least_of tokens) a.0 (least-above bound tokens a.1))

pub all-above : (bound : ℕ) (tokens : List ℕ) → Above bound (least_of tokens) → AllAbove bound tokens
all-above bound [] a = tt
all-above bound (token ∷ tokens) a =
    let both : Above bound (lesser (Some token) (least_of tokens)) = subst (Above bound) (least_first token tokens) a in
    (lesser-first bound (Some token) (least_of tokens) both, all-above bound tokens (lesser-second bound (Some token) (least_of tokens) both))

-- what was blamed
pub blamed-above : (bound : ℕ) (old new : Option ℕ) (tokens : List ℕ) → Blames old new tokens → Above bound old → AllAbove bound tokens → Above bound new
blamed-above bound old new tokens b p q =
    subst (Above bound) (sym b.is) (lesser-above bound old (least_of tokens) p (least-above bound tokens q))

pub old-above : (bound : ℕ) (old new : Option ℕ) (tokens : List ℕ) → Blames old new tokens → Above bound new → Above bound old
old-above bound old new tokens b p = lesser-first bound old (least_of tokens) (subst (Above bound) b.is p)

pub tokens-above : (bound : ℕ) (old new : Option ℕ) (tokens : List ℕ) → Blames old new tokens → Above bound new → AllAbove bound tokens
tokens-above bound old new tokens b p = all-above bound tokens (lesser-second bound old (least_of tokens) (subst (Above bound) b.is p))

-- tokens with the same bounds
pub same-bounds : (a b : Option ℕ) → ((bound : ℕ) → Above bound a → Above bound b) → ((bound : ℕ) → Above bound b → Above bound a) → a ≡ b
same-bounds None None f g = refl
same-bounds None (Some y) f g = let no : suc y ≤ y = f (suc y) tt in absurd (let never : ⊥ = omega (arith, no) in never)
same-bounds (Some x) None f g = let no : suc x ≤ x = g (suc x) tt in absurd (let never : ⊥ = omega (arith, no) in never)
same-bounds (Some x) (Some y) f g =
    let one : x ≤ y = f x (omega arith) in
    let two : y ≤ x = g y (omega arith) in
    ap (λ n. Some n) (omega (arith, one, two))

-- what a number blames among those that pass a test
rest-above : (bound : ℕ) (b : Bool) (token : ℕ) (tokens : List ℕ) → AllAbove bound (if b then token ∷ tokens else tokens) → AllAbove bound tokens
rest-above bound true token tokens a = a.1
rest-above bound false token tokens a = a

where-one : (bound : ℕ) (test : ℕ → Bool) (i : ℕ) (xs : List (At ℕ)) → test i ≡ true → AllAbove bound (tokens_where test xs) → AllAbove bound (tokens_of i xs)
where-one bound test i [] e a = tt
where-one bound test i (x ∷ xs) e a =
    by_test (x.value == i) refl (where-one bound test i xs e (rest-above bound (test x.value) x.at (tokens_where test xs) a))
  where
    by_test : (b : Bool) → (x.value == i) ≡ b → AllAbove bound (tokens_of i xs) → AllAbove bound (if b then x.at ∷ tokens_of i xs else tokens_of i xs)
    by_test false f later = later
    by_test true f later =
        let passes : test x.value ≡ true = ap test (eqb-true x.value i f) ∙ e in
        let here : AllAbove bound (x.at ∷ tokens_where test xs) =
        subst (λ b. AllAbove bound (if b then x.at ∷ tokens_where test xs else tokens_where test xs)) passes a in
        (here.0, later)

where-every : (bound : ℕ) (test : ℕ → Bool) (xs : List (At ℕ)) → ((i : ℕ) → test i ≡ true → AllAbove bound (tokens_of i xs)) → AllAbove bound (tokens_where test xs)
where-every bound test [] a = tt
where-every bound test (x ∷ xs) a =
    by_test (test x.value) refl (where-every bound test xs (λ i e. rest-above bound (x.value == i) x.at (tokens_of i xs) (a i e)))
  where
    by_test : (b : Bool) → test x.value ≡ b → AllAbove bound (tokens_where test xs) → AllAbove bound (if b then x.at ∷ tokens_where test xs else tokens_where test xs)
    by_test false f later = later
    by_test true f later =
        let here : AllAbove bound (x.at ∷ tokens_of x.value xs) =
        subst (λ b. AllAbove bound (if b then x.at ∷ tokens_of x.value xs else tokens_of x.value xs)) (eq-eqb x.value x.value refl) (a x.value f) in
        (here.0, later)

pub where-forth : (bound : ℕ) (test : ℕ → Bool) (i : ℕ) (xs : List (At ℕ)) → AllAbove bound (tokens_where test xs)
    → AllAbove bound (if test i then tokens_of i xs else [])
where-forth bound test i xs a = by_test (test i) refl
  where
    by_test : (b : Bool) → test i ≡ b → AllAbove bound (if b then tokens_of i xs else [])
    by_test true e = where-one bound test i xs e a
    by_test false e = tt

pub where-back : (bound : ℕ) (test : ℕ → Bool) (xs : List (At ℕ)) → ((i : ℕ) → AllAbove bound (if test i then tokens_of i xs else []))
    → AllAbove bound (tokens_where test xs)
where-back bound test xs a =
    where-every bound test xs (λ i e. subst (λ b. AllAbove bound (if b then tokens_of i xs else [])) e (a i))

more-where : (b : Bool) (t : ℕ) (xs ys zs : List ℕ) → zs ≡ xs ++ ys → (if b then t ∷ zs else zs) ≡ (if b then t ∷ xs else xs) ++ ys
more-where true t xs ys zs e = ap (λ l. t ∷ l) e
more-where false t xs ys zs e = e

where-append : (test : ℕ → Bool) (xs ys : List (At ℕ)) → tokens_where test (xs ++ ys) ≡ tokens_where test xs ++ tokens_where test ys
where-append test [] ys = refl
where-append test (x ∷ xs) ys =
    more-where (test x.value) x.at (tokens_where test xs) (tokens_where test ys) (tokens_where test (xs ++ ys)) (where-append test xs ys)

pub where-atoms : (test : ℕ → Bool) (atoms : List (At CAtom))
    → tokens_where test (flat_map local_of atoms) ≡ flat_map (λ a. tokens_where test (local_of a)) atoms
where-atoms test [] = refl
where-atoms test (a ∷ atoms) =
    where-append test (local_of a) (flat_map local_of atoms) ∙ ap (λ l. tokens_where test (local_of a) ++ l) (where-atoms test atoms)

-- what each of some numbers blames
pub among-above : (bound i : ℕ) (part : ℕ → List ℕ) (numbers : List ℕ) → Among i numbers → AllAbove bound (flat_map part numbers) → AllAbove bound (part i)
among-above bound i part [] a all = absurd a
among-above bound i part (n ∷ numbers) (inl e) all = subst (λ k. AllAbove bound (part k)) e (first-above bound (part n) (flat_map part numbers) all)
among-above bound i part (n ∷ numbers) (inr a) all =
    among-above bound i part numbers a (second-above bound (part n) (flat_map part numbers) all)

pub each-above : (bound : ℕ) (part : ℕ → List ℕ) (numbers : List ℕ) → ((i : ℕ) → AllAbove bound (part i)) → AllAbove bound (flat_map part numbers)
each-above bound part [] all = tt
each-above bound part (n ∷ numbers) all = both-above bound (part n) (flat_map part numbers) (all n) (each-above bound part numbers all)

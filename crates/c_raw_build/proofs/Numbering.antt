-- The modules' numbers among some tokens, one token further.
use Rattle.std.specs.Prelude.{◌-◌, ◌+◌, suc, ◌≡◌, ◌<◌, ◌++◌, List, [], ◌∷◌, map, slice_get, ℕ, refl}
use Rattle.std.proofs.Common.{arith, ap, sym, ◌∙◌}
use Rattle.c_tree.specs.Raw as raw
use Rattle.c_raw.specs.Blocks.{at_view}
use Rattle.c_raw.specs.declared.token.At.{At}
use Rattle.c_raw_build.specs.Words.{CText, module_numbers, module_numbers_of}

-- the numbers from a token on, which isn't the last
unfold_one : (text : CText) (at end : ℕ) → at < end → module_numbers text at (end - at) ≡ module_numbers_of text at (slice_get text.tokens at) ++ module_numbers text (at + 1) (end - (at + 1))
unfold_one text at end h =
    let e : end - at ≡ suc (end - (at + 1)) = omega (arith, h) in
    ap (module_numbers text at) e

appended : (l m n : List (raw.At ℕ)) → (l ++ m) ++ n ≡ l ++ (m ++ n)
appended [] m n = refl
appended (x ∷ l) m n = ap (λ (r : List (raw.At ℕ)). x ∷ r) (appended l m n)

mapped : (l : List (At ℕ)) (a : At ℕ) → map at_view (l ++ a ∷ []) ≡ map at_view l ++ at_view a ∷ []
mapped [] a = refl
mapped (x ∷ l) a = ap (λ (r : List (raw.At ℕ)). at_view x ∷ r) (mapped l a)

-- one more number, or none, was pushed
pub pushed_one : (old new : List (At ℕ)) (a : At ℕ) → new ≡ old ++ a ∷ [] → map at_view new ≡ map at_view old ++ at_view a ∷ []
pushed_one old new a p = ap (map at_view) p ∙ mapped old a

pub pushed_none : (old : List (At ℕ)) → map at_view old ≡ map at_view old ++ []
pushed_none old = nothing_behind (map at_view old)
  where
    nothing_behind : (l : List (raw.At ℕ)) → l ≡ l ++ []
    nothing_behind [] = refl
    nothing_behind (x ∷ l) = ap (λ (r : List (raw.At ℕ)). x ∷ r) (nothing_behind l)

-- one more token was looked at
pub one_further : (text : CText) (old new : List (raw.At ℕ)) (at end : ℕ) → at < end → new ≡ old ++ module_numbers_of text at (slice_get text.tokens at)
    → new ++ module_numbers text (at + 1) (end - (at + 1)) ≡ old ++ module_numbers text at (end - at)
one_further text old new at end h p =
    let rest : List (raw.At ℕ) = module_numbers text (at + 1) (end - (at + 1)) in
    ap (λ (l : List (raw.At ℕ)). l ++ rest) p ∙ appended old (module_numbers_of text at (slice_get text.tokens at)) rest ∙ ap (λ (l : List (raw.At ℕ)). old ++ l) (sym (unfold_one text at end h))

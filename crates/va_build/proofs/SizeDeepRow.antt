-- Whether a row of nodes has one of depth 501.
use Rattle.std.specs.Prelude.{◌≡◌, ◌<◌, ◌≤◌, ◌⊎◌, ℕ, suc, zero, ◌+◌, Bool, true, false, nat_lt, Some, None, refl}
use Rattle.std.proofs.Common.{ap, arith, inl, inr, ltb-true, ltb-false}
use Rattle.std.proofs.lemmas.Bool.Decides.{nat_tests}
use Rattle.va_build.specs.SizeDeep.{earlier, if_deep, deep_row}

not_deep : (at depth : ℕ) → (depth ≡ 501 → ⊥) → if_deep at depth ≡ None
not_deep at depth h = grind (arith, nat_tests, h)

is_deep : (at depth : ℕ) → depth ≡ 501 → if_deep at depth ≡ Some at
is_deep at depth h = grind (arith, nat_tests, h)

both : (at : ℕ) → earlier (Some at) (Some at) ≡ Some at
both at = ap Some (omega arith)

-- each node is less deep, or each is deeper
pub no_deep_row : (at depth count : ℕ) → ((depth + count ≤ 501) ⊎ (501 < depth)) → deep_row at depth count ≡ None
no_deep_row at depth zero h = refl
no_deep_row at depth (suc count) h =
    let here : if_deep at (depth + count) ≡ None = not_deep at (depth + count) (λ e. elim h [ inl a ↦ omega (arith, a, e) | inr b ↦ omega (arith, b, e) ]) in
    let before : deep_row at depth count ≡ None = no_deep_row at depth count (elim h [ inl a ↦ inl (omega (arith, a)) | inr b ↦ inr b ]) in
    (λ j. earlier (before j) (here j))

within : (depth count : ℕ) → (501 < depth + count) ⊎ (depth + count ≤ 501)
within depth count = told (nat_lt 501 (depth + count)) refl
  where
    told : (b : Bool) → nat_lt 501 (depth + count) ≡ b → (501 < depth + count) ⊎ (depth + count ≤ 501)
    told true h = inl (ltb-true 501 (depth + count) h)
    told false h = inr (ltb-false 501 (depth + count) h)

here_or_before : (at depth count : ℕ) → ((501 < depth + count) ⊎ (depth + count ≤ 501)) → depth ≤ 501 → 501 < depth + suc count → (501 < depth + count → deep_row at depth count ≡ Some at) → earlier (deep_row at depth count) (if_deep at (depth + count)) ≡ Some at
here_or_before at depth count (inl a) h k before =
    let later : if_deep at (depth + count) ≡ None = not_deep at (depth + count) (λ e. omega (arith, a, e)) in
    (λ j. earlier (before a j) (later j))
here_or_before at depth count (inr b) h k before =
    let none : deep_row at depth count ≡ None = no_deep_row at depth count (inl b) in
    let here : if_deep at (depth + count) ≡ Some at = is_deep at (depth + count) (omega (arith, b, k)) in
    (λ j. earlier (none j) (here j))

pub one_deep_row : (at depth count : ℕ) → depth ≤ 501 → 501 < depth + count → deep_row at depth count ≡ Some at
one_deep_row at depth zero h k = absurd (omega (arith, h, k))
one_deep_row at depth (suc count) h k = here_or_before at depth count (within depth count) h k (λ a. one_deep_row at depth count h a)

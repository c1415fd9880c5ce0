-- The table of what names mean, filled from the last entry to the first.
use Rattle.std.specs.Prelude.{◌≡◌, ◌≢◌, ◌⊎◌, ℕ, suc, ◌-◌, ◌<◌, ◌≤◌, ◌==◌, nat_lt, cond, Bool, true, false, List, ◌∷◌, Option, Some, drop, length, get_or}
use Rattle.std.specs.BTreeMap.{is_at}
use Rattle.std.specs.Ordering.{nat_cmp, is_eq}
use Rattle.std.specs.declared.cmp.Ordering.TheVariants.{Less, Equal, Greater}
use Rattle.std.proofs.Common.{refl, sym, ◌∙◌, ap, arith, inl, inr}
use Rattle.std.proofs.Math.Seq.{drop-cons}
use Rattle.std.proofs.lemmas.Bool.Decides.{nat_tests, eqb_tells}
use Rattle.va_sem.specs.declared.names.Meaning.{Meaning}
use Rattle.va_sem.specs.declared.names.NameUse.{NameUse}
use Rattle.va_sem.specs.Typing.{meaning_at}

other_key : (less same : Bool) → same ≡ false → is_eq (cond less Less (cond same Equal Greater)) ≡ false
other_key true same e = refl
other_key false same e = (λ j. is_eq (cond (e j) Equal Greater))

same_key : (k q : ℕ) → ((k == q) ≡ true) × (k ≡ q) ⊎ ((k == q) ≡ false) × (k ≢ q) → is_at (nat_cmp k) q ≡ (k == q)
same_key k q (inl both) = (let lt : nat_lt k q ≡ false = grind (arith, nat_tests, both.1) in (λ j. is_eq (cond (lt j) Less (cond (both.0 j) Equal Greater))) ∙ sym both.0)
same_key k q (inr both) = other_key (nat_lt k q) (k == q) both.0 ∙ sym both.0

found_here : (u : NameUse) (rest : List NameUse) (at : ℕ) (b : Bool) → (u.at == at) ≡ b → cond b (Some u.meaning) (meaning_at rest at) ≡ meaning_at (u ∷ rest) at
found_here u rest at true e = rw e refl
found_here u rest at false e = rw e refl

pub entered : (uses : List NameUse) (place : ℕ) (u d : NameUse) (old new : ℕ → Option Meaning) → 0 < place → place ≤ length uses → u ≡ get_or uses (place - 1) d
    → ((at : ℕ) → old at ≡ meaning_at (drop place uses) at) → ((at : ℕ) → new at ≡ cond (is_at (nat_cmp u.at) at) (Some u.meaning) (old at)) → (at : ℕ) → new at ≡ meaning_at (drop (place - 1) uses) at
entered uses place u d old new positive within is before now at =
    let lt : place - 1 < length uses = omega arith in
    let next : suc (place - 1) ≡ place = omega arith in
    let here : drop (place - 1) uses ≡ u ∷ drop (suc (place - 1)) uses = drop-cons uses (place - 1) d lt ∙ ap (λ (x : NameUse). x ∷ drop (suc (place - 1)) uses) (sym is) in
    now at
    ∙ (λ j. cond (same_key u.at at (eqb_tells u.at at) j) (Some u.meaning) (before at j))
    ∙ ap (λ (n : ℕ). cond (u.at == at) (Some u.meaning) (meaning_at (drop n uses) at)) (sym next)
    ∙ found_here u (drop (suc (place - 1)) uses) at (u.at == at) refl
    ∙ ap (λ (xs : List NameUse). meaning_at xs at) (sym here)

-- The operators on integers keep their range.
use Rattle.std.specs.Prelude.{◌≡◌, zero, suc, ◌<◌, ◌^◌, Bool, true, false, ℤ, pos, negsuc, ◌+ℤ◌, ◌-ℤ◌, ◌*ℤ◌, neg_ℤ, int_div, int_rem, if◌then◌else◌, unsigned_abs}
use Rattle.std.proofs.Common.{refl, sym, ap, ◌∙◌, arith, subst}
use Rattle.std.proofs.lemmas.Int.{ints, quot-rem, rem_below}
use Rattle.std.proofs.lemmas.Bool.{lt-ltb, ltb-true}
use Rattle.std.proofs.lemmas.Bool.Decides.{Decides-int_eq}
use Rattle.std.proofs.Math.IntN.{*ℤ_comm}
use Rattle.alg_laws.specs.declared.number.Reason.{Reason}
use Rattle.alg_laws.specs.declared.number.Reason.TheVariants.{IntRange}
use Rattle.alg_laws.specs.Outcome.{Outcome, gives, ends, ◌>>=◌}
use Rattle.alg_laws.specs.IntegerLaws.{InRange, IntegerLaws}
use Rattle.alg_laws.specs.IntegerOps.{in_range, ranged, int_quotient, int_remainder}

abbrev the_ranged : ℤ → Bool → Outcome Reason ℤ
the_ranged z b = if b then gives z else ends IntRange

ranged_by : (z w : ℤ) (b : Bool) → in_range z ≡ b → the_ranged z b ≡ gives w → in_range w ≡ true
ranged_by z w true r e = let same : z ≡ w = cc (e) in sym (ap in_range same) ∙ r
ranged_by z w false r e = cc (e)

pub ranged_in : (z : ℤ) → InRange (ranged z)
ranged_in z w e = ranged_by z w (in_range z) refl e

-- what it gives is the number itself
ranged_of : (z w : ℤ) (b : Bool) → the_ranged z b ≡ gives w → z ≡ w
ranged_of z w true e = cc (e)
ranged_of z w false e = cc (e)

pub ranged_is : (z w : ℤ) → ranged z ≡ gives w → z ≡ w
ranged_is z w e = ranged_of z w (in_range z) e

quotient_in : (i j : ℤ) → InRange (int_quotient i j)
quotient_in i (pos zero) w e = cc (e)
quotient_in i (pos (suc n)) w e = ranged_in (int_div i (pos (suc n))) w e
quotient_in i (negsuc n) w e = ranged_in (int_div i (negsuc n)) w e

pub quotient_is : (i j q : ℤ) → int_quotient i j ≡ gives q → int_div i j ≡ q
quotient_is i (pos zero) q e = cc (e)
quotient_is i (pos (suc n)) q e = ranged_is (int_div i (pos (suc n))) q e
quotient_is i (negsuc n) q e = ranged_is (int_div i (negsuc n)) q e

left_over : (a r i : ℤ) → a +ℤ r ≡ i → i -ℤ a ≡ r
left_over a r i e = omega (arith, ints, e)

remainder_left : (i j q : ℤ) → int_div i j ≡ q → i -ℤ j *ℤ q ≡ int_rem i j
remainder_left i j q d =
    left_over (j *ℤ q) (int_rem i j) i
    (ap (λ t. t +ℤ int_rem i j) (*ℤ_comm j q ∙ ap (λ t. t *ℤ j) (sym d)) ∙ quot-rem i j)

truncated : (i j q : ℤ) → int_quotient i j ≡ gives q → int_remainder i j ≡ gives (int_rem i j)
truncated i j q h =
    ap (λ (a : Outcome Reason ℤ). a >>= λ q. gives (i -ℤ j *ℤ q)) h ∙ ap gives (remainder_left i j q (quotient_is i j q h))

small : (r j : ℤ) → in_range j ≡ true → unsigned_abs r < unsigned_abs j → in_range r ≡ true
small (pos n) (pos m) b h = lt-ltb n (2 ^ 31) (omega (arith, ltb-true m (2 ^ 31) b, h))
small (pos n) (negsuc m) b h = lt-ltb n (2 ^ 31) (omega (arith, ltb-true m (2 ^ 31) b, h))
small (negsuc n) (pos m) b h = lt-ltb n (2 ^ 31) (omega (arith, ltb-true m (2 ^ 31) b, h))
small (negsuc n) (negsuc m) b h = lt-ltb n (2 ^ 31) (omega (arith, ltb-true m (2 ^ 31) b, h))

-- a divisor of a division that has a quotient isn't 0
divisor : (i j q : ℤ) → int_quotient i j ≡ gives q → 0 < unsigned_abs j
divisor i (pos zero) q h = cc (h)
divisor i (pos (suc n)) q h = omega arith
divisor i (negsuc n) q h = omega arith

remainder_from : (i j w : ℤ) → in_range j ≡ true → (a : Outcome Reason ℤ) → int_quotient i j ≡ a → int_remainder i j ≡ gives w
    → in_range w ≡ true
remainder_from i j w b (gives q) h e =
    let same : int_rem i j ≡ w = (let t = sym (truncated i j q h) ∙ e in cc (t)) in
    subst (λ (t : ℤ). in_range t ≡ true) same (small (int_rem i j) j b (rem_below i j (divisor i j q h)))
remainder_from i j w b (ends r) h e =
    (let t = sym (ap (λ (a : Outcome Reason ℤ). a >>= λ q. gives (i -ℤ j *ℤ q)) h) ∙ e in cc (t))

pub integer_laws : IntegerLaws
integer_laws = record {
  sum = λ i j. ranged_in (i +ℤ j);
  difference = λ i j. ranged_in (i -ℤ j);
  product = λ i j. ranged_in (i *ℤ j);
  negative = λ i. ranged_in (neg_ℤ i);
  quotient = quotient_in;
  remainder = λ i j b w e. remainder_from i j w b (int_quotient i j) refl e;
  truncated = truncated;
  same = Decides-int_eq;
}

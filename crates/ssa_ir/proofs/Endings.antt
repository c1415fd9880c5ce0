-- Computations that give related values, or end early as they may: sequences, choices, loops.
use Rattle.std.specs.Prelude.{◌≡◌, ℕ, zero, suc, Bool}
use Rattle.std.proofs.Common.{subst, arith, inl, inr}
use Rattle.alg_laws.specs.declared.number.Reason.{Reason}
use Rattle.alg_laws.specs.Loop.{turns}
use Rattle.alg_laws.specs.Outcome.{Outcome, gives, ends, ◌>>=◌, among}
use Rattle.alg_laws.specs.Related.{OutcomesRelated, both_give as outcomes_give, both_end as outcomes_end}
use Rattle.alg_laws.proofs.Related.{chosen_related}
use Rattle.ssa_ir.specs.Related.{Endings, IsClosed, same_ends, more_turns, Alike, both_give, both_end, first_ends, BoundsRelated}

pub same_closed : {E : Type 0} → IsClosed (same_ends {E = E})
same_closed e f h = absurd h

pub more_closed : {E : Type 0} (too_many : E) → IsClosed (more_turns too_many)
more_closed too_many e f h = inl h

-- where both end, and for the same reason
pub same_related : {E A B : Type 0} (P : A → B → Type 0) {a : Outcome E A} {b : Outcome E B} → Alike same_ends P a b → OutcomesRelated P a b
same_related P (both_give h) = outcomes_give h
same_related {E} P (both_end {e = e} {f = f} h) = subst (λ (t : E). OutcomesRelated P (ends e) (ends t)) h outcomes_end
same_related P (first_ends h) = absurd h

less_bound : {E F : Type 0} (g : Endings E F) (e : E) (n m : ℕ) → BoundsRelated g e (suc n) (suc m) → BoundsRelated g e n m
less_bound g e n m (inl same) = inl (omega (arith, same))
less_bound g e n m (inr more) = inr (omega (arith, more.0), more.1)

-- computations over the language's own reasons, told as other ends
pub told_alike : {E F A B : Type 0} (g : Endings E F) (P : A → B → Type 0) (stops : Reason → E) (stops' : Reason → F) → ((r : Reason) → g.together (stops r) (stops' r))
    → {a : Outcome Reason A} {b : Outcome Reason B} → OutcomesRelated P a b → Alike g P (among stops a) (among stops' b)
told_alike g P stops stops' t (outcomes_give h) = both_give h
told_alike g P stops stops' t (outcomes_end {e = e}) = both_end (t e)

module _ {E F : Type 0} (g : Endings E F) (closed : IsClosed g) where
  ends_first : {A B : Type 0} (P : A → B → Type 0) (e : E) → g.alone e → (b : Outcome F B) → Alike g P (ends e) b
  ends_first P e h (gives y) = first_ends h
  ends_first P e h (ends f) = both_end (closed e f h)

  -- one computation after another
  pub then_alike : {A B C D : Type 0} (P : A → B → Type 0) (Q : C → D → Type 0) {a : Outcome E A} {b : Outcome F B}
      (f : A → Outcome E C) (k : B → Outcome F D) → Alike g P a b → ((x : A) (y : B) → P x y → Alike g Q (f x) (k y)) → Alike g Q (a >>= f) (b >>= k)
  then_alike P Q f k (both_give {x = x} {y = y} h) l = l x y h
  then_alike P Q f k (both_end h) l = both_end h
  then_alike P Q f k (first_ends {e = e} {y = y} h) l = ends_first Q e h (k y)

  -- the turns of a loop
  pub turns_alike : {S T A B : Type 0} (P : S → A → Type 0) (Q : T → B → Type 0) (too_many : E) (too_many' : F) → g.together too_many too_many'
      → (before : S → Outcome E T) (before' : A → Outcome F B) (goes : T → Bool) (goes' : B → Bool) (turn : T → Outcome E S) (turn' : B → Outcome F A)
      → ((s : S) (a : A) → P s a → Alike g Q (before s) (before' a))
      → ((t : T) (b : B) → Q t b → goes t ≡ goes' b)
      → ((t : T) (b : B) → Q t b → Alike g P (turn t) (turn' b))
      → (n m : ℕ) → BoundsRelated g too_many n m → (s : S) (a : A) → P s a
      → Alike g Q (turns too_many before goes turn n s) (turns too_many' before' goes' turn' m a)
  turns_alike P Q tm tm' e before before' goes goes' turn turn' h j k zero zero bound s a p =
      then_alike Q Q _ _ (h s a p)
      (λ t b q. chosen_related (Alike g Q) (goes t) (goes' b) _ _ _ _ (j t b q) (both_end e) (both_give q))
  turns_alike P Q tm tm' e before before' goes goes' turn turn' h j k zero (suc m) (inl same) s a p = absurd (omega (arith, same))
  turns_alike P Q tm tm' e before before' goes goes' turn turn' h j k zero (suc m) (inr more) s a p =
      then_alike Q Q _ _ (h s a p)
      (λ t b q. chosen_related (Alike g Q) (goes t) (goes' b) _ _ _ _ (j t b q) (ends_first Q tm more.1 _) (both_give q))
  turns_alike P Q tm tm' e before before' goes goes' turn turn' h j k (suc n) zero (inl same) s a p = absurd (omega (arith, same))
  turns_alike P Q tm tm' e before before' goes goes' turn turn' h j k (suc n) zero (inr more) s a p = absurd (omega (arith, more.0))
  turns_alike P Q tm tm' e before before' goes goes' turn turn' h j k (suc n) (suc m) bound s a p =
      then_alike Q Q _ _ (h s a p)
      (λ t b q. chosen_related (Alike g Q) (goes t) (goes' b) _ _ _ _ (j t b q)
      (then_alike P Q _ _ (k t b q) (turns_alike P Q tm tm' e before before' goes goes' turn turn' h j k n m (less_bound g tm n m bound)))
      (both_give q))

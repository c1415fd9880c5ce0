-- Computations that give related values, or end early as they may: sequences, choices, loops.
use Rattle.std.specs.Prelude.{◌≡◌, ℕ, zero, suc, Bool, ℤ, pos, ◌-ℤ◌, int_lt, List, [], ◌∷◌}
use Rattle.std.proofs.Common.{refl, ap, sym, subst, arith, inl, inr}
use Rattle.alg_laws.specs.declared.number.Number.{Number}
use Rattle.alg_laws.specs.declared.number.Number.TheVariants.{Real, Int}
use Rattle.alg_laws.specs.declared.number.Reason.{Reason}
use Rattle.alg_laws.specs.Loop.{turns, tested, Tested, while_turns}
use Rattle.alg_laws.specs.Outcome.{Outcome, gives, ends, ◌>>=◌, among}
use Rattle.alg_laws.specs.Related.{Relates, NumbersRelated, reals, integers, OutcomesRelated, both_give as outcomes_give, both_end as outcomes_end, ListsRelated, no_more, one_more}
use Rattle.alg_laws.proofs.Outcomes.{numbers_equal}
use Rattle.alg_laws.proofs.Related.{chosen_related}
use Rattle.alg_laws.specs.Operations.{Operations}
use Rattle.va_meaning.specs.Points.{Result, State}
use Rattle.va_meaning.specs.Runs.{Counted, turns_left, count_down, repeated}
use Rattle.va_meaning.proofs.Partial.{IfGives}
use Rattle.va_meaning.specs.Related.{Endings, IsClosed, same_ends, any_ends, more_turns, Alike, both_give, both_end, first_ends, second_ends, ResultsRelated, BoundsRelated, StatesRelated}

pub same_closed : {E : Type 0} → IsClosed (same_ends {E = E})
same_closed = record { first = λ e f h. absurd h; second = λ e f h. absurd h }

pub any_closed : {E F : Type 0} → IsClosed (any_ends {E = E} {F = F})
any_closed = record { first = λ e f h. tt; second = λ e f h. tt }

pub more_closed : {E : Type 0} (too_many : E) → IsClosed (more_turns too_many)
more_closed too_many = record { first = λ e f h. inl h; second = λ e f h. absurd h }

-- where both end, and alike
pub same_related : {E A B : Type 0} (P : A → B → Type 0) {a : Outcome E A} {b : Outcome E B} → Alike same_ends P a b → OutcomesRelated P a b
same_related P (both_give h) = outcomes_give h
same_related {E} P (both_end {e = e} {f = f} h) = subst (λ (t : E). OutcomesRelated P (ends e) (ends t)) h outcomes_end
same_related P (first_ends h) = absurd h
same_related P (second_ends h) = absurd h

-- more turns change nothing but the want of them
pub gives_more : {E A : Type 0} (too_many : E) (x : A) {a b : Outcome E A} → Alike (more_turns too_many) ◌≡◌ a b → a ≡ gives x → b ≡ gives x
gives_more too_many x (both_give h) e = cc (h, e)
gives_more too_many x (both_end h) e = cc (e)
gives_more too_many x (first_ends h) e = cc (e)
gives_more too_many x (second_ends h) e = absurd h

pub ends_more : {E A : Type 0} (too_many d : E) → (d ≡ too_many → ⊥) → {a b : Outcome E A} → Alike (more_turns too_many) ◌≡◌ a b → a ≡ ends d → b ≡ ends d
ends_more too_many d other (both_give h) k = cc (k)
ends_more too_many d other (both_end (inl h)) k = absurd (other (let same : d ≡ too_many = cc (h, k) in same))
ends_more too_many d other (both_end (inr h)) k = cc (h, k)
ends_more too_many d other (first_ends h) k = absurd (other (let same : d ≡ too_many = cc (h, k) in same))
ends_more too_many d other (second_ends h) k = absurd h

pub alike_weaker : {E F A B : Type 0} (g : Endings E F) (P Q : A → B → Type 0) → ((x : A) (y : B) → P x y → Q x y) → {a : Outcome E A} {b : Outcome F B}
    → Alike g P a b → Alike g Q a b
alike_weaker g P Q w (both_give {x = x} {y = y} h) = both_give (w x y h)
alike_weaker g P Q w (both_end h) = both_end h
alike_weaker g P Q w (first_ends h) = first_ends h
alike_weaker g P Q w (second_ends h) = second_ends h

-- the second tells the first's ends as other ones
abbrev pub told_ends : {E F : Type 0} → (E → F) → Endings E F
told_ends f = record { together = λ e d. f e ≡ d; first_alone = λ e. ⊥; second_alone = λ d. ⊥ }

pub told_closed : {E F : Type 0} (f : E → F) → IsClosed (told_ends f)
told_closed f = record { first = λ e d h. absurd h; second = λ e d h. absurd h }

pub told_equal : {E F A : Type 0} (f : E → F) {a : Outcome E A} {b : Outcome F A} → Alike (told_ends f) ◌≡◌ a b → b ≡ among f a
told_equal f (both_give h) = ap gives (sym h)
told_equal f (both_end h) = ap ends (sym h)
told_equal f (first_ends h) = absurd h
told_equal f (second_ends h) = absurd h

-- ends of which more is allowed
pub record IsWeaker {E F : Type 0} (g g' : Endings E F) : Type 0 where
  pub together : (e : E) (f : F) → g.together e f → g'.together e f
  pub first : (e : E) → g.first_alone e → g'.first_alone e
  pub second : (f : F) → g.second_alone f → g'.second_alone f

pub weaker_itself : {E F : Type 0} (g : Endings E F) → IsWeaker g g
weaker_itself g = record { together = λ e f h. h; first = λ e h. h; second = λ f h. h }

pub weaker_any : {E F : Type 0} (g : Endings E F) → IsWeaker g any_ends
weaker_any g = record { together = λ e f h. tt; first = λ e h. tt; second = λ f h. tt }

pub alike_up : {E F A B : Type 0} (g g' : Endings E F) → IsWeaker g g' → {P : A → B → Type 0} {a : Outcome E A} {b : Outcome F B} → Alike g P a b → Alike g' P a b
alike_up g g' w (both_give h) = both_give h
alike_up g g' w (both_end {e = e} {f = f} h) = both_end (w.together e f h)
alike_up g g' w (first_ends {e = e} h) = first_ends (w.first e h)
alike_up g g' w (second_ends {f = f} h) = second_ends (w.second f h)

pub bounds_up : {E F : Type 0} (g g' : Endings E F) → IsWeaker g g' → (e : E) (n m : ℕ) → BoundsRelated g e n m → BoundsRelated g' e n m
bounds_up g g' w e n m (inl same) = inl same
bounds_up g g' w e n m (inr more) = inr (more.0, w.first e more.1)

pub alike_itself : {E A : Type 0} (a : Outcome E A) → Alike same_ends ◌≡◌ a a
alike_itself (gives x) = both_give refl
alike_itself (ends e) = both_end refl

-- where both give a value
pub both_gave : {E F A B : Type 0} (P : A → B → Type 0) (x : A) (y : B) {a : Outcome E A} {b : Outcome F B} → Alike any_ends P a b → a ≡ gives x → b ≡ gives y → P x y
both_gave {A = A} {B = B} P x y (both_give {x = u} {y = v} h) e f =
    let same : u ≡ x = cc (e) in
    let same' : v ≡ y = cc (f) in
    subst (λ (t : B). P x t) same' (subst (λ (t : A). P t v) same h)
both_gave P x y (both_end h) e f = cc (e)
both_gave P x y (first_ends h) e f = cc (e)
both_gave P x y (second_ends h) e f = cc (f)

-- equal values
pub states_equal : {V : Type 0} {s t : State V} → StatesRelated ◌≡◌ s t → s ≡ t
states_equal h = λ j. record {
  variables = λ x. numbers_equal (h.variables x) j;
  held = λ b. record { quantity = (h.held b).quantity j; sum = (h.held b).sum j };
  marks = λ b. h.marks b j;
}

pub lists_equal : {A : Type 0} {xs ys : List A} → ListsRelated ◌≡◌ xs ys → xs ≡ ys
lists_equal no_more = refl
lists_equal (one_more h hs) = λ j. h j ∷ lists_equal hs j

-- values beside themselves
pub same_itself : {V : Type 0} (o : Operations V) → Relates o o ◌≡◌
same_itself o = record {
  zero = refl;
  one = refl;
  sum = λ x y u v h k. (λ j. o.sum (h j) (k j));
  negative = λ x u h. (λ j. o.negative (h j));
  product = λ x y u v h k. (λ j. o.product (h j) (k j));
  recip = λ x u h. (λ j. o.recip (h j));
  fun1 = λ f x u h. (λ j. o.fun1 f (h j));
  fun2 = λ f x y u v h k. (λ j. o.fun2 f (h j) (k j));
  less = λ x y u v h k. (λ j. o.less (h j) (k j));
  at_most = λ x y u v h k. (λ j. o.at_most (h j) (k j));
  same = λ x y u v h k. (λ j. o.same (h j) (k j));
  near = λ x u h. (λ j. o.near (h j));
}

-- arguments beside themselves
pub itself : {V : Type 0} (v : Number V) → NumbersRelated ◌≡◌ v v
itself (Real x) = reals refl
itself (Int i) = integers

outcome_itself : {E V : Type 0} (too_many : E) (out : Result E V) → ResultsRelated (more_turns too_many) ◌≡◌ out out
outcome_itself too_many (gives v) = both_give (itself v)
outcome_itself too_many (ends e) = both_end (inr refl)

pub outcomes_themselves : {E V : Type 0} (too_many : E) (outs : List (Result E V)) → ListsRelated (ResultsRelated (more_turns too_many) ◌≡◌) outs outs
outcomes_themselves too_many [] = no_more
outcomes_themselves too_many (out ∷ outs) = one_more (outcome_itself too_many out) (outcomes_themselves too_many outs)

pub less_bound : {E F : Type 0} (g : Endings E F) (e : E) (n m : ℕ) → BoundsRelated g e (suc n) (suc m) → BoundsRelated g e n m
less_bound g e n m (inl same) = inl (omega (arith, same))
less_bound g e n m (inr more) = inr (omega (arith, more.0), more.1)

-- computations over the language's own reasons, told as other ends
pub told_alike : {E F A B : Type 0} (g : Endings E F) (P : A → B → Type 0) (stops : Reason → E) (stops' : Reason → F) → ((r : Reason) → g.together (stops r) (stops' r))
    → {a : Outcome Reason A} {b : Outcome Reason B} → OutcomesRelated P a b → Alike g P (among stops a) (among stops' b)
told_alike g P stops stops' t (outcomes_give h) = both_give h
told_alike g P stops stops' t (outcomes_end {e = e}) = both_end (t e)

module _ {E F : Type 0} (g : Endings E F) (closed : IsClosed g) where
  pub ends_first : {A B : Type 0} (P : A → B → Type 0) (e : E) → g.first_alone e → (b : Outcome F B) → Alike g P (ends e) b
  ends_first P e h (gives y) = first_ends h
  ends_first P e h (ends f) = both_end (closed.first e f h)

  pub ends_second : {A B : Type 0} (P : A → B → Type 0) (f : F) → g.second_alone f → (a : Outcome E A) → Alike g P a (ends f)
  ends_second P f h (gives x) = second_ends h
  ends_second P f h (ends e) = both_end (closed.second e f h)

  -- one computation after another
  pub then_alike : {A B C D : Type 0} (P : A → B → Type 0) (Q : C → D → Type 0) {a : Outcome E A} {b : Outcome F B}
      (f : A → Outcome E C) (k : B → Outcome F D) → Alike g P a b → ((x : A) (y : B) → P x y → Alike g Q (f x) (k y)) → Alike g Q (a >>= f) (b >>= k)
  then_alike P Q f k (both_give {x = x} {y = y} h) l = l x y h
  then_alike P Q f k (both_end h) l = both_end h
  then_alike P Q f k (first_ends {e = e} {y = y} h) l = ends_first Q e h (k y)
  then_alike P Q f k (second_ends {x = x} {f = e} h) l = ends_second Q e h (f x)

  -- the turns of a loop
  pub turns_alike : {S T A B : Type 0} (P : S → A → Type 0) (Q : T → B → Type 0) (too_many : E) (too_many' : F) → g.together too_many too_many'
      → (before : S → Outcome E T) (before' : A → Outcome F B) (goes : T → Bool) (goes' : B → Bool) (turn : T → Outcome E S) (turn' : B → Outcome F A)
      → ((s : S) (a : A) → P s a → Alike g Q (before s) (before' a))
      → ((t : T) (b : B) → Q t b → goes t ≡ goes' b)
      → ((t : T) (b : B) → Q t b → Alike g P (turn t) (turn' b))
      → (n m : ℕ) → BoundsRelated g too_many n m → (s : S) (a : A) → P s a
      → Alike g Q (turns too_many before goes turn n s) (turns too_many' before' goes' turn' m a)
  turns_alike P Q tm tm' e before before' goes goes' turn turn' h j k zero zero bound s a p =
      then_alike Q Q _ _ (h s a p)
      (λ t b q. chosen_related (Alike g Q) (goes t) (goes' b) _ _ _ _ (j t b q) (both_end e) (both_give q))
  turns_alike P Q tm tm' e before before' goes goes' turn turn' h j k zero (suc m) (inl same) s a p = absurd (omega (arith, same))
  turns_alike P Q tm tm' e before before' goes goes' turn turn' h j k zero (suc m) (inr more) s a p =
      then_alike Q Q _ _ (h s a p)
      (λ t b q. chosen_related (Alike g Q) (goes t) (goes' b) _ _ _ _ (j t b q) (ends_first Q tm more.1 _) (both_give q))
  turns_alike P Q tm tm' e before before' goes goes' turn turn' h j k (suc n) zero (inl same) s a p = absurd (omega (arith, same))
  turns_alike P Q tm tm' e before before' goes goes' turn turn' h j k (suc n) zero (inr more) s a p = absurd (omega (arith, more.0))
  turns_alike P Q tm tm' e before before' goes goes' turn turn' h j k (suc n) (suc m) bound s a p =
      then_alike Q Q _ _ (h s a p)
      (λ t b q. chosen_related (Alike g Q) (goes t) (goes' b) _ _ _ _ (j t b q)
      (then_alike P Q _ _ (k t b q) (turns_alike P Q tm tm' e before before' goes goes' turn turn' h j k n m (less_bound g tm n m bound)))
      (both_give q))

  -- `while`, with a test that leaves the state as it is
  pub while_alike : {S A : Type 0} (P : S → A → Type 0) (too_many : E) (too_many' : F) → g.together too_many too_many'
      → (test : S → Outcome E Bool) (test' : A → Outcome F Bool) (turn : S → Outcome E S) (turn' : A → Outcome F A)
      → ((s : S) (a : A) → P s a → Alike g ◌≡◌ (test s) (test' a))
      → ((s : S) (a : A) → P s a → Alike g P (turn s) (turn' a))
      → (n m : ℕ) → BoundsRelated g too_many n m → (s : S) (a : A) → P s a
      → Alike g P (while_turns too_many test turn n s) (while_turns too_many' test' turn' m a)
  while_alike {S} {A} P tm tm' e test test' turn turn' h k n m bound s a p =
      let Q = λ (t : Tested S) (b : Tested A). (t.goes ≡ b.goes) × P t.state b.state in
      then_alike Q P _ _
      (turns_alike P Q tm tm' e (tested test) (tested test') (λ t. t.goes) (λ b. b.goes) (λ t. turn t.state) (λ b. turn' b.state)
      (λ s a p. then_alike ◌≡◌ Q _ _ (h s a p) (λ b c e. both_give (e, p)))
      (λ t b q. q.0)
      (λ t b q. k t.state b.state q.1)
      n m bound s a p)
      (λ t b q. both_give q.1)

  -- `repeat`
  pub repeated_alike : {S A : Type 0} (P : S → A → Type 0) (too_many : E) (too_many' : F) → g.together too_many too_many' → (n m : ℕ) → BoundsRelated g too_many n m
      → (i j : ℤ) → i ≡ j → (turn : S → Outcome E S) (turn' : A → Outcome F A) → ((s : S) (a : A) → P s a → Alike g P (turn s) (turn' a))
      → (s : S) (a : A) → P s a → Alike g P (repeated too_many n i turn s) (repeated too_many' m j turn' a)
  repeated_alike {S} {A} P tm tm' e n m bound i j same turn turn' k s a p =
      let Q = λ (x : Counted S) (y : Counted A). (x.left ≡ y.left) × P x.state y.state in
      then_alike Q P _ _
      (turns_alike Q Q tm tm' e gives gives turns_left turns_left (count_down turn) (count_down turn') (λ x y q. both_give q) (λ x y q. ap (int_lt (pos 0)) q.0)
      (λ x y q. then_alike P Q _ _ (k x.state y.state q.1) (λ s a p. both_give (ap (λ z. z -ℤ pos 1) q.0, p))) n m bound _ _ (same, p))
      (λ x y q. both_give q.1)

  -- two computations of which each keeps something, where any end may stand alone
  pub both_keep : {A B : Type 0} (P : A → Type 0) (Q : B → Type 0) (S : A → B → Type 0) → ((e : E) → g.first_alone e) → ((f : F) → g.second_alone f)
      → (a : Outcome E A) (b : Outcome F B) → IfGives P a → IfGives Q b → ((x : A) (y : B) → P x → Q y → S x y) → Alike g S a b
  both_keep P Q S first second (gives x) (gives y) h k l = both_give (l x y h k)
  both_keep P Q S first second (gives x) (ends f) h k l = second_ends (second f)
  both_keep P Q S first second (ends e) (gives y) h k l = first_ends (first e)
  both_keep P Q S first second (ends e) (ends f) h k l = both_end (closed.first e f (first e))

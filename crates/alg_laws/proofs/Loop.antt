-- What a loop with at most n turns ends in.
use Rattle.std.specs.Prelude.{◌≡◌, ℕ, zero, suc, ◌≤◌, ◌<◌, ◌⊎◌, Bool, true, false, if◌then◌else◌}
use Rattle.std.proofs.Common.{refl, sym, ap, ◌∙◌, arith, inl, inr}
use Rattle.alg_laws.specs.Outcome.{Outcome, gives, ends, ◌>>=◌}
use Rattle.alg_laws.specs.Loop.{turns, MakesTurns, EndsAfter, GoesOnAfter, TestEndsAfter, TurnEndsAfter, TurnsOfLoop}

module _ {E S T : Type 0} (too_many : E) (before : S → Outcome E T) (goes : T → Bool) (turn : T → Outcome E S) where
  abbrev Ends : ℕ → S → T → Type 0
  Ends n s t = (k : ℕ) × (k ≤ n) × EndsAfter before goes turn k s t

  abbrev EndsEarly : ℕ → S → E → Type 0
  EndsEarly n s e =
      ((e ≡ too_many) × GoesOnAfter before goes turn n s)
      ⊎ (((k : ℕ) × (k ≤ n) × TestEndsAfter before goes turn k s e)
      ⊎ ((k : ℕ) × (k < n) × TurnEndsAfter before goes turn k s e))

  -- what a loop does where its test holds, with n turns left
  abbrev next_turn : ℕ → T → Outcome E T
  next_turn zero t = ends too_many
  next_turn (suc n) t = turn t >>= turns too_many before goes turn n

  abbrev at_test : ℕ → T → Outcome E T
  at_test n t = if goes t then next_turn n t else gives t

  turns_is : (n : ℕ) (s : S) → turns too_many before goes turn n s ≡ (before s >>= at_test n)
  turns_is zero s = refl
  turns_is (suc n) s = refl

  -- no turn
  at_once : (n : ℕ) (s : S) (t : T) → before s ≡ gives t → goes t ≡ false → Ends n s t
  at_once n s t b g = (0, omega arith, record { head = s; made = refl; reached = b; fails = g })

  -- one more turn before the others
  one_more : (n : ℕ) (s : S) (u : T) (r : S) (t : T) → before s ≡ gives u → goes u ≡ true → turn u ≡ gives r → Ends n r t
      → Ends (suc n) s t
  one_more n s u r t b g q e = (
    suc e.0,
    omega (arith, e.1),
    record { head = e.2.head; made = (u, b, g, r, q, e.2.made); reached = e.2.reached; fails = e.2.fails },
  )

  one_more_early : (n : ℕ) (s : S) (u : T) (r : S) (e : E) → before s ≡ gives u → goes u ≡ true → turn u ≡ gives r
      → EndsEarly n r e → EndsEarly (suc n) s e
  one_more_early n s u r e b g q (inl h) =
      inl (
        h.0,
        record {
          head = h.1.head;
          made = (u, b, g, r, q, h.1.made);
          state = h.1.state;
          reached = h.1.reached;
          holds = h.1.holds;
        },
      )
  one_more_early n s u r e b g q (inr (inl h)) =
      inr (inl (suc h.0, omega (arith, h.1), record { head = h.2.head; made = (u, b, g, r, q, h.2.made); ended = h.2.ended }))
  one_more_early n s u r e b g q (inr (inr h)) =
      inr (inr (
        suc h.0,
        omega (arith, h.1),
        record {
          head = h.2.head;
          made = (u, b, g, r, q, h.2.made);
          state = h.2.state;
          reached = h.2.reached;
          holds = h.2.holds;
          ended = h.2.ended;
        },
      ))

  -- by what stands before the test, and by the test
  by_test : (n : ℕ) (s : S) (t : T) (u : T) → before s ≡ gives u → (next_turn n u ≡ gives t → goes u ≡ true → Ends n s t)
      → (g : Bool) → goes u ≡ g → (if g then next_turn n u else gives u) ≡ gives t → Ends n s t
  by_test n s t u b later true g h = later h g
  by_test n s t u b later false g h =
      let same : u ≡ t = cc (h) in
      at_once n s t (b ∙ ap gives same) (sym (ap goes same) ∙ g)

  by_before : (n : ℕ) (s : S) (t : T) → ((u : T) → before s ≡ gives u → next_turn n u ≡ gives t → goes u ≡ true → Ends n s t)
      → (b : Outcome E T) → before s ≡ b → (b >>= at_test n) ≡ gives t → Ends n s t
  by_before n s t later (gives u) b h = by_test n s t u b (later u b) (goes u) refl h
  by_before n s t later (ends e) b h = cc (h)

  by_turn : (n : ℕ) (s : S) (u : T) (t : T) → before s ≡ gives u → goes u ≡ true
      → ((r : S) → turns too_many before goes turn n r ≡ gives t → Ends n r t)
      → (q : Outcome E S) → turn u ≡ q → (q >>= turns too_many before goes turn n) ≡ gives t → Ends (suc n) s t
  by_turn n s u t b g rest (gives r) q h = one_more n s u r t b g q (rest r h)
  by_turn n s u t b g rest (ends e) q h = cc (h)

  ends_in : (n : ℕ) (s : S) (t : T) → turns too_many before goes turn n s ≡ gives t → Ends n s t
  ends_in zero s t h = by_before zero s t (λ u b k g. cc (k)) (before s) refl h
  ends_in (suc n) s t h =
      by_before (suc n) s t (λ u b k g. by_turn n s u t b g (λ r j. ends_in n r t j) (turn u) refl k) (before s) refl h

  -- the same for early ends
  by_test_early : (n : ℕ) (s : S) (e : E) (u : T) → before s ≡ gives u
      → (next_turn n u ≡ ends e → goes u ≡ true → EndsEarly n s e)
      → (g : Bool) → goes u ≡ g → (if g then next_turn n u else gives u) ≡ ends e → EndsEarly n s e
  by_test_early n s e u b later true g h = later h g
  by_test_early n s e u b later false g h = cc (h)

  by_before_early : (n : ℕ) (s : S) (e : E)
      → ((u : T) → before s ≡ gives u → next_turn n u ≡ ends e → goes u ≡ true → EndsEarly n s e)
      → (b : Outcome E T) → before s ≡ b → (b >>= at_test n) ≡ ends e → EndsEarly n s e
  by_before_early n s e later (gives u) b h = by_test_early n s e u b (later u b) (goes u) refl h
  by_before_early n s e later (ends f) b h = inr (inl (0, omega arith, record { head = s; made = refl; ended = b ∙ h }))

  by_turn_early : (n : ℕ) (s : S) (u : T) (e : E) → before s ≡ gives u → goes u ≡ true
      → ((r : S) → turns too_many before goes turn n r ≡ ends e → EndsEarly n r e)
      → (q : Outcome E S) → turn u ≡ q → (q >>= turns too_many before goes turn n) ≡ ends e → EndsEarly (suc n) s e
  by_turn_early n s u e b g rest (gives r) q h = one_more_early n s u r e b g q (rest r h)
  by_turn_early n s u e b g rest (ends f) q h =
      let same : f ≡ e = cc (h) in
      inr (inr (0, omega arith, record { head = s; made = refl; state = u; reached = b; holds = g; ended = q ∙ ap ends same }))

  ends_early : (n : ℕ) (s : S) (e : E) → turns too_many before goes turn n s ≡ ends e → EndsEarly n s e
  ends_early zero s e h =
      by_before_early zero s e
      (λ u b k g. inl (cc (k), record { head = s; made = refl; state = u; reached = b; holds = g }))
      (before s) refl h
  ends_early (suc n) s e h =
      by_before_early (suc n) s e
      (λ u b k g. by_turn_early n s u e b g (λ r j. ends_early n r e j) (turn u) refl k)
      (before s) refl h

  -- a loop goes on by its next turn, where its test holds
  goes_on : (n : ℕ) (s : S) (u : T) (r : S) → before s ≡ gives u → goes u ≡ true → turn u ≡ gives r
      → turns too_many before goes turn (suc n) s ≡ turns too_many before goes turn n r
  goes_on n s u r b g q =
      ap (λ x. x >>= at_test (suc n)) b
      ∙ ap (λ x. if x then next_turn (suc n) u else gives u) g
      ∙ ap (λ x. x >>= turns too_many before goes turn n) q

  stops : (n : ℕ) (s : S) (t : T) → before s ≡ gives t → goes t ≡ false → turns too_many before goes turn n s ≡ gives t
  stops n s t b g = turns_is n s ∙ ap (λ x. x >>= at_test n) b ∙ ap (λ x. if x then next_turn n t else gives t) g

  does_end : (n k : ℕ) (s r : S) (t : T) → k ≤ n → MakesTurns before goes turn k s r → before r ≡ gives t → goes t ≡ false
      → turns too_many before goes turn n s ≡ gives t
  does_end n zero s r t le m b g = stops n s t (ap before m ∙ b) g
  does_end zero (suc k) s r t le m b g = absurd (omega (arith, le))
  does_end (suc n) (suc k) s r t le m b g =
      goes_on n s m.0 m.3 m.1 m.2 m.4 ∙ does_end n k m.3 r t (omega (arith, le)) m.5 b g

  out_of_turns : (n : ℕ) (s r : S) (t : T) → MakesTurns before goes turn n s r → before r ≡ gives t → goes t ≡ true
      → turns too_many before goes turn n s ≡ ends too_many
  out_of_turns zero s r t m b g =
      ap (λ x. x >>= at_test zero) (ap before m ∙ b) ∙ ap (λ x. if x then next_turn zero t else gives t) g
  out_of_turns (suc n) s r t m b g = goes_on n s m.0 m.3 m.1 m.2 m.4 ∙ out_of_turns n m.3 r t m.5 b g

  test_ends : (n k : ℕ) (s r : S) (e : E) → k ≤ n → MakesTurns before goes turn k s r → before r ≡ ends e
      → turns too_many before goes turn n s ≡ ends e
  test_ends n zero s r e le m b = turns_is n s ∙ ap (λ x. x >>= at_test n) (ap before m ∙ b)
  test_ends zero (suc k) s r e le m b = absurd (omega (arith, le))
  test_ends (suc n) (suc k) s r e le m b =
      goes_on n s m.0 m.3 m.1 m.2 m.4 ∙ test_ends n k m.3 r e (omega (arith, le)) m.5 b

  turn_ends : (n k : ℕ) (s r : S) (t : T) (e : E) → k < n → MakesTurns before goes turn k s r → before r ≡ gives t
      → goes t ≡ true → turn t ≡ ends e → turns too_many before goes turn n s ≡ ends e
  turn_ends zero k s r t e lt m b g q = absurd (omega (arith, lt))
  turn_ends (suc n) zero s r t e lt m b g q =
      ap (λ x. x >>= at_test (suc n)) (ap before m ∙ b)
      ∙ ap (λ x. if x then next_turn (suc n) t else gives t) g
      ∙ ap (λ x. x >>= turns too_many before goes turn n) q
  turn_ends (suc n) (suc k) s r t e lt m b g q =
      goes_on n s m.0 m.3 m.1 m.2 m.4 ∙ turn_ends n k m.3 r t e (omega (arith, lt)) m.5 b g q

  does_end_early : (n : ℕ) (s : S) (e : E) → EndsEarly n s e → turns too_many before goes turn n s ≡ ends e
  does_end_early n s e (inl h) = out_of_turns n s h.1.head h.1.state h.1.made h.1.reached h.1.holds ∙ ap ends (sym h.0)
  does_end_early n s e (inr (inl h)) = test_ends n h.0 s h.2.head e h.1 h.2.made h.2.ended
  does_end_early n s e (inr (inr h)) =
      turn_ends n h.0 s h.2.head h.2.state e h.1 h.2.made h.2.reached h.2.holds h.2.ended

pub turns_of_loop : (E S T : Type 0) → TurnsOfLoop E S T
turns_of_loop E S T = record {
  ends_in = λ too_many before goes turn n s t. (
    ends_in too_many before goes turn n s t,
    λ h. does_end too_many before goes turn n h.0 s h.2.head t h.1 h.2.made h.2.reached h.2.fails,
  );
  ends_early = λ too_many before goes turn n s e. (
    ends_early too_many before goes turn n s e,
    does_end_early too_many before goes turn n s e,
  );
}

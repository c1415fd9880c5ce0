-- Sets and lists of branches.
use Rattle.std.specs.Prelude.{◌≡◌, ℕ, suc, ◌+◌, ◌<◌, ◌≤◌, ◌==◌, ◌||◌, ◌&&◌, not, cond, if◌then◌else◌, Bool, true, false, List, [], ◌∷◌, ◌++◌, Option, Some, None, drop, take, length, get_or}
use Rattle.std.specs.List.{list_any}
use Rattle.std.proofs.Common.{refl, sym, ◌∙◌, ap, subst, arith}
use Rattle.std.proofs.Math.ListN.{drop_of_length-le}
use Rattle.std.proofs.Math.Seq.{drop-cons}
use Rattle.std.proofs.lemmas.Bool.{eqb-true, false≢true}
use Rattle.std.proofs.lemmas.List.{take_more}
use Rattle.std.proofs.lemmas.List.Folds.{list_any-append}
use Rattle.va_sem.specs.rules.Coverage.{Adds, Keeps}
use Rattle.va_sem.specs.rules.Findings.{is_among}

pub or_false : (a : Bool) → (a || false) ≡ a
or_false true = refl
or_false false = refl

pub or_true : (a : Bool) → (a || true) ≡ true
or_true true = refl
or_true false = refl

pub and_true : (a : Bool) → (a && true) ≡ a
and_true true = refl
and_true false = refl

pub and_false : (a : Bool) → (a && false) ≡ false
and_false true = refl
and_false false = refl

or_assoc : (a b c : Bool) → ((a || b) || c) ≡ (a || (b || c))
or_assoc true b c = refl
or_assoc false b c = refl

and_assoc : (a b c : Bool) → ((a && b) && c) ≡ (a && (b && c))
and_assoc true b c = refl
and_assoc false b c = refl

pub and_turn : (a b c : Bool) → ((a && b) && c) ≡ (a && (c && b))
and_turn true true true = refl
and_turn true true false = refl
and_turn true false true = refl
and_turn true false false = refl
and_turn false b c = refl

pub among_more : (list : List ℕ) (x b : ℕ) → is_among (list ++ x ∷ []) b ≡ (is_among list b || (x == b))
among_more list x b = list_any-append (λ m. m == b) list (x ∷ []) ∙ ap (λ v. is_among list b || v) (or_false (x == b))

among_taken : (list : List ℕ) (i b : ℕ) → i < length list → is_among (take (i + 1) list) b ≡ (is_among (take i list) b || (get_or list i 0 == b))
among_taken list i b l = ap (λ (xs : List ℕ). is_among xs b) (take_more list i 0 l) ∙ among_more (take i list) (get_or list i 0) b

pub cond_or : (e l : Bool) → cond e true l ≡ (l || e)
cond_or true l = sym (or_true l)
cond_or false l = sym (or_false l)

-- a set with one more number
pub one_more : (list : List ℕ) (i b : ℕ) (old new : Bool) → i < length list → old ≡ is_among (take i list) b → new ≡ cond (get_or list i 0 == b) true old → new ≡ is_among (take (i + 1) list) b
one_more list i b old new l o n = n ∙ cond_or (get_or list i 0 == b) old ∙ ap (λ v. v || (get_or list i 0 == b)) o ∙ sym (among_taken list i b l)

-- Of a list those are kept that are still in a set, which then loses them: t says that a number stood before, s that the set had it
-- from the beginning, e that it stands here.
yes_kept : (t s e k : Bool) → k ≡ (t && s) → (e ≡ true → (s && not t) ≡ true) → (k || e) ≡ ((t || e) && s)
yes_kept true true e k h g = ap (λ v. v || e) h
yes_kept true false true k h g = absurd (false≢true (g refl))
yes_kept true false false k h g = ap (λ v. v || false) h
yes_kept false true e k h g = ap (λ v. v || e) h ∙ sym (and_true e)
yes_kept false false true k h g = absurd (false≢true (g refl))
yes_kept false false false k h g = ap (λ v. v || false) h

no_kept : (t s e k : Bool) → k ≡ (t && s) → (e ≡ true → (s && not t) ≡ false) → k ≡ ((t || e) && s)
no_kept true s e k h g = h
no_kept false true true k h g = absurd (false≢true (sym (g refl)))
no_kept false true false k h g = h
no_kept false false e k h g = h ∙ sym (and_false e)

lost : (t s e l : Bool) → l ≡ (s && not t) → cond e false l ≡ (s && not (t || e))
lost t s true l h = sym (ap (λ v. s && not v) (or_true t) ∙ and_false s)
lost t s false l h = h ∙ ap (λ v. s && not v) (sym (or_false t))

module _ (first second : List ℕ) (i : ℕ) (l : i < length first) where
  abbrev x : ℕ
  x = get_or first i 0

  at_here : (b : ℕ) (f : ℕ → Bool) (r : Bool) → f x ≡ r → (x == b) ≡ true → f b ≡ r
  at_here b f r h e = ap f (sym (eqb-true x b e)) ∙ h

  pub kept_more : (list : List ℕ) (left : ℕ → Bool) → left x ≡ true → ((b : ℕ) → left b ≡ (is_among second b && not (is_among (take i first) b)))
      → ((b : ℕ) → is_among list b ≡ (is_among (take i first) b && is_among second b)) → (b : ℕ) → is_among (list ++ x ∷ []) b ≡ (is_among (take (i + 1) first) b && is_among second b)
  kept_more list left here is kept b =
      among_more list x b
      ∙ yes_kept (is_among (take i first) b) (is_among second b) (x == b) (is_among list b) (kept b) (λ e. sym (is b) ∙ at_here b left true here e)
      ∙ ap (λ v. v && is_among second b) (sym (among_taken first i b l))

  pub kept_same : (list : List ℕ) (left : ℕ → Bool) → left x ≡ false → ((b : ℕ) → left b ≡ (is_among second b && not (is_among (take i first) b)))
      → ((b : ℕ) → is_among list b ≡ (is_among (take i first) b && is_among second b)) → (b : ℕ) → is_among list b ≡ (is_among (take (i + 1) first) b && is_among second b)
  kept_same list left here is kept b =
      no_kept (is_among (take i first) b) (is_among second b) (x == b) (is_among list b) (kept b) (λ e. sym (is b) ∙ at_here b left false here e)
      ∙ ap (λ v. v && is_among second b) (sym (among_taken first i b l))

  pub left_more : (left left2 : ℕ → Bool) → ((b : ℕ) → left2 b ≡ cond (x == b) false (left b)) → ((b : ℕ) → left b ≡ (is_among second b && not (is_among (take i first) b)))
      → (b : ℕ) → left2 b ≡ (is_among second b && not (is_among (take (i + 1) first) b))
  left_more left left2 now is b =
      now b ∙ lost (is_among (take i first) b) (is_among second b) (x == b) (left b) (is b) ∙ ap (λ v. is_among second b && not v) (sym (among_taken first i b l))

  pub kept_if : (found : Bool) (list list2 : List ℕ) (left : ℕ → Bool) → found ≡ left x → list2 ≡ (if found then list ++ x ∷ [] else list)
      → ((b : ℕ) → left b ≡ (is_among second b && not (is_among (take i first) b)))
      → ((b : ℕ) → is_among list b ≡ (is_among (take i first) b && is_among second b)) → (b : ℕ) → is_among list2 b ≡ (is_among (take (i + 1) first) b && is_among second b)
  kept_if true list list2 left here made is kept b = ap (λ (xs : List ℕ). is_among xs b) made ∙ kept_more list left (sym here) is kept b
  kept_if false list list2 left here made is kept b = ap (λ (xs : List ℕ). is_among xs b) made ∙ kept_same list left (sym here) is kept b

-- lists that grow and shrink
pub adds_none : (test : ℕ → Bool) (list : List ℕ) → ((b : ℕ) → test b ≡ false) → Adds test list list
adds_none test list none b = sym (ap (λ v. is_among list b || v) (none b) ∙ or_false (is_among list b))

pub adds_as : (test other : ℕ → Bool) (old new : List ℕ) → ((b : ℕ) → test b ≡ other b) → Adds test old new → Adds other old new
adds_as test other old new is h b = h b ∙ ap (λ v. is_among old b || v) (is b)

pub adds_list : (list old new : List ℕ) → new ≡ old ++ list → Adds (is_among list) old new
adds_list list old new e b = ap (λ (xs : List ℕ). is_among xs b) e ∙ list_any-append (λ m. m == b) old list

-- What is left of a list from a place on, walked over after what stands before it.
module _ {X : Type 0} (each : ℕ → List X → Bool) (one : ℕ → X → Bool) where
  abbrev pub AddsOn : List X → List ℕ → ℕ → List ℕ → Type 0
  AddsOn xs start i now = (b : ℕ) → (is_among now b || each b (drop i xs)) ≡ (is_among start b || each b xs)

  pub adds_next : ((b : ℕ) (x : X) (rest : List X) → each b (x ∷ rest) ≡ (one b x || each b rest)) → (xs : List X) (start : List ℕ) (i : ℕ) (now next : List ℕ) (x : X) → i < length xs → x ≡ get_or xs i x
      → Adds (λ b. one b x) now next → AddsOn xs start i now → AddsOn xs start (i + 1) next
  adds_next split xs start i now next x lt is add on b =
      let here : drop i xs ≡ x ∷ drop (suc i) xs = drop-cons xs i x lt ∙ ap (λ (y : X). y ∷ drop (suc i) xs) (sym is) in
      let step : i + 1 ≡ suc i = omega arith in
      ap (λ (k : ℕ). is_among next b || each b (drop k xs)) step
      ∙ ap (λ v. v || each b (drop (suc i) xs)) (add b)
      ∙ or_assoc (is_among now b) (one b x) (each b (drop (suc i) xs))
      ∙ ap (λ v. is_among now b || v) (sym (ap (each b) here ∙ split b x (drop (suc i) xs)))
      ∙ on b

  pub adds_end : ((b : ℕ) → each b [] ≡ false) → (xs : List X) (start : List ℕ) (i : ℕ) (now : List ℕ) → length xs ≤ i → AddsOn xs start i now → Adds (λ b. each b xs) start now
  adds_end none xs start i now h on b =
      sym (or_false (is_among now b)) ∙ ap (λ v. is_among now b || v) (sym (ap (each b) (drop_of_length-le xs h) ∙ none b)) ∙ on b

  abbrev pub KeepsOn : List X → List ℕ → ℕ → List ℕ → Type 0
  KeepsOn xs start i now = (b : ℕ) → (is_among now b && each b (drop i xs)) ≡ (is_among start b && each b xs)

  pub keeps_next : ((b : ℕ) (x : X) (rest : List X) → each b (x ∷ rest) ≡ (one b x && each b rest)) → (xs : List X) (start : List ℕ) (i : ℕ) (now next : List ℕ) (x : X) → i < length xs → x ≡ get_or xs i x
      → Keeps (λ b. one b x) now next → KeepsOn xs start i now → KeepsOn xs start (i + 1) next
  keeps_next split xs start i now next x lt is keep on b =
      let here : drop i xs ≡ x ∷ drop (suc i) xs = drop-cons xs i x lt ∙ ap (λ (y : X). y ∷ drop (suc i) xs) (sym is) in
      let step : i + 1 ≡ suc i = omega arith in
      ap (λ (k : ℕ). is_among next b && each b (drop k xs)) step
      ∙ ap (λ v. v && each b (drop (suc i) xs)) (keep b)
      ∙ and_assoc (is_among now b) (one b x) (each b (drop (suc i) xs))
      ∙ ap (λ v. is_among now b && v) (sym (ap (each b) here ∙ split b x (drop (suc i) xs)))
      ∙ on b

  pub keeps_end : ((b : ℕ) → each b [] ≡ true) → (xs : List X) (start : List ℕ) (i : ℕ) (now : List ℕ) → length xs ≤ i → KeepsOn xs start i now → Keeps (λ b. each b xs) start now
  keeps_end all xs start i now h on b =
      sym (and_true (is_among now b)) ∙ ap (λ v. is_among now b && v) (sym (ap (each b) (drop_of_length-le xs h) ∙ all b)) ∙ on b

  -- the same where so far a list counts, or all branches before the first arm
  pub arms_next : ((b : ℕ) (x : X) (rest : List X) → each b (x ∷ rest) ≡ (one b x && each b rest)) → (xs : List X) (i : ℕ) (within : ℕ → Bool) (next : List ℕ) (x : X) → i < length xs → x ≡ get_or xs i x
      → ((b : ℕ) → is_among next b ≡ (within b && one b x)) → ((b : ℕ) → (within b && each b (drop i xs)) ≡ each b xs) → (b : ℕ) → (is_among next b && each b (drop (i + 1) xs)) ≡ each b xs
  arms_next split xs i within next x lt is keep on b =
      let here : drop i xs ≡ x ∷ drop (suc i) xs = drop-cons xs i x lt ∙ ap (λ (y : X). y ∷ drop (suc i) xs) (sym is) in
      let step : i + 1 ≡ suc i = omega arith in
      ap (λ (k : ℕ). is_among next b && each b (drop k xs)) step
      ∙ ap (λ v. v && each b (drop (suc i) xs)) (keep b)
      ∙ and_assoc (within b) (one b x) (each b (drop (suc i) xs))
      ∙ ap (λ v. within b && v) (sym (ap (each b) here ∙ split b x (drop (suc i) xs)))
      ∙ on b

-- one arm more
and_same : (a : Bool) → (a && a) ≡ a
and_same true = refl
and_same false = refl

pub arm_kept : (first : Bool) (common arm base next : List ℕ) (test : ℕ → Bool) → base ≡ (if first then arm else common) → ((b : ℕ) → is_among next b ≡ (is_among base b && is_among arm b)) → ((b : ℕ) → is_among arm b ≡ test b)
    → (b : ℕ) → is_among next b ≡ ((first || is_among common b) && test b)
arm_kept true common arm base next test e n a b = n b ∙ ap (λ (xs : List ℕ). is_among xs b && is_among arm b) e ∙ and_same (is_among arm b) ∙ a b
arm_kept false common arm base next test e n a b = n b ∙ (λ j. is_among (e j) b && a b j)

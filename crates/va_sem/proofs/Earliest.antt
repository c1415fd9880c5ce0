-- The least of some faults comes before all others.
use Rattle.std.specs.Prelude.{◌≡◌, ◌<◌, ◌≤◌, ◌==◌, ◌&&◌, ◌||◌, ◌⊎◌, nat_lt, ℕ, zero, suc, Bool, true, false, List, [], ◌∷◌, length, get_or, Contains, Option, Some, None, if◌then◌else◌}
use Rattle.std.proofs.Common.{refl, ap, sym, subst, ◌∙◌, arith, inl, inr}
use Rattle.std.proofs.lemmas.Bool.{eqb-true, eq-eqb, ltb-true, lt-ltb, cases_lt, false≢true}
use Rattle.va_base.specs.declared.fault.Fault.{Fault}
use Rattle.va_base.specs.declared.fault.Phase.{Phase}
use Rattle.va_base.specs.Faults.{ComesBefore, rank_of_phase, number_of_code}
use Rattle.va_sem.specs.NamesFaults.{FaultAt}
use Rattle.va_sem.specs.Faults.{is_before, earlier_of, least_of}
use Rattle.va_sem.specs.FaultsLaws.{LeastIsAnswered}

-- one fault of a phase before another, as a fact
abbrev pub Before : FaultAt → FaultAt → Type 0
Before a b = (a.0 < b.0) ⊎ ((a.0 ≡ b.0) × (number_of_code a.1 < number_of_code b.1))

either_true : (p q : Bool) → p || q ≡ true → (p ≡ true) ⊎ (q ≡ true)
either_true true q h = inl refl
either_true false q h = inr h

both_true : (p q : Bool) → p && q ≡ true → (p ≡ true) × (q ≡ true)
both_true true q h = (refl, h)
both_true false q h = absurd (false≢true h)

by_numbers : (a b : FaultAt) → (a.0 == b.0 && nat_lt (number_of_code a.1) (number_of_code b.1)) ≡ true → Before a b
by_numbers a b h =
    let both : ((a.0 == b.0) ≡ true) × (nat_lt (number_of_code a.1) (number_of_code b.1) ≡ true) =
    both_true (a.0 == b.0) (nat_lt (number_of_code a.1) (number_of_code b.1)) h in
    inr (eqb-true a.0 b.0 both.0, ltb-true (number_of_code a.1) (number_of_code b.1) both.1)

by_either : (a b : FaultAt) → (nat_lt a.0 b.0 ≡ true) ⊎ ((a.0 == b.0 && nat_lt (number_of_code a.1) (number_of_code b.1)) ≡ true) → Before a b
by_either a b (inl h) = inl (ltb-true a.0 b.0 h)
by_either a b (inr h) = by_numbers a b h

pub before_true : (a b : FaultAt) → is_before a b ≡ true → Before a b
before_true a b h = by_either a b (either_true (nat_lt a.0 b.0) (a.0 == b.0 && nat_lt (number_of_code a.1) (number_of_code b.1)) h)

left_or : (p q : Bool) → p ≡ true → p || q ≡ true
left_or true q h = refl
left_or false q h = absurd (false≢true h)

right_or : (p q : Bool) → q ≡ true → p || q ≡ true
right_or true q h = refl
right_or false q h = h

and_true : (p q : Bool) → p ≡ true → q ≡ true → p && q ≡ true
and_true true q h k = k
and_true false q h k = h

pub is_before_true : (a b : FaultAt) → Before a b → is_before a b ≡ true
is_before_true a b (inl h) = left_or (nat_lt a.0 b.0) (a.0 == b.0 && nat_lt (number_of_code a.1) (number_of_code b.1)) (lt-ltb a.0 b.0 h)
is_before_true a b (inr h) =
    right_or (nat_lt a.0 b.0) (a.0 == b.0 && nat_lt (number_of_code a.1) (number_of_code b.1))
    (and_true (a.0 == b.0) (nat_lt (number_of_code a.1) (number_of_code b.1)) (eq-eqb a.0 b.0 h.0) (lt-ltb (number_of_code a.1) (number_of_code b.1) h.1))

pub not_before : (a b : FaultAt) → is_before a b ≡ false → Before a b → ⊥
not_before a b h k = false≢true (sym h ∙ is_before_true a b k)

not_itself : (a : FaultAt) → Before a a → ⊥
not_itself a (inl h) = omega (arith, h)
not_itself a (inr h) = omega (arith, h.1)

not_back : (a b : FaultAt) → Before a b → Before b a → ⊥
not_back a b (inl h) (inl k) = omega (arith, h, k)
not_back a b (inl h) (inr k) = omega (arith, h, k.0)
not_back a b (inr h) (inl k) = omega (arith, h.0, k)
not_back a b (inr h) (inr k) = omega (arith, h.1, k.1)

-- what is before a is before b, or b is before a
same_token : (x b a : FaultAt) → (Before x b → ⊥) → (Before b a → ⊥) → x.0 ≡ b.0 → b.0 ≡ a.0 → number_of_code x.1 < number_of_code a.1 → (number_of_code x.1 < number_of_code b.1) ⊎ (number_of_code b.1 ≤ number_of_code x.1) → ⊥
same_token x b a not_b not_a e f less (inl k) = not_b (inr (e, k))
same_token x b a not_b not_a e f less (inr k) = not_a (inr (f, omega (arith, less, k)))

later_token : (x b a : FaultAt) → (Before x b → ⊥) → (Before b a → ⊥) → b.0 ≤ x.0 → Before x a → (b.0 < a.0) ⊎ (a.0 ≤ b.0) → ⊥
later_token x b a not_b not_a above h (inl k) = not_a (inl k)
later_token x b a not_b not_a above (inl h) (inr k) = omega (arith, above, h, k)
later_token x b a not_b not_a above (inr h) (inr k) =
    same_token x b a not_b not_a (let e : x.0 ≡ b.0 = omega (arith, above, k, h.0) in e) (let f : b.0 ≡ a.0 = omega (arith, above, k, h.0) in f) h.1
    (cases_lt (number_of_code x.1) (number_of_code b.1))

pub between : (x b a : FaultAt) → (Before x b → ⊥) → (Before b a → ⊥) → Before x a → (x.0 < b.0) ⊎ (b.0 ≤ x.0) → ⊥
between x b a not_b not_a h (inl k) = not_b (inl k)
between x b a not_b not_a h (inr k) = later_token x b a not_b not_a k h (cases_lt b.0 a.0)

-- none of a list comes before a fault
abbrev NoneBefore : List FaultAt → FaultAt → Type 0
NoneBefore list m = (k : ℕ) (d : FaultAt) → k < length list → Before (get_or list k d) m → ⊥

pub least_none : (rest : List FaultAt) → least_of rest ≡ None → rest ≡ []
least_none [] h = refl
least_none (a ∷ rest) h = cc

none_in_nil : (rest : List FaultAt) (m : FaultAt) → rest ≡ [] → NoneBefore rest m
none_in_nil rest m is k d within h = omega (arith, within, ap length is)

with_first : (a : FaultAt) (rest : List FaultAt) (m : FaultAt) → (Before a m → ⊥) → NoneBefore rest m → NoneBefore (a ∷ rest) m
with_first a rest m first others zero d within h = first h
with_first a rest m first others (suc k) d within h = others k d (omega (arith, within)) h

-- the first of a list and the least of the rest
chosen : (a b : FaultAt) (rest : List FaultAt) (t : Bool) → is_before b a ≡ t → NoneBefore rest b → NoneBefore (a ∷ rest) (if t then b else a)
chosen a b rest true q others = with_first a rest b (λ h. not_back b a (before_true b a q) h) others
chosen a b rest false q others =
    with_first a rest a (not_itself a)
    (λ k d within h. between (get_or rest k d) b a (others k d within) (not_before b a q) h (cases_lt (get_or rest k d).0 b.0))

least_by : (a : FaultAt) (rest : List FaultAt) (least : Option FaultAt) → least_of rest ≡ least → ((m : FaultAt) → least ≡ Some m → NoneBefore rest m) → NoneBefore (a ∷ rest) (earlier_of a least)
least_by a rest None is others = with_first a rest a (not_itself a) (none_in_nil rest a (least_none rest is))
least_by a rest (Some b) is others = chosen a b rest (is_before b a) refl (others b refl)

of_some : (m n : FaultAt) → Some m ≡ Some n → m ≡ n
of_some m n h = cc

none_before : (faults : List FaultAt) (m : FaultAt) → least_of faults ≡ Some m → NoneBefore faults m
none_before [] m h = cc
none_before (a ∷ rest) m h =
    subst (NoneBefore (a ∷ rest)) (of_some (earlier_of a (least_of rest)) m h)
    (least_by a rest (least_of rest) refl (λ n is. none_before rest n is))

there_later : (a : FaultAt) (rest : List FaultAt) (m : FaultAt) → Contains rest m → Contains (a ∷ rest) m
there_later a rest m (k, within, is) = (suc k, omega (arith, within), is)

chosen_there : (a b : FaultAt) (rest : List FaultAt) (t : Bool) → Contains rest b → Contains (a ∷ rest) (if t then b else a)
chosen_there a b rest true there = there_later a rest b there
chosen_there a b rest false there = (0, omega arith, refl)

there_by : (a : FaultAt) (rest : List FaultAt) (least : Option FaultAt) → ((m : FaultAt) → least ≡ Some m → Contains rest m) → Contains (a ∷ rest) (earlier_of a least)
there_by a rest None there = (0, omega arith, refl)
there_by a rest (Some b) there = chosen_there a b rest (is_before b a) (there b refl)

pub is_there : (faults : List FaultAt) (m : FaultAt) → least_of faults ≡ Some m → Contains faults m
is_there [] m h = cc
is_there (a ∷ rest) m h =
    subst (Contains (a ∷ rest)) (of_some (earlier_of a (least_of rest)) m h) (there_by a rest (least_of rest) (λ n is. is_there rest n is))

-- a contained fault is not before the least
pub none_contained : (faults : List FaultAt) (m b : FaultAt) → least_of faults ≡ Some m → Contains faults b → Before b m → ⊥
none_contained faults m b h (k, within, is) before =
    none_before faults m h k b within (subst (λ (x : FaultAt). Before x m) (sym is) before)

of_one_phase : (phase : Phase) (faults : List FaultAt) (f g : Fault) → f.phase ≡ phase → g.phase ≡ phase → least_of faults ≡ Some (f.at, f.code) → Contains faults (g.at, g.code) → ComesBefore g f → ⊥
of_one_phase phase faults f g p q h there (inl less) = omega (arith, less, ap rank_of_phase p, ap rank_of_phase q)
of_one_phase phase faults f g p q h there (inr k) = none_contained faults (f.at, f.code) (g.at, g.code) h there k.1

pub least_is_answered : LeastIsAnswered
least_is_answered = record {
  some = λ e phase faults f token p h token_is place.
      record {
        stands = record { phase_is = p; stands = is_there faults (f.at, f.code) h; token = token; token_is = token_is; place = place };
        least = λ g stands before. of_one_phase phase faults f g p stands.phase_is h stands.stands before;
      };
  none = least_none;
}

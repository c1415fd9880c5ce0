-- What the errors of a level tell: by each step over the parameters.
use Rattle.std.specs.Prelude.{◌≡◌, ◌≢◌, ◌⊎◌, ℕ, zero, suc, ◌+◌, ◌≤◌, ◌<◌, ◌==◌, ◌||◌, Bool, true, false, if◌then◌else◌, List, [], ◌∷◌, Option, Some, length, get_or}
use Rattle.std.specs.List.{AllByRecursion, slice_get}
use Rattle.std.proofs.Common.{refl, ap, sym, ◌∙◌, subst, arith, inl, inr}
use Rattle.std.proofs.lemmas.Bool.{eq-eqb}
use Rattle.std.proofs.lemmas.Bool.Decides.{eqb_tells}
use Rattle.alg_laws.specs.declared.number.Number.{Number}
use Rattle.alg_laws.specs.declared.number.Reason.{Reason}
use Rattle.alg_laws.specs.Operations.{Operations}
use Rattle.alg_laws.specs.Outcome.{Outcome, gives, ends}
use Rattle.va_meaning.specs.Elaborated.{Elaborated, Parameter, Range}
use Rattle.va_meaning.specs.SetUp.{values_from, breaks, breaks_one, errors_from, Level, level, given_to_model, given_to_instance}
use Rattle.va_meaning.specs.SetUpLaws.{RangesAnswer, is_listed, IsAscending, ErrorsTell, ErrorsOfSetUps}
use Rattle.va_meaning.specs.Values.{no_value}
use Rattle.va_meaning.proofs.Partial.{IfGives, anything, then_if}

it_gives : {E A : Type 0} (a : Outcome E A) → IfGives (λ (x : A). a ≡ gives x) a
it_gives (gives x) = refl
it_gives (ends e) = tt

-- a number below all of a list isn't in it
apart : (n p : ℕ) → n < p → ((p == n) ≡ false)
apart n p less = by_either (eqb_tells p n)
  where
    by_either : (((p == n) ≡ true) × (p ≡ n)) ⊎ (((p == n) ≡ false) × (p ≢ n)) → (p == n) ≡ false
    by_either (inl both) = absurd (omega (arith, less, both.1))
    by_either (inr both) = both.0

not_listed : (n : ℕ) (numbers : List ℕ) → AllByRecursion (λ p. n < p) numbers → is_listed numbers n ≡ false
not_listed n [] h = refl
not_listed n (p ∷ ps) h = (λ j. apart n p h.0 j || not_listed n ps h.1 j)

all_weaker : {T : Type 0} (P Q : T → Type 0) → ((x : T) → P x → Q x) → (xs : List T) → AllByRecursion P xs → AllByRecursion Q xs
all_weaker P Q h [] k = tt
all_weaker P Q h (x ∷ xs) k = (h x k.0, all_weaker P Q h xs k.1)

module _ {V : Type 0} (M : Elaborated) (o : Operations V) (values : List (Number V)) where
  ranges_answer : (ranges : List Range) (v : Number V) → IfGives (RangesAnswer M o values ranges v) (breaks_one M o values ranges v)
  ranges_answer [] v = refl
  ranges_answer (range ∷ rest) v =
      then_if (λ (b : Bool). breaks M o values range v ≡ gives b) (RangesAnswer M o values (range ∷ rest) v) (breaks M o values range v) _ (it_gives (breaks M o values range v))
      (λ first e. then_if (RangesAnswer M o values rest v) (RangesAnswer M o values (range ∷ rest) v) (breaks_one M o values rest v) _ (ranges_answer rest v)
      (λ others k. (first, others, e, refl, k)))

  abbrev value_at : ℕ → Number V
  value_at p = get_or values p (no_value o)

  -- what errors tell of parameters, the first of which has the number n
  record Tells (n : ℕ) (qs : List Parameter) (errors : List ℕ) : Type 0 where
    ascending : IsAscending errors
    within : AllByRecursion (λ p. (n ≤ p) × (p < n + length qs)) errors
    local : (i : ℕ) (q : Parameter) → slice_get qs i ≡ Some q → q.local ≡ true → is_listed errors (n + i) ≡ false
    tested : (i : ℕ) (q : Parameter) → slice_get qs i ≡ Some q → q.local ≡ false
        → RangesAnswer M o values q.ranges (value_at (n + i)) (is_listed errors (n + i))

  -- what is asked of a parameter first
  abbrev Out : ℕ → Parameter → Bool → Type 0
  Out n q out = (q.local ≡ true → out ≡ false) × (q.local ≡ false → RangesAnswer M o values q.ranges (value_at n) out)

  out_tells : (n : ℕ) (q : Parameter) (b : Bool) → q.local ≡ b
      → IfGives (Out n q) (if b then gives false else breaks_one M o values q.ranges (value_at n))
  out_tells n q true e = (λ k. refl, λ k. absurd (let no : true ≡ false = sym e ∙ k in cc (no)))
  out_tells n q false e = among (breaks_one M o values q.ranges (value_at n)) (ranges_answer q.ranges (value_at n))
    where
      among : (a : Outcome Reason Bool) → IfGives (RangesAnswer M o values q.ranges (value_at n)) a → IfGives (Out n q) a
      among (gives b) h = (λ k. absurd (let no : true ≡ false = sym k ∙ e in cc (no)), λ k. h)
      among (ends d) h = tt

  -- the number of the first one is listed as it is told, and the others are as before
  listed_first : (n : ℕ) (errors : List ℕ) (out : Bool) → AllByRecursion (λ p. n < p) errors → is_listed (if out then n ∷ errors else errors) (n + 0) ≡ out
  listed_first n errors true h = (let same : n ≡ n + 0 = omega arith in λ j. eq-eqb n (n + 0) same j || is_listed errors (n + 0))
  listed_first n errors false h = ap (is_listed errors) (let same : n + 0 ≡ n = omega arith in same) ∙ not_listed n errors h

  listed_later : (n i : ℕ) (errors : List ℕ) (out : Bool) → is_listed (if out then n ∷ errors else errors) (n + suc i) ≡ is_listed errors (n + 1 + i)
  listed_later n i errors true =
      (λ j. differ j || is_listed errors (n + suc i)) ∙ ap (is_listed errors) (let same : n + suc i ≡ n + 1 + i = omega arith in same)
    where
      differ : (n == n + suc i) ≡ false
      differ = by_either (eqb_tells n (n + suc i))
        where
          by_either : (((n == n + suc i) ≡ true) × (n ≡ n + suc i)) ⊎ (((n == n + suc i) ≡ false) × (n ≢ n + suc i)) → (n == n + suc i) ≡ false
          by_either (inl both) = absurd (omega (arith, both.1))
          by_either (inr both) = both.0
  listed_later n i errors false = ap (is_listed errors) (let same : n + suc i ≡ n + 1 + i = omega arith in same)

  in_front : (n : ℕ) (errors : List ℕ) (out : Bool) → AllByRecursion (λ p. n < p) errors → IsAscending errors
      → IsAscending (if out then n ∷ errors else errors)
  in_front n errors true h k = (h, k)
  in_front n errors false h k = k

  wider : (n m : ℕ) (errors : List ℕ) → AllByRecursion (λ p. (n + 1 ≤ p) × (p < n + 1 + m)) errors
      → AllByRecursion (λ p. (n ≤ p) × (p < n + suc m)) errors
  wider n m errors h =
      all_weaker (λ p. (n + 1 ≤ p) × (p < n + 1 + m)) (λ p. (n ≤ p) × (p < n + suc m)) (λ p k. (omega (arith, k.0), omega (arith, k.1))) errors h

  within_more : (n m : ℕ) (errors : List ℕ) (out : Bool) → AllByRecursion (λ p. (n + 1 ≤ p) × (p < n + 1 + m)) errors
      → AllByRecursion (λ p. (n ≤ p) × (p < n + suc m)) (if out then n ∷ errors else errors)
  within_more n m errors true h = ((omega arith, omega arith), wider n m errors h)
  within_more n m errors false h = wider n m errors h

  beyond : (n m : ℕ) (errors : List ℕ) → AllByRecursion (λ p. (n + 1 ≤ p) × (p < n + 1 + m)) errors → AllByRecursion (λ p. n < p) errors
  beyond n m errors h = all_weaker (λ p. (n + 1 ≤ p) × (p < n + 1 + m)) (λ p. n < p) (λ p k. omega (arith, k.0)) errors h

  one_more : (n : ℕ) (q : Parameter) (qs : List Parameter) (out : Bool) (errors : List ℕ) → Out n q out → Tells (n + 1) qs errors
      → Tells n (q ∷ qs) (if out then n ∷ errors else errors)
  one_more n q qs out errors h t = record {
    ascending = in_front n errors out (beyond n (length qs) errors t.within) t.ascending;
    within = within_more n (length qs) errors out t.within;
    local = λ i r e k. local_at i r e k;
    tested = λ i r e k. tested_at i r e k;
  }
    where
      first : is_listed (if out then n ∷ errors else errors) (n + 0) ≡ out
      first = listed_first n errors out (beyond n (length qs) errors t.within)

      local_at : (i : ℕ) (r : Parameter) → slice_get (q ∷ qs) i ≡ Some r → r.local ≡ true → is_listed (if out then n ∷ errors else errors) (n + i) ≡ false
      local_at zero r e k = first ∙ h.0 (ap (λ (x : Parameter). x.local) (let is : q ≡ r = cc (e) in is) ∙ k)
      local_at (suc i) r e k = listed_later n i errors out ∙ t.local i r e k

      tested_at : (i : ℕ) (r : Parameter) → slice_get (q ∷ qs) i ≡ Some r → r.local ≡ false
          → RangesAnswer M o values r.ranges (value_at (n + i)) (is_listed (if out then n ∷ errors else errors) (n + i))
      tested_at zero r e k =
          let is : q ≡ r = cc (e) in
          let same : n ≡ n + 0 = omega arith in
          subst (λ (b : Bool). RangesAnswer M o values r.ranges (value_at (n + 0)) b) (sym first)
          (subst (λ (m : ℕ). RangesAnswer M o values r.ranges (value_at m) out) same
          (subst (λ (x : Parameter). RangesAnswer M o values x.ranges (value_at n) out) is (h.1 (ap (λ (x : Parameter). x.local) is ∙ k))))
      tested_at (suc i) r e k =
          let same : n + 1 + i ≡ n + suc i = omega arith in
          subst (λ (b : Bool). RangesAnswer M o values r.ranges (value_at (n + suc i)) b) (sym (listed_later n i errors out))
          (subst (λ (m : ℕ). RangesAnswer M o values r.ranges (value_at m) (is_listed errors (n + 1 + i))) same (t.tested i r e k))

  errors_tell : (n : ℕ) (qs : List Parameter) → IfGives (Tells n qs) (errors_from M o values n qs)
  errors_tell n [] = record {
    ascending = tt;
    within = tt;
    local = λ i q e k. refl;
    tested = λ i q e k. absurd (cc (e));
  }
  errors_tell n (q ∷ qs) =
      then_if (Out n q) (Tells n (q ∷ qs)) (if q.local then gives false else breaks_one M o values q.ranges (value_at n)) _ (out_tells n q q.local refl)
      (λ out h. then_if (Tells (n + 1) qs) (Tells n (q ∷ qs)) (errors_from M o values (n + 1) qs) _ (errors_tell (n + 1) qs)
      (λ errors t. one_more n q qs out errors h t))

module _ {V : Type 0} (M : Elaborated) (o : Operations V) where
  tells_of_all : (values : List (Number V)) (errors : List ℕ) → Tells M o values 0 M.parameters errors
      → ErrorsTell M o (record { values = values; errors = errors })
  tells_of_all values errors t = record {
    ascending = t.ascending;
    parameters = all_weaker (λ p. (0 ≤ p) × (p < 0 + length M.parameters)) (λ p. p < length M.parameters) (λ p k. omega (arith, k.1)) errors t.within;
    local = λ p q e k. ap (is_listed errors) (let same : p ≡ 0 + p = omega arith in same) ∙ t.local p q e k;
    tested = λ p q e k. subst (λ (m : ℕ). RangesAnswer M o values q.ranges (get_or values m (no_value o)) (is_listed errors m))
        (let same : 0 + p ≡ p = omega arith in same) (t.tested p q e k);
  }

  level_tells : (given : ℕ → Option (Number V)) → IfGives (ErrorsTell M o) (level M o given)
  level_tells given =
      then_if (λ (values : List (Number V)). Unit {0}) (ErrorsTell M o) (values_from M o given [] M.parameters) _ (anything (values_from M o given [] M.parameters))
      (λ values i. then_if (Tells M o values 0 M.parameters) (ErrorsTell M o) (errors_from M o values 0 M.parameters) _ (errors_tell M o values 0 M.parameters)
      (λ errors t. tells_of_all values errors t))

  level_told : (given : ℕ → Option (Number V)) (lev : Level V) → level M o given ≡ gives lev → ErrorsTell M o lev
  level_told given lev e = subst (λ (a : Outcome Reason (Level V)). IfGives (ErrorsTell M o) a) e (level_tells given)

pub errors_of_set_ups : {V : Type 0} (o : Operations V) (valid : V → Type 0) → ErrorsOfSetUps V o valid
errors_of_set_ups o valid = record {
  model = λ M settings lev e. level_told M o (given_to_model M o settings) lev e;
  instance = λ M settings lev e. level_told M o (given_to_instance M o settings) lev e;
}

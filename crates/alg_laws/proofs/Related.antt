-- Computations over related algebras go alike: literals, conversions, operators, sequences, choices, loops.
use Rattle.std.specs.Prelude.{◌≡◌, ℕ, zero, suc, Bool, true, false, not, ℤ, pos, negsuc, int_lt, int_le, if◌then◌else◌, List, fold}
use Rattle.std.proofs.Common.{refl, ap, subst}
use Rattle.alg_laws.specs.declared.function.Fun1.{Fun1}
use Rattle.alg_laws.specs.declared.function.Fun1.TheVariants.{Exp, Ln, Log, Sqrt, Sin, Cos, Tan, Asin, Acos, Atan, Sinh, Cosh, Tanh, Asinh, Acosh, Atanh, Floor, Ceil}
use Rattle.alg_laws.specs.declared.function.Fun2.{Fun2}
use Rattle.alg_laws.specs.declared.function.Fun2.TheVariants.{Pow, Atan2, Hypot}
use Rattle.alg_laws.specs.declared.number.Number.{Number}
use Rattle.alg_laws.specs.declared.number.Reason.{Reason}
use Rattle.alg_laws.specs.declared.number.Ty.{Ty}
use Rattle.alg_laws.specs.declared.number.Ty.TheVariants.{Integer, Real as RealTy}
use Rattle.alg_laws.specs.Dual.{dual, slope, slope_first, slope_second}
use Rattle.alg_laws.specs.IntegerOps.{ranged, int_sum, int_difference, int_product, int_negative, int_quotient, int_remainder, int_same, int_absolute}
use Rattle.alg_laws.specs.LiteralValue.{times_power, literal_value, whole_value}
use Rattle.alg_laws.specs.Loop.{turns, tested, Tested, while_turns}
use Rattle.alg_laws.specs.NumberOps.{as_int, truth, zero_of, to_real, to_integer, converted, is_true, by_type, sum_of, difference_of, product_of, quotient_of, remainder_of, power_of, negative_of, is_less, is_at_most, is_same, contrary_of, both_of, either_of, absolute_of, minimum_of, maximum_of, fun1_of, fun2_of}
use Rattle.alg_laws.specs.Operations.{Operations, copies}
use Rattle.alg_laws.specs.Outcome.{Outcome, gives, ends, ◌>>=◌}
use Rattle.alg_laws.specs.Related.{Relates, NumbersRelated, reals, integers, OutcomesRelated, both_give, both_end, ListsRelated, no_more, one_more, Parts}
use Rattle.alg_laws.specs.Sums.{total}

-- one computation after another
pub then_related : {E A B C D : Type 0} (P : A → B → Type 0) (Q : C → D → Type 0) {a : Outcome E A} {b : Outcome E B}
    (f : A → Outcome E C) (g : B → Outcome E D) → OutcomesRelated P a b
    → ((x : A) (y : B) → P x y → OutcomesRelated Q (f x) (g y)) → OutcomesRelated Q (a >>= f) (b >>= g)
then_related P Q f g (both_give {a = a} {b = b} h) k = k a b h
then_related P Q f g both_end k = both_end

-- a choice
pub chosen_related : {A B : Type 0} (P : A → B → Type 0) (b c : Bool) (x y : A) (u v : B) → b ≡ c → P x u → P y v
    → P (if b then x else y) (if c then u else v)
chosen_related P true true x y u v e h k = h
chosen_related P true false x y u v e h k = cc
chosen_related P false true x y u v e h k = cc
chosen_related P false false x y u v e h k = k

-- the turns of a loop
pub turns_related : {E S T A B : Type 0} (P : S → A → Type 0) (Q : T → B → Type 0) (too_many : E)
    (before : S → Outcome E T) (before' : A → Outcome E B) (goes : T → Bool) (goes' : B → Bool)
    (turn : T → Outcome E S) (turn' : B → Outcome E A)
    → ((s : S) (a : A) → P s a → OutcomesRelated Q (before s) (before' a))
    → ((t : T) (b : B) → Q t b → goes t ≡ goes' b)
    → ((t : T) (b : B) → Q t b → OutcomesRelated P (turn t) (turn' b))
    → (n : ℕ) (s : S) (a : A) → P s a
    → OutcomesRelated Q (turns too_many before goes turn n s) (turns too_many before' goes' turn' n a)
turns_related P Q too_many before before' goes goes' turn turn' h j k zero s a p =
    then_related Q Q _ _ (h s a p)
    (λ t b q. chosen_related (OutcomesRelated Q) (goes t) (goes' b) _ _ _ _ (j t b q) both_end (both_give q))
turns_related P Q too_many before before' goes goes' turn turn' h j k (suc n) s a p =
    then_related Q Q _ _ (h s a p)
    (λ t b q. chosen_related (OutcomesRelated Q) (goes t) (goes' b) _ _ _ _ (j t b q)
    (then_related P Q _ _ (k t b q) (turns_related P Q too_many before before' goes goes' turn turn' h j k n))
    (both_give q))

module _ {V W : Type 0} (o : Operations V) (p : Operations W) (R : V → W → Type 0) (r : Relates o p R) where
  pub copies_related : (n : ℕ) → R (copies o n) (copies p n)
  copies_related zero = r.zero
  copies_related (suc n) = r.sum (copies o n) o.one (copies p n) p.one (copies_related n) r.one

  power_related : (n : ℕ) (x y : V) (u v : W) → R x u → R y v → R (times_power o x n y) (times_power p u n v)
  power_related zero x y u v h k = k
  power_related (suc n) x y u v h k = r.product (times_power o x n y) x (times_power p u n v) u (power_related n x y u v h k) h

  pub literal_related : (m : ℕ) (e : ℤ) → R (literal_value o m e) (literal_value p m e)
  literal_related m (pos n) = power_related n _ _ _ _ (copies_related 10) (copies_related m)
  literal_related m (negsuc n) = power_related (suc n) _ _ _ _ (r.recip _ _ (copies_related 10)) (copies_related m)

  pub whole_related : (i : ℤ) → R (whole_value o i) (whole_value p i)
  whole_related (pos n) = copies_related n
  whole_related (negsuc n) = r.negative _ _ (copies_related (suc n))

  fold_related : (a : V) (b : W) {xs : List V} {ys : List W} → R a b → ListsRelated R xs ys
      → R (fold o.sum a xs) (fold p.sum b ys)
  fold_related a b h no_more = h
  fold_related a b h (one_more {a = x} {b = y} k ks) = fold_related (o.sum a x) (p.sum b y) (r.sum a x b y h k) ks

  pub total_related : {xs : List V} {ys : List W} → ListsRelated R xs ys → R (total o xs) (total p ys)
  total_related h = fold_related o.zero p.zero r.zero h

  -- conversions and truth
  pub to_real_related : {v : Number V} {w : Number W} → NumbersRelated R v w → R (to_real o v) (to_real p w)
  to_real_related (reals h) = h
  to_real_related (integers {i = i}) = whole_related i

  pub to_integer_related : {v : Number V} {w : Number W} → NumbersRelated R v w → to_integer o v ≡ to_integer p w
  to_integer_related (reals {x = x} {u = u} h) = ap ranged (r.near x u h)
  to_integer_related integers = refl

  as_int_related : (a : Outcome Reason ℤ) → OutcomesRelated (NumbersRelated R) (as_int a) (as_int a)
  as_int_related (gives i) = both_give integers
  as_int_related (ends e) = both_end

  as_int_same : (a b : Outcome Reason ℤ) → a ≡ b → OutcomesRelated (NumbersRelated R) (as_int a) (as_int b)
  as_int_same a b e =
      subst (λ (t : Outcome Reason ℤ). OutcomesRelated (NumbersRelated R) (as_int a) (as_int t)) e (as_int_related a)

  pub converted_related : (t : Ty) {v : Number V} {w : Number W} → NumbersRelated R v w
      → OutcomesRelated (NumbersRelated R) (converted o t v) (converted p t w)
  converted_related Integer h = as_int_same _ _ (to_integer_related h)
  converted_related RealTy h = both_give (reals (to_real_related h))

  pub zero_of_related : (t : Ty) → NumbersRelated R (zero_of o t) (zero_of p t)
  zero_of_related Integer = integers
  zero_of_related RealTy = reals r.zero

  pub is_true_related : {v : Number V} {w : Number W} → NumbersRelated R v w → is_true o v ≡ is_true p w
  is_true_related (reals {x = x} {u = u} h) = ap not (r.same x o.zero u p.zero h r.zero)
  is_true_related integers = refl

  pub truth_related : (b c : Bool) → b ≡ c → NumbersRelated R (truth b) (truth c)
  truth_related true true e = integers
  truth_related true false e = cc
  truth_related false true e = cc
  truth_related false false e = integers

  pub by_type_related : {A B : Type 0} (Q : A → B → Type 0) (f : ℤ → ℤ → A) (f' : ℤ → ℤ → B) (g : V → V → A) (g' : W → W → B)
      → ((i j : ℤ) → Q (f i j) (f' i j)) → ((x y : V) (u v : W) → R x u → R y v → Q (g x y) (g' u v))
      → {v w : Number V} {v' w' : Number W} → NumbersRelated R v v' → NumbersRelated R w w'
      → Q (by_type o f g v w) (by_type p f' g' v' w')
  by_type_related Q f f' g g' hf hg (reals h) (reals k) = hg _ _ _ _ h k
  by_type_related Q f f' g g' hf hg (reals h) (integers {i = j}) = hg _ _ _ _ h (whole_related j)
  by_type_related Q f f' g g' hf hg (integers {i = i}) (reals k) = hg _ _ _ _ (whole_related i) k
  by_type_related Q f f' g g' hf hg (integers {i = i}) (integers {i = j}) = hf i j

  -- operators
  pub sum_of_related : {v w : Number V} {v' w' : Number W} → NumbersRelated R v v' → NumbersRelated R w w'
      → OutcomesRelated (NumbersRelated R) (sum_of o v w) (sum_of p v' w')
  sum_of_related h k =
      by_type_related (OutcomesRelated (NumbersRelated R)) _ _ _ _ (λ i j. as_int_related (int_sum i j))
      (λ x y u v a b. both_give (reals (r.sum x y u v a b))) h k

  pub difference_of_related : {v w : Number V} {v' w' : Number W} → NumbersRelated R v v' → NumbersRelated R w w'
      → OutcomesRelated (NumbersRelated R) (difference_of o v w) (difference_of p v' w')
  difference_of_related h k =
      by_type_related (OutcomesRelated (NumbersRelated R)) _ _ _ _ (λ i j. as_int_related (int_difference i j))
      (λ x y u v a b. both_give (reals (r.sum x _ u _ a (r.negative y v b)))) h k

  pub product_of_related : {v w : Number V} {v' w' : Number W} → NumbersRelated R v v' → NumbersRelated R w w'
      → OutcomesRelated (NumbersRelated R) (product_of o v w) (product_of p v' w')
  product_of_related h k =
      by_type_related (OutcomesRelated (NumbersRelated R)) _ _ _ _ (λ i j. as_int_related (int_product i j))
      (λ x y u v a b. both_give (reals (r.product x y u v a b))) h k

  pub quotient_of_related : {v w : Number V} {v' w' : Number W} → NumbersRelated R v v' → NumbersRelated R w w'
      → OutcomesRelated (NumbersRelated R) (quotient_of o v w) (quotient_of p v' w')
  quotient_of_related h k =
      by_type_related (OutcomesRelated (NumbersRelated R)) _ _ _ _ (λ i j. as_int_related (int_quotient i j))
      (λ x y u v a b. both_give (reals (r.product x _ u _ a (r.recip y v b)))) h k

  pub remainder_of_related : {v w : Number V} {v' w' : Number W} → NumbersRelated R v v' → NumbersRelated R w w'
      → OutcomesRelated (NumbersRelated R) (remainder_of o v w) (remainder_of p v' w')
  remainder_of_related h k =
      by_type_related (OutcomesRelated (NumbersRelated R)) _ _ _ _ (λ i j. as_int_related (int_remainder i j))
      (λ x y u v a b. both_give integers) h k

  pub power_of_related : {v w : Number V} {v' w' : Number W} → NumbersRelated R v v' → NumbersRelated R w w'
      → OutcomesRelated (NumbersRelated R) (power_of o v w) (power_of p v' w')
  power_of_related h k = both_give (reals (r.fun2 Pow _ _ _ _ (to_real_related h) (to_real_related k)))

  pub negative_of_related : {v : Number V} {w : Number W} → NumbersRelated R v w
      → OutcomesRelated (NumbersRelated R) (negative_of o v) (negative_of p w)
  negative_of_related (reals {x = x} {u = u} h) = both_give (reals (r.negative x u h))
  negative_of_related (integers {i = i}) = as_int_related (int_negative i)

  pub is_less_related : {v w : Number V} {v' w' : Number W} → NumbersRelated R v v' → NumbersRelated R w w'
      → is_less o v w ≡ is_less p v' w'
  is_less_related h k = by_type_related ◌≡◌ int_lt int_lt o.less p.less (λ i j. refl) r.less h k

  pub is_at_most_related : {v w : Number V} {v' w' : Number W} → NumbersRelated R v v' → NumbersRelated R w w'
      → is_at_most o v w ≡ is_at_most p v' w'
  is_at_most_related h k = by_type_related ◌≡◌ int_le int_le o.at_most p.at_most (λ i j. refl) r.at_most h k

  pub is_same_related : {v w : Number V} {v' w' : Number W} → NumbersRelated R v v' → NumbersRelated R w w'
      → is_same o v w ≡ is_same p v' w'
  is_same_related h k = by_type_related ◌≡◌ int_same int_same o.same p.same (λ i j. refl) r.same h k

  pub contrary_of_related : {v : Number V} {w : Number W} → NumbersRelated R v w
      → NumbersRelated R (contrary_of o v) (contrary_of p w)
  contrary_of_related h = truth_related _ _ (ap not (is_true_related h))

  -- what is asked of the right side of && and ||
  asked_related : {a : Outcome Reason (Number V)} {b : Outcome Reason (Number W)} → OutcomesRelated (NumbersRelated R) a b
      → OutcomesRelated (NumbersRelated R) (a >>= λ v. gives (truth (is_true o v))) (b >>= λ w. gives (truth (is_true p w)))
  asked_related h =
      then_related (NumbersRelated R) (NumbersRelated R) _ _ h
      (λ v w k. both_give (truth_related (is_true o v) (is_true p w) (is_true_related k)))

  pub both_of_related : {v : Number V} {w : Number W} {a : Outcome Reason (Number V)} {b : Outcome Reason (Number W)}
      → NumbersRelated R v w → OutcomesRelated (NumbersRelated R) a b
      → OutcomesRelated (NumbersRelated R) (both_of o v a) (both_of p w b)
  both_of_related {v = v} {w = w} h k =
      chosen_related (OutcomesRelated (NumbersRelated R)) (is_true o v) (is_true p w) _ _ _ _ (is_true_related h)
      (asked_related k) (both_give integers)

  pub either_of_related : {v : Number V} {w : Number W} {a : Outcome Reason (Number V)} {b : Outcome Reason (Number W)}
      → NumbersRelated R v w → OutcomesRelated (NumbersRelated R) a b
      → OutcomesRelated (NumbersRelated R) (either_of o v a) (either_of p w b)
  either_of_related {v = v} {w = w} h k =
      chosen_related (OutcomesRelated (NumbersRelated R)) (is_true o v) (is_true p w) _ _ _ _ (is_true_related h)
      (both_give integers) (asked_related k)

  pub absolute_of_related : {v : Number V} {w : Number W} → NumbersRelated R v w
      → OutcomesRelated (NumbersRelated R) (absolute_of o v) (absolute_of p w)
  absolute_of_related (reals {x = x} {u = u} h) =
      both_give (reals (chosen_related R _ _ _ _ _ _ (r.less o.zero x p.zero u r.zero h) h (r.negative x u h)))
  absolute_of_related (integers {i = i}) = as_int_related (int_absolute i)

  pub minimum_of_related : {v w : Number V} {v' w' : Number W} → NumbersRelated R v v' → NumbersRelated R w w'
      → NumbersRelated R (minimum_of o v w) (minimum_of p v' w')
  minimum_of_related h k =
      by_type_related (NumbersRelated R) _ _ _ _ (λ i j. integers)
      (λ x y u v a b. reals (chosen_related R (o.less x y) (p.less u v) x y u v (r.less x y u v a b) a b)) h k

  pub maximum_of_related : {v w : Number V} {v' w' : Number W} → NumbersRelated R v v' → NumbersRelated R w w'
      → NumbersRelated R (maximum_of o v w) (maximum_of p v' w')
  maximum_of_related h k =
      by_type_related (NumbersRelated R) _ _ _ _ (λ i j. integers)
      (λ x y u v a b. reals (chosen_related R (o.less y x) (p.less v u) x y u v (r.less y x v u b a) a b)) h k

  pub fun1_of_related : (f : Fun1) {v : Number V} {w : Number W} → NumbersRelated R v w
      → NumbersRelated R (fun1_of o f v) (fun1_of p f w)
  fun1_of_related f h = reals (r.fun1 f _ _ (to_real_related h))

  pub fun2_of_related : (f : Fun2) {v w : Number V} {v' w' : Number W} → NumbersRelated R v v' → NumbersRelated R w w'
      → NumbersRelated R (fun2_of o f v w) (fun2_of p f v' w')
  fun2_of_related f h k = reals (r.fun2 f _ _ _ _ (to_real_related h) (to_real_related k))

  -- derivatives
  pub slope_related : (f : Fun1) (x : V) (u : W) → R x u → R (slope o f x) (slope p f u)
  slope_related Exp x u h = r.fun1 Exp x u h
  slope_related Ln x u h = r.recip x u h
  slope_related Log x u h = r.recip _ _ (r.product x _ u _ h (r.fun1 Ln _ _ (copies_related 10)))
  slope_related Sqrt x u h = r.recip _ _ (r.product _ _ _ _ (copies_related 2) (r.fun1 Sqrt x u h))
  slope_related Sin x u h = r.fun1 Cos x u h
  slope_related Cos x u h = r.negative _ _ (r.fun1 Sin x u h)
  slope_related Tan x u h = r.sum _ _ _ _ r.one (r.product _ _ _ _ (r.fun1 Tan x u h) (r.fun1 Tan x u h))
  slope_related Asin x u h =
      r.recip _ _ (r.fun1 Sqrt _ _ (r.sum _ _ _ _ r.one (r.negative _ _ (r.product x x u u h h))))
  slope_related Acos x u h =
      r.negative _ _ (r.recip _ _ (r.fun1 Sqrt _ _ (r.sum _ _ _ _ r.one (r.negative _ _ (r.product x x u u h h)))))
  slope_related Atan x u h = r.recip _ _ (r.sum _ _ _ _ r.one (r.product x x u u h h))
  slope_related Sinh x u h = r.fun1 Cosh x u h
  slope_related Cosh x u h = r.fun1 Sinh x u h
  slope_related Tanh x u h =
      r.sum _ _ _ _ r.one (r.negative _ _ (r.product _ _ _ _ (r.fun1 Tanh x u h) (r.fun1 Tanh x u h)))
  slope_related Asinh x u h = r.recip _ _ (r.fun1 Sqrt _ _ (r.sum _ _ _ _ (r.product x x u u h h) r.one))
  slope_related Acosh x u h =
      r.recip _ _ (r.fun1 Sqrt _ _ (r.sum _ _ _ _ (r.product x x u u h h) (r.negative _ _ r.one)))
  slope_related Atanh x u h = r.recip _ _ (r.sum _ _ _ _ r.one (r.negative _ _ (r.product x x u u h h)))
  slope_related Floor x u h = r.zero
  slope_related Ceil x u h = r.zero

  pub slope_first_related : (f : Fun2) (x y : V) (u v : W) → R x u → R y v → R (slope_first o f x y) (slope_first p f u v)
  slope_first_related Pow x y u v h k =
      r.product y _ v _ k (r.fun2 Pow x _ u _ h (r.sum y _ v _ k (r.negative _ _ r.one)))
  slope_first_related Atan2 x y u v h k =
      r.product y _ v _ k (r.recip _ _ (r.sum _ _ _ _ (r.product y y v v k k) (r.product x x u u h h)))
  slope_first_related Hypot x y u v h k = r.product x _ u _ h (r.recip _ _ (r.fun2 Hypot x y u v h k))

  pub slope_second_related : (f : Fun2) (x y : V) (u v : W) → R x u → R y v → R (slope_second o f x y) (slope_second p f u v)
  slope_second_related Pow x y u v h k = r.product _ _ _ _ (r.fun1 Ln x u h) (r.fun2 Pow x y u v h k)
  slope_second_related Atan2 x y u v h k =
      r.product _ _ _ _ (r.negative x u h) (r.recip _ _ (r.sum _ _ _ _ (r.product y y v v k k) (r.product x x u u h h)))
  slope_second_related Hypot x y u v h k = r.product y _ v _ k (r.recip _ _ (r.fun2 Hypot x y u v h k))

  -- what relates the operations relates their duals part by part
  pub duals_related : Relates (dual o) (dual p) (Parts R)
  duals_related = record {
    zero = (r.zero, r.zero);
    one = (r.one, r.zero);
    sum = λ x y u v h k. (r.sum _ _ _ _ h.0 k.0, r.sum _ _ _ _ h.1 k.1);
    negative = λ x u h. (r.negative _ _ h.0, r.negative _ _ h.1);
    product = λ x y u v h k. (
      r.product _ _ _ _ h.0 k.0,
      r.sum _ _ _ _ (r.product _ _ _ _ h.0 k.1) (r.product _ _ _ _ h.1 k.0),
    );
    recip = λ x u h. (
      r.recip _ _ h.0,
      r.product _ _ _ _ (r.product _ _ _ _ (r.negative _ _ h.1) (r.recip _ _ h.0)) (r.recip _ _ h.0),
    );
    fun1 = λ f x u h. (r.fun1 f _ _ h.0, r.product _ _ _ _ (slope_related f _ _ h.0) h.1);
    fun2 = λ f x y u v h k. (
      r.fun2 f _ _ _ _ h.0 k.0,
      r.sum _ _ _ _ (r.product _ _ _ _ (slope_first_related f _ _ _ _ h.0 k.0) h.1)
          (r.product _ _ _ _ (slope_second_related f _ _ _ _ h.0 k.0) k.1),
    );
    less = λ x y u v h k. r.less _ _ _ _ h.0 k.0;
    at_most = λ x y u v h k. r.at_most _ _ _ _ h.0 k.0;
    same = λ x y u v h k. r.same _ _ _ _ h.0 k.0;
    near = λ x u h. r.near _ _ h.0;
  }

-- `while`, with a test that leaves the state as it is
pub while_related : {E S A : Type 0} (P : S → A → Type 0) (too_many : E) (test : S → Outcome E Bool) (test' : A → Outcome E Bool)
    (turn : S → Outcome E S) (turn' : A → Outcome E A)
    → ((s : S) (a : A) → P s a → OutcomesRelated ◌≡◌ (test s) (test' a))
    → ((s : S) (a : A) → P s a → OutcomesRelated P (turn s) (turn' a))
    → (n : ℕ) (s : S) (a : A) → P s a
    → OutcomesRelated P (while_turns too_many test turn n s) (while_turns too_many test' turn' n a)
while_related {E} {S} {A} P too_many test test' turn turn' h k n s a p =
    let Q = λ (t : Tested S) (b : Tested A). (t.goes ≡ b.goes) × P t.state b.state in
    then_related Q P _ _
    (turns_related P Q too_many (tested test) (tested test') (λ t. t.goes) (λ b. b.goes) (λ t. turn t.state) (λ b. turn' b.state)
    (λ s a p. then_related ◌≡◌ Q _ _ (h s a p) (λ b c e. both_give (e, p)))
    (λ t b q. q.0)
    (λ t b q. k t.state b.state q.1)
    n s a p)
    (λ t b q. both_give q.1)

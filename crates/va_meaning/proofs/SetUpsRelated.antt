-- Set-ups over related algebras from related settings go alike: both levels are undefined for the same reason, or have related values and
-- the same errors.
use Rattle.std.specs.Prelude.{◌≡◌, ℕ, zero, suc, ◌+◌, ◌&&◌, ◌||◌, not, if◌then◌else◌, List, [], ◌∷◌, ◌++◌, Option, Some, None, option_map, length, get_or}
use Rattle.std.specs.List.{slice_get}
use Rattle.std.specs.Option.{is_some}
use Rattle.std.proofs.Common.{refl, ap, subst, inl}
use Rattle.alg_laws.specs.declared.dual.Dual.{Dual}
use Rattle.alg_laws.specs.declared.number.Number.{Number}
use Rattle.alg_laws.specs.declared.number.Number.TheVariants.{Real, Int}
use Rattle.alg_laws.specs.Dual.{dual}
use Rattle.alg_laws.specs.NumberParts.{main_of, lifted, NumberValid}
use Rattle.alg_laws.specs.Operations.{Operations, IsAlgebra}
use Rattle.alg_laws.specs.Outcome.{gives}
use Rattle.alg_laws.specs.Related.{Relates, NumbersRelated, reals, integers, OutcomesRelated, both_give, ListsRelated, no_more as none_more, one_more, HasMain, IsLifted}
use Rattle.alg_laws.proofs.Outcomes.{has_main, is_lifted}
use Rattle.alg_laws.proofs.Related.{then_related, chosen_related, converted_related, is_less_related, is_at_most_related, is_same_related}
use Rattle.alg_laws.proofs.Relations.{mains_relate, lifts_relate}
use Rattle.va_tree.specs.Expressions.{Expression, literal, infinity, name, group, unary, binary, choose, call}
use Rattle.va_meaning.specs.Elaborated.{Elaborated, Parameter, Range, from, exclude, exclude_value, Interval, End}
use Rattle.va_meaning.specs.Related.{same_ends, both_give as both_are_given, ContextsRelated}
use Rattle.va_meaning.specs.SetUp.{Settings, else_given, knowing, constant_value, parameter_value, values_from, holds_infinity, above, below, is_in, breaks, breaks_one, errors_from, counts_on_model, counts_on_instance, level, given_to_model, model_level, given_to_instance, instance_level, was_given}
use Rattle.va_meaning.specs.SetUpLaws.{LevelsRelated, main_settings, lifted_settings, MainsOfSetUps, SettingsValid, LiftsOfSetUps}
use Rattle.va_meaning.specs.Values.{no_value}
use Rattle.va_meaning.proofs.Endings.{same_closed, same_related}
use Rattle.va_meaning.proofs.Related.{value_related}

-- what is given alike
pub data GivenRelated {V W : Type 0} (R : V → W → Type 0) : Option (Number V) → Option (Number W) → Type 0 where
  not_given : GivenRelated R None None
  both_given : {v : Number V} {w : Number W} → NumbersRelated R v w → GivenRelated R (Some v) (Some w)

pub record SettingsRelated {V W : Type 0} (R : V → W → Type 0) (s : Settings V) (t : Settings W) : Type 0 where
  pub model : (p : ℕ) → GivenRelated R (s.model p) (t.model p)
  pub instance : (p : ℕ) → GivenRelated R (s.instance p) (t.instance p)

module _ {V W : Type 0} (M : Elaborated) (o : Operations V) (p : Operations W) (R : V → W → Type 0) (h : Relates o p R) where
  abbrev Values : List (Number V) → List (Number W) → Type 0
  Values = ListsRelated (NumbersRelated R)

  value_there : {vs : List (Number V)} {ws : List (Number W)} → Values vs ws → (i : ℕ) → NumbersRelated R (get_or vs i (no_value o)) (get_or ws i (no_value p))
  value_there none_more i = reals h.zero
  value_there (one_more k ks) zero = k
  value_there (one_more k ks) (suc i) = value_there ks i

  one_at_end : {vs : List (Number V)} {ws : List (Number W)} {v : Number V} {w : Number W} → Values vs ws → NumbersRelated R v w
      → Values (vs ++ v ∷ []) (ws ++ w ∷ [])
  one_at_end none_more l = one_more l none_more
  one_at_end (one_more k ks) l = one_more k (one_at_end ks l)

  same_length : {vs : List (Number V)} {ws : List (Number W)} → Values vs ws → length vs ≡ length ws
  same_length none_more = refl
  same_length (one_more k ks) = ap suc (same_length ks)

  knowing_related : (vs : List (Number V)) (ws : List (Number W)) → Values vs ws → ContextsRelated same_ends R (knowing M o vs) (knowing M p ws)
  knowing_related vs ws k = record {
    ops = h;
    derivative = h.zero;
    point = record { parameters = λ i. value_there k i; given = λ i. refl; temperature = h.zero; unknowns = λ i. h.zero };
    bound = inl refl;
    stops = λ reason. refl;
    answers = λ number outs outs' l. both_are_given h.zero;
  }

  constant_related : (vs : List (Number V)) (ws : List (Number W)) → Values vs ws → (e : Expression)
      → OutcomesRelated (NumbersRelated R) (constant_value M o vs e) (constant_value M p ws e)
  constant_related vs ws k e =
      same_related (NumbersRelated R)
      (value_related same_ends same_closed M (knowing M o vs) (knowing M p ws) R (knowing_related vs ws k) (λ f outs. gives (no_value o)) (λ f outs. gives (no_value p))
      (λ f outs outs' l. both_are_given (reals h.zero)) 0 e (λ x. no_value o) (λ x. no_value p) (λ x. reals h.zero))

  parameter_related : (vs : List (Number V)) (ws : List (Number W)) → Values vs ws → (q : Parameter) {g : Option (Number V)} {g' : Option (Number W)}
      → GivenRelated R g g' → OutcomesRelated (NumbersRelated R) (parameter_value M o vs q g) (parameter_value M p ws q g')
  parameter_related vs ws k q not_given =
      then_related (NumbersRelated R) (NumbersRelated R) _ _ (constant_related vs ws k q.default) (λ v w l. converted_related o p R h q.ty l)
  parameter_related vs ws k q (both_given l) = both_give l

  module _ (given : ℕ → Option (Number V)) (given' : ℕ → Option (Number W)) (alike : (i : ℕ) → GivenRelated R (given i) (given' i)) where
    given_there : (n n' : ℕ) → n ≡ n' → GivenRelated R (given n) (given' n')
    given_there n n' e = subst (λ i. GivenRelated R (given n) (given' i)) e (alike n)

    values_related : (qs : List Parameter) (vs : List (Number V)) (ws : List (Number W)) → Values vs ws
        → OutcomesRelated Values (values_from M o given vs qs) (values_from M p given' ws qs)
    values_related [] vs ws k = both_give k
    values_related (q ∷ qs) vs ws k =
        then_related (NumbersRelated R) Values _ _ (parameter_related vs ws k q (given_there (length vs) (length ws) (same_length k)))
        (λ v w l. values_related qs (vs ++ v ∷ []) (ws ++ w ∷ []) (one_at_end k l))

  -- ranges
  same_infinity : (e : Expression) → holds_infinity M o e ≡ holds_infinity M p e
  same_infinity (infinity at) = refl
  same_infinity (unary at op e) = same_infinity e
  same_infinity (literal at value integer) = refl
  same_infinity (name at bytes) = refl
  same_infinity (group at e) = refl
  same_infinity (binary at a op b) = refl
  same_infinity (choose at test a b) = refl
  same_infinity (call at callee bytes args) = refl

  module _ (vs : List (Number V)) (ws : List (Number W)) (k : Values vs ws) where
    above_related : (end : End) {v : Number V} {w : Number W} → NumbersRelated R v w → OutcomesRelated ◌≡◌ (above M o vs end v) (above M p ws end w)
    above_related end l =
        chosen_related (OutcomesRelated ◌≡◌) (holds_infinity M o end.value) (holds_infinity M p end.value) _ _ _ _ (same_infinity end.value) (both_give refl)
        (then_related (NumbersRelated R) ◌≡◌ _ _ (constant_related vs ws k end.value)
        (λ x y n. both_give (chosen_related ◌≡◌ end.closed end.closed _ _ _ _ refl (is_at_most_related o p R h n l) (is_less_related o p R h n l))))

    below_related : (end : End) {v : Number V} {w : Number W} → NumbersRelated R v w → OutcomesRelated ◌≡◌ (below M o vs end v) (below M p ws end w)
    below_related end l =
        chosen_related (OutcomesRelated ◌≡◌) (holds_infinity M o end.value) (holds_infinity M p end.value) _ _ _ _ (same_infinity end.value) (both_give refl)
        (then_related (NumbersRelated R) ◌≡◌ _ _ (constant_related vs ws k end.value)
        (λ x y n. both_give (chosen_related ◌≡◌ end.closed end.closed _ _ _ _ refl (is_at_most_related o p R h l n) (is_less_related o p R h l n))))

    is_in_related : (interval : Interval) {v : Number V} {w : Number W} → NumbersRelated R v w
        → OutcomesRelated ◌≡◌ (is_in M o vs interval v) (is_in M p ws interval w)
    is_in_related interval l =
        then_related ◌≡◌ ◌≡◌ _ _ (above_related interval.low l)
        (λ b b' e. then_related ◌≡◌ ◌≡◌ _ _ (below_related interval.high l) (λ c c' f. both_give (λ j. e j && f j)))

    breaks_related : (range : Range) {v : Number V} {w : Number W} → NumbersRelated R v w → OutcomesRelated ◌≡◌ (breaks M o vs range v) (breaks M p ws range w)
    breaks_related (from interval) l = then_related ◌≡◌ ◌≡◌ _ _ (is_in_related interval l) (λ b b' e. both_give (ap not e))
    breaks_related (exclude interval) l = is_in_related interval l
    breaks_related (exclude_value e) l =
        then_related (NumbersRelated R) ◌≡◌ _ _ (constant_related vs ws k e) (λ x y n. both_give (is_same_related o p R h l n))

    breaks_one_related : (ranges : List Range) {v : Number V} {w : Number W} → NumbersRelated R v w
        → OutcomesRelated ◌≡◌ (breaks_one M o vs ranges v) (breaks_one M p ws ranges w)
    breaks_one_related [] l = both_give refl
    breaks_one_related (range ∷ rest) l =
        then_related ◌≡◌ ◌≡◌ _ _ (breaks_related range l)
        (λ b b' e. then_related ◌≡◌ ◌≡◌ _ _ (breaks_one_related rest l) (λ c c' f. both_give (λ j. e j || f j)))

    errors_related : (n : ℕ) (qs : List Parameter) → OutcomesRelated ◌≡◌ (errors_from M o vs n qs) (errors_from M p ws n qs)
    errors_related n [] = both_give refl
    errors_related n (q ∷ qs) =
        then_related ◌≡◌ ◌≡◌ _ _
        (chosen_related (OutcomesRelated ◌≡◌) q.local q.local _ _ _ _ refl (both_give refl) (breaks_one_related q.ranges (value_there k n)))
        (λ b b' e. then_related ◌≡◌ ◌≡◌ _ _ (errors_related (n + 1) qs) (λ es es' f. both_give (λ j. if e j then n ∷ f j else f j)))

  level_related : (given : ℕ → Option (Number V)) (given' : ℕ → Option (Number W)) → ((i : ℕ) → GivenRelated R (given i) (given' i))
      → OutcomesRelated (LevelsRelated R) (level M o given) (level M p given')
  level_related given given' alike =
      then_related Values (LevelsRelated R) _ _ (values_related given given' alike M.parameters [] [] none_more)
      (λ vs ws k. then_related ◌≡◌ (LevelsRelated R) _ _ (errors_related vs ws k 0 M.parameters)
      (λ es es' e. both_give (record { values = k; errors = e })))

  on_model : (q : Option Parameter) {m : Option (Number V)} {m' : Option (Number W)} → GivenRelated R m m'
      → GivenRelated R (counts_on_model q m) (counts_on_model q m')
  on_model None k = not_given
  on_model (Some q) k = chosen_related (GivenRelated R) q.local q.local _ _ _ _ refl not_given k

  either_given : {i m : Option (Number V)} {i' m' : Option (Number W)} → GivenRelated R i i' → GivenRelated R m m'
      → GivenRelated R (else_given i m) (else_given i' m')
  either_given not_given l = l
  either_given (both_given k) l = both_given k

  on_instance : (q : Option Parameter) {i m : Option (Number V)} {i' m' : Option (Number W)} → GivenRelated R m m' → GivenRelated R i i'
      → GivenRelated R (counts_on_instance q m i) (counts_on_instance q m' i')
  on_instance None k l = not_given
  on_instance (Some q) k l =
      chosen_related (GivenRelated R) q.local q.local _ _ _ _ refl not_given
      (chosen_related (GivenRelated R) q.of_instance q.of_instance _ _ _ _ refl (either_given l k) k)

  pub model_related : (s : Settings V) (t : Settings W) → SettingsRelated R s t → OutcomesRelated (LevelsRelated R) (model_level M o s) (model_level M p t)
  model_related s t k =
      level_related (given_to_model M o s) (given_to_model M p t) (λ i. on_model (slice_get M.parameters i) (k.model i))

  pub instance_related : (s : Settings V) (t : Settings W) → SettingsRelated R s t
      → OutcomesRelated (LevelsRelated R) (instance_level M o s) (instance_level M p t)
  instance_related s t k =
      level_related (given_to_instance M o s) (given_to_instance M p t) (λ i. on_instance (slice_get M.parameters i) (k.model i) (k.instance i))

  -- and the same are given
  is_some_related : {g : Option (Number V)} {g' : Option (Number W)} → GivenRelated R g g' → is_some g ≡ is_some g'
  is_some_related not_given = refl
  is_some_related (both_given k) = refl

  pub given_related : (s : Settings V) (t : Settings W) → SettingsRelated R s t → (i : ℕ) → was_given M o s i ≡ was_given M p t i
  given_related s t k i = is_some_related (on_instance (slice_get M.parameters i) (k.model i) (k.instance i))

module _ {V : Type 0} (o : Operations V) where
  main_given : (g : Option (Number (Dual V))) → GivenRelated HasMain g (option_map main_of g)
  main_given None = not_given
  main_given (Some v) = both_given (has_main v)

  mains_alike : (s : Settings (Dual V)) → SettingsRelated HasMain s (main_settings s)
  mains_alike s = record { model = λ i. main_given (s.model i); instance = λ i. main_given (s.instance i) }

  pub mains_of_set_ups : (valid : V → Type 0) → MainsOfSetUps V o valid
  mains_of_set_ups valid = record {
    model = λ M s. model_related M (dual o) o HasMain (mains_relate o) s (main_settings s) (mains_alike s);
    instance = λ M s. instance_related M (dual o) o HasMain (mains_relate o) s (main_settings s) (mains_alike s);
    given = λ M s i. given_related M (dual o) o HasMain (mains_relate o) s (main_settings s) (mains_alike s) i;
  }

  number_main : (v : Number V) → NumbersRelated HasMain (lifted o v) v
  number_main (Real x) = reals refl
  number_main (Int i) = integers

  lift_given : (g : Option (Number V)) → GivenRelated HasMain (option_map (lifted o) g) g
  lift_given None = not_given
  lift_given (Some v) = both_given (number_main v)

  -- which parameters are given is asked of no value
  lifted_was_given : (M : Elaborated) (s : Settings V) (i : ℕ) → was_given M (dual o) (lifted_settings o s) i ≡ was_given M o s i
  lifted_was_given M s i =
      given_related M (dual o) o HasMain (mains_relate o) (lifted_settings o s) s
      (record { model = λ i. lift_given (s.model i); instance = λ i. lift_given (s.instance i) }) i

module _ {V : Type 0} (o : Operations V) (valid unit : V → Type 0) (l : IsAlgebra o valid unit) where
  lifted_given : (g : Option (Number V)) → ((v : Number V) → g ≡ Some v → NumberValid valid v) → GivenRelated (IsLifted o valid) (option_map (lifted o) g) g
  lifted_given None h = not_given
  lifted_given (Some v) h = both_given (is_lifted o valid v (h v refl))

  lifts_alike : (s : Settings V) → SettingsValid valid s → SettingsRelated (IsLifted o valid) (lifted_settings o s) s
  lifts_alike s h = record {
    model = λ i. lifted_given (s.model i) (h.on_model i);
    instance = λ i. lifted_given (s.instance i) (h.on_instance i);
  }

  pub lifts_of_set_ups : LiftsOfSetUps V o valid
  lifts_of_set_ups = record {
    model = λ M s h. model_related M (dual o) o (IsLifted o valid) (lifts_relate o valid unit l) (lifted_settings o s) s (lifts_alike s h);
    instance = λ M s h. instance_related M (dual o) o (IsLifted o valid) (lifts_relate o valid unit l) (lifted_settings o s) s (lifts_alike s h);
    given = λ M s i. lifted_was_given o M s i;
  }

-- From valid settings of the right types set-up makes valid values of the right types.
use Rattle.std.specs.Prelude.{◌≡◌, ℕ, zero, suc, ◌+◌, Bool, true, false, if◌then◌else◌, List, [], ◌∷◌, ◌++◌, Option, Some, None, length, get_or}
use Rattle.std.specs.List.{slice_get}
use Rattle.std.proofs.lemmas.List.{append-nil, append_assoc}
use Rattle.std.proofs.Common.{refl, ap, sym, ◌∙◌, subst, arith, length-append, inl}
use Rattle.alg_laws.specs.declared.number.Number.{Number}
use Rattle.alg_laws.specs.declared.number.Reason.{Reason}
use Rattle.alg_laws.specs.NumberOps.{type_of as type_of_number, converted}
use Rattle.alg_laws.specs.NumberParts.{NumberValid}
use Rattle.alg_laws.specs.Operations.{Operations, IsAlgebra}
use Rattle.alg_laws.specs.Outcome.{Outcome, gives, ends, ◌>>=◌}
use Rattle.alg_laws.specs.Related.{NumbersRelated, reals, OutcomesRelated, both_give as outcomes_give, both_end as outcomes_end, IsValid}
use Rattle.alg_laws.proofs.Outcomes.{is_valid, valid_is}
use Rattle.alg_laws.proofs.Related.{converted_related}
use Rattle.alg_laws.proofs.Relations.{validity_relates}
use Rattle.va_tree.specs.Expressions.{Expression}
use Rattle.va_meaning.specs.Elaborated.{Elaborated, Parameter}
use Rattle.va_meaning.specs.Points.{Result}
use Rattle.va_meaning.specs.Related.{same_ends, both_give, ContextsRelated}
use Rattle.va_meaning.specs.SetUp.{Settings, else_given, knowing, constant_value, parameter_value, values_from, Level, counts_on_model, counts_on_instance, level, given_to_model, model_level, given_to_instance, instance_level, errors_from}
use Rattle.va_meaning.specs.SetUpLaws.{FitsParameter, SettingsFit, LevelFits, PointsOfSetUps}
use Rattle.va_meaning.specs.Values.{no_value}
use Rattle.va_meaning.proofs.Endings.{same_closed, same_related}
use Rattle.va_meaning.proofs.Partial.{IfGives, anything, then_if}
use Rattle.va_meaning.proofs.Related.{value_related}
use Rattle.va_meaning.proofs.Types.{converted_typed}

module _ {V : Type 0} (M : Elaborated) (o : Operations V) (valid unit : V → Type 0) (l : IsAlgebra o valid unit) where
  abbrev AllValid : List (Number V) → Type 0
  AllValid [] = Unit {0}
  AllValid (v ∷ vs) = NumberValid valid v × AllValid vs

  -- values of some parameters
  abbrev Fit : List (Number V) → List Parameter → Type 0
  Fit [] [] = Unit {0}
  Fit [] (p ∷ ps) = ⊥
  Fit (v ∷ vs) [] = ⊥
  Fit (v ∷ vs) (p ∷ ps) = FitsParameter valid (Some p) v × Fit vs ps

  value_there : (vs : List (Number V)) → AllValid vs → (p : ℕ) → NumberValid valid (get_or vs p (no_value o))
  value_there [] h p = l.valid_zero
  value_there (v ∷ vs) h zero = h.0
  value_there (v ∷ vs) h (suc p) = value_there vs h.1 p

  one_more_valid : (vs : List (Number V)) (v : Number V) → AllValid vs → NumberValid valid v → AllValid (vs ++ v ∷ [])
  one_more_valid [] v h k = (k, tt)
  one_more_valid (w ∷ vs) v h k = (h.0, one_more_valid vs v h.1 k)

  fits_there : (vs : List (Number V)) (ps : List Parameter) → Fit vs ps → (p : ℕ) → FitsParameter valid (slice_get ps p) (get_or vs p (no_value o))
  fits_there [] [] h p = record { value = l.valid_zero; ty = refl }
  fits_there [] (q ∷ ps) h p = absurd h
  fits_there (v ∷ vs) [] h p = absurd h
  fits_there (v ∷ vs) (q ∷ ps) h zero = h.0
  fits_there (v ∷ vs) (q ∷ ps) h (suc p) = fits_there vs ps h.1 p

  -- a constant expression over valid values is valid
  knowing_valid : (vs : List (Number V)) → AllValid vs → ContextsRelated same_ends (IsValid valid) (knowing M o vs) (knowing M o vs)
  knowing_valid vs h = record {
    ops = validity_relates o valid unit l;
    derivative = (refl, l.valid_zero);
    point = record {
      parameters = λ p. is_valid valid (get_or vs p (no_value o)) (value_there vs h p);
      given = λ p. refl;
      temperature = (refl, l.valid_zero);
      unknowns = λ i. (refl, l.valid_zero);
    };
    bound = inl refl;
    stops = λ reason. refl;
    answers = λ number outs outs' h. both_give (refl, l.valid_zero);
  }

  related_valid : {a b : Result Reason V} → OutcomesRelated (NumbersRelated (IsValid valid)) a b → IfGives (NumberValid valid) a
  related_valid (outcomes_give h) = valid_is valid h
  related_valid outcomes_end = tt

  constant_valid : (vs : List (Number V)) → AllValid vs → (e : Expression) → IfGives (NumberValid valid) (constant_value M o vs e)
  constant_valid vs h e =
      related_valid
      (same_related (NumbersRelated (IsValid valid)) (value_related same_ends same_closed M (knowing M o vs) (knowing M o vs) (IsValid valid) (knowing_valid vs h) (λ f outs. gives (no_value o)) (λ f outs. gives (no_value o))
      (λ f outs outs' k. both_give (reals (refl, l.valid_zero))) 0 e (λ x. no_value o) (λ x. no_value o) (λ x. reals (refl, l.valid_zero))))

  both_of_it : {A : Type 0} (P Q : A → Type 0) (a : Outcome Reason A) → IfGives P a → IfGives Q a → IfGives (λ x. P x × Q x) a
  both_of_it P Q (gives x) h k = (h, k)
  both_of_it P Q (ends e) h k = tt

  default_fits : (vs : List (Number V)) → AllValid vs → (p : Parameter) → IfGives (FitsParameter valid (Some p)) (constant_value M o vs p.default >>= converted o p.ty)
  default_fits vs h p =
      then_if (NumberValid valid) (FitsParameter valid (Some p)) (constant_value M o vs p.default) (converted o p.ty) (constant_valid vs h p.default)
      (λ v k. fitting (converted o p.ty v) (related_valid (converted_related o o (IsValid valid) (validity_relates o valid unit l) p.ty (is_valid valid v k))) (converted_typed o p.ty v))
    where
      fitting : (out : Result Reason V) → IfGives (NumberValid valid) out → IfGives (λ v. type_of_number v ≡ p.ty) out → IfGives (FitsParameter valid (Some p)) out
      fitting (gives v) h k = record { value = h; ty = k }
      fitting (ends e) h k = tt

  parameter_fits : (vs : List (Number V)) → AllValid vs → (p : Parameter) (given : Option (Number V))
      → ((v : Number V) → given ≡ Some v → FitsParameter valid (Some p) v) → IfGives (FitsParameter valid (Some p)) (parameter_value M o vs p given)
  parameter_fits vs h p (Some v) k = k v refl
  parameter_fits vs h p None k = default_fits vs h p

  -- what is given for some parameters, the first of which has a number
  abbrev GivenFits : (ℕ → Option (Number V)) → ℕ → List Parameter → Type 0
  GivenFits given n [] = Unit {0}
  GivenFits given n (p ∷ ps) = ((v : Number V) → given n ≡ Some v → FitsParameter valid (Some p) v) × GivenFits given (n + 1) ps

  values_fit : (given : ℕ → Option (Number V)) (n : ℕ) (before : List (Number V)) → length before ≡ n → AllValid before → (ps : List Parameter) → GivenFits given n ps
      → IfGives (λ vs. (rest : List (Number V)) × (vs ≡ before ++ rest) × Fit rest ps) (values_from M o given before ps)
  values_fit given n before e h [] k = ([], sym (append-nil before), tt)
  values_fit given n before e h (p ∷ ps) k =
      then_if (FitsParameter valid (Some p)) _ (parameter_value M o before p (given (length before))) _
      (parameter_fits before h p (given (length before)) (λ v f. k.0 v (ap given (sym e) ∙ f)))
      (λ v f. then_weaker (values_from M o given (before ++ v ∷ []) ps)
      (values_fit given (n + 1) (before ++ v ∷ []) (omega (arith, length-append before (v ∷ []), e)) (one_more_valid before v h f.value) ps k.1)
      (λ vs w. (v ∷ w.0, w.1 ∙ append_assoc before (v ∷ []) w.0, (f, w.2))))
    where
      then_weaker : {A : Type 0} {P Q : A → Type 0} (a : Outcome Reason A) → IfGives P a → ((x : A) → P x → Q x) → IfGives Q a
      then_weaker (gives x) h k = k x h
      then_weaker (ends e) h k = tt

  all_given_fit : (given : ℕ → Option (Number V)) (n : ℕ) (ps : List Parameter)
      → ((i : ℕ) (v : Number V) → given (n + i) ≡ Some v → FitsParameter valid (slice_get ps i) v) → GivenFits given n ps
  all_given_fit given n [] h = tt
  all_given_fit given n (p ∷ ps) h = (
    λ v e. h 0 v (ap given (let same : n + 0 ≡ n = omega arith in same) ∙ e),
    all_given_fit given (n + 1) ps (λ i v e. h (suc i) v (ap given (let same : n + suc i ≡ n + 1 + i = omega arith in same) ∙ e)),
  )

  chosen_fits : (q : Option Parameter) (i m : Option (Number V)) (b c : Bool) → ((v : Number V) → m ≡ Some v → FitsParameter valid q v)
      → ((v : Number V) → i ≡ Some v → FitsParameter valid q v) → (v : Number V)
      → (if b then None else (if c then else_given i m else m)) ≡ Some v → FitsParameter valid q v
  chosen_fits q i m true c h k v e = cc (e)
  chosen_fits q (Some w) m false true h k v e = k v e
  chosen_fits q None m false true h k v e = h v e
  chosen_fits q i m false false h k v e = h v e

  counted_fits : (q : Option Parameter) (i m : Option (Number V)) → ((v : Number V) → m ≡ Some v → FitsParameter valid q v)
      → ((v : Number V) → i ≡ Some v → FitsParameter valid q v) → (v : Number V) → counts_on_instance q m i ≡ Some v → FitsParameter valid q v
  counted_fits None i m h k v e = cc (e)
  counted_fits (Some p) i m h k v e = chosen_fits (Some p) i m p.local p.of_instance h k v e

  level_fits : (given : ℕ → Option (Number V)) → GivenFits given 0 M.parameters → IfGives (λ (lev : Level V). Fit lev.values M.parameters) (level M o given)
  level_fits given h =
      then_if (λ vs. (rest : List (Number V)) × (vs ≡ [] ++ rest) × Fit rest M.parameters) _ (values_from M o given [] M.parameters) _ (values_fit given 0 [] refl tt M.parameters h)
      (λ vs w. then_if (λ (errors : List ℕ). Unit {0}) _ (errors_from M o vs 0 M.parameters) _ (anything (errors_from M o vs 0 M.parameters))
      (λ errors i. subst (λ (vs : List (Number V)). Fit vs M.parameters) (sym w.1) w.2))

  fit_long : (vs : List (Number V)) (ps : List Parameter) → Fit vs ps → length vs ≡ length ps
  fit_long [] [] h = refl
  fit_long [] (q ∷ ps) h = absurd h
  fit_long (v ∷ vs) [] h = absurd h
  fit_long (v ∷ vs) (q ∷ ps) h = ap suc (fit_long vs ps h.1)

  counted_on_model : (q : Option Parameter) (m : Option (Number V)) → ((v : Number V) → m ≡ Some v → FitsParameter valid q v)
      → (v : Number V) → counts_on_model q m ≡ Some v → FitsParameter valid q v
  counted_on_model None m h v e = cc (e)
  counted_on_model (Some p) m h v e = h v (kept p.local m v e)
    where
      kept : (b : Bool) (m : Option (Number V)) (v : Number V) → (if b then None else m) ≡ Some v → m ≡ Some v
      kept true m v e = cc (e)
      kept false m v e = e

  level_is_fit : (given : ℕ → Option (Number V)) → GivenFits given 0 M.parameters → (lev : Level V) → level M o given ≡ gives lev → LevelFits M o valid lev
  level_is_fit given h lev e =
      let fit = subst (λ (a : Outcome Reason (Level V)). IfGives (λ (lev : Level V). Fit lev.values M.parameters) a) e (level_fits given h) in
      record { long = fit_long lev.values M.parameters fit; values = fits_there lev.values M.parameters fit }

  given_from : (given : ℕ → Option (Number V)) → ((i : ℕ) (v : Number V) → given i ≡ Some v → FitsParameter valid (slice_get M.parameters i) v)
      → GivenFits given 0 M.parameters
  given_from given h =
      all_given_fit given 0 M.parameters (λ i v e. h i v (ap given (let same : i ≡ 0 + i = omega arith in same) ∙ e))

  model_fits : (settings : Settings V) → SettingsFit M valid settings → (lev : Level V) → model_level M o settings ≡ gives lev → LevelFits M o valid lev
  model_fits settings h =
      level_is_fit (given_to_model M o settings)
      (given_from (given_to_model M o settings)
      (λ i v e. counted_on_model (slice_get M.parameters i) (settings.model i) (h.on_model i) v e))

  instance_fits : (settings : Settings V) → SettingsFit M valid settings → (lev : Level V) → instance_level M o settings ≡ gives lev → LevelFits M o valid lev
  instance_fits settings h =
      level_is_fit (given_to_instance M o settings)
      (given_from (given_to_instance M o settings)
      (λ i v e. counted_fits (slice_get M.parameters i) (settings.instance i) (settings.model i) (h.on_model i) (h.on_instance i) v e))

pub points_of_set_ups : {V : Type 0} (o : Operations V) (valid unit : V → Type 0) → IsAlgebra o valid unit → PointsOfSetUps V o valid
points_of_set_ups o valid unit l = record {
  model = λ M settings h lev e. model_fits M o valid unit l settings h lev e;
  instance = λ M settings h lev e. instance_fits M o valid unit l settings h lev e;
  valid_point = λ M settings given temperature unknowns h t u lev e. record {
    parameters = λ p. ((instance_fits M o valid unit l settings h lev e).values p).value;
    temperature = t;
    unknowns = u;
  };
  typed_point = λ M settings given temperature unknowns h lev e p. ((instance_fits M o valid unit l settings h lev e).values p).ty;
}

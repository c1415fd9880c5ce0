-- What holds of every set-up over every algebra.
use Rattle.std.specs.Prelude.{◌≡◌, ℕ, ◌<◌, ◌==◌, ◌||◌, Bool, true, false, List, [], ◌∷◌, length, get_or, Option, Some, None, option_map}
use Rattle.std.specs.List.{AllByRecursion, list_any, slice_get}
use Rattle.alg_laws.specs.declared.dual.Dual.{Dual}
use Rattle.alg_laws.specs.declared.number.Number.{Number}
use Rattle.alg_laws.specs.declared.number.Ty.{Ty}
use Rattle.alg_laws.specs.declared.number.Ty.TheVariants.{Real}
use Rattle.alg_laws.specs.Dual.{dual}
use Rattle.alg_laws.specs.NumberOps.{type_of as type_of_number}
use Rattle.alg_laws.specs.NumberParts.{main_of, lifted, NumberValid}
use Rattle.alg_laws.specs.Operations.{Operations}
use Rattle.alg_laws.specs.Outcome.{gives}
use Rattle.alg_laws.specs.Related.{OutcomesRelated, ListsRelated, NumbersRelated, HasMain, IsLifted}
use Rattle.va_meaning.specs.Elaborated.{Elaborated, Parameter, Range}
use Rattle.va_meaning.specs.EvaluationLaws.{PointValid}
use Rattle.va_meaning.specs.SetUp.{Settings, Level, breaks, model_level, instance_level, was_given, point_of}
use Rattle.va_meaning.specs.Values.{no_value}

-- the type of a parameter by its number
abbrev pub parameter_type : Option Parameter → Ty
parameter_type None = Real
parameter_type (Some p) = p.ty

-- a valid value of a parameter's type
pub record FitsParameter {V : Type 0} (valid : V → Type 0) (p : Option Parameter) (v : Number V) : Type 0 where
  pub value : NumberValid valid v
  pub ty : type_of_number v ≡ parameter_type p

-- What is given for each parameter is a valid value of its type.
pub record SettingsFit {V : Type 0} (M : Elaborated) (valid : V → Type 0) (settings : Settings V) : Type 0 where
  pub on_model : (p : ℕ) (v : Number V) → settings.model p ≡ Some v → FitsParameter valid (slice_get M.parameters p) v
  pub on_instance : (p : ℕ) (v : Number V) → settings.instance p ≡ Some v → FitsParameter valid (slice_get M.parameters p) v

-- On a level that fits each parameter has a valid value of its type, and there is one for each.
pub record LevelFits {V : Type 0} (M : Elaborated) (o : Operations V) (valid : V → Type 0) (level : Level V) : Type 0 where
  pub long : length level.values ≡ length M.parameters
  pub values : (p : ℕ) → FitsParameter valid (slice_get M.parameters p) (get_or level.values p (no_value o))

-- From such settings both levels of set-up fit, and an instance, with a valid temperature and valid unknowns, has a valid point, at
-- which each parameter has a value of its type, whichever are marked as given.
pub record PointsOfSetUps (V : Type 0) (o : Operations V) (valid : V → Type 0) : Type 0 where
  pub model : (M : Elaborated) (settings : Settings V) → SettingsFit M valid settings → (level : Level V)
      → model_level M o settings ≡ gives level → LevelFits M o valid level
  pub instance : (M : Elaborated) (settings : Settings V) → SettingsFit M valid settings → (level : Level V)
      → instance_level M o settings ≡ gives level → LevelFits M o valid level
  pub valid_point : (M : Elaborated) (settings : Settings V) (given : ℕ → Bool) (temperature : V) (unknowns : ℕ → V) → SettingsFit M valid settings
      → valid temperature → ((i : ℕ) → valid (unknowns i)) → (level : Level V) → instance_level M o settings ≡ gives level
      → PointValid valid (point_of M o given level.values temperature unknowns)
  pub typed_point : (M : Elaborated) (settings : Settings V) (given : ℕ → Bool) (temperature : V) (unknowns : ℕ → V) → SettingsFit M valid settings
      → (level : Level V) → instance_level M o settings ≡ gives level
      → (p : ℕ) → type_of_number ((point_of M o given level.values temperature unknowns).parameters p) ≡ parameter_type (slice_get M.parameters p)

-- What the ranges of a parameter answer of a value, each of them evaluated: whether it breaks one.
abbrev pub RangesAnswer : {V : Type 0} → Elaborated → Operations V → List (Number V) → List Range → Number V → Bool → Type 0
RangesAnswer M o values [] v out = out ≡ false
RangesAnswer M o values (range ∷ rest) v out =
    (first : Bool) × (others : Bool) × (breaks M o values range v ≡ gives first) × (out ≡ (first || others)) × RangesAnswer M o values rest v others

-- whether a number is in a list
abbrev pub is_listed : List ℕ → ℕ → Bool
is_listed numbers p = list_any (λ n. n == p) numbers

-- Each number is below those after it.
abbrev pub IsAscending : List ℕ → Type 0
IsAscending [] = Unit {0}
IsAscending (n ∷ rest) = AllByRecursion (λ m. n < m) rest × IsAscending rest

-- The errors of a level are numbers of parameters in order of declaration, each once: of those whose value breaks one of their ranges. A
-- `localparam` is none of them.
pub record ErrorsTell {V : Type 0} (M : Elaborated) (o : Operations V) (level : Level V) : Type 0 where
  pub ascending : IsAscending level.errors
  pub parameters : AllByRecursion (λ p. p < length M.parameters) level.errors
  pub local : (p : ℕ) (q : Parameter) → slice_get M.parameters p ≡ Some q → q.local ≡ true → is_listed level.errors p ≡ false
  pub tested : (p : ℕ) (q : Parameter) → slice_get M.parameters p ≡ Some q → q.local ≡ false
      → RangesAnswer M o level.values q.ranges (get_or level.values p (no_value o)) (is_listed level.errors p)

-- So they are on both levels.
pub record ErrorsOfSetUps (V : Type 0) (o : Operations V) (valid : V → Type 0) : Type 0 where
  pub model : (M : Elaborated) (settings : Settings V) (level : Level V) → model_level M o settings ≡ gives level → ErrorsTell M o level
  pub instance : (M : Elaborated) (settings : Settings V) (level : Level V) → instance_level M o settings ≡ gives level → ErrorsTell M o level

-- levels with related values and the same errors
pub record LevelsRelated {V W : Type 0} (R : V → W → Type 0) (a : Level V) (b : Level W) : Type 0 where
  pub values : ListsRelated (NumbersRelated R) a.values b.values
  pub errors : a.errors ≡ b.errors

-- the mains of settings, and settings that don't move
abbrev pub main_settings : {V : Type 0} → Settings (Dual V) → Settings V
main_settings settings = record { model = λ p. option_map main_of (settings.model p); instance = λ p. option_map main_of (settings.instance p) }

abbrev pub lifted_settings : {V : Type 0} → Operations V → Settings V → Settings (Dual V)
lifted_settings o settings =
    record { model = λ p. option_map (lifted o) (settings.model p); instance = λ p. option_map (lifted o) (settings.instance p) }

-- Over dual numbers both levels have the mains that they have below and the same errors, or both are undefined for the same reason. So
-- a set-up is defined exactly where it is below. The same parameters are given.
pub record MainsOfSetUps (V : Type 0) (o : Operations V) (valid : V → Type 0) : Type 0 where
  pub model : (M : Elaborated) (settings : Settings (Dual V))
      → OutcomesRelated (LevelsRelated HasMain) (model_level M (dual o) settings) (model_level M o (main_settings settings))
  pub instance : (M : Elaborated) (settings : Settings (Dual V))
      → OutcomesRelated (LevelsRelated HasMain) (instance_level M (dual o) settings) (instance_level M o (main_settings settings))
  pub given : (M : Elaborated) (settings : Settings (Dual V)) (p : ℕ) → was_given M (dual o) settings p ≡ was_given M o (main_settings settings) p

-- What is given for each parameter is valid.
pub record SettingsValid {V : Type 0} (valid : V → Type 0) (settings : Settings V) : Type 0 where
  pub on_model : (p : ℕ) (v : Number V) → settings.model p ≡ Some v → NumberValid valid v
  pub on_instance : (p : ℕ) (v : Number V) → settings.instance p ≡ Some v → NumberValid valid v

-- Where no setting moves, no value does: over dual numbers both levels have the lifted values of those below and the same errors. The
-- same parameters are given.
pub record LiftsOfSetUps (V : Type 0) (o : Operations V) (valid : V → Type 0) : Type 0 where
  pub model : (M : Elaborated) (settings : Settings V) → SettingsValid valid settings
      → OutcomesRelated (LevelsRelated (IsLifted o valid)) (model_level M (dual o) (lifted_settings o settings)) (model_level M o settings)
  pub instance : (M : Elaborated) (settings : Settings V) → SettingsValid valid settings
      → OutcomesRelated (LevelsRelated (IsLifted o valid)) (instance_level M (dual o) (lifted_settings o settings)) (instance_level M o settings)
  pub given : (M : Elaborated) (settings : Settings V) (p : ℕ) → was_given M (dual o) (lifted_settings o settings) p ≡ was_given M o settings p

-- Set-up: the values of parameters on the model and on the instance, and which of them are out of range (Parameters).
use Rattle.std.specs.Prelude.{ℕ, ◌+◌, Bool, true, false, not, ◌&&◌, ◌||◌, if◌then◌else◌, List, [], ◌∷◌, ◌++◌, Option, Some, None, length, map, get_or}
use Rattle.std.specs.List.{slice_get}
use Rattle.std.specs.Option.{is_some}
use Rattle.alg_laws.specs.declared.number.Number.{Number}
use Rattle.alg_laws.specs.declared.number.Reason.{Reason}
use Rattle.alg_laws.specs.NumberOps.{converted, is_less, is_at_most, is_same}
use Rattle.alg_laws.specs.Operations.{Operations}
use Rattle.alg_laws.specs.Outcome.{Outcome, gives, ◌>>=◌}
use Rattle.alg_laws.specs.declared.dual.Dual.{Dual}
use Rattle.va_meaning.specs.Residuals.{in_parts}
use Rattle.va_tree.specs.Expressions.{Expression, literal, infinity, name, group, unary, binary, choose, call}
use Rattle.va_meaning.specs.Elaborated.{Elaborated, Parameter, Range, from, exclude, exclude_value, Interval, End}
use Rattle.va_meaning.specs.Evaluation.{evaluated}
use Rattle.va_meaning.specs.Rows.{row}
use Rattle.va_meaning.specs.Points.{Point, Context, Result, State, unanswered}
use Rattle.va_meaning.specs.Values.{no_value, value_of}

-- What is given for the parameters, by their numbers: on the model, and on the instance.
pub record Settings (V : Type 0) : Type 0 where
  pub model : ℕ → Option (Number V)
  pub instance : ℕ → Option (Number V)

-- the given value, else another one
abbrev pub else_given : {A : Type 0} → Option A → Option A → Option A
else_given (Some x) other = Some x
else_given None other = other

module _ {V : Type 0} (M : Elaborated) (o : Operations V) where
  -- What a set-up knows where the first parameters have these values: nothing else than them.
  abbrev pub knowing : List (Number V) → Context Reason V
  knowing values = record {
    ops = o;
    derivative = o.zero;
    point = record { parameters = λ p. get_or values p (no_value o); given = λ p. false; temperature = o.zero; unknowns = λ i. o.zero };
    bound = 0;
    stops = λ reason. reason;
    answers = unanswered o;
  }

  -- the value of a constant expression over the values of parameters
  abbrev pub constant_value : List (Number V) → Expression → Result Reason V
  constant_value values e = value_of M (knowing values) (λ f outs. gives (no_value o)) 0 e (λ x. no_value o)

  -- a parameter's value: the given one, else the default over the values before it, converted to the parameter's type
  abbrev pub parameter_value : List (Number V) → Parameter → Option (Number V) → Result Reason V
  parameter_value before p (Some v) = gives v
  parameter_value before p None = constant_value before p.default >>= converted o p.ty

  -- the values of parameters, in order of declaration, after those before them
  abbrev pub values_from : (ℕ → Option (Number V)) → List (Number V) → List Parameter → Outcome Reason (List (Number V))
  values_from given before [] = gives before
  values_from given before (p ∷ rest) = do
    v ← parameter_value before p (given (length before))
    values_from given (before ++ v ∷ []) rest

  abbrev pub holds_infinity : Expression → Bool
  holds_infinity (infinity at) = true
  holds_infinity (unary at op e) = holds_infinity e
  holds_infinity (literal at value integer) = false
  holds_infinity (name at bytes) = false
  holds_infinity (group at e) = false
  holds_infinity (binary at a op b) = false
  holds_infinity (choose at test a b) = false
  holds_infinity (call at callee bytes args) = false

  -- Whether a value keeps an end of an interval, by a test of two values in order, which is strict where the end is open. An end
  -- that holds `inf` tests nothing.
  abbrev pub above : List (Number V) → End → Number V → Outcome Reason Bool
  above values end v =
      if holds_infinity end.value then gives true
      else (constant_value values end.value >>= λ low. gives (if end.closed then is_at_most o low v else is_less o low v))

  abbrev pub below : List (Number V) → End → Number V → Outcome Reason Bool
  below values end v =
      if holds_infinity end.value then gives true
      else (constant_value values end.value >>= λ high. gives (if end.closed then is_at_most o v high else is_less o v high))

  abbrev pub is_in : List (Number V) → Interval → Number V → Outcome Reason Bool
  is_in values interval v = do
    over ← above values interval.low v
    under ← below values interval.high v
    gives (over && under)

  -- whether a value breaks a condition: it misses an interval, or is excluded
  abbrev pub breaks : List (Number V) → Range → Number V → Outcome Reason Bool
  breaks values (from interval) v = is_in values interval v >>= λ inside. gives (not inside)
  breaks values (exclude interval) v = is_in values interval v
  breaks values (exclude_value e) v = constant_value values e >>= λ w. gives (is_same o v w)

  -- whether it breaks one of several, all of which are evaluated
  abbrev pub breaks_one : List (Number V) → List Range → Number V → Outcome Reason Bool
  breaks_one values [] v = gives false
  breaks_one values (range ∷ rest) v = do
    first ← breaks values range v
    others ← breaks_one values rest v
    gives (first || others)

  -- The parameters that are out of range, in order, from number p on. A `localparam` is never tested.
  abbrev pub errors_from : List (Number V) → ℕ → List Parameter → Outcome Reason (List ℕ)
  errors_from values p [] = gives []
  errors_from values p (parameter ∷ rest) = do
    out ← if parameter.local then gives false else breaks_one values parameter.ranges (get_or values p (no_value o))
    errors ← errors_from values (p + 1) rest
    gives (if out then p ∷ errors else errors)

-- what a level of set-up gives: the values of the parameters, and the numbers of those out of range
pub record Level (V : Type 0) : Type 0 where
  pub values : List (Number V)
  pub errors : List ℕ

-- what of the settings counts for a parameter on the model; for a `localparam` nothing does
abbrev pub counts_on_model : {A : Type 0} → Option Parameter → Option A → Option A
counts_on_model None on_model = None
counts_on_model (Some p) on_model = if p.local then None else on_model

-- and on an instance: what is given there, if it is an instance parameter, else what is given on the model
abbrev pub counts_on_instance : {A : Type 0} → Option Parameter → Option A → Option A → Option A
counts_on_instance None on_model on_instance = None
counts_on_instance (Some p) on_model on_instance =
    if p.local then None else if p.of_instance then else_given on_instance on_model else on_model

module _ {V : Type 0} (M : Elaborated) (o : Operations V) where
  -- the values by what is given, and then the ranges
  abbrev pub level : (ℕ → Option (Number V)) → Outcome Reason (Level V)
  level given = do
    values ← values_from M o given [] M.parameters
    errors ← errors_from M o values 0 M.parameters
    gives (record { values = values; errors = errors })

  abbrev pub given_to_model : Settings V → ℕ → Option (Number V)
  given_to_model settings p = counts_on_model (slice_get M.parameters p) (settings.model p)

  -- set-up of the model
  abbrev pub model_level : Settings V → Outcome Reason (Level V)
  model_level settings = level (given_to_model settings)

  abbrev pub given_to_instance : Settings V → ℕ → Option (Number V)
  given_to_instance settings p = counts_on_instance (slice_get M.parameters p) (settings.model p) (settings.instance p)

  -- set-up of an instance
  abbrev pub instance_level : Settings V → Outcome Reason (Level V)
  instance_level settings = level (given_to_instance settings)

  -- whether a parameter was given, on the model or on the instance
  abbrev pub was_given : Settings V → ℕ → Bool
  was_given settings p = is_some (given_to_instance settings p)

  -- The point of an instance: its values, and which parameters were given. These marks stand apart from the settings whose values are
  -- taken: a setting that only moves a parameter over dual numbers doesn't give it.
  abbrev pub point_of : (ℕ → Bool) → List (Number V) → V → (ℕ → V) → Point V
  point_of given values temperature unknowns = record {
    parameters = λ p. get_or values p (no_value o);
    given = given;
    temperature = temperature;
    unknowns = unknowns;
  }

-- What set-up of model and instance and an evaluation give: both levels, how the evaluation ends, and the residuals in two parts.
pub record Answer (V : Type 0) : Type 0 where
  pub model : Level V
  pub instance : Level V
  pub last : State (Dual V)
  pub rows : List (Dual V)

abbrev pub evaluated_after : {V : Type 0} → Elaborated → Context Reason (Dual V) → Level V → Level V → Outcome Reason (Answer V)
evaluated_after M c model instance = do
  last ← evaluated M c
  gives (record { model = model; instance = instance; last = last; rows = map (row M c last) M.unknowns })

-- The model's level comes first, then the instance's, then the evaluation at the instance's point.
abbrev pub answer : {V : Type 0} → Elaborated → Operations V → Settings V → V → (ℕ → V) → ℕ → Outcome Reason (Answer V)
answer M o settings temperature unknowns n = do
  model ← model_level M o settings
  instance ← instance_level M o settings
  evaluated_after M (in_parts o (point_of M o (was_given M o settings) instance.values temperature unknowns) n) model instance

-- the collapse flags: the marks of the collapsing branches
abbrev pub collapse_flags : {V : Type 0} → Elaborated → State V → List Bool
collapse_flags M s = map s.marks M.collapsing

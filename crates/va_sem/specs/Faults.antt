-- The faults of a tree in the phases of names, types and rules: which one is answered, and when a text keeps all rules.
use Rattle.std.specs.Prelude.{◌≡◌, ◌^◌, zero, ℤ, pos, Bool, true, false, ◌==◌, ◌&&◌, ◌||◌, nat_lt, List, [], ◌∷◌, flat_map, Option, Some, None, if◌then◌else◌, All, Contains, IsTrue, slice_get}
use Rattle.va_base.specs.declared.exact.Decimal.{Decimal}
use Rattle.va_base.specs.declared.expanded.Expanded.{Expanded}
use Rattle.va_base.specs.declared.fault.Fault.{Fault}
use Rattle.va_base.specs.declared.fault.Phase.{Phase}
use Rattle.va_base.specs.declared.fault.Phase.TheVariants as phase
use Rattle.va_base.specs.declared.token.Token.{Token}
use Rattle.va_base.specs.Faults.{ComesBefore, number_of_code}
use Rattle.va_base.specs.Numerals.{is_within_limits}
use Rattle.va_tree.specs.declared.source.Source.{Source}
use Rattle.va_tree.specs.declared.module.Module.{Module}
use Rattle.va_tree.specs.Expressions.{Expression, literal}
use Rattle.va_tree.specs.Preorder.{expressions_of_source}
use Rattle.va_sem.specs.declared.names.Names.{Names}
use Rattle.va_sem.specs.declared.names.ModuleNames.{ModuleNames}
use Rattle.va_sem.specs.Meanings.{names_of}
use Rattle.va_sem.specs.NamesFaults.{FaultAt, names_faults}
use Rattle.va_sem.specs.Typing.{typing_of, modules_with}
use Rattle.va_sem.specs.TypesFaults.{types_faults}
use Rattle.va_sem.specs.rules.ModuleBody.{body_of}
use Rattle.va_sem.specs.rules.Limits.{Limits, limits}
use Rattle.va_sem.specs.rules.Faults.{broken_rules}

abbrev pub module_rules_faults : Limits → Module × ModuleNames → List FaultAt
module_rules_faults most (m, names) = broken_rules most (typing_of names.uses m) names (body_of m)

-- the faults of rules of a text with these names
abbrev pub rules_faults : Source → Names → List FaultAt
rules_faults s names = flat_map (module_rules_faults limits) (modules_with s names)

-- A fault of a phase, whose faults are these, stands in a text.
pub record Stands (e : Expanded) (phase : Phase) (faults : List FaultAt) (f : Fault) : Type 0 where
  pub phase_is : f.phase ≡ phase
  pub stands : Contains faults (f.at, f.code)
  pub token : Token
  pub token_is : slice_get e.tokens f.at ≡ Some token
  pub place : f.place ≡ token.place

-- The answered one of a phase: it stands, and none that stands comes before it.
pub record IsLeast (e : Expanded) (phase : Phase) (faults : List FaultAt) (f : Fault) : Type 0 where
  pub stands : Stands e phase faults f
  pub least : (g : Fault) → Stands e phase faults g → ComesBefore g f → ⊥

-- The answered fault of a text's tree: a phase is looked at only where the phases before it have no fault.
pub data Answered (e : Expanded) (s : Source) (f : Fault) : Type 0 where
  of_names : IsLeast e phase.Names (names_faults s) f → Answered e s f
  of_types : names_faults s ≡ [] → IsLeast e phase.Types (types_faults s (names_of s)) f → Answered e s f
  of_rules : names_faults s ≡ [] → types_faults s (names_of s) ≡ [] → IsLeast e phase.Rules (rules_faults s (names_of s)) f → Answered e s f

-- A fault stands in a text in one of the three phases.
pub data StandsIn (e : Expanded) (s : Source) (f : Fault) : Type 0 where
  among_names : Stands e phase.Names (names_faults s) f → StandsIn e s f
  among_types : Stands e phase.Types (types_faults s (names_of s)) f → StandsIn e s f
  among_rules : Stands e phase.Rules (rules_faults s (names_of s)) f → StandsIn e s f

-- The least of all that stand: by phase, then by token, then by the number of the code.
pub record IsLeastOfAll (e : Expanded) (s : Source) (f : Fault) : Type 0 where
  pub stands : StandsIn e s f
  pub least : (g : Fault) → StandsIn e s g → ComesBefore g f → ⊥

-- no rule is broken
pub record KeepsRules (s : Source) : Type 0 where
  pub names : names_faults s ≡ []
  pub types : types_faults s (names_of s) ≡ []
  pub rules : rules_faults s (names_of s) ≡ []

-- Each numeral lies within the limits, and one of type integer is a whole number of 31 bits (Numbers).
abbrev pub is_zero : ℤ → Bool
is_zero (pos zero) = true
is_zero other = false

abbrev pub is_numeral : Bool → Decimal → Bool
is_numeral true d = is_zero d.power && nat_lt d.mantissa (2 ^ 31)
is_numeral false d = is_within_limits d

abbrev pub numeral_is_sound : Expression → Bool
numeral_is_sound (literal at value integer) = is_numeral integer value
numeral_is_sound other = true

abbrev pub HasSoundNumerals : Source → Type 0
HasSoundNumerals s = All (λ e. IsTrue (numeral_is_sound e)) (expressions_of_source s)

-- One fault before another of its phase: by the token, and at one token by the number of the code.
abbrev pub is_before : FaultAt → FaultAt → Bool
is_before a b = nat_lt a.0 b.0 || a.0 == b.0 && nat_lt (number_of_code a.1) (number_of_code b.1)

abbrev pub earlier_of : FaultAt → Option FaultAt → FaultAt
earlier_of a None = a
earlier_of a (Some b) = if is_before b a then b else a

-- the least of some faults
abbrev pub least_of : List FaultAt → Option FaultAt
least_of [] = None
least_of (a ∷ rest) = Some (earlier_of a (least_of rest))

-- that of the first phase that has one
abbrev pub first_of : Option FaultAt → Option FaultAt → Option FaultAt
first_of None later = later
first_of (Some a) later = Some a

-- the token and the code of the answered fault
abbrev pub answered : Source → Option FaultAt
answered s =
    let names = names_of s in
    first_of (least_of (names_faults s)) (first_of (least_of (types_faults s names)) (least_of (rules_faults s names)))

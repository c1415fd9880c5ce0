-- What the least of some faults is, and that one fault of a text is answered exactly where a rule is broken.
use Rattle.std.specs.Prelude.{◌≡◌, ◌<◌, ◌⊎◌, ◌++◌, false, List, [], Option, Some, None, Contains, length, slice_get}
use Rattle.va_base.specs.declared.expanded.Expanded.{Expanded}
use Rattle.va_base.specs.declared.fault.Fault.{Fault}
use Rattle.va_base.specs.declared.fault.Phase.{Phase}
use Rattle.va_base.specs.declared.token.Token.{Token}
use Rattle.va_tree.specs.declared.source.Source.{Source}
use Rattle.va_sem.specs.NamesFaults.{FaultAt}
use Rattle.va_sem.specs.Faults.{IsLeast, Answered, IsLeastOfAll, KeepsRules, answered, is_before, earlier_of, least_of}

-- The least fault of a phase is the one that is answered, with the place of its token; there is none only where no fault stands.
pub record LeastIsAnswered : Type 0 where
  pub some : (e : Expanded) (phase : Phase) (faults : List FaultAt) (f : Fault) (token : Token)
      → f.phase ≡ phase → least_of faults ≡ Some (f.at, f.code) → slice_get e.tokens f.at ≡ Some token → f.place ≡ token.place
      → IsLeast e phase faults f
  pub none : (faults : List FaultAt) → least_of faults ≡ None → faults ≡ []

-- the earlier of two faults of a phase, where there are such
abbrev pub earlier : Option FaultAt → Option FaultAt → Option FaultAt
earlier None other = other
earlier (Some a) other = Some (earlier_of a other)

-- The least of a list of faults can be found part by part, and in any order: it is the one that is there and that none comes before.
pub record LeastByParts : Type 0 where
  pub of_parts : (first second : List FaultAt) → least_of (first ++ second) ≡ earlier (least_of first) (least_of second)
  pub there : (faults : List FaultAt) (m : FaultAt) → least_of faults ≡ Some m → Contains faults m
  pub least : (faults : List FaultAt) (m other : FaultAt) → least_of faults ≡ Some m → Contains faults other → is_before other m ≡ false
  pub only : (faults : List FaultAt) (m : FaultAt) → Contains faults m → ((other : FaultAt) → Contains faults other → is_before other m ≡ false)
      → least_of faults ≡ Some m

-- a fault that is answered, with its token and its code
pub record IsAnsweredAt (e : Expanded) (s : Source) (at : FaultAt) (f : Fault) : Type 0 where
  pub stands : Answered e s f
  pub is_at : (f.at, f.code) ≡ at

-- the token of the answered fault is one of the text's
abbrev pub IsInText : Expanded → Source → Type 0
IsInText e s = (at : FaultAt) → answered s ≡ Some at → at.0 < length e.tokens

-- Over the three phases of names, types and rules: either no rule is broken, or a fault is answered, and never both. It is one fault
-- alone, the least of all that stand.
pub record OneFaultIsAnswered : Type 0 where
  pub either : (e : Expanded) (s : Source) → IsInText e s → KeepsRules s ⊎ ((f : Fault) × Answered e s f)
  pub never_both : (e : Expanded) (s : Source) (f : Fault) → KeepsRules s → Answered e s f → ⊥
  pub only : (e : Expanded) (s : Source) (f g : Fault) → Answered e s f → Answered e s g → f ≡ g
  pub least : (e : Expanded) (s : Source) (f : Fault) → Answered e s f → IsLeastOfAll e s f
  pub is_least : (e : Expanded) (s : Source) (f : Fault) → IsInText e s → IsLeastOfAll e s f → Answered e s f
  -- and it is what `answered` computes
  pub computed : (e : Expanded) (s : Source) (f : Fault) → Answered e s f → answered s ≡ Some (f.at, f.code)
  pub stands : (e : Expanded) (s : Source) (at : FaultAt) → answered s ≡ Some at → at.0 < length e.tokens → (f : Fault) × IsAnsweredAt e s at f
  pub none : (s : Source) → KeepsRules s → answered s ≡ None
  pub keeps : (s : Source) → answered s ≡ None → KeepsRules s

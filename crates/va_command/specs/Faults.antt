-- Faults as they are reported, and those of a text after expansion: of syntax, of size, and where it is not of the built form.
use Rattle.std.specs.Prelude.{◌≡◌, ◌⊎◌, ℕ, List, [], ◌∷◌, Option, Some, None, slice_get}
use Rattle.va_base.specs.declared.expanded.Expanded.{Expanded}
use Rattle.va_base.specs.declared.fault.Fault.{Fault}
use Rattle.va_base.specs.declared.fault.FaultCode.TheVariants as code
use Rattle.va_base.specs.declared.fault.Phase.TheVariants as phase
use Rattle.va_base.specs.declared.file.FileText.{FileText}
use Rattle.va_base.specs.declared.token.Token.{Token}
use Rattle.predict.specs.Sentence.{IsFirstBad}
use Rattle.va_tree.specs.declared.source.Source.{Source}
use Rattle.va_tree.specs.Size.{LeastSizeFault}
use Rattle.va_grammar.specs.Kinds.{kinds_of}
use Rattle.va_grammar.specs.Sets.{va_rules}
use Rattle.va_build.specs.SourceOf.{IsSourceOf, IsSourceWithinSize}
use Rattle.first_form.specs.Form.{FirstForm, IsSourceOfForm}
use Rattle.va_command.specs.declared.front.FrontErr.{FrontErr}
use Rattle.va_command.specs.declared.front.FrontErr.TheVariants as refusal

abbrev pub name_of : Option FileText → List ℕ
name_of None = []
name_of (Some file) = file.name

-- the name of a file by its number, empty where there is none of this number
abbrev pub file_name : List FileText → ℕ → List ℕ
file_name files number = name_of (slice_get files number)

-- the fault of a text that is not of the built form, as it stands at its first token
abbrev pub StandsFirst : Expanded → Fault → Type 0
StandsFirst e fault =
    (first : Token) × (rest : List Token) × (e.tokens ≡ first ∷ rest)
    × (fault ≡ record { phase = phase.Rules; at = 0; place = first.place; code = code.Unbuilt })

-- A text after expansion is no sentence of the grammar: this is its first bad token, up to which no sentence goes on, and
-- before which one does.
pub record IsSyntaxFault (e : Expanded) (fault : Fault) : Type 0 where
  pub phase : fault.phase ≡ phase.Syntax
  pub code : fault.code ≡ code.Syntax
  pub bad : IsFirstBad va_rules (kinds_of e) fault.at
  pub token : Token
  pub token_is : slice_get e.tokens fault.at ≡ Some token
  pub place : fault.place ≡ token.place

-- A text after expansion has a source, and this is the least fault of size that stands in it.
pub record IsSizeFault (e : Expanded) (fault : Fault) : Type 0 where
  pub source : Source
  pub is : IsSourceOf e source
  pub least : LeastSizeFault e source fault

-- A text after expansion has a source in which no fault of size stands, and which is not of the built form. The fault stands
-- at its first token.
pub record IsUnbuilt (e : Expanded) (fault : Fault) : Type 0 where
  pub stands : StandsFirst e fault
  pub source : Source
  pub within : IsSourceWithinSize e source
  pub no_form : (form : FirstForm) → IsSourceOfForm source form → ⊥

-- why a text after expansion has no source within the limits of size
abbrev pub IsFrontFault : Expanded → Fault → Type 0
IsFrontFault e fault = IsSyntaxFault e fault ⊎ IsSizeFault e fault

-- why a text after expansion is not compiled, by the order of the phases
abbrev pub IsTextFault : Expanded → Fault → Type 0
IsTextFault e fault = IsFrontFault e fault ⊎ IsUnbuilt e fault

-- the same, with the name of the file of its place
abbrev pub HasTextFault : Expanded → List ℕ → Fault → Type 0
HasTextFault e name fault = IsTextFault e fault × (name ≡ file_name e.files fault.place.file)

-- what is known where a text is refused
abbrev pub IsFrontCause : Expanded → FrontErr → Type 0
IsFrontCause e (refusal.Fault fault) = IsFrontFault e fault
IsFrontCause e refusal.NoMemory = Unit {0}

abbrev pub IsTextCause : Expanded → FrontErr → Type 0
IsTextCause e (refusal.Fault fault) = IsTextFault e fault
IsTextCause e refusal.NoMemory = Unit {0}

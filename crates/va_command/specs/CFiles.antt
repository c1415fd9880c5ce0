-- What is due where the tables of a C file are asked for: the tables of the file that its bytes spell, or the fault for which they
-- spell none.
use Rattle.std.specs.Prelude.{◌≡◌, ◌<◌, ◌≤◌, ◌⊎◌, ℕ, List, [], ◌∷◌, length, Option, None, Some}
use Rattle.va_base.specs.declared.fault.Fault.{Fault}
use Rattle.va_base.specs.declared.fault.FaultCode.{FaultCode}
use Rattle.va_base.specs.declared.fault.FaultCode.TheVariants.{FileLarge, Syntax, BadByte, CForm}
use Rattle.va_base.specs.declared.fault.Phase.TheVariants.{C}
use Rattle.va_base.specs.declared.place.Place.{Place}
use Rattle.va_base.specs.Tables.{tables_text}
use Rattle.va_io.specs.Outside.{Holdings, held}
use Rattle.va_preproc.specs.Answers.{Seen as FilesSeen, AsksFor, WhereTold}
use Rattle.c_tree.specs.declared.file.CFile.{CFile}
use Rattle.c_tree.specs.TablesOf.{tables_of}
use Rattle.c_syntax.specs.declared.error.CErr.{CErr}
use Rattle.c_syntax.specs.declared.error.CErr.TheVariants as error
use Rattle.c_syntax.specs.Places.{fault_place}
use Rattle.c_syntax.specs.Syntax.{IsSyntaxFault}
use Rattle.c_reader.specs.Reading.{IsFileOf, IsBadByte, IsFormFault}
use Rattle.va_report.specs.Reasons.{fault_line}
use Rattle.va_command.specs.declared.read_file.Refusal.{Refusal}
use Rattle.va_command.specs.declared.read_file.Refusal.TheVariants as refusal
use Rattle.va_command.specs.declared.status.Status.{Status}
use Rattle.va_command.specs.declared.status.Status.TheVariants.{Done, Refused, Usage, NoFile, ReadFault, WriteFault, NoMemory}

-- the most bytes of a C file that is read
abbrev pub most_bytes : ℕ
most_bytes = 67108864

-- where it is told, the file of the words holds these bytes, and no other file was asked for
abbrev pub IsText : Option Holdings → FilesSeen → List ℕ → List ℕ → Type 0
IsText holds files file bytes = AsksFor files (file ∷ []) × WhereTold holds (λ h. held h file ≡ Some bytes)

-- why the reader does not read these bytes
abbrev pub IsReaderFault : List ℕ → CErr → Type 0
IsReaderFault bytes (error.BadByte at) = IsBadByte bytes at
IsReaderFault bytes (error.Syntax at) = IsSyntaxFault bytes at
IsReaderFault bytes (error.Form at) = IsFormFault bytes at
IsReaderFault bytes error.NoMemory = ⊥

-- by which code that is reported
abbrev pub IsCodeOf : CErr → FaultCode → Type 0
IsCodeOf (error.BadByte at) code = code ≡ BadByte
IsCodeOf (error.Syntax at) code = code ≡ Syntax
IsCodeOf (error.Form at) code = code ≡ CForm
IsCodeOf error.NoMemory code = ⊥

-- there are too many bytes
abbrev pub IsTooLong : List ℕ → Place → FaultCode → Type 0
IsTooLong bytes place code =
    (most_bytes < length bytes) × (place ≡ record { file = 0; line = 1; col = 1 }) × (code ≡ FileLarge)

-- The fault for which these bytes are refused, at this place: there are too many; or a byte begins no token; or the grammar does
-- not spell them; or they break a rule of form.
abbrev pub IsCFault : List ℕ → Place → FaultCode → Type 0
IsCFault bytes place code =
    IsTooLong bytes place code
    ⊎ ((length bytes ≤ most_bytes) × ((e : CErr) × IsReaderFault bytes e × IsCodeOf e code × (place ≡ fault_place bytes e)))

-- the line of such a fault, which tells of it no more than the place and the code
abbrev pub c_fault_line : List ℕ → Place → FaultCode → List ℕ
c_fault_line name place code = fault_line name (record { phase = C; at = 0; place = place; code = code })

-- the bytes spell this C file, and are not too many
abbrev pub IsCFileOf : List ℕ → CFile → Type 0
IsCFileOf bytes f = (length bytes ≤ most_bytes) × IsFileOf bytes f

-- the tables of the C file that the bytes spell
abbrev pub IsTables : List ℕ → List ℕ → Type 0
IsTables bytes text = (f : CFile) × IsCFileOf bytes f × (text ≡ tables_text (tables_of f))

-- What is due for these bytes of a file.
abbrev pub IsDueOfBytes : List ℕ → List ℕ → Status → List ℕ → Type 0
IsDueOfBytes file bytes Done text = IsTables bytes text
IsDueOfBytes file bytes Refused text = (place : Place) × (code : FaultCode) × IsCFault bytes place code × (text ≡ c_fault_line file place code)
IsDueOfBytes file bytes _ text = ⊥

-- the same for the file of the words
abbrev pub IsDueOfText : Option Holdings → FilesSeen → List ℕ → Status → List ℕ → Type 0
IsDueOfText holds files file status text = (bytes : List ℕ) × IsText holds files file bytes × IsDueOfBytes file bytes status text

-- What the files hold decides how the tables of a C file are answered.
abbrev pub ReadEnds : Holdings → List ℕ → Status → Type 0
ReadEnds h file Done = (bytes : List ℕ) × (held h file ≡ Some bytes) × ((f : CFile) × IsCFileOf bytes f)
ReadEnds h file Refused = (bytes : List ℕ) × (held h file ≡ Some bytes) × ((f : CFile) → IsCFileOf bytes f → ⊥)
ReadEnds h file NoFile = held h file ≡ None
ReadEnds h file Usage = ⊥
ReadEnds h file ReadFault = ⊥
ReadEnds h file WriteFault = ⊥
ReadEnds h file NoMemory = ⊥

-- an answer of the reader as a refusal
abbrev pub IsAnswered : List ℕ → CErr → Refusal → Type 0
IsAnswered bytes e (refusal.Fault fault) = (fault.place ≡ fault_place bytes e) × IsCodeOf e fault.code
IsAnswered bytes e refusal.NoMemory = Unit {0}

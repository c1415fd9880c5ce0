-- What the code answers for a step of an expansion in which files are read.
use Rattle.std.specs.Prelude.{◌≡◌, ◌≤◌, ◌⊎◌, ◌+◌, ℕ, List, [], ◌∷◌, ◌++◌, map, length, take, Option, Some, None, Result, Ok, Err, slice_get, ◌<◌, All, IfSome}
use Rattle.va_base.specs.declared.fault.Fault.{Fault}
use Rattle.va_base.specs.declared.fault.FaultCode.TheVariants.{MissingInclude}
use Rattle.va_base.specs.declared.file.FileText.{FileText}
use Rattle.va_io.specs.Outside.{Holdings, Lacks, Appends, Rose}
use Rattle.va_preproc.specs.declared.broken.Broken.{Broken}
use Rattle.va_preproc.specs.declared.broken.Broken.TheVariants as broken
use Rattle.va_preproc.specs.declared.expansion.PreErr.{PreErr}
use Rattle.va_preproc.specs.declared.expansion.PreErr.TheVariants as answer
use Rattle.va_preproc.specs.declared.limits.Limits.{Limits as SeenLimits}
use Rattle.va_lexer.specs.Tokens.{tokens_of}
use Rattle.va_preproc.specs.declared.condition.Branch.{Branch}
use Rattle.va_preproc.specs.Uses.{use_within}
use Rattle.va_preproc.specs.Lexemes.{Bytes, role_of}
use Rattle.va_preproc.specs.Reading.{State, Step}
use Rattle.va_preproc.specs.Expansion.{Limits, Readings, in_holdings, Included, include_within, include_of, first_place, at_token, expand_file}
use Rattle.va_preproc.specs.Answers.{AreFirst, WhereTold}
use Rattle.va_preproc.specs.Values.{step_of, macros_of, lexeme_in, lexemes_in}
use Rattle.va_preproc.specs.declared.known.Known.{Known}
use Rattle.va_preproc.specs.declared.progress.Progress.{Progress}
use Rattle.va_preproc.specs.Conditionals.{Onward}
use Rattle.va_base.specs.declared.token.Token.{Token}

-- the limits
abbrev pub limits_of : SeenLimits → Limits
limits_of l = record { read = l.read; result = l.result; uses = l.uses; includes = l.includes; bytes = l.bytes }

-- the names of files
abbrev pub names_in : List FileText → List Bytes
names_in = map (λ file. file.name)

-- the reads of an expansion find these files, of each the first bytes up to one past the limit
abbrev pub Agrees : ℕ → Readings → List FileText → Type 0
Agrees most readings files =
    (number : ℕ) (file : FileText) → slice_get files number ≡ Some file
    → (bytes : Bytes) × (readings number file.name ≡ Some bytes) × (file.bytes ≡ take (most + 1) bytes)

-- the names that were read up to the end of a step
abbrev pub asked_in : {V : Type 0} → (V → State) → Step V → List Bytes
asked_in state (Ok v) = (state v).asked
asked_in state (Err stop) = stop.asked

-- what is seen of files at a moment
pub record World : Type 0 where
  pub holds : Option Holdings
  pub asked : Option (List Bytes)
  pub faults : ℕ

abbrev pub world : Option Holdings → Option (List Bytes) → ℕ → World
world holds asked faults = record { holds = holds; asked = asked; faults = faults }

-- each file has at most one byte more than the limit, since no more was asked for
abbrev pub AreShort : ℕ → List FileText → Type 0
AreShort most files = (number : ℕ) (file : FileText) → slice_get files number ≡ Some file → length file.bytes ≤ most + 1

-- What a call did to the files: it asked for those that are known after it and were not before it, and then for this, and each
-- file that it read is held, where that is told.
pub record Asks (most : ℕ) (before now : World) (old new : List FileText) (last : List Bytes) : Type 0 where
  pub held : now.holds ≡ before.holds
  pub later : before.faults ≤ now.faults
  pub more : List FileText
  pub grown : new ≡ old ++ more
  pub asked : Appends before.asked now.asked (names_in more ++ last)
  pub found : WhereTold before.holds (λ h. Agrees most (in_holdings h) old → Agrees most (in_holdings h) new)
  pub short : AreShort most old → AreShort most new

-- what is asked for where no file is known after it
abbrev pub last_of : {T : Type 0} → Result T Broken → List Bytes
last_of (Ok answer) = []
last_of (Err broken.NoMemory) = []
last_of (Err (broken.Failed name)) = name ∷ []
last_of (Err (broken.Missing fault name)) = name ∷ []

-- why an expansion is broken off
abbrev pub HasCause : {T : Type 0} → World → World → Result T Broken → Type 0
HasCause before now (Ok answer) = Unit {0}
HasCause before now (Err broken.NoMemory) = Unit {0}
HasCause before now (Err (broken.Failed name)) = Rose before.faults now.faults
HasCause before now (Err (broken.Missing fault name)) =
    (Lacks before.holds name ⊎ Rose before.faults now.faults) × (fault.code ≡ MissingInclude)

-- where a step is broken off, after these files were read
abbrev pub BreaksOff : {V : Type 0} → (V → State) → Step V → List FileText → Broken → (Bytes → Type 0) → Type 0
BreaksOff state step files broken.NoMemory Lacking = AreFirst (names_in files) (asked_in state step)
BreaksOff state step files (broken.Failed name) Lacking = AreFirst (names_in files ++ name ∷ []) (asked_in state step)
BreaksOff state step files (broken.Missing fault name) Lacking =
    AreFirst (names_in files ++ name ∷ []) (asked_in state step)
    × (Lacking name → step ≡ Err (record { fault = fault; asked = names_in files ++ name ∷ [] }))

-- What a call answers follows a step over any reads that find the files that are known after it.
abbrev pub Follows : {T V : Type 0} → ℕ → (Readings → Step V) → (T → V) → (V → State) → List FileText → Result (Result T Fault) Broken → Type 0
Follows most step view state files (Ok answer) =
    (readings : Readings) → Agrees most readings files → step readings ≡ step_of view (names_in files) answer
Follows most step view state files (Err b) =
    (readings : Readings) → Agrees most readings files
    → BreaksOff state (step readings) files b (λ name. readings (length files) name ≡ None)

-- tokens of files of lower numbers
abbrev pub AreWithin : ℕ → List Token → Type 0
AreWithin count = All (λ t. t.file < count)

-- the tokens of the macros are of files that are known
abbrev pub IsWithin : Known → Type 0
IsWithin k = (name : Bytes) → IfSome (macros_of k name) (λ m. All (λ t. t.token.file < length k.files.items) m.body)

-- the files that are known lie within the limit, but for so many at the end
abbrev pub AreSmall : ℕ → ℕ → List FileText → Type 0
AreSmall most last files =
    (number : ℕ) (file : FileText) → slice_get files number ≡ Some file → number + last < length files → length file.bytes ≤ most

-- What holds between the tokens of files: macros are of files that are known, no argument is expanded, and the files are small,
-- but for so many at the end that were not looked at.
abbrev pub IsFit : ℕ → ℕ → Known → Progress → Type 0
IsFit most last k p = IsWithin k × (p.argument ≡ None) × AreSmall most last k.files.items

-- where something was given
abbrev pub IfGiven : {T : Type 0} → Result (Result T Fault) Broken → Type 0 → Type 0
IfGiven (Ok (Ok x)) P = P
IfGiven result P = Unit {0}

-- the state of a step that gives a state
abbrev pub itself : State → State
itself s = s

abbrev pub at_onward : Onward → State
at_onward o = o.state

-- the files that reads find, where so many includes may be open inside each other from here on
abbrev pub includes_by : Limits → ℕ → Readings → Included
includes_by most depth readings = include_within most tokens_of readings depth

-- the file of a number and a name, which was read
abbrev pub expand_read : Limits → ℕ → Readings → Bytes → ℕ → State → Step State
expand_read most depth readings name number s =
    include_of most tokens_of readings (readings number name) (includes_by most depth readings) name (first_place 0) s

-- a token of a file of this name
abbrev pub token_step : Limits → ℕ → Bytes → List FileText → Token → List Token → List Branch → State → Readings → Step Onward
token_step most depth name files token rest branches s readings =
    at_token (use_within most.uses) (includes_by most depth readings) name (role_of (lexeme_in files token)) (lexeme_in files token)
    (lexemes_in files rest) branches s

-- the tokens of a file of this name, from some on
abbrev pub file_step : Limits → ℕ → Bytes → List FileText → List Token → List Branch → State → Readings → Step State
file_step most depth name files tokens branches s readings =
    expand_file (use_within most.uses) (includes_by most depth readings) name 0 (lexemes_in files tokens) branches s

-- the answer to a fault, where files of these names were read
abbrev pub IsRefused : List Bytes → Fault → PreErr → Type 0
IsRefused names fault (answer.Fault told name) = (told ≡ fault) × (slice_get names told.place.file ≡ Some name)
IsRefused names fault answer.NoMemory = Unit {0}
IsRefused names fault _ = ⊥

-- the answer where an expansion is broken off
abbrev pub IsBrokenOff : List Bytes → Broken → PreErr → Type 0
IsBrokenOff names broken.NoMemory answer.NoMemory = Unit {0}
IsBrokenOff names (broken.Failed file) (answer.Failed name) = name ≡ file
IsBrokenOff names (broken.Missing fault file) (answer.Fault told name) =
    (told ≡ fault) × (told.place.file ≤ length names → slice_get (names ++ file ∷ []) told.place.file ≡ Some name)
IsBrokenOff names (broken.Missing fault file) answer.NoMemory = Unit {0}
IsBrokenOff names b e = ⊥

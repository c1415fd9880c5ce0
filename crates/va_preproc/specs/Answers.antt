-- What `expand` answers, and what it asks the files for.
use Rattle.std.specs.Prelude.{◌≡◌, ◌⊎◌, ◌+◌, ◌==◌, ℕ, List, [], ◌∷◌, ◌++◌, length, Option, Some, None, Result, Ok, Err, if◌then◌else◌, slice_get}
use Rattle.va_base.specs.declared.expanded.Expanded.{Expanded}
use Rattle.va_base.specs.declared.fault.Fault.{Fault}
use Rattle.va_base.specs.declared.fault.FaultCode.TheVariants.{MissingInclude}
use Rattle.va_io.specs.Outside.{Holdings, Lacks, Appends, Rose}
use Rattle.va_lexer.specs.Tokens.{tokens_of}
use Rattle.va_preproc.specs.declared.expansion.PreErr.{PreErr}
use Rattle.va_preproc.specs.declared.expansion.PreErr.TheVariants as answer
use Rattle.va_preproc.specs.Lexemes.{Bytes}
use Rattle.va_preproc.specs.Reading.{Stop}
use Rattle.va_preproc.specs.Expansion.{Limits, limits, Readings, in_holdings, Expansion, lacking, faulty, expanded, expansion_by, expansion_within, texts, reads}

-- what is seen of files over a call: the names that were asked for before it and after it, and the counts of faults likewise
pub record Seen : Type 0 where
  pub before : Option (List Bytes)
  pub now : Option (List Bytes)
  pub faults_before : ℕ
  pub faults_now : ℕ

abbrev pub seen : Option (List Bytes) → Option (List Bytes) → ℕ → ℕ → Seen
seen before now faults_before faults_now =
    record { before = before; now = now; faults_before = faults_before; faults_now = faults_now }

-- these names were asked for, in this order, and no other was
abbrev pub AsksFor : Seen → List Bytes → Type 0
AsksFor files names = Appends files.before files.now names

-- a fault was counted
abbrev pub CountsFault : Seen → Type 0
CountsFault files = Rose files.faults_before files.faults_now

-- what the other names begin with
abbrev pub AreFirst : List Bytes → List Bytes → Type 0
AreFirst names all = (rest : List Bytes) × (all ≡ names ++ rest)

-- where it is told what the files hold, this is so of it
abbrev pub WhereTold : Option Holdings → (Holdings → Type 0) → Type 0
WhereTold None P = Unit {0}
WhereTold (Some holds) P = P holds

-- each read finds what is held, but that of this number, which finds no file
abbrev pub missing_at : ℕ → Holdings → Readings
missing_at missed holds number name = if number == missed then None else in_holdings holds number name

-- What an expansion of the main file within limits answers, over what the files hold.
module _ (most : Limits) (main : Bytes) (files : Seen) (holds : Holdings) where
  -- the tokens of the expansion, with the files that it read
  abbrev pub IsExpansion : Expanded → Type 0
  IsExpansion e =
      (names : List Bytes) × (expansion_within most tokens_of holds main ≡ expanded e.tokens names) × (e.files ≡ texts holds names)
      × AsksFor files names

  -- a fault at which an expansion stops, and the name of the file of its place
  abbrev pub StopsAt : Expansion → Fault → Bytes → (Stop → Type 0) → Type 0
  StopsAt e fault name P =
      (stop : Stop) × (e ≡ faulty stop) × (stop.fault ≡ fault) × (slice_get stop.asked fault.place.file ≡ Some name)
      × AsksFor files stop.asked × P stop

  -- the first fault in reading order
  abbrev pub IsFirstFault : Fault → Bytes → Type 0
  IsFirstFault fault name = StopsAt (expansion_within most tokens_of holds main) fault name (λ stop. Unit {0})

  -- An include whose read answered, with a fault that was counted, that there is no such file, though the file may be held:
  -- it is the include at which the expansion stops where this read finds no file. Its name is the last that was asked for.
  abbrev pub IsMissed : Fault → Bytes → Type 0
  IsMissed fault name =
      (missed : ℕ) × CountsFault files × (fault.code ≡ MissingInclude)
      × StopsAt (expansion_by most tokens_of (missing_at missed holds) main) fault name
      (λ stop. (length stop.asked ≡ missed + 1) × AreFirst stop.asked (reads (expansion_within most tokens_of holds main)))

  -- the first of the names that the expansion reads
  abbrev pub AreReads : List Bytes → Type 0
  AreReads names = AreFirst names (reads (expansion_within most tokens_of holds main))

-- A fault that is answered, over what the files hold, if it is told. If it isn't, an include is missing only where a fault was
-- counted.
abbrev pub IsAnsweredFault : Limits → Option Holdings → Bytes → Seen → Fault → Bytes → Type 0
IsAnsweredFault most None main files fault name = fault.code ≡ MissingInclude → CountsFault files
IsAnsweredFault most (Some holds) main files fault name =
    IsFirstFault most main files holds fault name ⊎ IsMissed most main files holds fault name

-- What is answered where the files hold this, if it is told. Where memory is refused and where a read fails, no name was asked
-- for that the expansion does not read.
abbrev pub IsAnswerWithin : Limits → Option Holdings → Bytes → Seen → Result Expanded PreErr → Type 0
IsAnswerWithin most holds main files (Ok e) = WhereTold holds (λ h. IsExpansion most main files h e)
IsAnswerWithin most holds main files (Err (answer.Fault fault name)) = IsAnsweredFault most holds main files fault name
IsAnswerWithin most holds main files (Err answer.Missing) = (Lacks holds main ⊎ CountsFault files) × AsksFor files (main ∷ [])
IsAnswerWithin most holds main files (Err (answer.Failed name)) =
    (names : List Bytes) × CountsFault files × AsksFor files (names ++ name ∷ [])
    × WhereTold holds (λ h. AreReads most main files h (names ++ name ∷ []))
IsAnswerWithin most holds main files (Err answer.NoMemory) =
    (names : List Bytes) × AsksFor files names × WhereTold holds (λ h. AreReads most main files h names)

-- the same within the limits of every expansion
abbrev pub IsAnswer : Option Holdings → Bytes → Seen → Result Expanded PreErr → Type 0
IsAnswer = IsAnswerWithin limits

-- What is answered for an expansion where no fault is counted: nothing else, but for want of memory.
abbrev pub IsSettled : Expansion → Result Expanded PreErr → Type 0
IsSettled e (Err answer.NoMemory) = Unit {0}
IsSettled (lacking name) (Err answer.Missing) = Unit {0}
IsSettled (faulty stop) (Err (answer.Fault fault name)) =
    (fault ≡ stop.fault) × (slice_get stop.asked fault.place.file ≡ Some name)
IsSettled (expanded tokens names) (Ok e) = e.tokens ≡ tokens
IsSettled e result = ⊥

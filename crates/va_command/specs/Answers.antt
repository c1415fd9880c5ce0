-- What the program answers: how it ends, what it writes, and from which cause.
use Rattle.std.specs.Prelude.{◌≡◌, ◌<◌, ◌⊎◌, ℕ, List, [], ◌∷◌, ◌++◌, length, Option, Some, None}
use Rattle.alg_laws.specs.Operations.{Operations}
use Rattle.c_tree.specs.declared.short.ShortModule.{ShortModule}
use Rattle.c_tree.specs.short.Text.{text_of}
use Rattle.va_tree.specs.declared.source.Source.{Source}
use Rattle.va_build.specs.SourceOf.{IsSourceWithinSize}
use Rattle.first_form.specs.Form.{FirstForm, IsSourceOfForm}
use Rattle.first_form.specs.Translation.{IsTranslation}
use Rattle.va_base.specs.declared.expanded.Expanded.{Expanded}
use Rattle.va_base.specs.declared.fault.Fault.{Fault}
use Rattle.va_base.specs.Expansion.{IsExpanded}
use Rattle.va_io.specs.Outside.{Holdings, held, Lacks, Appends, AppendsSome, Rose}
use Rattle.va_preproc.specs.Answers.{Seen as FilesSeen, AsksFor, CountsFault, AreFirst, WhereTold, IsExpansion, IsAnsweredFault}
use Rattle.va_preproc.specs.Expansion.{limits, expansion, expanded, faulty, texts}
use Rattle.va_preproc.specs.Reading.{Stop}
use Rattle.va_command.specs.CFiles.{IsDueOfText, ReadEnds}
use Rattle.va_report.specs.Reasons.{fault_line, no_such_file_line, read_fault_line, usage_line}
use Rattle.va_command.specs.Faults.{HasTextFault}
use Rattle.va_command.specs.Requests.{Request, compile, read, IsRequest, IsNoRequest, reads_of}
use Rattle.va_command.specs.declared.status.Status.{Status}
use Rattle.va_command.specs.declared.status.Status.TheVariants.{Done, Refused, Usage, NoFile, ReadFault, WriteFault, NoMemory}

-- The C text is the print of a file that is a translation of the text's source, in which no fault of size stands: each run of it
-- loads the residuals that the source contributes, over every algebra.
pub record IsCompiled {V : Type 0} (o : Operations V) (valid : V → Type 0) (e : Expanded) (text : List ℕ) : Type 0 where
  pub source : Source
  pub within : IsSourceWithinSize e source
  pub modules : List ShortModule
  pub translation : IsTranslation o valid source modules
  pub print : text ≡ text_of modules

-- What is due for a request, over what the files hold, where it is told, and what is seen of them in the call.
module _ (holds : Option Holdings) (files : FilesSeen) where
  -- a file was expanded to this text, and all that it reads was asked for
  abbrev pub IsSource : List ℕ → Expanded → Type 0
  IsSource file e = IsExpanded e × WhereTold holds (λ h. IsExpansion limits file files h e)

  -- A file has this fault, in a file of this name: the first of its expansion; or, where that has none, that of the text after it.
  -- Where it isn't told what the files hold, an include is missing only where a fault was counted.
  abbrev pub HasFault : List ℕ → List ℕ → Fault → Type 0
  HasFault file name fault =
      IsAnsweredFault limits holds file files fault name
      ⊎ ((e : Expanded) × IsSource file e × HasTextFault e name fault)

  -- the file of the words is not there, and no other was asked for
  abbrev pub IsLacking : List ℕ → Type 0
  IsLacking file = (Lacks holds file ⊎ CountsFault files) × AsksFor files (file ∷ [])

  -- a read failed: it is that of the last name that was asked for, and one of the reads of the request
  abbrev pub HasFailed : Request → List ℕ → Type 0
  HasFailed request name =
      (names : List (List ℕ)) × CountsFault files × AsksFor files (names ++ name ∷ [])
      × WhereTold holds (λ h. AreFirst (names ++ name ∷ []) (reads_of h request))

  -- the output of a request
  abbrev pub IsOutput : {V : Type 0} → Operations V → (V → Type 0) → Request → List ℕ → Type 0
  IsOutput o valid (compile file) text = (e : Expanded) × IsSource file e × IsCompiled o valid e text
  IsOutput o valid (read file) text = IsDueOfText holds files file Done text

  -- the line for the fault that stands in what a request reads
  abbrev pub IsFaultLine : Request → List ℕ → Type 0
  IsFaultLine (compile file) text = (name : List ℕ) × (fault : Fault) × HasFault file name fault × (text ≡ fault_line name fault)
  IsFaultLine (read file) text = IsDueOfText holds files file Refused text

  -- the line for a file that is read by the words themselves, not by an include, and is not there
  abbrev pub IsLackLine : Request → List ℕ → Type 0
  IsLackLine (compile file) text = IsLacking file × (text ≡ no_such_file_line file)
  IsLackLine (read file) text = IsLacking file × (text ≡ no_such_file_line file)

  -- The text that is due where a request ends with a status: an output, or the reason why there is none.
  module _ {V : Type 0} (o : Operations V) (valid : V → Type 0) where
    abbrev pub IsDueFor : Request → Status → List ℕ → Type 0
    IsDueFor request Done text = IsOutput o valid request text
    IsDueFor request Refused text = IsFaultLine request text
    IsDueFor request NoFile text = IsLackLine request text
    IsDueFor request ReadFault text = (name : List ℕ) × HasFailed request name × (text ≡ read_fault_line name)
    IsDueFor request Usage text = ⊥
    IsDueFor request WriteFault text = ⊥
    IsDueFor request NoMemory text = ⊥

    -- the same for words, which may make no request; then nothing is asked for
    abbrev pub IsDue : List (List ℕ) → Status → List ℕ → Type 0
    IsDue words Usage text = IsNoRequest words × (files.now ≡ files.before) × (text ≡ usage_line)
    IsDue words status text = (request : Request) × IsRequest words request × IsDueFor request status text

-- The text that is due where this text after expansion is compiled.
abbrev pub IsDueOfSource : {V : Type 0} → Operations V → (V → Type 0) → Expanded → Status → List ℕ → Type 0
IsDueOfSource o valid e Done text = IsCompiled o valid e text
IsDueOfSource o valid e Refused text = (name : List ℕ) × (fault : Fault) × HasTextFault e name fault × (text ≡ fault_line name fault)
IsDueOfSource o valid e _ text = ⊥

-- the reason why there is no output is written
abbrev pub IsComplaint : Status → Type 0
IsComplaint Refused = Unit {0}
IsComplaint Usage = Unit {0}
IsComplaint NoFile = Unit {0}
IsComplaint ReadFault = Unit {0}
IsComplaint Done = ⊥
IsComplaint WriteFault = ⊥
IsComplaint NoMemory = ⊥

-- what is seen of a sink over a call: what was written before it and is after it, its count of faults likewise, and its
-- room at the call
pub record Seen : Type 0 where
  pub before : Option (List ℕ)
  pub now : Option (List ℕ)
  pub faults_before : ℕ
  pub faults_now : ℕ
  pub room : ℕ

abbrev pub seen : Option (List ℕ) → Option (List ℕ) → ℕ → ℕ → ℕ → Seen
seen before now faults_before faults_now room =
    record { before = before; now = now; faults_before = faults_before; faults_now = faults_now; room = room }

-- nothing was written
abbrev pub IsUntouched : Seen → Type 0
IsUntouched sink = sink.now ≡ sink.before

-- a whole text of this kind was written
abbrev pub Writes : (List ℕ → Type 0) → Seen → Type 0
Writes P sink = (text : List ℕ) × P text × Appends sink.before sink.now text

-- the first part of a text of this kind was written, and then the sink failed
abbrev pub Fails : (List ℕ → Type 0) → Seen → Type 0
Fails P sink =
    (text : List ℕ) × P text × AppendsSome sink.before sink.now text × (0 < length text) × Rose sink.faults_before sink.faults_now

-- the first part of a text of this kind was written, which is longer than the room
abbrev pub RunsShort : (List ℕ → Type 0) → Seen → Type 0
RunsShort P sink = (text : List ℕ) × P text × AppendsSome sink.before sink.now text × (sink.room < length text)

-- a text that is due as a reason
abbrev pub IsReason : (Status → List ℕ → Type 0) → List ℕ → Type 0
IsReason due text = (status : Status) × IsComplaint status × due status text

-- How a command ends, where these texts are due, with what it wrote to the output and to the reasons. A call that is
-- refused memory before a text is built writes nothing.
module _ (due : Status → List ℕ → Type 0) (out err : Seen) where
  abbrev pub Ends : Status → Type 0
  Ends Done = Writes (due Done) out × IsUntouched err
  Ends Refused = Writes (due Refused) err × IsUntouched out
  Ends Usage = Writes (due Usage) err × IsUntouched out
  Ends NoFile = Writes (due NoFile) err × IsUntouched out
  Ends ReadFault = Writes (due ReadFault) err × IsUntouched out
  Ends WriteFault = (Fails (due Done) out × IsUntouched err) ⊎ (Fails (IsReason due) err × IsUntouched out)
  Ends NoMemory =
      (IsUntouched out × IsUntouched err) ⊎ (RunsShort (due Done) out × IsUntouched err)
      ⊎ (RunsShort (IsReason due) err × IsUntouched out)

-- how a call ends that writes an output, and one that writes a reason for a status
abbrev pub EndsOutput : List ℕ → Seen → Status → Type 0
EndsOutput text out Done = Appends out.before out.now text
EndsOutput text out WriteFault = AppendsSome out.before out.now text × (0 < length text) × Rose out.faults_before out.faults_now
EndsOutput text out NoMemory = AppendsSome out.before out.now text × (out.room < length text)
EndsOutput text out _ = ⊥

abbrev pub EndsReason : List ℕ → Status → Seen → Status → Type 0
EndsReason text status err WriteFault = AppendsSome err.before err.now text × (0 < length text) × Rose err.faults_before err.faults_now
EndsReason text status err NoMemory = AppendsSome err.before err.now text × (err.room < length text)
EndsReason text status err ended = (ended ≡ status) × Appends err.before err.now text

-- it is told what files hold, and this is so of it
abbrev pub Tells : Option Holdings → (Holdings → Type 0) → Type 0
Tells None P = ⊥
Tells (Some files) P = P files

-- what the files hold expands to this text
abbrev pub Expands : Holdings → List ℕ → Expanded → Type 0
Expands holds file e = (names : List (List ℕ)) × (expansion holds file ≡ expanded e.tokens names) × (e.files ≡ texts holds names)

-- a text after expansion is compiled: it has a source within the limits of size, which is of the built form
abbrev pub IsBuilt : Expanded → Type 0
IsBuilt e = (source : Source) × IsSourceWithinSize e source × ((form : FirstForm) × IsSourceOfForm source form)

-- the expansion has a fault, or its text is none of those that are compiled
abbrev pub IsRefused : Holdings → List ℕ → Type 0
IsRefused holds file =
    ((stop : Stop) × (expansion holds file ≡ faulty stop)) ⊎ ((e : Expanded) × Expands holds file e × (IsBuilt e → ⊥))

-- the tables of a C file are asked for, and it is told that this is how it ends
abbrev pub IsExpectedRead : Option Holdings → List (List ℕ) → Status → Type 0
IsExpectedRead holds words status = (file : List ℕ) × IsRequest words (read file) × Tells holds (λ h. ReadEnds h file status)

-- What is told of the files and the words decides how a command ends where no count rose, but for want of memory. Words
-- that make no request need nothing told.
abbrev pub IsExpected : Option Holdings → List (List ℕ) → Status → Type 0
IsExpected holds words Done =
    ((file : List ℕ) × IsRequest words (compile file)
    × Tells holds (λ h. (e : Expanded) × Expands h file e × IsBuilt e))
    ⊎ IsExpectedRead holds words Done
IsExpected holds words Refused =
    ((file : List ℕ) × IsRequest words (compile file) × Tells holds (λ h. IsRefused h file)) ⊎ IsExpectedRead holds words Refused
IsExpected holds words NoFile =
    ((file : List ℕ) × IsRequest words (compile file) × Tells holds (λ h. held h file ≡ None)) ⊎ IsExpectedRead holds words NoFile
IsExpected holds words Usage = IsNoRequest words
IsExpected holds words ReadFault = ⊥
IsExpected holds words WriteFault = ⊥
IsExpected holds words NoMemory = ⊥

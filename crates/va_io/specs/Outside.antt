-- What is outside: what files hold, and what the calls of files and sinks do.
use Rattle.std.specs.Prelude.{◌≡◌, ◌≤◌, ◌+◌, ◌-◌, ◌^◌, ℕ, min, List, [], ◌∷◌, ◌++◌, take, Option, Some, None, Result, Err, if◌then◌else◌}
use Rattle.std.specs.Str.{bytes_eq}
use Rattle.va_io.specs.declared.files.FileErr.{FileErr}
use Rattle.va_io.specs.declared.files.FileErr.TheVariants as file_err
use Rattle.va_io.specs.declared.sink.SinkErr.{SinkErr}
use Rattle.va_io.specs.declared.sink.SinkErr.TheVariants as sink_err

-- a count after one more: it stops at the end of its type
abbrev pub one_more : ℕ → ℕ
one_more count = min (count + 1) (2 ^ 64 - 1)

-- a count rose, or stands at its end
abbrev pub Rose : ℕ → ℕ → Type 0
Rose before now = one_more before ≤ now

-- names with their bytes; of two with one name the first counts
abbrev pub Holdings : Type 0
Holdings = List (List ℕ × List ℕ)

-- the bytes under a name
abbrev pub held : Holdings → List ℕ → Option (List ℕ)
held [] name = None
held (file ∷ files) name = if bytes_eq file.0 name then Some file.1 else held files name

-- it is told that there is no such file
abbrev pub Lacks : Option Holdings → List ℕ → Type 0
Lacks None name = ⊥
Lacks (Some files) name = held files name ≡ None

-- where it is told, these are the first bytes of the file
abbrev pub Gives : Option Holdings → List ℕ → ℕ → List ℕ → Type 0
Gives None name max bytes = Unit {0}
Gives (Some files) name max bytes = (file : List ℕ) × (held files name ≡ Some file) × (bytes ≡ take max file)

-- something at the end of what is told
abbrev pub Appends : {T : Type 0} → Option (List T) → Option (List T) → List T → Type 0
Appends None now more = Unit {0}
Appends (Some before) now more = now ≡ Some (before ++ more)

-- a first part of a text at the end of what is told
abbrev pub AppendsSome : Option (List ℕ) → Option (List ℕ) → List ℕ → Type 0
AppendsSome before now text = (count : ℕ) × Appends before now (take count text)

-- the name is noted, unless memory ran out
abbrev pub AsksFor : {T : Type 0} → Result T FileErr → Option (List (List ℕ)) → List ℕ → Option (List (List ℕ)) → Type 0
AsksFor (Err file_err.NoMemory) before name now = now ≡ before
AsksFor _ before name now = Appends before now (name ∷ [])

-- a read of files in memory: a failure is counted, and nothing else is
abbrev pub CountsFailedRead : {T : Type 0} → Result T FileErr → ℕ → ℕ → Type 0
CountsFailedRead (Err file_err.Failed) before now = now ≡ one_more before
CountsFailedRead _ before now = now ≡ before

-- a read of the system's files: a failure and a file that is missing are counted, and nothing else is
abbrev pub CountsRefusedRead : {T : Type 0} → Result T FileErr → ℕ → ℕ → Type 0
CountsRefusedRead (Err file_err.Failed) before now = now ≡ one_more before
CountsRefusedRead (Err file_err.Missing) before now = now ≡ one_more before
CountsRefusedRead _ before now = now ≡ before

-- a write: a failure is counted, and nothing else is
abbrev pub CountsFailedWrite : {T : Type 0} → Result T SinkErr → ℕ → ℕ → Type 0
CountsFailedWrite (Err sink_err.Failed) before now = now ≡ one_more before
CountsFailedWrite _ before now = now ≡ before

-- What the words of a command line ask for, and which files are read for it.
use Rattle.std.specs.Prelude.{◌≡◌, ℕ, List, [], ◌∷◌, Option, codes}
use Rattle.va_io.specs.Outside.{Holdings}
use Rattle.va_preproc.specs.Answers.{Seen, AsksFor, AreFirst, WhereTold}
use Rattle.va_preproc.specs.Expansion.{expansion, reads}

-- a request, whichever words it came from
pub data Request : Type 0 where
  -- the C text of a Verilog-A file
  compile : (file : List ℕ) → Request
  -- the tables of a C file
  read : (file : List ℕ) → Request

-- the words that make a request
abbrev pub words_of : Request → List (List ℕ)
words_of (compile file) = codes "compile" ∷ file ∷ []
words_of (read file) = codes "read" ∷ file ∷ []

-- these words make that request
abbrev pub IsRequest : List (List ℕ) → Request → Type 0
IsRequest words request = words ≡ words_of request

-- these words are not a command's and a file's
abbrev pub IsNoCommand : List ℕ → List (List ℕ) → Type 0
IsNoCommand command words = (file : List ℕ) → words ≡ command ∷ file ∷ [] → ⊥

-- these words make none
abbrev pub IsNoRequest : List (List ℕ) → Type 0
IsNoRequest words = (request : Request) → IsRequest words request → ⊥

-- the names that are read for a request, in order, where the files hold this
abbrev pub reads_of : Holdings → Request → List (List ℕ)
reads_of holds (compile file) = reads (expansion holds file)
reads_of holds (read file) = file ∷ []

-- where it is told what the files hold, they are asked for nothing but what is read for a request, in its order and from its
-- beginning
abbrev pub AsksFirst : Option Holdings → Seen → Request → Type 0
AsksFirst holds files request =
    WhereTold holds (λ h. (names : List (List ℕ)) × AsksFor files names × AreFirst names (reads_of h request))

-- the same for words; where they make no request, nothing is asked for
abbrev pub Asks : Option Holdings → Seen → List (List ℕ) → Type 0
Asks holds files words =
    ((request : Request) → IsRequest words request → AsksFirst holds files request) × (IsNoRequest words → files.now ≡ files.before)

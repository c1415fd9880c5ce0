-- What is due where the tables of a C file are asked for.
use Rattle.std.proofs.Common.{◌≡◌, ◌<◌, ◌≤◌, ◌+◌, ◌++◌, ℕ, List, [], ◌∷◌, length, nat_lt, refl, sym, ap, ◌∙◌, subst, ◌⊎◌, inl, inr, arith, ltb-true, ltb-false}
use Rattle.std.specs.Prelude.{Bool, true, false, Option, Some, None, Result, Ok, Err, take}
use Rattle.std.proofs.lemmas.List.{append-nil, length-take, take_all}
use Rattle.alg_laws.specs.Operations.{Operations}
use Rattle.va_base.specs.declared.fault.FaultCode.{FaultCode}
use Rattle.va_base.specs.declared.fault.FaultCode.TheVariants.{FileLarge}
use Rattle.va_base.specs.declared.place.Place.{Place}
use Rattle.va_io.specs.Outside.{Holdings, held, Gives, Lacks, Appends, AsksFor as ReadAsksFor}
use Rattle.va_io.specs.declared.files.FileErr.{FileErr}
use Rattle.va_io.specs.declared.files.FileErr.TheVariants as file_err
use Rattle.va_preproc.specs.Answers.{Seen as FilesSeen, seen, AsksFor, AreFirst, CountsFault, WhereTold}
use Rattle.c_tree.specs.declared.file.CFile.{CFile}
use Rattle.c_syntax.specs.declared.error.CErr.{CErr}
use Rattle.c_syntax.specs.declared.error.CErr.TheVariants as error
use Rattle.c_reader.specs.Answers.{file as file_reading, bad_byte, syntax, form}
use Rattle.c_reader.specs.Reading.{IsFileOf, IsBadByte, IsFormFault}
use Rattle.c_syntax.specs.Syntax.{IsSyntaxFault}
use Rattle.c_reader.proofs.Readings.{one_reading}
use Rattle.va_command.specs.declared.read_file.CFault.{CFault}
use Rattle.va_command.specs.declared.read_file.Refusal.{Refusal}
use Rattle.va_command.specs.declared.read_file.Refusal.TheVariants as refusal
use Rattle.va_command.specs.declared.status.Status.{Status}
use Rattle.va_command.specs.declared.status.Status.TheVariants.{Done, Refused, Usage, NoFile, ReadFault, WriteFault, NoMemory}
use Rattle.va_command.specs.Requests.{read, AsksFirst}
use Rattle.va_command.specs.Answers.{IsDueFor}
use Rattle.va_report.specs.Reasons.{no_such_file_line, read_fault_line}
use Rattle.va_command.specs.CFiles.{most_bytes, IsReaderFault, IsCFault, IsCFileOf, IsDueOfBytes, IsDueOfText, IsAnswered, c_fault_line}

-- the answer of the reader is a fault of the bytes
module _ (bytes : List ℕ) (within : length bytes ≤ most_bytes) where
  by_error : (e : CErr) (fault : CFault) → IsAnswered bytes e (refusal.Fault fault)
      → ((at : ℕ) → e ≡ error.BadByte at → IsBadByte bytes at) → ((at : ℕ) → e ≡ error.Syntax at → IsSyntaxFault bytes at)
      → ((at : ℕ) → e ≡ error.Form at → IsFormFault bytes at) → IsCFault bytes fault.place fault.code
  by_error (error.BadByte at) fault (p, k) bad blamed broken = inr (within, (error.BadByte at, bad at refl, k, p))
  by_error (error.Syntax at) fault (p, k) bad blamed broken = inr (within, (error.Syntax at, blamed at refl, k, p))
  by_error (error.Form at) fault (p, k) bad blamed broken = inr (within, (error.Form at, broken at refl, k, p))
  by_error error.NoMemory fault (p, k) bad blamed broken = absurd k

  pub answered_fault : (e : CErr) (r : Refusal) (fault : CFault) → IsAnswered bytes e r → r ≡ refusal.Fault fault
      → ((at : ℕ) → e ≡ error.BadByte at → IsBadByte bytes at) → ((at : ℕ) → e ≡ error.Syntax at → IsSyntaxFault bytes at)
      → ((at : ℕ) → e ≡ error.Form at → IsFormFault bytes at) → IsCFault bytes fault.place fault.code
  answered_fault e r fault a same bad blamed broken = by_error e fault (subst (IsAnswered bytes e) same a) bad blamed broken

-- what a file holds that is not longer than what was read of it, and one that is longer
short_whole : (max : ℕ) (bytes whole : List ℕ) → bytes ≡ take (max + 1) whole → length bytes ≤ max → bytes ≡ whole
short_whole max bytes whole e h =
    let n = ap length e ∙ length-take (max + 1) whole in
    e ∙ take_all (max + 1) whole (omega (arith, n, h))

long_whole : (max : ℕ) (bytes whole : List ℕ) → bytes ≡ take (max + 1) whole → max < length bytes → max < length whole
long_whole max bytes whole e h =
    let n = ap length e ∙ length-take (max + 1) whole in
    omega (arith, n, h)

module _ (files : FilesSeen) (h : Holdings) (file bytes whole : List ℕ) (asks : AsksFor files (file ∷ [])) (holds : held h file ≡ Some whole)
    (first : bytes ≡ take (most_bytes + 1) whole) where
  due_of_short : (status : Status) (text : List ℕ) → length bytes ≤ most_bytes → IsDueOfBytes file bytes status text
      → IsDueOfText (Some h) files file status text
  due_of_short status text k d = (bytes, (asks, holds ∙ ap (λ x. Some x) (sym (short_whole most_bytes bytes whole first k))), d)

  long_fault : (place : Place) (code : FaultCode) → most_bytes < length bytes → IsCFault bytes place code → IsCFault whole place code
  long_fault place code k (inl (n, p, c)) = inl (long_whole most_bytes bytes whole first k, p, c)
  long_fault place code k (inr (n, rest)) = let no : ⊥ = omega (arith, n, k) in absurd no

  due_of_long : (status : Status) (text : List ℕ) → most_bytes < length bytes → IsDueOfBytes file bytes status text
      → IsDueOfText (Some h) files file status text
  due_of_long Done text k (f, (n, rest), e) = let no : ⊥ = omega (arith, n, k) in absurd no
  due_of_long Refused text k (place, code, fault, e) = (whole, (asks, holds), (place, code, long_fault place code k fault, e))
  due_of_long Usage text k d = absurd d
  due_of_long NoFile text k d = absurd d
  due_of_long ReadFault text k d = absurd d
  due_of_long WriteFault text k d = absurd d
  due_of_long NoMemory text k d = absurd d

  by_length : (b : Bool) → nat_lt most_bytes (length bytes) ≡ b → (status : Status) (text : List ℕ) → IsDueOfBytes file bytes status text
      → IsDueOfText (Some h) files file status text
  by_length true e status text d = due_of_long status text (ltb-true most_bytes (length bytes) e) d
  by_length false e status text d = due_of_short status text (ltb-false most_bytes (length bytes) e) d

due_of_text : (holds : Option Holdings) (files : FilesSeen) (file bytes : List ℕ) → AsksFor files (file ∷ []) → Gives holds file (most_bytes + 1) bytes
    → (status : Status) (text : List ℕ) → IsDueOfBytes file bytes status text → IsDueOfText holds files file status text
due_of_text None files file bytes asks g status text d = (bytes, (asks, tt), d)
due_of_text (Some h) files file bytes asks (whole, holds, first) status text d =
    by_length files h file bytes whole asks holds first (nat_lt most_bytes (length bytes)) refl status text d

module _ {V : Type 0} (o : Operations V) (valid : V → Type 0) (holds : Option Holdings) (files : FilesSeen) (file : List ℕ) where
  as_request : (status : Status) (text bytes : List ℕ) → IsDueOfBytes file bytes status text → IsDueOfText holds files file status text
      → IsDueFor holds files o valid (read file) status text
  as_request Done text bytes d t = t
  as_request Refused text bytes d t = t
  as_request Usage text bytes d t = absurd d
  as_request NoFile text bytes d t = absurd d
  as_request ReadFault text bytes d t = absurd d
  as_request WriteFault text bytes d t = absurd d
  as_request NoMemory text bytes d t = absurd d

  -- the bytes were read
  pub due_read : (bytes : List ℕ) (status : Status) (text : List ℕ) → AsksFor files (file ∷ []) → Gives holds file (most_bytes + 1) bytes
      → IsDueOfBytes file bytes status text → IsDueFor holds files o valid (read file) status text
  due_read bytes status text asks g d = as_request status text bytes d (due_of_text holds files file bytes asks g status text d)

  -- there is no such file
  pub due_lacking : (status : Status) (text : List ℕ) → (Lacks holds file ⊎ CountsFault files) → AsksFor files (file ∷ [])
      → (status ≡ NoFile) × (text ≡ no_such_file_line file) → IsDueFor holds files o valid (read file) status text
  due_lacking status text a asks d = subst (λ s. IsDueFor holds files o valid (read file) s text) (sym d.0) ((a, asks), d.1)

  -- its read failed
  pub due_failing : (status : Status) (text : List ℕ) → CountsFault files → AsksFor files (file ∷ [])
      → (status ≡ ReadFault) × (text ≡ read_fault_line file) → IsDueFor holds files o valid (read file) status text
  due_failing status text a asks d =
      subst (λ s. IsDueFor holds files o valid (read file) s text) (sym d.0) (file, ([], a, asks, all_of holds), d.1)
    where
      all_of : (holds : Option Holdings) → WhereTold holds (λ h. AreFirst (file ∷ []) (file ∷ []))
      all_of None = tt
      all_of (Some h) = ([], refl)

-- a file that was asked for, or none
asks_named : (holds : Option Holdings) (files : FilesSeen) (file : List ℕ) → AsksFor files (file ∷ []) → AsksFirst holds files (read file)
asks_named None files file a = tt
asks_named (Some h) files file a = (file ∷ [], a, ([], refl))

none_asked : (before now : Option (List (List ℕ))) → now ≡ before → Appends before now []
none_asked None now e = tt
none_asked (Some b) now e = e ∙ ap (λ l. Some l) (sym (append-nil b))

asks_nothing : (holds : Option Holdings) (files : FilesSeen) (file : List ℕ) → files.now ≡ files.before → AsksFirst holds files (read file)
asks_nothing None files file e = tt
asks_nothing (Some h) files file e = ([], none_asked files.before files.now e, (file ∷ [], refl))

-- whatever a read answers
pub asks_read : {T : Type 0} (holds : Option Holdings) (result : Result T FileErr) (before now : Option (List (List ℕ))) (x y : ℕ) (file : List ℕ)
    → ReadAsksFor result before file now → AsksFirst holds (seen before now x y) (read file)
asks_read holds (Ok v) before now x y file a = asks_named holds (seen before now x y) file a
asks_read holds (Err file_err.Missing) before now x y file a = asks_named holds (seen before now x y) file a
asks_read holds (Err file_err.Failed) before now x y file a = asks_named holds (seen before now x y) file a
asks_read holds (Err file_err.NoMemory) before now x y file a = asks_nothing holds (seen before now x y) file a

-- what a refusal says
pub same_refusal : (r s : Result CFile Refusal) (a b : Refusal) → r ≡ Err a → s ≡ Err b → r ≡ s → a ≡ b
same_refusal r s a b e f g = cc

abbrev pub large : CFault
large = record { place = record { file = 0; line = 1; col = 1 }; code = FileLarge }

same_fault : (r s : Result CFile Refusal) (a b : CFault) → r ≡ Err (refusal.Fault a) → s ≡ Err (refusal.Fault b) → r ≡ s → a ≡ b
same_fault r s a b e f g = cc

pub long_refused : (bytes : List ℕ) (fault : CFault) (r s : Result CFile Refusal) → most_bytes < length bytes
    → r ≡ Err (refusal.Fault large) → s ≡ Err (refusal.Fault fault) → r ≡ s → IsCFault bytes fault.place fault.code
long_refused bytes fault r s n e f g =
    let h = same_fault r s large fault e f g in
    inl (n, ap (λ (x : CFault). x.place) (sym h), ap (λ (x : CFault). x.code) (sym h))

pub refused_due : (file bytes : List ℕ) (fault : CFault) (status : Status) (text : List ℕ) → IsCFault bytes fault.place fault.code
    → (status ≡ Refused) × (text ≡ c_fault_line file fault.place fault.code) → IsDueOfBytes file bytes status text
refused_due file bytes fault status text x d = subst (λ s. IsDueOfBytes file bytes s text) (sym d.0) (fault.place, fault.code, x, d.1)

-- the bytes of a C file have no fault
module _ (bytes : List ℕ) (f : CFile) (is : IsFileOf bytes f) where
  not_bad : (at : ℕ) → file_reading f ≡ bad_byte at → ⊥
  not_bad at e = cc e

  not_blamed : (at : ℕ) → file_reading f ≡ syntax at → ⊥
  not_blamed at e = cc e

  not_broken : (at : ℕ) → file_reading f ≡ form at → ⊥
  not_broken at e = cc e

  by_cause : (e : CErr) → IsReaderFault bytes e → ⊥
  by_cause (error.BadByte at) x = not_bad at (one_reading bytes (file_reading f) (bad_byte at) is x)
  by_cause (error.Syntax at) x = not_blamed at (one_reading bytes (file_reading f) (syntax at) is x)
  by_cause (error.Form at) x = not_broken at (one_reading bytes (file_reading f) (form at) is x)
  by_cause error.NoMemory x = x

pub no_fault : (bytes : List ℕ) (f : CFile) (place : Place) (code : FaultCode) → IsCFileOf bytes f → IsCFault bytes place code → ⊥
no_fault bytes f place code (n, is) (inl (k, p, c)) = omega (arith, n, k)
no_fault bytes f place code (n, is) (inr (k, (e, x, c, p))) = by_cause bytes f is e x

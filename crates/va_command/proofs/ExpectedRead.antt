-- Where the tables of a C file are asked for and no count rose, what the files hold decides how the command ends.
use Rattle.std.proofs.Common.{◌≡◌, ℕ, List, refl, sym, subst, ◌⊎◌, inl, inr}
use Rattle.std.specs.Prelude.{Option, Some, None}
use Rattle.alg_laws.specs.Operations.{Operations}
use Rattle.va_io.specs.Outside.{Holdings, held}
use Rattle.va_preproc.specs.Answers.{Seen as FilesSeen, CountsFault}
use Rattle.c_tree.specs.declared.file.CFile.{CFile}
use Rattle.va_command.specs.declared.status.Status.{Status}
use Rattle.va_command.specs.declared.status.Status.TheVariants.{Done, Refused, Usage, NoFile, ReadFault, WriteFault, NoMemory}
use Rattle.va_command.specs.Requests.{compile, read, IsRequest}
use Rattle.va_command.specs.Answers.{IsDueFor, IsExpected}
use Rattle.va_command.specs.CFiles.{IsCFileOf, ReadEnds}
use Rattle.va_command.proofs.Asking.{same_read, two_requests}
use Rattle.va_command.proofs.CFiles.{no_fault}

held_none : (o : Option (List ℕ)) (bytes : List ℕ) → o ≡ Some bytes → o ≡ None → ⊥
held_none o bytes e f = cc

held_same : (o : Option (List ℕ)) (a b : List ℕ) → o ≡ Some a → o ≡ Some b → a ≡ b
held_same o a b e f = cc

module _ {V : Type 0} (o : Operations V) (valid : V → Type 0) (h : Holdings) (files : FilesSeen) (words : List (List ℕ)) (steady : CountsFault files → ⊥)
    (file : List ℕ) (r : IsRequest words (read file)) where
  -- what the files hold of this file
  of_read : (expected : Status) (other : List ℕ) → IsRequest words (read other) → ReadEnds h other expected → ReadEnds h file expected
  of_read expected other q e = subst (λ name. ReadEnds h name expected) (sym (same_read words file other r q)) e

  not_done : (bytes : List ℕ) → held h file ≡ Some bytes → (f : CFile) → IsCFileOf bytes f → ReadEnds h file Refused → ⊥
  not_done bytes k f is (other, j, none) = none f (subst (λ b. IsCFileOf b f) (held_same (held h file) bytes other k j) is)

  pub read_done : (text : List ℕ) → IsDueFor (Some h) files o valid (read file) Done text → (expected : Status)
      → IsExpected (Some h) words expected → (Done ≡ expected) ⊎ (Done ≡ NoMemory)
  read_done text d Done e = inl refl
  read_done text d Refused (inl (other, q, k)) = absurd (two_requests words other file q r)
  read_done text (bytes, (asks, k), (f, is, l)) Refused (inr (other, q, e)) = absurd (not_done bytes k f is (of_read Refused other q e))
  read_done text d NoFile (inl (other, q, k)) = absurd (two_requests words other file q r)
  read_done text (bytes, (asks, k), (f, is, l)) NoFile (inr (other, q, e)) =
      absurd (held_none (held h file) bytes k (of_read NoFile other q e))
  read_done text d Usage none = absurd (none (read file) r)
  read_done text d ReadFault e = absurd e
  read_done text d WriteFault e = absurd e
  read_done text d NoMemory e = absurd e

  has_file : (bytes : List ℕ) → held h file ≡ Some bytes → ReadEnds h file Done → (f : CFile) × IsCFileOf bytes f
  has_file bytes k (other, j, (f, is)) = (f, subst (λ b. IsCFileOf b f) (held_same (held h file) other bytes j k) is)

  pub read_refused : (text : List ℕ) → IsDueFor (Some h) files o valid (read file) Refused text → (expected : Status)
      → IsExpected (Some h) words expected → (Refused ≡ expected) ⊎ (Refused ≡ NoMemory)
  read_refused text d Done (inl (other, q, k)) = absurd (two_requests words other file q r)
  read_refused text (bytes, (asks, k), (place, code, x, l)) Done (inr (other, q, e)) =
      let f = has_file bytes k (of_read Done other q e) in
      absurd (no_fault bytes f.0 place code f.1 x)
  read_refused text d Refused e = inl refl
  read_refused text d NoFile (inl (other, q, k)) = absurd (two_requests words other file q r)
  read_refused text (bytes, (asks, k), rest) NoFile (inr (other, q, e)) =
      absurd (held_none (held h file) bytes k (of_read NoFile other q e))
  read_refused text d Usage none = absurd (none (read file) r)
  read_refused text d ReadFault e = absurd e
  read_refused text d WriteFault e = absurd e
  read_refused text d NoMemory e = absurd e

  lacks_done : held h file ≡ None → ReadEnds h file Done → ⊥
  lacks_done k (bytes, j, rest) = held_none (held h file) bytes j k

  lacks_refused : held h file ≡ None → ReadEnds h file Refused → ⊥
  lacks_refused k (bytes, j, rest) = held_none (held h file) bytes j k

  pub read_missing : (text : List ℕ) → IsDueFor (Some h) files o valid (read file) NoFile text → (expected : Status)
      → IsExpected (Some h) words expected → (NoFile ≡ expected) ⊎ (NoFile ≡ NoMemory)
  read_missing text d Done (inl (other, q, k)) = absurd (two_requests words other file q r)
  read_missing text ((inl k, asks), l) Done (inr (other, q, e)) = absurd (lacks_done k (of_read Done other q e))
  read_missing text ((inr k, asks), l) Done (inr (other, q, e)) = absurd (steady k)
  read_missing text d Refused (inl (other, q, k)) = absurd (two_requests words other file q r)
  read_missing text ((inl k, asks), l) Refused (inr (other, q, e)) = absurd (lacks_refused k (of_read Refused other q e))
  read_missing text ((inr k, asks), l) Refused (inr (other, q, e)) = absurd (steady k)
  read_missing text d NoFile e = inl refl
  read_missing text d Usage none = absurd (none (read file) r)
  read_missing text d ReadFault e = absurd e
  read_missing text d WriteFault e = absurd e
  read_missing text d NoMemory e = absurd e

-- What is due where a file is not read, the first token of a text, and what the words are.
use Rattle.std.proofs.Common.{inl, ◌≡◌, ◌++◌, ℕ, List, [], ◌∷◌, length, get_or, slice_index_or, length-append, ◌<◌, refl, sym, ap, ◌∙◌, subst, arith}
use Rattle.std.specs.Prelude.{Option, Err, map}
use Rattle.alg_laws.specs.Operations.{Operations}
use Rattle.va_base.specs.declared.expanded.Expanded.{Expanded}
use Rattle.va_base.specs.declared.fault.Fault.{Fault}
use Rattle.va_base.specs.declared.fault.FaultCode.TheVariants.{Unbuilt}
use Rattle.va_base.specs.declared.fault.Phase.TheVariants.{Rules}
use Rattle.va_base.specs.declared.token.Token.{Token}
use Rattle.va_base.specs.Expansion.{IsExpanded}
use Rattle.va_io.specs.Outside.{Holdings}
use Rattle.va_preproc.specs.declared.expansion.PreErr.TheVariants as answer
use Rattle.va_preproc.specs.Answers.{Seen as FilesSeen, IsAnswer}
use Rattle.va_command.specs.declared.status.Status.{Status}
use Rattle.va_command.specs.declared.status.Status.TheVariants.{NoFile, ReadFault, Refused}
use Rattle.va_command.specs.Requests.{compile}
use Rattle.va_report.specs.Reasons.{fault_line, no_such_file_line, read_fault_line}
use Rattle.va_command.specs.Faults.{StandsFirst}
use Rattle.va_command.specs.Answers.{IsDueFor}

-- what the files answered
module _ {V : Type 0} (o : Operations V) (valid : V → Type 0) (holds : Option Holdings) (files : FilesSeen) (file : List ℕ) where
  pub due_missing : (status : Status) (text : List ℕ) → IsAnswer holds file files (Err answer.Missing)
      → (status ≡ NoFile) × (text ≡ no_such_file_line file) → IsDueFor holds files o valid (compile file) status text
  due_missing status text a d =
      subst (λ s. IsDueFor holds files o valid (compile file) s text) (sym d.0) (a, d.1)

  pub due_failed : (name : List ℕ) (status : Status) (text : List ℕ) → IsAnswer holds file files (Err (answer.Failed name))
      → (status ≡ ReadFault) × (text ≡ read_fault_line name) → IsDueFor holds files o valid (compile file) status text
  due_failed name status text a d =
      subst (λ s. IsDueFor holds files o valid (compile file) s text) (sym d.0) (name, a, d.1)

  pub due_fault : (fault : Fault) (name : List ℕ) (status : Status) (text : List ℕ)
      → IsAnswer holds file files (Err (answer.Fault fault name)) → (status ≡ Refused) × (text ≡ fault_line name fault)
      → IsDueFor holds files o valid (compile file) status text
  due_fault fault name status text a d =
      subst (λ s. IsDueFor holds files o valid (compile file) s text) (sym d.0) (name, fault, inl a, d.1)

-- the first token
record FirstToken (tokens : List Token) (first : Token) : Type 0 where
  rest : List Token
  begins : tokens ≡ first ∷ rest

first_token : (tokens : List Token) (d : Token) → 0 < length tokens → FirstToken tokens (slice_index_or tokens 0 d)
first_token [] d lt = absurd (omega arith)
first_token (t ∷ tokens) d lt = record { rest = tokens; begins = refl }

pub stands_first : (e : Expanded) (tokens : List Token) (d : Token) → tokens ≡ e.tokens → IsExpanded e
    → StandsFirst e (record { phase = Rules; at = 0; place = (slice_index_or tokens 0 d).place; code = Unbuilt })
stands_first e tokens d same is =
    let n = ap length is.ends in
    let m = ap length same in
    let f = first_token tokens d (omega (arith, length-append is.before (is.end ∷ []))) in
    (slice_index_or tokens 0 d, f.rest, sym same ∙ f.begins, refl)

-- two words, by their places
pub two_words : {X : Type 0} (f : X → List ℕ) (words : List X) (x y : X) → length words ≡ 2
    → x ≡ get_or words 0 x → y ≡ get_or words 1 y → map f words ≡ f x ∷ f y ∷ []
two_words f [] x y two p q = absurd (omega arith)
two_words f (v ∷ []) x y two p q = absurd (omega arith)
two_words f (v ∷ w ∷ []) x y two p q = cc
two_words f (v ∷ w ∷ u ∷ us) x y two p q = absurd (omega arith)

-- Where no count rose, a command ends as what is told of files and words decides, but for want of memory.
use Rattle.std.proofs.Common.{◌≡◌, ℕ, List, refl, sym, ap, ◌∙◌, subst, ◌⊎◌, inl, inr}
use Rattle.std.specs.Prelude.{Option, Some, None}
use Rattle.alg_laws.specs.Operations.{Operations}
use Rattle.va_base.specs.declared.expanded.Expanded.{Expanded}
use Rattle.va_base.specs.declared.token.Token.{Token}
use Rattle.va_io.specs.Outside.{Holdings, held, Rose}
use Rattle.va_preproc.specs.Answers.{Seen as FilesSeen, CountsFault}
use Rattle.va_preproc.specs.Expansion.{Expansion, lacking, faulty, expanded, expansion, texts}
use Rattle.va_preproc.specs.Reading.{Stop}
use Rattle.va_command.specs.declared.status.Status.{Status}
use Rattle.va_command.specs.declared.status.Status.TheVariants.{Done, Refused, Usage, NoFile, ReadFault, WriteFault, NoMemory}
use Rattle.va_command.specs.Requests.{Request, compile, read, IsRequest, IsNoRequest}
use Rattle.va_command.specs.Answers.{Seen, IsDue, IsDueFor, IsExpected, Ends, Expands, IsBuilt, IsRefused}
use Rattle.va_command.proofs.Asking.{same_file, two_requests}
use Rattle.va_command.proofs.ExpectedRead.{read_done, read_refused, read_missing}
use Rattle.va_command.proofs.AskedNames.{lacks_main}
use Rattle.va_command.proofs.Fronts.{fault_not_built}

-- an expansion gives one thing
not_faulty : (x : Expansion) (tokens : List Token) (names : List (List ℕ)) (stop : Stop) → x ≡ expanded tokens names → x ≡ faulty stop → ⊥
not_faulty x tokens names stop e f = cc

not_lacking : (x : Expansion) (tokens : List Token) (names : List (List ℕ)) (main : List ℕ) → x ≡ expanded tokens names → x ≡ lacking main → ⊥
not_lacking x tokens names main e f = cc

fault_not_lacking : (x : Expansion) (stop : Stop) (main : List ℕ) → x ≡ faulty stop → x ≡ lacking main → ⊥
fault_not_lacking x stop main e f = cc

same_tokens : (x : Expansion) (t t' : List Token) (n n' : List (List ℕ)) → x ≡ expanded t n → x ≡ expanded t' n' → t ≡ t'
same_tokens x t t' n n' e f = cc

same_names : (x : Expansion) (t t' : List Token) (n n' : List (List ℕ)) → x ≡ expanded t n → x ≡ expanded t' n' → n ≡ n'
same_names x t t' n n' e f = cc

same_text : (h : Holdings) (file : List ℕ) (e e' : Expanded) → Expands h file e → Expands h file e' → e ≡ e'
same_text h file e e' (names, x, f) (names', x', f') =
    let tokens = same_tokens (expansion h file) e.tokens e'.tokens names names' x x' in
    let files = f ∙ ap (texts h) (same_names (expansion h file) e.tokens e'.tokens names names' x x') ∙ sym f' in
    λ i. record { tokens = tokens i; files = files i }

module _ {V : Type 0} (o : Operations V) (valid : V → Type 0) (h : Holdings) (files : FilesSeen) (words : List (List ℕ)) (out err : Seen)
    (steady : CountsFault files → ⊥) (out_steady : Rose out.faults_before out.faults_now → ⊥) (err_steady : Rose err.faults_before err.faults_now → ⊥) where
  -- the file of the words is this one
  of_file : (P : List ℕ → Type 0) (file other : List ℕ) → IsRequest words (compile file) → IsRequest words (compile other) → P other → P file
  of_file P file other r q p = subst P (sym (same_file words file other r q)) p

  -- the text was expanded, and is compiled
  not_refused : (file : List ℕ) (e : Expanded) → Expands h file e → IsBuilt e → IsRefused h file → ⊥
  not_refused file e (names, x, f) t (inl (stop, y)) = not_faulty (expansion h file) e.tokens names stop x y
  not_refused file e x t (inr (e', x', none)) = none (subst IsBuilt (same_text h file e e' x x') t)

  -- there is no such file
  not_expanded : (file : List ℕ) (e : Expanded) → held h file ≡ None → Expands h file e → ⊥
  not_expanded file e k (names, x, f) = not_lacking (expansion h file) e.tokens names file x (lacks_main h file k)

  lacking_not_refused : (file : List ℕ) → held h file ≡ None → IsRefused h file → ⊥
  lacking_not_refused file k (inl (stop, y)) = fault_not_lacking (expansion h file) stop file y (lacks_main h file k)
  lacking_not_refused file k (inr (e, x, none)) = not_expanded file e k x

  when_done : (text : List ℕ) (request : Request) → IsRequest words request → IsDueFor (Some h) files o valid request Done text → (expected : Status)
      → IsExpected (Some h) words expected → (Done ≡ expected) ⊎ (Done ≡ NoMemory)
  when_done text (compile file) r d Done e = inl refl
  when_done text (compile file) r (e, (is, (names, x, f, asks)), c) Refused (inl (other, q, k)) =
      absurd (not_refused file e (names, x, f) (c.source, c.within, (c.translation.form, c.translation.parts)) (of_file (IsRefused h) file other r q k))
  when_done text (compile file) r (e, (is, (names, x, f, asks)), c) NoFile (inl (other, q, k)) =
      absurd (not_expanded file e (of_file (λ name. held h name ≡ None) file other r q k) (names, x, f))
  when_done text (compile file) r d Refused (inr (other, q, k)) = absurd (two_requests words file other r q)
  when_done text (compile file) r d NoFile (inr (other, q, k)) = absurd (two_requests words file other r q)
  when_done text (read file) r d expected e = read_done o valid h files words steady file r text d expected e
  when_done text (compile file) r d Usage none = absurd (none (compile file) r)
  when_done text (compile file) r d ReadFault e = absurd e
  when_done text (compile file) r d WriteFault e = absurd e
  when_done text (compile file) r d NoMemory e = absurd e

  -- the fault that is told stands there, where no count rose
  refused_by : (file text : List ℕ) → IsDueFor (Some h) files o valid (compile file) Refused text → IsRefused h file
  refused_by file text (name, fault, inl (inl d), l) = inl (d.0, d.1)
  refused_by file text (name, fault, inl (inr d), l) = absurd (steady d.1)
  refused_by file text (name, fault, inr (e, (is, (names, x, f, asks)), u), l) = inr (e, (names, x, f), fault_not_built e fault u.0)

  when_refused : (text : List ℕ) (request : Request) → IsRequest words request → IsDueFor (Some h) files o valid request Refused text → (expected : Status)
      → IsExpected (Some h) words expected → (Refused ≡ expected) ⊎ (Refused ≡ NoMemory)
  when_refused text (compile file) r d Done (inl (other, q, (e, x, t))) =
      absurd (not_refused file e (of_file (λ name. Expands h name e) file other r q x) t (refused_by file text d))
  when_refused text (compile file) r d Refused e = inl refl
  when_refused text (compile file) r d NoFile (inl (other, q, k)) =
      absurd (lacking_not_refused file (of_file (λ name. held h name ≡ None) file other r q k) (refused_by file text d))
  when_refused text (compile file) r d Done (inr (other, q, k)) = absurd (two_requests words file other r q)
  when_refused text (compile file) r d NoFile (inr (other, q, k)) = absurd (two_requests words file other r q)
  when_refused text (read file) r d expected e = read_refused o valid h files words steady file r text d expected e
  when_refused text (compile file) r d Usage none = absurd (none (compile file) r)
  when_refused text (compile file) r d ReadFault e = absurd e
  when_refused text (compile file) r d WriteFault e = absurd e
  when_refused text (compile file) r d NoMemory e = absurd e

  when_missing : (text : List ℕ) (request : Request) → IsRequest words request → IsDueFor (Some h) files o valid request NoFile text → (expected : Status)
      → IsExpected (Some h) words expected → (NoFile ≡ expected) ⊎ (NoFile ≡ NoMemory)
  when_missing text (compile file) r ((inl k, asks), l) Done (inl (other, q, (e, x, f))) =
      absurd (not_expanded file e k (of_file (λ name. Expands h name e) file other r q x))
  when_missing text (compile file) r ((inl k, asks), l) Refused (inl (other, q, x)) =
      absurd (lacking_not_refused file k (of_file (IsRefused h) file other r q x))
  when_missing text (compile file) r ((inr k, asks), l) Done (inl e) = absurd (steady k)
  when_missing text (compile file) r ((inr k, asks), l) Refused (inl e) = absurd (steady k)
  when_missing text (compile file) r d NoFile e = inl refl
  when_missing text (compile file) r d Done (inr (other, q, k)) = absurd (two_requests words file other r q)
  when_missing text (compile file) r d Refused (inr (other, q, k)) = absurd (two_requests words file other r q)
  when_missing text (read file) r d expected e = read_missing o valid h files words steady file r text d expected e
  when_missing text (compile file) r d Usage none = absurd (none (compile file) r)
  when_missing text (compile file) r d ReadFault e = absurd e
  when_missing text (compile file) r d WriteFault e = absurd e
  when_missing text (compile file) r d NoMemory e = absurd e

  when_usage : (text : List ℕ) → IsDue (Some h) files o valid words Usage text → (expected : Status)
      → IsExpected (Some h) words expected → (Usage ≡ expected) ⊎ (Usage ≡ NoMemory)
  when_usage text (none, u, l) Done (inl (file, r, e)) = absurd (none (compile file) r)
  when_usage text (none, u, l) Done (inr (file, r, e)) = absurd (none (read file) r)
  when_usage text (none, u, l) Refused (inl (file, r, e)) = absurd (none (compile file) r)
  when_usage text (none, u, l) Refused (inr (file, r, e)) = absurd (none (read file) r)
  when_usage text (none, u, l) NoFile (inl (file, r, e)) = absurd (none (compile file) r)
  when_usage text (none, u, l) NoFile (inr (file, r, e)) = absurd (none (read file) r)
  when_usage text d Usage e = inl refl
  when_usage text d ReadFault e = absurd e
  when_usage text d WriteFault e = absurd e
  when_usage text d NoMemory e = absurd e

  pub as_told : (result : Status) → Ends (IsDue (Some h) files o valid words) out err result → (expected : Status)
      → IsExpected (Some h) words expected → (result ≡ expected) ⊎ (result ≡ NoMemory)
  as_told Done ((text, d, w), u) expected e = when_done text d.0 d.1 d.2 expected e
  as_told Refused ((text, d, w), u) expected e = when_refused text d.0 d.1 d.2 expected e
  as_told Usage ((text, d, w), u) expected e = when_usage text d expected e
  as_told NoFile ((text, d, w), u) expected e = when_missing text d.0 d.1 d.2 expected e
  as_told ReadFault ((text, (request, r, (name, f, l)), w), u) expected e = absurd (steady f.1)
  as_told WriteFault (inl ((text, d, w, s, rose), u)) expected e = absurd (out_steady rose)
  as_told WriteFault (inr ((text, d, w, s, rose), u)) expected e = absurd (err_steady rose)
  as_told NoMemory w expected e = inr refl

-- words that make no request are answered by the usage line, whatever is told
pub as_no_request : {V : Type 0} (o : Operations V) (valid : V → Type 0) (holds : Option Holdings) (files : FilesSeen) (words : List (List ℕ)) (out err : Seen)
    (result : Status) → Ends (IsDue holds files o valid words) out err result → IsNoRequest words
    → (Rose out.faults_before out.faults_now → ⊥) → (Rose err.faults_before err.faults_now → ⊥)
    → (result ≡ Usage) ⊎ (result ≡ NoMemory)
as_no_request o valid holds files words out err Done ((text, d, w), u) none b c = absurd (none d.0 d.1)
as_no_request o valid holds files words out err Refused ((text, d, w), u) none b c = absurd (none d.0 d.1)
as_no_request o valid holds files words out err Usage e none b c = inl refl
as_no_request o valid holds files words out err NoFile ((text, d, w), u) none b c = absurd (none d.0 d.1)
as_no_request o valid holds files words out err ReadFault ((text, d, w), u) none b c = absurd (none d.0 d.1)
as_no_request o valid holds files words out err WriteFault (inl ((text, d, w, s, rose), u)) none b c = absurd (b rose)
as_no_request o valid holds files words out err WriteFault (inr ((text, d, w, s, rose), u)) none b c = absurd (c rose)
as_no_request o valid holds files words out err NoMemory e none b c = inr refl

-- and so whatever is expected
pub as_expected : {V : Type 0} (o : Operations V) (valid : V → Type 0) (holds : Option Holdings) (files : FilesSeen) (words : List (List ℕ)) (out err : Seen)
    (result : Status) → Ends (IsDue holds files o valid words) out err result → (expected : Status) → IsExpected holds words expected
    → (CountsFault files → ⊥) → (Rose out.faults_before out.faults_now → ⊥) → (Rose err.faults_before err.faults_now → ⊥)
    → (result ≡ expected) ⊎ (result ≡ NoMemory)
as_expected o valid (Some h) files words out err result ends expected e a b c =
    as_told o valid h files words out err a b c result ends expected e
as_expected o valid None files words out err result ends Usage e a b c = as_no_request o valid None files words out err result ends e b c
as_expected o valid None files words out err result ends Done (inl e) a b c = absurd e.2
as_expected o valid None files words out err result ends Done (inr e) a b c = absurd e.2
as_expected o valid None files words out err result ends Refused (inl e) a b c = absurd e.2
as_expected o valid None files words out err result ends Refused (inr e) a b c = absurd e.2
as_expected o valid None files words out err result ends NoFile (inl e) a b c = absurd e.2
as_expected o valid None files words out err result ends NoFile (inr e) a b c = absurd e.2
as_expected o valid None files words out err result ends ReadFault e a b c = absurd e
as_expected o valid None files words out err result ends WriteFault e a b c = absurd e
as_expected o valid None files words out err result ends NoMemory e a b c = absurd e

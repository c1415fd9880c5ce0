-- What a whole expansion answers.
use Rattle.std.proofs.Common.{◌≡◌, ◌<◌, ◌≤◌, ◌+◌, ◌-◌, ◌^◌, ◌⊎◌, inl, inr, min, ℕ, zero, suc, List, [], ◌∷◌, ◌++◌, length, refl, sym, ap, subst, ◌∙◌, arith, true, false}
use Rattle.std.proofs.lemmas.List.{append-nil, length-append, length-map, take_all}
use Rattle.std.proofs.lemmas.Bool.{eq-eqb, ne_eqb}
use Rattle.std.specs.Prelude.{Option, Some, None, Result, Ok, Err, slice_get, option_map, unwrap_or, IfSome, codes, ◌==◌, if◌then◌else◌}
use Rattle.std.specs.Global.{Vec}
use Rattle.va_base.specs.declared.expanded.Expanded.{Expanded}
use Rattle.va_base.specs.declared.fault.Fault.{Fault}
use Rattle.va_base.specs.declared.fault.FaultCode.TheVariants.{MissingInclude}
use Rattle.va_base.specs.declared.file.FileText.{FileText}
use Rattle.va_base.specs.declared.token.Token.{Token}
use Rattle.va_base.specs.Expansion.{IsExpanded}
use Rattle.va_io.specs.Outside.{Holdings, held, Lacks, Appends, Rose}
use Rattle.va_lexer.specs.Tokens.{tokens_of}
use Rattle.va_preproc.specs.declared.broken.Broken.{Broken}
use Rattle.va_preproc.specs.declared.broken.Broken.TheVariants as broken
use Rattle.va_preproc.specs.declared.expansion.PreErr.{PreErr}
use Rattle.va_preproc.specs.declared.expansion.PreErr.TheVariants as answer
use Rattle.va_preproc.specs.declared.known.Known.{Known}
use Rattle.va_preproc.specs.declared.progress.Progress.{Progress}
use Rattle.va_preproc.specs.Lexemes.{Bytes}
use Rattle.va_preproc.specs.Reading.{State, Stop, Step}
use Rattle.va_preproc.specs.Expansion.{Limits, Readings, in_holdings, Expansion, lacking, faulty, expanded, ended, expansion_of, expansion_by, expansion_within, with_macro, asking, start_macros, start, include_of, first_place, end_token, texts, reads}
use Rattle.va_preproc.specs.Answers.{Seen, AsksFor, CountsFault, AreFirst, WhereTold, missing_at, IsFirstFault, IsMissed, IsAnsweredFault, IsAnswerWithin, IsSettled}
use Rattle.va_preproc.specs.Values.{lexemes_in, macros_of, state_of}
use Rattle.va_preproc.specs.Steps.{names_in, Agrees, AreShort, asked_in, World, Asks, HasCause, BreaksOff, IsWithin, AreSmall, itself, includes_by, expand_read, IsRefused, IsBrokenOff}
use Rattle.va_preproc.proofs.Blames.{IsOther, BlamesOther, found_blames, include_blames}
use Rattle.va_preproc.proofs.FileSteps.{shorter, read_grew}
use Rattle.va_preproc.proofs.Grows.{grew_asked}
use Rattle.va_preproc.proofs.Lexed.{lexed_tokens}
use Rattle.va_preproc.proofs.Results.{gives_faults}
use Rattle.va_preproc.proofs.Stable.{Low, within_with, asked_state}
use Rattle.va_preproc.proofs.Whole.{AreRead, gives_text}

-- at the start
pub record Begins (most : Limits) (k : Known) (p : Progress) : Type 0 where
  pub macros : macros_of k ≡ start_macros
  pub files : k.files.items ≡ []
  pub unread : p.unread ≡ most.read
  pub tokens : p.result.items ≡ []
  pub free : p.free ≡ most.result
  pub argument : p.argument ≡ None

none_low : (n : ℕ) → Low n (record { formals = None; body = [] })
none_low n = λ k d h. absurd (below_none k h)
  where
    below_none : (k : ℕ) → k < 0 → ⊥
    below_none k h = omega arith

pub starts_within : (k : Known) → macros_of k ≡ start_macros → IsWithin k
starts_within k e name =
    let n = length k.files.items in
    let empty = Some (record { formals = None; body = [] }) in
    subst (λ m. IfSome (m name) (Low n)) (sym e)
    (within_with n (codes "__VAMS_ENABLE__") empty (with_macro (codes "__VAMS_COMPACT_MODELING__") empty (λ name. None)) (none_low n)
    (within_with n (codes "__VAMS_COMPACT_MODELING__") empty (λ name. None) (none_low n) (λ other. tt)) name)

start_seen : (most : Limits) (k : Known) (p : Progress) → Begins most k p → state_of k p ≡ start most
start_seen most k p b = λ j. record {
  macros = b.macros j;
  asked = names_in (b.files j);
  unread = b.unread j;
  result = b.tokens j;
  free = b.free j;
  argument = ap (option_map (λ (given : Vec Token). lexemes_in k.files.items given.items)) b.argument j;
}

-- the state in which the main file was read
pub main_state : (most : Limits) (k v : Known) (p : Progress) (f : FileText) (main : Bytes) → Begins most k p
    → v.files.items ≡ k.files.items ++ f ∷ [] → v.macros ≡ k.macros → f.name ≡ main → state_of v p ≡ asking main (start most)
main_state most k v p f main b files macros own =
    asked_state k v f files macros (starts_within k b.macros) p b.argument
    ∙ ap (λ m. asking m (state_of k p)) own ∙ ap (asking main) (start_seen most k p b)

-- an expansion is that of its main file
pub whole_reads : (most : Limits) (r : Readings) (main bytes : Bytes) → r 0 main ≡ Some bytes
    → expansion_by most tokens_of r main ≡ ended bytes (expand_read most most.includes r main 0 (asking main (start most)))
whole_reads most r main bytes e =
    ap (λ o. expansion_of o most tokens_of r main) e
    ∙ ap (λ o. ended bytes (include_of most tokens_of r o (includes_by most most.includes r) main (first_place 0) (asking main (start most)))) (sym e)

ended_reads : (bytes : Bytes) (m : Step State) → reads (ended bytes m) ≡ asked_in itself m
ended_reads bytes (Ok s) = refl
ended_reads bytes (Err stop) = refl

-- the main file is read first
pub main_first : (most : Limits) (r : Readings) (main : Bytes) → AreFirst (main ∷ []) (reads (expansion_by most tokens_of r main))
main_first most r main = by_found (r 0 main) refl
  where
    by_found : (o : Option Bytes) → r 0 main ≡ o → AreFirst (main ∷ []) (reads (expansion_by most tokens_of r main))
    by_found None e = subst (λ x. AreFirst (main ∷ []) (reads x)) (sym (ap (λ o. expansion_of o most tokens_of r main) e)) ([], refl)
    by_found (Some bytes) e =
        let m = expand_read most most.includes r main 0 (asking main (start most)) in
        subst (λ x. AreFirst (main ∷ []) (reads x)) (sym (whole_reads most r main bytes e))
        (subst (AreFirst (main ∷ [])) (sym (ended_reads bytes m))
        (grew_asked itself (asking main (start most)) m (read_grew most most.includes 0 r main (asking main (start most)))))

pub no_names : (all : List Bytes) → AreFirst [] all
no_names all = (all, refl)

told_map : (o : Option Holdings) (P Q : Holdings → Type 0) → ((h : Holdings) → P h → Q h) → WhereTold o P → WhereTold o Q
told_map None P Q f h = tt
told_map (Some holds) P Q f h = f holds h

pub told_all : (o : Option Holdings) (Q : Holdings → Type 0) → ((h : Holdings) → Q h) → WhereTold o Q
told_all None Q f = tt
told_all (Some holds) Q f = f holds

-- what a whole call did to the files
pub asks_whole : (most : ℕ) (a b : World) (old files : List FileText) (last : List Bytes) → old ≡ [] → Asks most a b old files last
    → Appends a.asked b.asked (names_in files ++ last) × WhereTold a.holds (λ h. Agrees most (in_holdings h) files)
asks_whole most a b old files last none k = (
  subst (λ l. Appends a.asked b.asked (names_in l ++ last)) (sym (k.grown ∙ ap (λ l. l ++ k.more) none)) k.asked,
  told_map a.holds (λ h. Agrees most (in_holdings h) old → Agrees most (in_holdings h) files) (λ h. Agrees most (in_holdings h) files)
      (λ h f. f (subst (Agrees most (in_holdings h)) (sym none) (nothing_read (in_holdings h)))) k.found,
)
  where
    no_file : (number : ℕ) (file : FileText) → slice_get [] number ≡ Some file → ⊥
    no_file number file e = cc

    nothing_read : (r : Readings) → Agrees most r []
    nothing_read r number file e = absurd (no_file number file e)

-- a whole call reads at most one byte more of a file than the limit
pub short_whole : (most : ℕ) (a b : World) (old files : List FileText) (last : List Bytes) → old ≡ [] → Asks most a b old files last → AreShort most files
short_whole most a b old files last none k = k.short (subst (AreShort most) (sym none) (λ number file e. absurd (no_file number file e)))
  where
    no_file : (number : ℕ) (file : FileText) → slice_get [] number ≡ Some file → ⊥
    no_file number file e = cc

-- files within the limit are read whole
full : (most : ℕ) (r : Readings) (files : List FileText) (n : ℕ) (file : FileText) → Agrees most r files → AreSmall most 0 files
    → slice_get files n ≡ Some file → r n file.name ≡ Some file.bytes
full most r files n file agrees small at =
    let found = agrees n file at in
    found.1 ∙ ap Some (shorter most found.0 file.bytes found.2 (small n file at (inside files n file at))).0
  where
    inside : (files : List FileText) (n : ℕ) (file : FileText) → slice_get files n ≡ Some file → n + 0 < length files
    inside [] n file e = cc
    inside (f ∷ files) zero file e = omega arith
    inside (f ∷ files) (suc n) file e = further n (length files) (inside files n file e)
      where
        further : (n k : ℕ) → n + 0 < k → suc n + 0 < suc k
        further n k h = omega arith

-- the files are those that are held
texts_of : (h : Holdings) (files : List FileText) → ((n : ℕ) (file : FileText) → slice_get files n ≡ Some file → held h file.name ≡ Some file.bytes)
    → files ≡ texts h (names_in files)
texts_of h [] e = refl
texts_of h (f ∷ files) e = λ j.
    record { name = f.name; bytes = unwrap_or (sym (e 0 f refl) j) [] } ∷ texts_of h files (λ n file at. e (suc n) file at) j

-- what the files that were read hold, by their numbers
files_read : List FileText → Readings
files_read files n name = option_map (λ file. file.bytes) (slice_get files n)

read_agrees : (most : ℕ) (files : List FileText) → AreSmall most 0 files → Agrees most (files_read files) files
unfolding files_read
read_agrees most files small number file at = (
  file.bytes,
  ap (option_map (λ (file : FileText). file.bytes)) at,
  sym (take_all (most + 1) file.bytes (more (length file.bytes) (small number file at (inside files number file at)))),
)
  where
    inside : (files : List FileText) (n : ℕ) (file : FileText) → slice_get files n ≡ Some file → n + 0 < length files
    inside [] n file e = cc
    inside (f ∷ files) zero file e = omega arith
    inside (f ∷ files) (suc n) file e = further n (length files) (inside files n file e)
      where
        further : (n k : ℕ) → n + 0 < k → suc n + 0 < suc k
        further n k h = omega arith

    more : (n : ℕ) → n ≤ most → n ≤ most + 1
    more n h = omega arith

-- the same, and what was not read is found empty
all_found : List FileText → Readings
all_found files n name = Some (unwrap_or (files_read files n name) [])

all_are_found : (files : List FileText) (n : ℕ) (name : Bytes) → (bytes : Bytes) × (all_found files n name ≡ Some bytes)
unfolding all_found
all_are_found files n name = (unwrap_or (files_read files n name) [], refl)

found_agrees : (most : ℕ) (files : List FileText) → AreShort most files → Agrees most (all_found files) files
unfolding all_found files_read
found_agrees most files short number file at = (
  file.bytes,
  ap (λ o. Some (unwrap_or (option_map (λ (file : FileText). file.bytes) o) [])) at,
  sym (take_all (most + 1) file.bytes (short number file at)),
)

read_are : (files : List FileText) → AreRead (files_read files) (names_in files) files
unfolding files_read
read_are [] k name bytes e f = cc
read_are (x ∷ files) zero name bytes e f = ap Some (λ j. record { name = same_bytes x.name name e j; bytes = same_bytes x.bytes bytes f j })
  where
    same_bytes : (a b : Bytes) → Some a ≡ Some b → a ≡ b
    same_bytes a b e = cc
read_are (x ∷ files) (suc k) name bytes e f = read_are files k name bytes e f

same_file : (a b : FileText) → Some a ≡ Some b → a ≡ b
same_file a b e = cc

-- the first of the files that are known is the main file
pub first_name : (v files more : List FileText) (f first : FileText) (main : Bytes) → v ≡ f ∷ [] → f.name ≡ main → files ≡ v ++ more
    → slice_get files 0 ≡ Some first → first.name ≡ main
first_name v files more f first main one own grown at =
    ap (λ (x : FileText). x.name) (same_file first f (sym at ∙ ap (λ l. slice_get l 0) (grown ∙ ap (λ l. l ++ more) one))) ∙ own

-- where the main file was expanded to its end
pub whole_gives : (most : Limits) (r : Readings) (files : List FileText) (first : FileText) (main : Bytes) (s : State)
    → Agrees most.bytes r files → AreSmall most.bytes 0 files → slice_get files 0 ≡ Some first → first.name ≡ main
    → expand_read most most.includes r main 0 (asking main (start most)) ≡ Ok s
    → expansion_by most tokens_of r main ≡ expanded (s.result ++ end_token first.bytes ∷ []) s.asked
whole_gives most r files first main s agrees small at own e =
    whole_reads most r main first.bytes (ap (r 0) (sym own) ∙ full most.bytes r files 0 first agrees small at) ∙ ap (ended first.bytes) e

-- names that were asked for last, and the cause of a break
abbrev pub last_name : Broken → List Bytes
last_name broken.NoMemory = []
last_name (broken.Failed name) = name ∷ []
last_name (broken.Missing fault name) = name ∷ []

abbrev pub WasBroken : Option Holdings → Seen → Broken → Type 0
WasBroken holds seen broken.NoMemory = Unit {0}
WasBroken holds seen (broken.Failed name) = CountsFault seen
WasBroken holds seen (broken.Missing fault name) = (Lacks holds name ⊎ CountsFault seen) × (fault.code ≡ MissingInclude)

rose_by : (m a b c : ℕ) → a ≤ b → min (b + 1) m ≤ c → min (a + 1) m ≤ c
rose_by m a b c h k = omega arith

pub rose_later : (a b c : ℕ) → a ≤ b → Rose b c → Rose a c
rose_later a b c h k = rose_by (2 ^ 64 - 1) a b c h k

pub was_broken : (T : Type 0) (b c : World) (holds : Option Holdings) (seen : Seen) (broken : Broken) → b.holds ≡ holds → seen.faults_before ≤ b.faults
    → seen.faults_now ≡ c.faults → HasCause {T = T} b c (Err broken) → WasBroken holds seen broken
was_broken T b c holds seen broken.NoMemory same later now cause = tt
was_broken T b c holds seen (broken.Failed name) same later now cause =
    subst (Rose seen.faults_before) (sym now) (rose_later seen.faults_before b.faults c.faults later cause)
was_broken T b c holds seen (broken.Missing fault name) same later now cause = (by_cause cause.0, cause.1)
  where
    by_cause : Lacks b.holds name ⊎ Rose b.faults c.faults → Lacks holds name ⊎ CountsFault seen
    by_cause (inl lacks) = inl (subst (λ o. Lacks o name) same lacks)
    by_cause (inr rose) = inr (subst (Rose seen.faults_before) (sym now) (rose_later seen.faults_before b.faults c.faults later rose))

low_place : (files : List FileText) (file : Bytes) (n : ℕ) → n < length (names_in files ++ file ∷ []) → n ≤ length (names_in files)
low_place files file n h = omega (arith, length-append (names_in files) (file ∷ []))

names_long : (files : List FileText) (file : Bytes) → length (names_in files ++ file ∷ []) ≡ length files + 1
names_long files file = length-append (names_in files) (file ∷ []) ∙ ap (λ n. n + 1) (length-map files (λ f. f.name))

-- a read of another number finds what is held
missed_agrees : (most : ℕ) (h : Holdings) (files : List FileText) → Agrees most (in_holdings h) files → Agrees most (missing_at (length files) h) files
missed_agrees most h files agrees number file at =
    let found = agrees number file at in
    (found.0, ap (λ b. if b then None else held h file.name) (other number (length files) (inside files number file at)) ∙ found.1, found.2)
  where
    inside : (files : List FileText) (n : ℕ) (file : FileText) → slice_get files n ≡ Some file → n < length files
    inside [] n file e = cc
    inside (f ∷ files) zero file e = omega arith
    inside (f ∷ files) (suc n) file e = further n (length files) (inside files n file e)
      where
        further : (n k : ℕ) → n < k → suc n < suc k
        further n k h = omega arith

    apart : (n k : ℕ) → n < k → n ≡ k → ⊥
    apart n k h e = omega arith

    other : (n k : ℕ) → n < k → (n == k) ≡ false
    other n k h = ne_eqb n k (apart n k h)

missed_read : (h : Holdings) (n : ℕ) (name : Bytes) → missing_at n h n name ≡ None
missed_read h n name = ap (λ b. if b then None else held h name) (same n)
  where
    same : (n : ℕ) → (n == n) ≡ true
    same n = eq-eqb n n refl

-- The answer over the files that are known, where the main file was asked for and read.
module _ (most : Limits) (holds : Option Holdings) (main : Bytes) (seen : Seen) (files : List FileText) (first : FileText)
    (at : slice_get files 0 ≡ Some first) (own : first.name ≡ main) where
  -- the main file as it was read
  start_read : (r : Readings) → Agrees most.bytes r files → (bytes : Bytes) × (r 0 main ≡ Some bytes)
  start_read r agrees = let found = agrees 0 first at in (found.0, ap (r 0) (sym own) ∙ found.1)

  abbrev step : Readings → Step State
  step r = expand_read most most.includes r main 0 (asking main (start most))

  -- the names that are read
  read_names : (r : Readings) (names : List Bytes) → Agrees most.bytes r files → AreFirst names (asked_in itself (step r))
      → AreFirst names (reads (expansion_by most tokens_of r main))
  read_names r names agrees first =
      let found = start_read r agrees in
      subst (AreFirst names) (sym (ap reads (whole_reads most r main found.0 found.1) ∙ ended_reads found.0 (step r))) first

  stops : (r : Readings) (stop : Stop) → Agrees most.bytes r files → step r ≡ Err stop → expansion_by most tokens_of r main ≡ faulty stop
  stops r stop agrees e = let found = start_read r agrees in whole_reads most r main found.0 found.1 ∙ ap (ended found.0) e

  abbrev Found : Type 0
  Found = WhereTold holds (λ h. Agrees most.bytes (in_holdings h) files)

  -- memory was refused
  pub memory_answers : (names : List Bytes) → AsksFor seen names → Found
      → ((r : Readings) → Agrees most.bytes r files → AreFirst names (asked_in itself (step r)))
      → IsAnswerWithin most holds main seen (Err answer.NoMemory)
  memory_answers names asked found follows = (
    names,
    asked,
    told_map holds (λ h. Agrees most.bytes (in_holdings h) files)
        (λ h. AreFirst names (reads (expansion_within most tokens_of h main)))
        (λ h agrees. read_names (in_holdings h) names agrees (follows (in_holdings h) agrees)) found,
  )

  -- the expansion came to its end
  pub finished_answers : (s : State) (e : Expanded) → AreSmall most.bytes 0 files → AsksFor seen (names_in files) → Found
      → e.tokens ≡ s.result ++ end_token first.bytes ∷ [] → e.files ≡ files → s.asked ≡ names_in files
      → ((r : Readings) → Agrees most.bytes r files → step r ≡ Ok s)
      → IsAnswerWithin most holds main seen (Ok e)
  finished_answers s e small asked found tokens same names follows =
      told_map holds (λ h. Agrees most.bytes (in_holdings h) files)
      (λ h. (names : List Bytes) × (expansion_within most tokens_of h main ≡ expanded e.tokens names) × (e.files ≡ texts h names) × AsksFor seen names)
      (λ h agrees. (
        names_in files,
        whole_gives most (in_holdings h) files first main s agrees small at own (follows (in_holdings h) agrees)
            ∙ (λ j. expanded (sym tokens j) (names j)),
        same ∙ texts_of h files (λ n file place. full most.bytes (in_holdings h) files n file agrees small place),
        asked,
      )) found

  pub finished_expanded : (s : State) (e : Expanded) → AreSmall most.bytes 0 files → most.result ≤ 2000000
      → e.tokens ≡ s.result ++ end_token first.bytes ∷ [] → e.files ≡ files → s.asked ≡ names_in files
      → ((r : Readings) → Agrees most.bytes r files → step r ≡ Ok s) → IsExpanded e
  finished_expanded s e small few tokens same names follows =
      let r = files_read files in
      let agrees = read_agrees most.bytes files small in
      subst IsExpanded (λ j. record { tokens = sym tokens j; files = sym same j })
      (gives_text most few r main (s.result ++ end_token first.bytes ∷ []) (names_in files) files (read_are files)
      (whole_gives most r files first main s agrees small at own (follows r agrees) ∙ ap (expanded (s.result ++ end_token first.bytes ∷ [])) names))

  -- the expansion was refused
  pub refused_answers : (fault : Fault) (e : PreErr) → AreShort most.bytes files → IsRefused (names_in files) fault e
      → AsksFor seen (names_in files) → Found
      → ((r : Readings) → Agrees most.bytes r files → step r ≡ Err (record { fault = fault; asked = names_in files }))
      → IsAnswerWithin most holds main seen (Err e)
  refused_answers fault (answer.Fault told name) short is asked found follows = by_told holds found
    where
      stop : Stop
      stop = record { fault = fault; asked = names_in files }

      other : (r : Readings) → ((n : ℕ) (name : Bytes) → (bytes : Bytes) × (r n name ≡ Some bytes)) → step r ≡ Err stop → IsOther fault.code
      other r finds e =
          let found = finds 0 main in
          subst BlamesOther e
          (found_blames most tokens_of r finds (r 0 main) (includes_by most most.includes r) (include_blames most tokens_of r finds most.includes)
          main (first_place 0) (asking main (start most)) found.0 found.1)

      by_told : (o : Option Holdings) → WhereTold o (λ h. Agrees most.bytes (in_holdings h) files)
          → IsAnsweredFault most o main seen told name
      by_told None agrees =
          let r = all_found files in
          λ missing. absurd (other r (all_are_found files) (follows r (found_agrees most.bytes files short)) (ap (λ (f : Fault). f.code) (sym is.0) ∙ missing))
      by_told (Some h) agrees =
          inl (stop, stops (in_holdings h) _ agrees (follows (in_holdings h) agrees), sym is.0, is.1, asked, tt)
  refused_answers fault answer.Missing short is asked found follows = absurd is
  refused_answers fault (answer.Failed name) short is asked found follows = absurd is
  refused_answers fault answer.NoMemory short is asked found follows =
      memory_answers (names_in files) asked found (λ r agrees. subst (λ m. AreFirst (names_in files) (asked_in itself m)) (sym (follows r agrees)) ([], sym (append-nil (names_in files))))

  same_end : (r : Readings) (stop : Stop) → Agrees most.bytes r files → step r ≡ Err stop → AreFirst stop.asked (asked_in itself (step r))
  same_end r stop agrees e = subst (λ m. AreFirst stop.asked (asked_in itself m)) (sym e) ([], sym (append-nil stop.asked))

  -- the expansion was broken off
  pub broken_answers : (b : Broken) (e : PreErr) → IsBrokenOff (names_in files) b e → AsksFor seen (names_in files ++ last_name b) → Found
      → WasBroken holds seen b
      → ((r : Readings) → Agrees most.bytes r files → BreaksOff itself (step r) files b (λ name. r (length files) name ≡ None))
      → IsAnswerWithin most holds main seen (Err e)
  broken_answers broken.NoMemory answer.NoMemory is asked found cause follows =
      memory_answers (names_in files) (subst (AsksFor seen) (append-nil (names_in files)) asked) found follows
  broken_answers broken.NoMemory answer.Missing is asked found cause follows = absurd is
  broken_answers broken.NoMemory (answer.Failed name) is asked found cause follows = absurd is
  broken_answers broken.NoMemory (answer.Fault told name) is asked found cause follows = absurd is
  broken_answers (broken.Failed file) answer.NoMemory is asked found cause follows = absurd is
  broken_answers (broken.Failed file) answer.Missing is asked found cause follows = absurd is
  broken_answers (broken.Failed file) (answer.Failed name) is asked found cause follows =
      let names = λ (n : Bytes). names_in files ++ n ∷ [] in (
        names_in files,
        cause,
        subst (λ n. AsksFor seen (names n)) (sym is) asked,
        told_map holds (λ h. Agrees most.bytes (in_holdings h) files)
            (λ h. AreFirst (names name) (reads (expansion_within most tokens_of h main)))
            (λ h agrees. subst (λ n. AreFirst (names n) (reads (expansion_within most tokens_of h main))) (sym is)
            (read_names (in_holdings h) (names file) agrees (follows (in_holdings h) agrees))) found,
      )
  broken_answers (broken.Failed file) (answer.Fault told name) is asked found cause follows = absurd is
  broken_answers (broken.Missing fault file) answer.NoMemory is asked found cause follows =
      memory_answers (names_in files ++ file ∷ []) asked found (λ r agrees. (follows r agrees).0)
  broken_answers (broken.Missing fault file) answer.Missing is asked found cause follows = absurd is
  broken_answers (broken.Missing fault file) (answer.Failed name) is asked found cause follows = absurd is
  broken_answers (broken.Missing fault file) (answer.Fault told name) is asked found cause follows =
      by_told holds found cause.0
    where
      stop : Stop
      stop = record { fault = fault; asked = names_in files ++ file ∷ [] }

      named : (r : Readings) → Agrees most.bytes r files → step r ≡ Err stop → slice_get stop.asked told.place.file ≡ Some name
      named r agrees e =
          is.1 (low_place files file told.place.file
          (subst (λ (f : Fault). f.place.file < length stop.asked) (sym is.0)
          (gives_faults most tokens_of r main stop lexed_tokens.of_files (stops r stop agrees e)).inside))

      by_told : (o : Option Holdings) → WhereTold o (λ h. Agrees most.bytes (in_holdings h) files) → Lacks o file ⊎ CountsFault seen
          → IsAnsweredFault most o main seen told name
      by_told None agrees (inl lacks) = λ missing. absurd lacks
      by_told None agrees (inr rose) = λ missing. rose
      by_told (Some h) agrees (inl lacks) =
          let r = in_holdings h in
          let e = (follows r agrees).1 lacks in
          inl (stop, stops r stop agrees e, sym is.0, named r agrees e, asked, tt)
      by_told (Some h) agrees (inr rose) =
          let r = missing_at (length files) h in
          let also = missed_agrees most.bytes h files agrees in
          let e = (follows r also).1 (missed_read h (length files) file) in
          inr (
            length files,
            rose,
            ap (λ (f : Fault). f.code) is.0 ∙ cause.1,
            (
              stop,
              stops r stop also e,
              sym is.0,
              named r also e,
              asked,
              (names_long files file, read_names (in_holdings h) stop.asked agrees (follows (in_holdings h) agrees).0),
            ),
          )

-- the main file's length is a number
pub within_numbers : (files : List FileText) (first : FileText) → AreSmall (2 ^ 32 - 2) 0 files → slice_get files 0 ≡ Some first → 0 < length files
    → length first.bytes < 2 ^ 32 - 1
within_numbers files first small at some = below (length first.bytes) (small 0 first at (more (length files) some))
  where
    more : (n : ℕ) → 0 < n → 0 + 0 < n
    more n h = omega arith

    below : (n : ℕ) → n ≤ 2 ^ 32 - 2 → n < 2 ^ 32 - 1
    below n h = omega arith

-- where no fault is counted, what is held decides the answer
pub settles : (most : Limits) (h : Holdings) (main : Bytes) (seen : Seen) (result : Result Expanded PreErr) → IsAnswerWithin most (Some h) main seen result
    → (CountsFault seen → ⊥) → IsSettled (expansion_within most tokens_of h main) result
settles most h main seen (Ok e) is none = subst (λ x. IsSettled x (Ok e)) (sym is.1) refl
settles most h main seen (Err answer.NoMemory) is none = no_memory (expansion_within most tokens_of h main)
  where
    no_memory : (e : Expansion) → IsSettled e (Err answer.NoMemory)
    no_memory (lacking name) = tt
    no_memory (faulty stop) = tt
    no_memory (expanded tokens names) = tt
settles most h main seen (Err answer.Missing) is none = by_cause is.0
  where
    by_cause : (held h main ≡ None) ⊎ CountsFault seen → IsSettled (expansion_within most tokens_of h main) (Err answer.Missing)
    by_cause (inl lacks) =
        subst (λ x. IsSettled x (Err answer.Missing)) (sym (ap (λ o. expansion_of o most tokens_of (in_holdings h) main) lacks)) tt
    by_cause (inr rose) = absurd (none rose)
settles most h main seen (Err (answer.Failed name)) is none = absurd (none is.1)
settles most h main seen (Err (answer.Fault fault name)) (inl is) none =
    subst (λ x. IsSettled x (Err (answer.Fault fault name))) (sym is.1) (sym is.2, is.3)
settles most h main seen (Err (answer.Fault fault name)) (inr is) none = absurd (none is.1)

-- the call that expands the main file
pub starts : (most : Limits) (k v : Known) (p : Progress) (f : FileText) (main : Bytes) → Begins most k p
    → v.files.items ≡ k.files.items ++ f ∷ [] → v.macros ≡ k.macros → f.name ≡ main → (r : Readings)
    → expand_read most most.includes r main 0 (asking main (start most)) ≡ expand_read most most.includes r main (length v.files.items - 1) (state_of v p)
starts most k v p f main b files macros own r = λ j.
    expand_read most most.includes r main (number j) (sym (main_state most k v p f main b files macros own) j)
  where
    number : 0 ≡ length v.files.items - 1
    number = sym (ap (λ (l : List FileText). length l - 1) (files ∙ ap (λ l. l ++ f ∷ []) b.files))

-- one file, which was not looked at
pub one_small : (most : ℕ) (files : List FileText) (f : FileText) → files ≡ f ∷ [] → AreSmall most 1 files
one_small most files f one number file at below = absurd (none number (length files) below (ap length one))
  where
    none : (n k : ℕ) → n + 1 < k → k ≡ 1 → ⊥
    none n k h e = omega arith

-- What is asked of files, and what steps are where it ends.
use Rattle.std.proofs.Common.{◌≡◌, ◌<◌, ◌≤◌, ◌+◌, ◌-◌, ◌⊎◌, inl, inr, ℕ, zero, suc, List, [], ◌∷◌, ◌++◌, length, take, refl, sym, ap, subst, ◌∙◌, arith, append_assoc, Bool, true, false}
use Rattle.std.proofs.lemmas.List.{append-nil, length-append}
use Rattle.std.specs.Prelude.{Option, Some, None, Result, Ok, Err, slice_get, option_map, not, ◌&&◌}
use Rattle.std.specs.Option.{is_some}
use Rattle.va_base.specs.declared.fault.Fault.{Fault}
use Rattle.va_base.specs.declared.fault.FaultCode.TheVariants as code
use Rattle.va_base.specs.declared.file.FileText.{FileText}
use Rattle.va_io.specs.Outside.{Holdings, held, Gives, Appends}
use Rattle.va_preproc.specs.declared.broken.Broken.{Broken}
use Rattle.va_preproc.specs.declared.broken.Broken.TheVariants as broken
use Rattle.va_preproc.specs.declared.condition.Branch.{Branch}
use Rattle.va_preproc.specs.declared.directive.Directive.TheVariants as directive
use Rattle.va_preproc.specs.declared.known.Known.{Known}
use Rattle.va_preproc.specs.declared.progress.Progress.{Progress}
use Rattle.va_preproc.specs.Lexemes.{Bytes, Lexeme, Role, line_end, a_directive, a_use, a_name, another}
use Rattle.va_preproc.specs.Reading.{State, Step, ◌>>=◌, own_place}
use Rattle.va_preproc.specs.Definitions.{file_name}
use Rattle.va_preproc.specs.Conditionals.{is_skipped, Onward}
use Rattle.va_preproc.specs.Uses.{Use}
use Rattle.va_preproc.specs.Expansion.{Readings, in_holdings, Included, included_name, onward, skip_or, at_file_name, at_token}
use Rattle.va_preproc.specs.Answers.{WhereTold}
use Rattle.va_preproc.specs.Values.{step_of, state_of, next_read, is_include_by}
use Rattle.va_preproc.specs.Steps.{names_in, Agrees, AreShort, asked_in, World, Asks, BreaksOff, IsWithin, IsFit, AreSmall, IfGiven, at_onward}
use Rattle.va_preproc.proofs.Steps.{Extends, extends_refl, extends_trans}
use Rattle.va_preproc.proofs.Grows.{Grew, Kept, grew_asked}
use Rattle.va_preproc.proofs.Turns.{next_later}

names_append : (x y : List FileText) → names_in (x ++ y) ≡ names_in x ++ names_in y
names_append [] y = refl
names_append (f ∷ x) y = ap (λ l. f.name ∷ l) (names_append x y)

pub appends_none : (o : Option (List Bytes)) → Appends o o []
appends_none None = tt
appends_none (Some before) = ap Some (sym (append-nil before))

appends_then : (a b c : Option (List Bytes)) (m n : List Bytes) → Appends a b m → Appends b c n → Appends a c (m ++ n)
appends_then None b c m n h k = tt
appends_then (Some x) b c m n h k = subst (λ o. Appends o c n) h k ∙ ap Some (append_assoc x m n)

told_same : (o : Option Holdings) (P : Holdings → Type 0) → WhereTold o (λ h. P h → P h)
told_same None P = tt
told_same (Some h) P = λ p. p

told_then : (o p : Option Holdings) (P Q R : Holdings → Type 0) → p ≡ o → WhereTold o (λ h. P h → Q h) → WhereTold p (λ h. Q h → R h)
    → WhereTold o (λ h. P h → R h)
told_then None p P Q R e f g = tt
told_then (Some h) p P Q R e f g = λ x. (subst (λ o. WhereTold o (λ h. Q h → R h)) e g) (f x)

le_refl : (n : ℕ) → n ≤ n
le_refl n = omega arith

le_trans : (a b c : ℕ) → a ≤ b → b ≤ c → a ≤ c
le_trans a b c h k = omega arith

-- nothing was asked
pub asks_none : (most : ℕ) (w : World) (files : List FileText) → Asks most w w files files []
asks_none most w files = record {
  held = refl;
  later = le_refl w.faults;
  more = [];
  grown = sym (append-nil files);
  asked = appends_none w.asked;
  found = told_same w.holds (λ h. Agrees most (in_holdings h) files);
  short = λ s. s;
}

pub asks_same : (most : ℕ) (w : World) (files now : List FileText) → now ≡ files → Asks most w w files now []
asks_same most w files now e = subst (λ f. Asks most w w files f []) (sym e) (asks_none most w files)

-- one call after another
pub asks_then : (most : ℕ) (a b c : World) (x y z : List FileText) (last : List Bytes) → Asks most a b x y [] → Asks most b c y z last
    → Asks most a c x z last
asks_then most a b c x y z last h k = record {
  held = k.held ∙ h.held;
  later = le_trans a.faults b.faults c.faults h.later k.later;
  more = h.more ++ k.more;
  grown = k.grown ∙ ap (λ l. l ++ k.more) h.grown ∙ append_assoc x h.more k.more;
  asked = subst (Appends a.asked c.asked)
      (ap (λ l. l ++ (names_in k.more ++ last)) (append-nil (names_in h.more)) ∙ sym (append_assoc (names_in h.more) (names_in k.more) last)
      ∙ ap (λ l. l ++ last) (sym (names_append h.more k.more)))
      (appends_then a.asked b.asked c.asked (names_in h.more ++ []) (names_in k.more ++ last) h.asked k.asked);
  found = told_then a.holds b.holds (λ t. Agrees most (in_holdings t) x) (λ t. Agrees most (in_holdings t) y) (λ t. Agrees most (in_holdings t) z) h.held h.found k.found;
  short = λ s. k.short (h.short s);
}

pub get_front : {X : Type 0} (xs more : List X) (n : ℕ) (x : X) → slice_get xs n ≡ Some x → slice_get (xs ++ more) n ≡ Some x
get_front [] more n x e = cc
get_front (y ∷ xs) more zero x e = e
get_front (y ∷ xs) more (suc n) x e = get_front xs more n x e

-- reads that find some files find those before
pub agrees_front : (most : ℕ) (r : Readings) (x more : List FileText) → Agrees most r (x ++ more) → Agrees most r x
agrees_front most r x more h number file e = h number file (get_front x more number file e)

pub agrees_grown : (most : ℕ) (r : Readings) (x y : List FileText) (more : List FileText) → y ≡ x ++ more → Agrees most r y → Agrees most r x
agrees_grown most r x y more e h = agrees_front most r x more (subst (Agrees most r) e h)

get_last : {X : Type 0} (xs : List X) (y : X) (n : ℕ) (x : X) → slice_get (xs ++ y ∷ []) n ≡ Some x
    → (slice_get xs n ≡ Some x) ⊎ ((n ≡ length xs) × (x ≡ y))
get_last [] y zero x e = inr (refl, cc)
get_last [] y (suc n) x e = cc
get_last (z ∷ xs) y zero x e = inl e
get_last {X} (z ∷ xs) y (suc n) x e = further (get_last xs y n x e)
  where
    further : (slice_get xs n ≡ Some x) ⊎ ((n ≡ length xs) × (x ≡ y)) → (slice_get xs n ≡ Some x) ⊎ ((suc n ≡ suc (length xs)) × (x ≡ y))
    further (inl h) = inl h
    further (inr h) = inr (ap suc h.0, h.1)

agrees_more : (most : ℕ) (r : Readings) (x : List FileText) (f : FileText)
    → ((bytes : Bytes) × (r (length x) f.name ≡ Some bytes) × (f.bytes ≡ take (most + 1) bytes)) → Agrees most r x → Agrees most r (x ++ f ∷ [])
agrees_more most r x f g h number file e = by_place (get_last x f number file e)
  where
    by_place : (slice_get x number ≡ Some file) ⊎ ((number ≡ length x) × (file ≡ f))
        → (bytes : Bytes) × (r number file.name ≡ Some bytes) × (file.bytes ≡ take (most + 1) bytes)
    by_place (inl i) = h number file i
    by_place (inr i) =
        (g.0, ap (λ (n : ℕ). r n file.name) i.0 ∙ ap (λ (f : FileText). r (length x) f.name) i.1 ∙ g.1, ap (λ (f : FileText). f.bytes) i.1 ∙ g.2)

short_more : (most : ℕ) (x : List FileText) (f : FileText) → length f.bytes ≤ most + 1 → AreShort most x → AreShort most (x ++ f ∷ [])
short_more most x f len h number file at = by_place (get_last x f number file at)
  where
    by_place : (slice_get x number ≡ Some file) ⊎ ((number ≡ length x) × (file ≡ f)) → length file.bytes ≤ most + 1
    by_place (inl i) = h number file i
    by_place (inr i) = subst (λ (g : FileText). length g.bytes ≤ most + 1) (sym i.1) len

-- a file was read
pub asks_read : (most : ℕ) (a b : World) (x : List FileText) (f : FileText) → b.holds ≡ a.holds → a.faults ≤ b.faults
    → length f.bytes ≤ most + 1 → Appends a.asked b.asked (f.name ∷ []) → Gives a.holds f.name (most + 1) f.bytes → Asks most a b x (x ++ f ∷ []) []
asks_read most a b x f held later len asked gives = record {
  held = held;
  later = later;
  more = f ∷ [];
  grown = refl;
  asked = asked;
  found = by_told a.holds gives;
  short = short_more most x f len;
}
  where
    by_told : (o : Option Holdings) → Gives o f.name (most + 1) f.bytes
        → WhereTold o (λ h. Agrees most (in_holdings h) x → Agrees most (in_holdings h) (x ++ f ∷ []))
    by_told None g = tt
    by_told (Some h) g = agrees_more most (in_holdings h) x f g

-- a file was asked for, and not read
pub asks_last : (most : ℕ) (a b : World) (x : List FileText) (name : Bytes) → b.holds ≡ a.holds → a.faults ≤ b.faults
    → Appends a.asked b.asked (name ∷ []) → Asks most a b x x (name ∷ [])
asks_last most a b x name held later asked = record {
  held = held;
  later = later;
  more = [];
  grown = sym (append-nil x);
  asked = asked;
  found = told_same a.holds (λ h. Agrees most (in_holdings h) x);
  short = λ s. s;
}

-- what is read up to the end of a step, and of one after it
asked_then : {T U : Type 0} (f : T → State) (g : U → State) (m : Step T) (next : T → Step U)
    → ((v : T) → Grew g (f v) (next v)) → Extends (asked_in f m) (asked_in g (m >>= next))
asked_then f g (Ok v) next h = grew_asked g (f v) (next v) (h v)
asked_then f g (Err stop) next h = extends_refl stop.asked

-- a step that is broken off, and what follows it
pub breaks_then : {T U : Type 0} (f : T → State) (g : U → State) (m : Step T) (next : T → Step U) (files : List FileText) (b : Broken)
    (L : Bytes → Type 0) → BreaksOff f m files b L → ((v : T) → Grew g (f v) (next v)) → BreaksOff g (m >>= next) files b L
breaks_then f g m next files broken.NoMemory L h k = extends_trans (names_in files) (asked_in f m) (asked_in g (m >>= next)) h (asked_then f g m next k)
breaks_then f g m next files (broken.Failed name) L h k =
    extends_trans (names_in files ++ name ∷ []) (asked_in f m) (asked_in g (m >>= next)) h (asked_then f g m next k)
breaks_then f g m next files (broken.Missing fault name) L h k = (
  extends_trans (names_in files ++ name ∷ []) (asked_in f m) (asked_in g (m >>= next)) h.0 (asked_then f g m next k),
  λ lacks. ap (λ step. step >>= next) (h.1 lacks),
)

-- an include in text that isn't skipped
pub include_later : (u : Use) (i : Included) (n : Bytes) (role : Role) (t : Lexeme) (rest : List Lexeme) (b : List Branch) (s : State)
    → (is_include_by role && not (is_skipped b)) ≡ true
    → at_token u i n role t rest b s
    ≡ (next_read file_name code.Directive t rest s >>= λ p. i (included_name n p.0) (own_place t) p.1 >>= onward 1 b)
include_later u i n line_end t rest b s e = cc
include_later u i n (a_directive directive.Define) t rest b s e = cc
include_later u i n (a_directive directive.Undef) t rest b s e = cc
include_later u i n (a_directive directive.Ifdef) t rest b s e = cc
include_later u i n (a_directive directive.Ifndef) t rest b s e = cc
include_later u i n (a_directive directive.Elsif) t rest b s e = cc
include_later u i n (a_directive directive.Else) t rest b s e = cc
include_later u i n (a_directive directive.Endif) t rest b s e = cc
include_later u i n (a_directive directive.Include) t rest b s e = by_test (is_skipped b) e
  where
    by_test : (test : Bool) → not test ≡ true → skip_or test b s (at_file_name u i n t rest)
        ≡ (next_read file_name code.Directive t rest s >>= λ p. i (included_name n p.0) (own_place t) p.1 >>= onward 1 b)
    by_test true f = cc
    by_test false f = next_later file_name code.Directive t rest (λ file s. i (included_name n file) (own_place t) s >>= onward 1 b) s
include_later u i n (a_directive directive.Ignored) t rest b s e = cc
include_later u i n (a_use macro) t rest b s e = cc
include_later u i n (a_name word) t rest b s e = cc
include_later u i n another t rest b s e = cc

none_some : {X Y : Type 0} (f : X → Y) (o : Option X) → is_some (option_map f o) ≡ false → o ≡ None
none_some f None e = refl
none_some f (Some x) e = cc

-- no argument is seen where none is expanded
pub none_seen : (k : Known) (p : Progress) → p.argument ≡ None → (state_of k p).argument ≡ None
none_seen k p e = ap (option_map _) e

-- no argument is expanded after a step
pub still_none : (s : State) (k : Known) (p : Progress) → s.argument ≡ None → Kept s (state_of k p) → p.argument ≡ None
still_none s k p e kept = none_some _ p.argument (kept.1 ∙ ap is_some e)

-- what a token gave
pub fit_after : (most : ℕ) (s : State) (k : Known) (p : Progress) (branches : List Branch) (m : Step Onward) (names : List Bytes) (answer : Result ℕ Fault)
    → s.argument ≡ None → IsWithin k → AreSmall most 0 k.files.items → Grew at_onward s m
    → m ≡ step_of (λ taken. record { taken = taken; branches = branches; state = state_of k p }) names answer → IfGiven (Ok answer) (IsFit most 0 k p)
fit_after most s k p branches m names (Ok taken) none within small grew e =
    (within, still_none s k p none (subst (Grew at_onward s) e grew), small)
fit_after most s k p branches m names (Err fault) none within small grew e = tt

-- memory was refused before a name was noted
pub asks_memory : (most : ℕ) (a b : World) (x : List FileText) → b.holds ≡ a.holds → a.faults ≤ b.faults → b.asked ≡ a.asked → Asks most a b x x []
asks_memory most a b x held later asked = record {
  held = held;
  later = later;
  more = [];
  grown = sym (append-nil x);
  asked = subst (λ o. Appends a.asked o []) (sym asked) (appends_none a.asked);
  found = told_same a.holds (λ h. Agrees most (in_holdings h) x);
  short = λ s. s;
}

before_last : (n x y : ℕ) → n + 1 < y → y ≡ x + 1 → n + 0 < x
before_last n x y h e = omega arith

not_last : (n x y : ℕ) → n + 1 < y → y ≡ x + 1 → n ≡ x → ⊥
not_last n x y h e i = omega arith

below_or : (a b : ℕ) → (a < b) ⊎ (b ≤ a)
below_or zero zero = inr (omega arith)
below_or zero (suc b) = inl (omega arith)
below_or (suc a) zero = inr (omega arith)
below_or (suc a) (suc b) = further (below_or a b)
  where
    further : (a < b) ⊎ (b ≤ a) → (suc a < suc b) ⊎ (suc b ≤ suc a)
    further (inl h) = inl (omega arith)
    further (inr h) = inr (omega arith)

-- the files that are known, after one more that was not looked at
pub small_more : (most : ℕ) (x y : List FileText) (f : FileText) → y ≡ x ++ f ∷ [] → AreSmall most 0 x → AreSmall most 1 y
small_more most x y f e h number file at below =
    by_place (get_last x f number file (subst (λ l. slice_get l number ≡ Some file) e at))
  where
    long : length y ≡ length x + 1
    long = ap length e ∙ length-append x (f ∷ [])

    by_place : (slice_get x number ≡ Some file) ⊎ ((number ≡ length x) × (file ≡ f)) → length file.bytes ≤ most
    by_place (inl i) = h number file i (before_last number (length x) (length y) below long)
    by_place (inr i) = absurd (not_last number (length x) (length y) below long i.0)

-- and after it was looked at
pub small_last : (most : ℕ) (x : List FileText) (f : FileText) → 0 < length x → slice_get x (length x - 1) ≡ Some f → length f.bytes ≤ most
    → AreSmall most 1 x → AreSmall most 0 x
small_last most x f some last small h number file at below = by_place (below_or (number + 1) (length x))
  where
    same : (a b : FileText) → Some a ≡ Some b → a ≡ b
    same a b e = cc

    place : (n k : ℕ) → n + 0 < k → k ≤ n + 1 → n ≡ k - 1
    place n k below more = omega arith

    by_place : (number + 1 < length x) ⊎ (length x ≤ number + 1) → length file.bytes ≤ most
    by_place (inl less) = h number file at less
    by_place (inr more) =
        subst (λ (g : FileText). length g.bytes ≤ most)
        (same f file (sym last ∙ ap (slice_get x) (sym (place number (length x) below more)) ∙ at)) small

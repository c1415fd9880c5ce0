-- The files of an expansion, a step at a time.
use Rattle.std.proofs.Common.{◌≡◌, ◌<◌, ◌≤◌, ◌+◌, ◌-◌, ℕ, zero, suc, List, [], ◌∷◌, ◌++◌, length, take, drop, get_or, min, refl, sym, ap, subst, ◌∙◌, arith, true, false}
use Rattle.std.proofs.lemmas.List.{length-append, length-map, length-take, take_all}
use Rattle.std.proofs.lemmas.Bool.{lt-ltb, le-ltb}
use Rattle.std.specs.Prelude.{Option, Some, None, Ok, Err, slice_get, option_map, All, not, ◌&&◌, nat_lt}
use Rattle.va_base.specs.declared.fault.FaultCode.TheVariants as code
use Rattle.va_base.specs.declared.file.FileText.{FileText}
use Rattle.va_base.specs.declared.place.Place.{Place}
use Rattle.va_base.specs.declared.token.Token.{Token}
use Rattle.va_base.specs.Expansion.{bytes_from}
use Rattle.va_lexer.specs.Tokens.{tokens_of}
use Rattle.va_preproc.specs.declared.condition.Branch.{Branch}
use Rattle.va_preproc.specs.declared.known.Known.{Known}
use Rattle.va_preproc.specs.declared.progress.Progress.{Progress}
use Rattle.va_preproc.specs.Lexemes.{Bytes, lexemes_of, role_of}
use Rattle.va_preproc.specs.Reading.{State, Stop, Step, ◌>>=◌, stopped, read_one}
use Rattle.va_preproc.specs.Definitions.{file_name}
use Rattle.va_preproc.specs.Conditionals.{is_skipped, Onward}
use Rattle.va_preproc.specs.Uses.{use_within}
use Rattle.va_preproc.specs.Expansion.{Limits, Readings, included_name, onward, expand_file, asking, first_place, unless_large, include_of}
use Rattle.va_preproc.specs.Values.{state_of, names_of, next_read, is_include_by, lexeme_in, lexemes_in}
use Rattle.va_preproc.specs.Steps.{names_in, Agrees, asked_in, itself, at_onward, includes_by, expand_read, token_step, file_step, IsWithin}
use Rattle.va_preproc.proofs.Steps.{Extends, extends_refl}
use Rattle.va_preproc.proofs.Each.{Each, each_all, all_each, each_map, each_drop}
use Rattle.va_preproc.proofs.Stable.{asked_state, lexemes_stay}
use Rattle.va_preproc.proofs.Following.{regroup}
use Rattle.std.proofs.Math.ListN.{drop_of_length-le}
use Rattle.va_preproc.proofs.Grows.{Grew, grew_asked, expand_bytes_grows, use_grows, at_token_grows, expand_file_grows, include_grows, include_of_grows}
use Rattle.va_preproc.proofs.Asked.{include_later}
use Rattle.va_preproc.proofs.Lexed.{lexed_tokens}
use Rattle.va_preproc.proofs.Loops.{lexemes_more}
use Rattle.va_preproc.proofs.UseTurns.{drop_sum, drop_most}

module _ (most : Limits) (depth : ℕ) where
  pub token_grew : (r : Readings) (name : Bytes) (files : List FileText) (token : Token) (rest : List Token) (b : List Branch) (s : State)
      → Grew at_onward s (token_step most depth name files token rest b s r)
  token_grew r name files token rest b s =
      at_token_grows (use_within most.uses) (use_grows most.uses) (includes_by most depth r) (include_grows most tokens_of r depth) name
      (role_of (lexeme_in files token)) (lexeme_in files token) (lexemes_in files rest) b s

  pub file_grew : (r : Readings) (name : Bytes) (files : List FileText) (ts : List Token) (b : List Branch) (s : State)
      → Grew itself s (file_step most depth name files ts b s r)
  file_grew r name files ts b s =
      expand_file_grows (use_within most.uses) (use_grows most.uses) (includes_by most depth r) (include_grows most tokens_of r depth) name 0
      (lexemes_in files ts) b s

  pub include_grew : (r : Readings) (name : Bytes) (place : Place) (s : State) → Grew itself s (includes_by most depth r name place s)
  include_grew r name place s = include_grows most tokens_of r depth name place s

  -- an include that takes its string
  pub include_reads : (r : Readings) (n : Bytes) (files : List FileText) (token : Token) (rest : List Token) (b : List Branch) (s v : State)
      (file path : Bytes) → (is_include_by (role_of (lexeme_in files token)) && not (is_skipped b)) ≡ true
      → next_read file_name code.Directive (lexeme_in files token) (lexemes_in files rest) s ≡ Ok (file, v) → path ≡ included_name n file
      → token_step most depth n files token rest b s r ≡ (includes_by most depth r path token.place v >>= onward 1 b)
  include_reads r n files token rest b s v file path test read e =
      include_later (use_within most.uses) (includes_by most depth r) n (role_of (lexeme_in files token)) (lexeme_in files token) (lexemes_in files rest) b s test
      ∙ ap (λ step. step >>= λ p. includes_by most depth r (included_name n p.0) token.place p.1 >>= onward 1 b) read
      ∙ ap (λ q. includes_by most depth r q token.place v >>= onward 1 b) (sym e)

  -- a string that an include does not have
  pub include_stops : (r : Readings) (n : Bytes) (files : List FileText) (token : Token) (rest : List Token) (b : List Branch) (s : State) (stop : Stop)
      → (is_include_by (role_of (lexeme_in files token)) && not (is_skipped b)) ≡ true
      → next_read file_name code.Directive (lexeme_in files token) (lexemes_in files rest) s ≡ Err stop
      → token_step most depth n files token rest b s r ≡ Err stop
  include_stops r n files token rest b s stop test read =
      include_later (use_within most.uses) (includes_by most depth r) n (role_of (lexeme_in files token)) (lexeme_in files token) (lexemes_in files rest) b s test
      ∙ ap (λ step. step >>= λ p. includes_by most depth r (included_name n p.0) token.place p.1 >>= onward 1 b) read

-- an include that may be opened
pub include_turn : (most : Limits) (depth : ℕ) (r : Readings) (name : Bytes) (place : Place) (s : State) → 0 < depth
    → includes_by most depth r name place s
    ≡ include_of most tokens_of r (r (length s.asked) name) (includes_by most (depth - 1) r) name place (asking name s)
include_turn most zero r name place s h = absurd (omega arith)
include_turn most (suc depth) r name place s h =
    ap (λ d. include_of most tokens_of r (r (length s.asked) name) (includes_by most d r) name place (asking name s)) less
  where
    less : depth ≡ suc depth - 1
    less = omega arith

pub include_asks : (most : Limits) (depth : ℕ) (r : Readings) (name : Bytes) (place : Place) (s : State) → 0 < depth
    → Extends (s.asked ++ name ∷ []) (asked_in itself (includes_by most depth r name place s))
include_asks most depth r name place s h =
    subst (λ m. Extends (s.asked ++ name ∷ []) (asked_in itself m)) (sym (include_turn most depth r name place s h))
    (grew_asked itself (asking name s) _
    (include_of_grows most tokens_of r (r (length s.asked) name) (includes_by most (depth - 1) r) (include_grows most tokens_of r (depth - 1)) name place s))

-- a file that is not there
pub include_lacks : (most : Limits) (depth : ℕ) (r : Readings) (name : Bytes) (place : Place) (s : State) → 0 < depth
    → r (length s.asked) name ≡ None → includes_by most depth r name place s ≡ stopped code.MissingInclude place (asking name s)
include_lacks most depth r name place s h lacks =
    include_turn most depth r name place s h
    ∙ ap (λ o. include_of most tokens_of r o (includes_by most (depth - 1) r) name place (asking name s)) lacks

-- a file that was read
pub include_finds : (most : Limits) (depth number : ℕ) (r : Readings) (name bytes : Bytes) (place : Place) (s v : State) → 0 < depth
    → number ≡ length s.asked → r number name ≡ Some bytes → v ≡ asking name s
    → includes_by most depth r name place s ≡ expand_read most (depth - 1) r name number v
include_finds most depth number r name bytes place s v h e found w =
    include_turn most depth r name place s h
    ∙ ap (λ n. include_of most tokens_of r (r n name) (includes_by most (depth - 1) r) name place (asking name s)) (sym e)
    ∙ ap (λ o. include_of most tokens_of r o (includes_by most (depth - 1) r) name place (asking name s)) found
    ∙ ap (λ o. include_of most tokens_of r o (includes_by most (depth - 1) r) name (first_place 0) (asking name s)) (sym found)
    ∙ ap (expand_read most (depth - 1) r name number) (sym w)

-- the file that was read last
pub last_number : (k : Known) → length (names_of k) ≡ length k.files.items
last_number k = length-map k.files.items (λ f. f.name)

lex_one : (files : List FileText) (file : FileText) (number : ℕ) (t : Token) → slice_get files number ≡ Some file → t.file ≡ number
    → (record { token = t; bytes = take t.len (drop t.first file.bytes) }) ≡ lexeme_in files t
lex_one files file number t e f =
    ap (λ o. record { token = t; bytes = bytes_from o t.first t.len }) (sym (ap (slice_get files) f ∙ e))

lex_each : (files : List FileText) (file : FileText) (number : ℕ) (ts : List Token) → slice_get files number ≡ Some file
    → Each (λ t. t.file ≡ number) ts → lexemes_of file.bytes ts ≡ lexemes_in files ts
lex_each files file number [] e h = refl
lex_each files file number (t ∷ ts) e h = λ j. lex_one files file number t e h.0 j ∷ lex_each files file number ts e h.1 j

-- the tokens of a file, with their bytes
pub lexed_in : (files : List FileText) (file : FileText) (number : ℕ) → slice_get files number ≡ Some file
    → lexemes_of file.bytes (tokens_of number file.bytes) ≡ lexemes_in files (tokens_of number file.bytes)
lexed_in files file number e =
    lex_each files file number (tokens_of number file.bytes) e
    (each_all (λ t. t.file ≡ number) (tokens_of number file.bytes) (lexed_tokens.of_files.numbered number file.bytes))

pub lexed_within : (n number : ℕ) (bytes : Bytes) → number < n → All (λ t. t.file < n) (tokens_of number bytes)
lexed_within n number bytes h =
    all_each (λ t. t.file < n) (tokens_of number bytes)
    (each_map (λ t. t.file ≡ number) (λ t. t.file < n) (λ t e. below t.file e) (tokens_of number bytes)
    (each_all (λ t. t.file ≡ number) (tokens_of number bytes) (lexed_tokens.of_files.numbered number bytes)))
  where
    below : (k : ℕ) → k ≡ number → k < n
    below k e = omega arith

longer : (most : ℕ) (bytes part : Bytes) → part ≡ take (most + 1) bytes → most < length part → nat_lt most (length bytes) ≡ true
longer most bytes part e h = lt-ltb most (length bytes) (omega (arith, ap length e, length-take (most + 1) bytes))

-- a file past its limit
pub read_large : (most : Limits) (depth number : ℕ) (r : Readings) (name bytes part : Bytes) (s : State) → r number name ≡ Some bytes
    → part ≡ take (most.bytes + 1) bytes → most.bytes < length part → number ≡ length s.asked - 1
    → expand_read most depth r name number s ≡ stopped code.FileLarge (first_place number) s
read_large most depth number r name bytes part s found e h n =
    ap (λ o. include_of most tokens_of r o (includes_by most depth r) name (first_place 0) s) found
    ∙ ap (λ b. unless_large most tokens_of r b (includes_by most depth r) name bytes (length s.asked - 1) s) (longer most.bytes bytes part e h)
    ∙ ap (λ m. stopped code.FileLarge (first_place m) s) (sym n)

pub shorter : (most : ℕ) (bytes part : Bytes) → part ≡ take (most + 1) bytes → length part ≤ most → (bytes ≡ part) × (nat_lt most (length bytes) ≡ false)
shorter most bytes part e h = (sym (e ∙ take_all (most + 1) bytes (more within)), le-ltb most (length bytes) within)
  where
    within : length bytes ≤ most
    within = omega (arith, ap length e, length-take (most + 1) bytes)

    more : length bytes ≤ most → length bytes ≤ most + 1
    more w = omega arith

-- a file within its limit
pub read_small : (most : Limits) (depth number : ℕ) (r : Readings) (name bytes : Bytes) (file : FileText) (files : List FileText) (s : State)
    → r number name ≡ Some bytes → file.bytes ≡ take (most.bytes + 1) bytes → length file.bytes ≤ most.bytes → number ≡ length s.asked - 1
    → slice_get files number ≡ Some file
    → expand_read most depth r name number s ≡ file_step most depth name files (tokens_of number file.bytes) [] s r
read_small most depth number r name bytes file files s found e h n at =
    let p = shorter most.bytes bytes file.bytes e h in
    ap (λ o. include_of most tokens_of r o (includes_by most depth r) name (first_place 0) s) found
    ∙ ap (λ b. unless_large most tokens_of r b (includes_by most depth r) name bytes (length s.asked - 1) s) p.1
    ∙ ap (λ l. expand_file (use_within most.uses) (includes_by most depth r) name 0 l [] s)
    (ap (λ m. lexemes_of bytes (tokens_of m bytes)) (sym n) ∙ ap (λ b. lexemes_of b (tokens_of number b)) p.0 ∙ lexed_in files file number at)

-- a file that was read asks for no less
pub read_grew : (most : Limits) (depth number : ℕ) (r : Readings) (name : Bytes) (s : State) → Grew itself s (expand_read most depth r name number s)
read_grew most depth number r name s = by_found (r number name)
  where
    by_found : (o : Option Bytes) → Grew itself s (include_of most tokens_of r o (includes_by most depth r) name (first_place 0) s)
    by_found None = extends_refl s.asked
    by_found (Some bytes) = expand_bytes_grows most tokens_of r (includes_by most depth r) (include_grows most tokens_of r depth) name bytes s

get_end : {X : Type 0} (xs : List X) (y : X) → slice_get (xs ++ y ∷ []) (length xs) ≡ Some y
get_end [] y = refl
get_end (x ∷ xs) y = get_end xs y

end_number : (files now : List FileText) (f : FileText) → now ≡ files ++ f ∷ [] → length now - 1 ≡ length files
end_number files now f e = omega (arith, ap length e, length-append files (f ∷ []))

-- an include whose file was read
pub include_opens : (most : Limits) (depth : ℕ) (r : Readings) (k v : Known) (f : FileText) (p : Progress) (name path : Bytes) (place : Place)
    → 0 < depth → v.files.items ≡ k.files.items ++ f ∷ [] → v.macros ≡ k.macros → IsWithin k → p.argument ≡ None → f.name ≡ name → path ≡ name
    → Agrees most.bytes r v.files.items
    → includes_by most depth r name place (state_of k p) ≡ expand_read most (depth - 1) r path (length v.files.items - 1) (state_of v p)
include_opens most depth r k v f p name path place h files macros within none own same agrees =
    let n = length k.files.items in
    let at = agrees n f (subst (λ (l : List FileText). slice_get l n ≡ Some f) (sym files) (get_end k.files.items f)) in
    let number = end_number k.files.items v.files.items f files in
    include_finds most depth (length v.files.items - 1) r name at.0 place (state_of k p) (state_of v p) h
    (number ∙ sym (last_number k))
    (ap (λ m. r m name) number ∙ ap (r n) (sym own) ∙ at.1)
    (asked_state k v f files macros within p none ∙ ap (λ m. asking m (state_of k p)) own)
    ∙ ap (λ m. expand_read most (depth - 1) r m (length v.files.items - 1) (state_of v p)) (sym same)

pub names_get : (files : List FileText) (n : ℕ) (f : FileText) → slice_get files n ≡ Some f → slice_get (names_in files) n ≡ Some f.name
names_get [] n f e = cc
names_get (x ∷ files) zero f e = ap (option_map (λ (f : FileText). f.name)) e
names_get (x ∷ files) (suc n) f e = names_get files n f e

pub name_at_end : (k v : Known) (f : FileText) (name : Bytes) → v.files.items ≡ k.files.items ++ f ∷ [] → f.name ≡ name
    → slice_get (names_of v) (length v.files.items - 1) ≡ Some name
name_at_end k v f name files own =
    subst (λ n. slice_get (names_of v) n ≡ Some name) (sym (end_number k.files.items v.files.items f files))
    (names_get v.files.items (length k.files.items) f (subst (λ (l : List FileText). slice_get l (length k.files.items) ≡ Some f) (sym files) (get_end k.files.items f)) ∙ ap Some own)

-- the last file that was read, and what is found
pub last_reads : (k : Known) (file : FileText) (name : Bytes) (most : ℕ) (r : Readings) → slice_get k.files.items (length k.files.items - 1) ≡ Some file
    → slice_get (names_of k) (length k.files.items - 1) ≡ Some name → Agrees most r k.files.items
    → (bytes : Bytes) × (r (length k.files.items - 1) name ≡ Some bytes) × (file.bytes ≡ take (most + 1) bytes)
last_reads k file name most r at named agrees =
    let n = length k.files.items - 1 in
    let found = agrees n file at in
    (found.0, ap (r n) (same_name name file.name (sym named ∙ names_get k.files.items n file at)) ∙ found.1, found.2)
  where
    same_name : (a b : Bytes) → Some a ≡ Some b → a ≡ b
    same_name a b e = cc

pub get_slice : {X : Type 0} (xs : List X) (n : ℕ) (x : X) → n < length xs → x ≡ get_or xs n x → slice_get xs n ≡ Some x
get_slice [] n x h e = absurd (omega arith)
get_slice (y ∷ xs) zero x h e = ap Some (sym e)
get_slice (y ∷ xs) (suc n) x h e = get_slice xs n x (omega arith) e

pub less_one : (n : ℕ) → 0 < n → n - 1 < n
less_one n h = omega arith

pub positive : (n : ℕ) → (n ≡ 0 → ⊥) → 0 < n
positive zero h = absurd (h refl)
positive (suc n) h = omega arith

-- what follows a token of a file
abbrev pub file_rest : Limits → ℕ → Readings → Bytes → List FileText → List Token → Onward → Step State
file_rest most depth r name files rest next =
    expand_file (use_within most.uses) (includes_by most depth r) name next.taken (lexemes_in files rest) next.branches next.state

module _ (most : Limits) (depth : ℕ) (r : Readings) (name : Bytes) (files : List FileText) where
  pub rest_grew : (rest : List Token) (next : Onward) → Grew itself next.state (file_rest most depth r name files rest next)
  rest_grew rest next =
      expand_file_grows (use_within most.uses) (use_grows most.uses) (includes_by most depth r) (include_grows most tokens_of r depth) name
      next.taken (lexemes_in files rest) next.branches next.state

  pub file_turn : (ts rest : List Token) (k : ℕ) (d : Token) (b : List Branch) (s : State) → k < length ts → rest ≡ drop (k + 1) ts
      → file_step most depth name files (drop k ts) b s r
      ≡ (read_one (get_or ts k d).place s >>= λ v. token_step most depth name files (get_or ts k d) rest b v r >>= file_rest most depth r name files rest)
  file_turn ts rest k d b s h e =
      ap (λ l. expand_file (use_within most.uses) (includes_by most depth r) name 0 l b s) (lexemes_more files ts k d h)
      ∙ regroup (read_one (get_or ts k d).place s) (λ v. token_step most depth name files (get_or ts k d) (drop (k + 1) ts) b v r)
      (file_rest most depth r name files (drop (k + 1) ts))
      ∙ ap (λ l. read_one (get_or ts k d).place s >>= λ v. token_step most depth name files (get_or ts k d) l b v r >>= file_rest most depth r name files l) (sym e)

  -- after the token itself was read
  pub file_read : (ts rest : List Token) (k : ℕ) (d : Token) (b : List Branch) (s v : State) (whole : Step State) → k < length ts → rest ≡ drop (k + 1) ts
      → read_one (get_or ts k d).place s ≡ Ok v → file_step most depth name files (drop k ts) b s r ≡ whole
      → whole ≡ (token_step most depth name files (get_or ts k d) rest b v r >>= file_rest most depth r name files rest)
  file_read ts rest k d b s v whole h e one before =
      sym before ∙ file_turn ts rest k d b s h e
      ∙ ap (λ step. step >>= λ v. token_step most depth name files (get_or ts k d) rest b v r >>= file_rest most depth r name files rest) one

  file_past : (n : ℕ) (ts : List Token) (b : List Branch) (s : State)
      → expand_file (use_within most.uses) (includes_by most depth r) name n (lexemes_in files ts) b s ≡ file_step most depth name files (drop n ts) b s r
  file_past zero ts b s = refl
  file_past (suc n) [] b s = refl
  file_past (suc n) (t ∷ ts) b s = file_past n ts b s

  -- where the file goes on after a token and so many more
  pub file_goes_on : (ts rest : List Token) (k n next : ℕ) (b : List Branch) (s : State) → rest ≡ drop (k + 1) ts → next ≡ k + (1 + min n (length rest))
      → expand_file (use_within most.uses) (includes_by most depth r) name n (lexemes_in files rest) b s
      ≡ file_step most depth name files (drop next ts) b s r
  file_goes_on ts rest k n next b s e f =
      file_past n rest b s
      ∙ ap (λ l. file_step most depth name files l b s r)
      (ap (drop n) e ∙ sym (drop_most n (drop (k + 1) ts)) ∙ drop_sum (k + 1) (min n (length (drop (k + 1) ts))) next ts there)
    where
      there : next ≡ k + 1 + min n (length (drop (k + 1) ts))
      there = omega (arith, f, ap length e)

-- tokens stay of files that are known
pub low_rest : (n m : ℕ) (ts rest : List Token) (k : ℕ) → n ≤ m → rest ≡ drop k ts → All (λ t. t.file < n) ts → All (λ t. t.file < m) rest
low_rest n m ts rest k le e h =
    subst (All (λ t. t.file < m)) (sym e)
    (all_each (λ t. t.file < m) (drop k ts)
    (each_map (λ t. t.file < n) (λ t. t.file < m) (λ t below. more t.file below) (drop k ts) (each_drop (λ t. t.file < n) k ts (each_all (λ t. t.file < n) ts h))))
  where
    more : (i : ℕ) → i < n → i < m
    more i below = omega arith

pub grown_length : (x y more : List FileText) → y ≡ x ++ more → length x ≤ length y
grown_length x y more e = omega (arith, ap length e, length-append x more)

pub no_rest : {X : Type 0} (k : ℕ) (xs : List X) → length xs ≤ k → drop k xs ≡ []
no_rest k xs h = drop_of_length-le xs h

-- the limit of tokens is reached
pub file_read_stops : (most : Limits) (depth : ℕ) (r : Readings) (name : Bytes) (files : List FileText) (ts rest : List Token) (k : ℕ) (d : Token)
    (b : List Branch) (s : State) (stop : Stop) (whole : Step State) → k < length ts → rest ≡ drop (k + 1) ts
    → read_one (get_or ts k d).place s ≡ Err stop → file_step most depth name files (drop k ts) b s r ≡ whole → whole ≡ Err stop
file_read_stops most depth r name files ts rest k d b s stop whole h e one before =
    sym before ∙ file_turn most depth r name files ts rest k d b s h e
    ∙ ap (λ step. step >>= λ v. token_step most depth name files (get_or ts k d) rest b v r >>= file_rest most depth r name files rest) one

-- files more change nothing of what is left of a file
pub file_stays : (most : Limits) (depth : ℕ) (r : Readings) (name : Bytes) (files now more : List FileText) (ts : List Token) (b : List Branch)
    (s : State) → now ≡ files ++ more → All (λ t. t.file < length files) ts
    → file_step most depth name files ts b s r ≡ file_step most depth name now ts b s r
file_stays most depth r name files now more ts b s e low =
    ap (λ l. expand_file (use_within most.uses) (includes_by most depth r) name 0 l b s)
    (sym (ap (λ f. lexemes_in f ts) e ∙ lexemes_stay files more ts low))

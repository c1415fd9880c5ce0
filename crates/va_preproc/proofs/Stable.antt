-- What is known stays as it is when a file more is read.
use Rattle.std.proofs.Common.{◌≡◌, ◌<◌, ◌≤◌, ℕ, zero, suc, List, [], ◌∷◌, ◌++◌, length, refl, sym, ap, subst, ◌∙◌, arith, Bool, true, false}
use Rattle.std.proofs.lemmas.List.{length-append}
use Rattle.std.specs.Borrow.{Bor}
use Rattle.std.specs.Global.{Vec}
use Rattle.std.specs.Prelude.{Option, Some, None, option_map, All, IfSome, slice_get, if◌then◌else◌}
use Rattle.std.specs.Str.{bytes_eq}
use Rattle.indexmap.specs.IndexMap.{IndexMap, get_by}
use Rattle.va_base.specs.declared.file.FileText.{FileText}
use Rattle.va_base.specs.declared.token.Token.{Token}
use Rattle.va_base.specs.Expansion.{bytes_from}
use Rattle.va_preproc.specs.declared.definition.Definition.{Definition as SeenDefinition}
use Rattle.va_preproc.specs.declared.known.Macro.{Macro as OwnedMacro}
use Rattle.va_preproc.specs.declared.known.Known.{Known}
use Rattle.va_preproc.specs.declared.progress.Progress.{Progress}
use Rattle.va_preproc.specs.Lexemes.{Bytes, Lexeme}
use Rattle.va_preproc.specs.Reading.{Macro, Macros}
use Rattle.va_preproc.specs.Definitions.{definition_form}
use Rattle.va_preproc.specs.Expansion.{with_macro, asking}
use Rattle.va_preproc.specs.Values.{lexeme_in, lexemes_in, macro_in, macros_in, macros_of, names_of, state_of, definition_seen, macro_seen}
use Rattle.va_preproc.specs.Steps.{IsWithin, names_in}
use Rattle.va_preproc.proofs.Each.{Each, InOption, each_all, all_each, each_of_map, each_map}
use Rattle.va_preproc.proofs.Forms.{definition_keeps}
use Rattle.va_preproc.proofs.Lists.{map_push}

-- tokens of files of lower numbers
abbrev pub Low : ℕ → Macro → Type 0
Low n m = All (λ t. t.token.file < n) m.body

pub within_with : (n : ℕ) (name : Bytes) (o : Option Macro) (macros : Macros) → IfSome o (Low n)
    → ((other : Bytes) → IfSome (macros other) (Low n)) → (other : Bytes) → IfSome (with_macro name o macros other) (Low n)
within_with n name o macros h k other = by_test (bytes_eq other name)
  where
    by_test : (b : Bool) → IfSome (if b then o else macros other) (Low n)
    by_test true = h
    by_test false = k other

pub defined_within : (files : List FileText) (n : ℕ) (rest : List Token) (d : SeenDefinition) (name : Bor (List ℕ))
    → definition_seen files d ≡ definition_form (lexemes_in files rest) → d.name ≡ Some name → All (λ t. t.file < n) rest
    → All (λ t. t.token.file < n) (lexemes_in files d.body.now)
defined_within files n rest d name e f h =
    let P = λ (t : Lexeme). t.token.file < n in
    let kept = definition_keeps P (lexemes_in files rest) (each_of_map P (lexeme_in files) rest (each_all (λ t. t.file < n) rest h)) in
    let here = subst (λ form. InOption (λ (definition : Bytes × Macro). Each P definition.1.body) form.meaning) (sym e) kept in
    all_each P (lexemes_in files d.body.now)
    (subst (λ o. InOption (λ (definition : Bytes × Macro). Each P definition.1.body)
    (option_map (λ (name : Bor (List ℕ)). (name.now, macro_seen files d.formals d.body.now)) o)) f here)

-- a file at a number
pub get_more : {X : Type 0} (xs more : List X) (n : ℕ) → n < length xs → slice_get (xs ++ more) n ≡ slice_get xs n
get_more [] more n h = absurd (omega arith)
get_more (x ∷ xs) more zero h = refl
get_more (x ∷ xs) more (suc n) h = get_more xs more n (omega arith)

lexeme_stays : (files more : List FileText) (t : Token) → t.file < length files → lexeme_in (files ++ more) t ≡ lexeme_in files t
lexeme_stays files more t h = ap (λ o. record { token = t; bytes = bytes_from o t.first t.len }) (get_more files more t.file h)

each_stay : (files more : List FileText) (ts : List Token) → Each (λ t. t.file < length files) ts → lexemes_in (files ++ more) ts ≡ lexemes_in files ts
each_stay files more [] e = refl
each_stay files more (t ∷ ts) e = λ j. lexeme_stays files more t e.0 j ∷ each_stay files more ts e.1 j

pub lexemes_stay : (files more : List FileText) (ts : List Token) → All (λ t. t.file < length files) ts
    → lexemes_in (files ++ more) ts ≡ lexemes_in files ts
lexemes_stay files more ts h = each_stay files more ts (each_all (λ t. t.file < length files) ts h)

each_from_map : (files : List FileText) (n : ℕ) (ts : List Token) → Each (λ t. t.token.file < n) (lexemes_in files ts) → Each (λ t. t.file < n) ts
each_from_map files n [] e = tt
each_from_map files n (t ∷ ts) e = (e.0, each_from_map files n ts e.1)

macro_stays : (files more : List FileText) (o : Option OwnedMacro) → IfSome (option_map (macro_in files) o) (Low (length files))
    → option_map (macro_in (files ++ more)) o ≡ option_map (macro_in files) o
macro_stays files more None h = refl
macro_stays files more (Some m) h =
    ap (λ body. Some (record { formals = (macro_in files m).formals; body = body }))
    (each_stay files more m.body.items (each_from_map files (length files) m.body.items (each_all (λ t. t.token.file < length files) _ h)))

pub macros_stay : {S : Type 0} (files more : List FileText) (table : IndexMap (Vec ℕ) OwnedMacro S)
    → ((name : Bytes) → IfSome (macros_in files table name) (Low (length files))) → macros_in (files ++ more) table ≡ macros_in files table
macros_stay files more table h = λ j name. macro_stays files more (get_by (λ key. bytes_eq name key.items) table) (h name) j

low_more : (n m : ℕ) (o : Option Macro) → n ≤ m → IfSome o (Low n) → IfSome o (Low m)
low_more n m None le h = tt
low_more n m (Some x) le h = all_each (λ t. t.token.file < m) x.body
    (each_map (λ t. t.token.file < n) (λ t. t.token.file < m) (λ t below. less n m t.token.file le below) x.body (each_all (λ t. t.token.file < n) x.body h))
  where
    less : (n m k : ℕ) → n ≤ m → k < n → k < m
    less n m k le below = omega arith

-- after a file more was read
module _ (k v : Known) (file : FileText) (files : v.files.items ≡ k.files.items ++ file ∷ []) (macros : v.macros ≡ k.macros) (within : IsWithin k) where
  same_macros : macros_of v ≡ macros_of k
  same_macros =
      (λ j. macros_in (files j) (macros j)) ∙ macros_stay k.files.items (file ∷ []) k.macros within

  pub still_within : IsWithin v
  still_within name =
      subst (λ (m : Macros). IfSome (m name) (Low (length v.files.items))) (sym same_macros)
      (low_more (length k.files.items) (length v.files.items) (macros_of k name) longer (within name))
    where
      longer : length k.files.items ≤ length v.files.items
      longer = omega (arith, ap length files, length-append k.files.items (file ∷ []))

  pub asked_names : names_of v ≡ names_of k ++ file.name ∷ []
  asked_names = ap names_in files ∙ map_push (λ (f : FileText). f.name) k.files.items file

  pub asked_state : (p : Progress) → p.argument ≡ None → state_of v p ≡ asking file.name (state_of k p)
  asked_state p none = λ j. record {
    macros = same_macros j;
    asked = asked_names j;
    unread = p.unread;
    result = p.result.items;
    free = p.free;
    argument = (ap (option_map (λ (given : Vec Token). lexemes_in v.files.items given.items)) none
        ∙ sym (ap (option_map (λ (given : Vec Token). lexemes_in k.files.items given.items)) none)) j;
  }

-- How what a printer writes follows one another: words, templates, fields and modules.
use Rattle.std.proofs.Common.{◌≡◌, ◌≢◌, ◌<◌, ◌≤◌, ℕ, suc, List, [], ◌∷◌, ◌++◌, length, get_or, drop, drop-cons, refl, ap}
use Rattle.std.proofs.Common.{sym, ◌∙◌, append_assoc, add-one, ◌+◌, arith}
use Rattle.std.specs.Prelude.{false, ◌==◌, if◌then◌else◌, codes}
use Rattle.std.specs.List.{flat_map, slice_split, onto_first, enumerate_from}
use Rattle.std.proofs.lemmas.List.Splits.{slice_split-cons_no}
use Rattle.std.proofs.lemmas.Bool.Decides.{nat_tests}
use Rattle.std.proofs.lemmas.Grind.{flat_map-append}
use Rattle.std.proofs.lemmas.List.{append-nil}
use Rattle.std.proofs.Math.Seq.{drop-append_seam}
use Rattle.std.proofs.Math.ListN.{drop_of_length-le}
use Rattle.c_tree.specs.short.Text.{Word, word, ends_line, spaced, spelled, template, numbered, fields_words, include_words}
use Rattle.c_tree.specs.short.Text.{module_words, text_of}
use Rattle.std.specs.Prelude.{ℤ, pos, negsuc}
use Rattle.std.specs.Fmt.{signed_decimal}
use Rattle.c_tree.specs.Words.{power_digits}
use Rattle.c_print.specs.Prints.{Prints}
use Rattle.c_tree.specs.declared.short.ShortModule.{ShortModule}

not_space : (x : ℕ) → x ≢ 32 → (x == 32) ≡ false
not_space x h = grind (arith, nat_tests)

-- a front without a space, at a space and at the end
front : (xs ys : List ℕ) → ((i : ℕ) → i < length xs → get_or xs i 0 ≢ 32)
    → slice_split (λ byte. byte == 32) (xs ++ 32 ∷ ys) ≡ xs ∷ slice_split (λ byte. byte == 32) ys
front [] ys h = refl
front (x ∷ xs) ys h =
    slice_split-cons_no (λ byte. byte == 32) x (xs ++ 32 ∷ ys) (not_space x (h 0 (omega arith)))
    ∙ ap (onto_first x) (front xs ys (λ i lt. h (suc i) (omega arith)))

whole : (xs : List ℕ) → ((i : ℕ) → i < length xs → get_or xs i 0 ≢ 32) → slice_split (λ byte. byte == 32) xs ≡ xs ∷ []
whole [] h = refl
whole (x ∷ xs) h =
    slice_split-cons_no (λ byte. byte == 32) x xs (not_space x (h 0 (omega arith)))
    ∙ ap (onto_first x) (whole xs (λ i lt. h (suc i) (omega arith)))

-- nothing, and some words and then more
pub prints_none : (old : List ℕ) → Prints old old []
prints_none old = record { is = sym (append-nil old) }

pub prints_then : (old mid new : List ℕ) (first more : List (List ℕ)) → Prints old mid first → Prints mid new more
    → Prints old new (first ++ more)
prints_then old mid new first more a b = record {
  is = b.is ∙ ap (λ t. t ++ spelled more) a.is ∙ append_assoc old (spelled first) (spelled more)
      ∙ ap (λ t. old ++ t) (sym (flat_map-append spaced first more));
}

-- the same in a row, as the calls of a printer
infixl 5 ◌▸◌
pub ◌▸◌ : {old mid new : List ℕ} {first more : List (List ℕ)} → Prints old mid first → Prints mid new more
    → Prints old new (first ++ more)
a ▸ b = prints_then _ _ _ _ _ a b

-- a word that stands behind a text, and the end that is written behind it
pub ends_word : (old word mid new : List ℕ) (start : ℕ) → mid ≡ old ++ word → start ≡ length old
    → new ≡ mid ++ (if ends_line (drop start mid) then 10 else 32) ∷ [] → Prints old new (word ∷ [])
unfolding spaced
ends_word old word mid new start e h p =
    let cut : drop start mid ≡ word = rw (e, h) (drop-append_seam old word) in
    record { is = p ∙ rw (cut, e) (simp (append_assoc, append-nil)) }

-- a template, word by word
pub prints_template : (old mid new rest word more : List ℕ) → rest ≡ word ++ 32 ∷ more
    → ((i : ℕ) → i < length word → get_or word i 0 ≢ 32)
    → Prints old mid (word ∷ []) → Prints mid new (template more) → Prints old new (template rest)
unfolding template
prints_template old mid new rest word more e h a b =
    let all = prints_then old mid new (word ∷ []) (template more) a b in
    let words : template rest ≡ word ∷ template more = ap template e ∙ front word more h in
    rw words all

pub prints_last : (old new rest : List ℕ) → ((i : ℕ) → i < length rest → get_or rest i 0 ≢ 32)
    → Prints old new (rest ∷ []) → Prints old new (template rest)
unfolding template
prints_last old new rest h a = rw (whole rest h) a

-- one more field
pub fields-more : (name : List ℕ) (n : ℕ)
    → fields_words name (n + 1) ≡ fields_words name n ++ word (codes "double") ++ word (numbered name n) ++ word (codes ";")
fields-more name n = rw add-one refl

-- the words of these modules, numbered from k on
abbrev pub modules_words : ℕ → List ShortModule → List Word
modules_words k modules = flat_map (λ p. module_words p.0 p.1) (enumerate_from k modules)

-- the module at a place, and those behind it
pub prints_module : (old mid new : List ℕ) (modules : List ShortModule) (i : ℕ) (tree : ShortModule) → i < length modules
    → tree ≡ get_or modules i tree → Prints old mid (module_words i tree)
    → Prints mid new (modules_words (i + 1) (drop (i + 1) modules))
    → Prints old new (modules_words i (drop i modules))
prints_module old mid new modules i tree h e a b =
    let front : drop i modules ≡ tree ∷ drop (i + 1) modules =
    rw (add-one, drop-cons modules i tree h) (ap (λ t. t ∷ drop (suc i) modules) (sym e)) in
    rw front (a ▸ b)

-- no module is left behind the last one
pub prints_end : (old : List ℕ) (modules : List ShortModule) (i : ℕ) → length modules ≤ i
    → Prints old old (modules_words i (drop i modules))
prints_end old modules i h = rw (drop_of_length-le modules h) (prints_none old)

-- the whole file
pub prints_all : (start mid new : List ℕ) (modules : List ShortModule) → start ≡ []
    → Prints start mid include_words → Prints mid new (modules_words 0 modules) → new ≡ text_of modules
unfolding text_of
prints_all start mid new modules e a b = (a ▸ b).is ∙ ap (λ t. t ++ spelled (include_words ++ modules_words 0 modules)) e

-- the power of a real, as `itoa` writes it
pub power_text : (power : ℤ) → signed_decimal power ≡ power_digits power
power_text (pos n) = refl
power_text (negsuc n) = refl

-- a whole text, which begins with nothing
pub prints_text : (start new : List ℕ) (words : List Word) → start ≡ [] → Prints start new words → new ≡ spelled words
prints_text start new words e a = a.is ∙ ap (λ t. t ++ spelled words) e

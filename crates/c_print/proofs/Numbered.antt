-- What is printed of a list whose elements are numbered.
use Rattle.std.proofs.Common.{◌≡◌, ◌<◌, ◌≤◌, ◌+◌, ℕ, suc, List, ◌∷◌, length, get_or, drop, drop-cons, refl, ap, sym, ◌∙◌, add-one, arith}
use Rattle.std.specs.Prelude.{Bool, true, false, if◌then◌else◌}
use Rattle.std.specs.List.{flat_map, enumerate_from}
use Rattle.std.proofs.Math.ListN.{drop_of_length-le}
use Rattle.c_tree.specs.Words.{Word}
use Rattle.c_tree.specs.Text.{count_kinds}
use Rattle.c_tree.specs.declared.table.ParamKind.{ParamKind}
use Rattle.c_tree.specs.declared.table.ParamRow.{ParamRow}
use Rattle.c_print.specs.Prints.{Prints}
use Rattle.c_print.proofs.Printing.{◌▸◌, prints_none}

-- the words of elements, numbered from i on
abbrev pub numbered_words : {T : Type 0} → (ℕ → T → List Word) → ℕ → List T → List Word
numbered_words words i elements = flat_map (λ p. words p.0 p.1) (enumerate_from i elements)

-- the element at a place, and those behind it
pub prints-element : {T : Type 0} (words : ℕ → T → List Word) (old mid new : List ℕ) (elements : List T) (i : ℕ) (element : T) → i < length elements
    → element ≡ get_or elements i element → Prints old mid (words i element) → Prints mid new (numbered_words words (i + 1) (drop (i + 1) elements))
    → Prints old new (numbered_words words i (drop i elements))
prints-element words old mid new elements i element h e a b =
    let front : drop i elements ≡ element ∷ drop (i + 1) elements =
    rw (add-one, drop-cons elements i element h) (ap (λ t. t ∷ drop (suc i) elements) (sym e)) in
    rw front (a ▸ b)

-- no element is left behind the last one
pub prints-last : {T : Type 0} (words : ℕ → T → List Word) (old : List ℕ) (elements : List T) (i : ℕ) → length elements ≤ i
    → Prints old old (numbered_words words i (drop i elements))
prints-last words old elements i h = rw (drop_of_length-le elements h) (prints_none old)

one_more : (b : Bool) (n : ℕ) (count rest : ℕ) → n ≡ count + (if b then rest + 1 else rest) → n ≡ (if b then count + 1 else count) + rest
one_more true n count rest e = omega (arith, e)
one_more false n count rest e = e

-- a row is counted, or isn't
pub count-row : (passes : ParamKind → Bool) (rows : List ParamRow) (i n count : ℕ) (row : ParamRow) → i < length rows → row ≡ get_or rows i row
    → n ≡ count + count_kinds passes (drop i rows) → n ≡ (if passes row.kind then count + 1 else count) + count_kinds passes (drop (i + 1) rows)
count-row passes rows i n count row h e is =
    let front : drop i rows ≡ row ∷ drop (i + 1) rows =
    rw (add-one, drop-cons rows i row h) (ap (λ t. t ∷ drop (suc i) rows) (sym e)) in
    one_more (passes row.kind) n count (count_kinds passes (drop (i + 1) rows)) (is ∙ ap (λ l. count + count_kinds passes l) front)

pub count-none : (passes : ParamKind → Bool) (rows : List ParamRow) (i : ℕ) → length rows ≤ i → count_kinds passes (drop i rows) ≡ 0
count-none passes rows i h = rw (drop_of_length-le rows h) refl

-- the same of an element that is read with some other element in its place
pub prints-copied : {T : Type 0} (words : ℕ → T → List Word) (old mid new : List ℕ) (elements : List T) (i : ℕ) (d : T) → i < length elements
    → Prints old mid (words i (get_or elements i d)) → Prints mid new (numbered_words words (i + 1) (drop (i + 1) elements))
    → Prints old new (numbered_words words i (drop i elements))
prints-copied words old mid new elements i d h a b =
    let front : drop i elements ≡ get_or elements i d ∷ drop (i + 1) elements = rw add-one (drop-cons elements i d h) in
    rw front (a ▸ b)

-- How what a report writes follows one another.
use Rattle.std.proofs.Common.{◌≡◌, ◌<◌, ◌≤◌, ◌+◌, ℕ, suc, List, [], ◌∷◌, ◌++◌, length, get_or, drop, drop-cons, ap, sym, ◌∙◌, add-one, append_assoc}
use Rattle.std.specs.Prelude.{map}
use Rattle.std.specs.List.{flat_map, enumerate_from}
use Rattle.std.proofs.lemmas.List.{append-nil}
use Rattle.std.proofs.Math.ListN.{drop_of_length-le}
use Rattle.c_tables.specs.Prints.{Prints}

pub prints_none : (old : List ℕ) → Prints old old []
prints_none old = record { is = sym (append-nil old) }

pub prints_then : (old mid new first more : List ℕ) → Prints old mid first → Prints mid new more → Prints old new (first ++ more)
prints_then old mid new first more a b = record { is = b.is ∙ ap (λ t. t ++ more) a.is ∙ append_assoc old first more }

-- the same in a row, as the calls of a report
infixr 5 ◌▸◌
pub ◌▸◌ : {old mid new first more : List ℕ} → Prints old mid first → Prints mid new more → Prints old new (first ++ more)
a ▸ b = prints_then _ _ _ _ _ a b

-- the texts of rows, each of which stands for a line
abbrev pub texts_of : {T : Type 0} {L : Type 0} → (T → L) → (L → List ℕ) → List T → List ℕ
texts_of line text rows = flat_map text (map line rows)

-- the row at a place, and those behind it
pub prints_row : {T : Type 0} {L : Type 0} (line : T → L) (text : L → List ℕ) (old mid new : List ℕ) (rows : List T) (i : ℕ) (row : T)
    → i < length rows → row ≡ get_or rows i row → Prints old mid (text (line row))
    → Prints mid new (texts_of line text (drop (i + 1) rows)) → Prints old new (texts_of line text (drop i rows))
prints_row line text old mid new rows i row h e a b =
    let front : drop i rows ≡ row ∷ drop (i + 1) rows =
    rw (add-one, drop-cons rows i row h) (ap (λ t. t ∷ drop (suc i) rows) (sym e)) in
    rw front (a ▸ b)

pub prints_last : {T : Type 0} {L : Type 0} (line : T → L) (text : L → List ℕ) (old : List ℕ) (rows : List T) (i : ℕ) → length rows ≤ i
    → Prints old old (texts_of line text (drop i rows))
prints_last line text old rows i h = rw (drop_of_length-le rows h) (prints_none old)

-- the same of rows that are numbered from i on
abbrev pub numbered_texts : {T : Type 0} {L : Type 0} → (T → L) → (ℕ × L → List ℕ) → ℕ → List T → List ℕ
numbered_texts line text i rows = flat_map text (enumerate_from i (map line rows))

pub prints_numbered : {T : Type 0} {L : Type 0} (line : T → L) (text : ℕ × L → List ℕ) (old mid new : List ℕ) (rows : List T) (i : ℕ) (row : T)
    → i < length rows → row ≡ get_or rows i row → Prints old mid (text (i, line row))
    → Prints mid new (numbered_texts line text (i + 1) (drop (i + 1) rows)) → Prints old new (numbered_texts line text i (drop i rows))
prints_numbered line text old mid new rows i row h e a b =
    let front : drop i rows ≡ row ∷ drop (i + 1) rows =
    rw (add-one, drop-cons rows i row h) (ap (λ t. t ∷ drop (suc i) rows) (sym e)) in
    rw front (a ▸ b)

pub prints_last_numbered : {T : Type 0} {L : Type 0} (line : T → L) (text : ℕ × L → List ℕ) (old : List ℕ) (rows : List T) (i : ℕ)
    → length rows ≤ i → Prints old old (numbered_texts line text i (drop i rows))
prints_last_numbered line text old rows i h = rw (drop_of_length-le rows h) (prints_none old)

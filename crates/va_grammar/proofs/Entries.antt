-- The table of rows holds the rows that are chosen.
use Rattle.std.specs.Prelude.{ℕ, ◌≡◌, ◌<◌, ◌+◌, suc, Bool, true, false, ◌&&◌, if◌then◌else◌, nat_eq, nat_lt, List, [], ◌∷◌, Option, Some, None, refl, slice_get, length, get_or}
use Rattle.std.specs.List.{list_all}
use Rattle.std.proofs.Common.{sym, ap, subst, ◌∙◌, inl, inr, arith, eqb-true, ltb-true, zero-add, add-zero}
use Rattle.std.proofs.lemmas.Bool.{and_parts, cases_Bool}
use Rattle.predict.specs.Table.{Row, is_among, chosen, one_more}
use Rattle.va_grammar.specs.Cells.{row_of}
use Rattle.predict.specs.FirstFit.{IsFirstFit, NoneFits}
use Rattle.va_grammar.specs.Sets.{va_grammar, va_rules, va_table}
use Rattle.va_grammar.specs.declared.tables.TheConstants.{FIRST_ROWS, ROW_AT}
use Rattle.predict.proofs.Lists.{at_each, each_told, among_passes}
use Rattle.va_grammar.proofs.VaFits.{va_first_fit, va_none_fits}

-- a row of a nonterminal, with its number
record Candidate : Type 0 where
  number : ℕ
  kinds : List ℕ

-- the rows of a nonterminal, numbered from this number on
abbrev candidates : List Row → ℕ → ℕ → List Candidate
candidates [] left from = []
candidates (row ∷ rows) left from =
    let rest = candidates rows left (suc from) in
    if nat_eq left row.left then record { number = from; kinds = row.kinds } ∷ rest else rest

-- the first that fits
abbrev first_in : List Candidate → ℕ → Option ℕ
first_in [] k = None
first_in (c ∷ cs) k = if is_among c.kinds k then Some c.number else first_in cs k

-- a number counted from this one on
abbrev shifted : ℕ → Option ℕ → Option ℕ
shifted from None = None
shifted from (Some i) = Some (from + i)

shift_one : (from : ℕ) (o : Option ℕ) → shifted (suc from) o ≡ shifted from (one_more o)
shift_one from None = refl
shift_one from (Some i) = let e : suc from + i ≡ from + suc i = omega arith in ap Some e

unshifted : (o : Option ℕ) → shifted 0 o ≡ o
unshifted None = refl
unshifted (Some i) = ap Some (zero-add i)

one_fits : (m : Bool) (from : ℕ) (others : Option ℕ) (o : Option ℕ) → others ≡ shifted (suc from) o → (if m then Some from else others) ≡ shifted from (if m then Some 0 else one_more o)
one_fits true from others o e = ap Some (sym (add-zero from))
one_fits false from others o e = e ∙ shift_one from o

one_row : (b : Bool) (from : ℕ) (kinds : List ℕ) (rest : List Candidate) (k : ℕ) (o : Option ℕ) → first_in rest k ≡ shifted (suc from) o
    → first_in (if b then record { number = from; kinds = kinds } ∷ rest else rest) k ≡ shifted from (if b && is_among kinds k then Some 0 else one_more o)
one_row true from kinds rest k o e = one_fits (is_among kinds k) from (first_in rest k) o e
one_row false from kinds rest k o e = e ∙ shift_one from o

candidates_chosen : (rows : List Row) (left k from : ℕ) → first_in (candidates rows left from) k ≡ shifted from (chosen rows left k)
candidates_chosen [] left k from = refl
candidates_chosen (row ∷ rows) left k from = one_row (nat_eq left row.left) from row.kinds (candidates rows left (suc from)) k (chosen rows left k) (candidates_chosen rows left k (suc from))

-- whether both are the same row or none
abbrev same_row : Option ℕ → Option ℕ → Bool
same_row None None = true
same_row None (Some j) = false
same_row (Some i) None = false
same_row (Some i) (Some j) = nat_eq i j

same_told : (o p : Option ℕ) → same_row o p ≡ true → o ≡ p
same_told None None h = refl
same_told None (Some j) h = cc
same_told (Some i) None h = cc
same_told (Some i) (Some j) h = ap Some (eqb-true i j h)

abbrev cell_passes : List Candidate → ℕ → ℕ → ℕ → Bool
cell_passes cs first_row k cell = same_row (row_of first_row cell) (first_in cs k)

-- the number of the first row of a nonterminal
abbrev pub first_row_of : ℕ → ℕ
first_row_of left = get_or FIRST_ROWS left 0

-- a line of the table has a cell for each kind, with the row that is chosen
abbrev line_passes : List Row → ℕ → List ℕ → Bool
line_passes rows left line = nat_eq (length line) 70 && at_each (cell_passes (candidates rows left 0) (first_row_of left)) 0 line

-- a row is one of a nonterminal of the table, at kinds of the table
abbrev in_table : Row → Bool
in_table row = nat_lt row.left 79 && list_all (λ k. nat_lt k 70) row.kinds

lines_pass : at_each (line_passes va_table.rows) 0 ROW_AT ≡ true
lines_pass = refl

rows_in_table : list_all in_table va_table.rows ≡ true
rows_in_table = refl

nothing_outside : (rows : List Row) (left k : ℕ) → list_all in_table rows ≡ true → ((left < 79) → (k < 70) → ⊥) → chosen rows left k ≡ None
nothing_outside [] left k h out = refl
nothing_outside (row ∷ rows) left k h out =
    let each = and_parts (in_table row) (list_all in_table rows) h in
    let rest = nothing_outside rows left k each.1 out in
    let fits = nat_eq left row.left && is_among row.kinds k in
    elim (cases_Bool fits) [
      | inl e ↦
          let p = and_parts (nat_eq left row.left) (is_among row.kinds k) e in
          let q = and_parts (nat_lt row.left 79) (list_all (λ k. nat_lt k 70) row.kinds) each.0 in
          let same = eqb-true left row.left p.0 in
          let below = ltb-true row.left 79 q.0 in
          absurd (out (omega (arith, same, below)) (ltb-true k 70 (among_passes (λ k. nat_lt k 70) row.kinds k q.1 p.1)))
      | inr e ↦ subst (λ b. (if b then Some 0 else one_more (chosen rows left k)) ≡ None) (sym e) (ap one_more rest)
    ]

-- the test that the line of a nonterminal passed
abbrev cells_pass : ℕ → List ℕ → Bool
cells_pass left = at_each (cell_passes (candidates va_table.rows left 0) (first_row_of left)) 0

line_told : (left : ℕ) (line : List ℕ) → slice_get ROW_AT left ≡ Some line → (nat_eq (length line) 70 ≡ true) × (cells_pass left line ≡ true)
line_told left line at_left =
    and_parts (nat_eq (length line) 70) (cells_pass left line)
    (each_told (line_passes va_table.rows) 0 ROW_AT left left line lines_pass at_left (zero-add left))

-- what a line of the table holds at a kind
pub entry_chosen : (left k cell : ℕ) (line : List ℕ) → slice_get ROW_AT left ≡ Some line → slice_get line k ≡ Some cell →
    row_of (first_row_of left) cell ≡ va_rules.row_at left k
unfolding va_rules
entry_chosen left k cell line at_left at_kind =
    let cs = candidates va_table.rows left 0 in
    let passes = each_told (cell_passes cs (first_row_of left)) 0 line k k cell (line_told left line at_left).1 at_kind (zero-add k) in
    same_told (row_of (first_row_of left) cell) (first_in cs k) passes
    ∙ candidates_chosen va_table.rows left k 0
    ∙ unshifted (chosen va_table.rows left k)

pub line_length : (left : ℕ) (line : List ℕ) → slice_get ROW_AT left ≡ Some line → length line ≡ 70
line_length left line at_left = eqb-true (length line) 70 (line_told left line at_left).0

pub none_outside : (left k : ℕ) → ((left < 79) → (k < 70) → ⊥) → None ≡ va_rules.row_at left k
unfolding va_rules
none_outside left k out = sym (nothing_outside va_table.rows left k rows_in_table out)

pub row_first_fit : (left k row : ℕ) → va_rules.row_at left k ≡ Some row → IsFirstFit va_grammar left k row
unfolding va_rules
row_first_fit left k row h = va_first_fit left k row h

pub row_none_fits : (left k : ℕ) → va_rules.row_at left k ≡ None → NoneFits va_grammar left k
unfolding va_rules
row_none_fits left k h = va_none_fits left k h

-- The parse tables are the rows that are written, and their choices.
use Rattle.std.specs.Prelude.{ℕ, ◌≡◌, ◌<◌, ◌+◌, suc, zero, Bool, true, false, ◌&&◌, ◌||◌, ◌≤◌, nat_lt, nat_eq, if◌then◌else◌, List, [], ◌∷◌, ◌++◌, Option, Some, None, refl, slice_get, length, map, get_or}
use Rattle.std.specs.List.{list_all}
use Rattle.std.specs.Option.{option_map}
use Rattle.std.proofs.Common.{sym, ap, subst, ◌∙◌, ltb-true, Bor, eqb-true, arith}
use Rattle.std.proofs.lemmas.Bool.{and_parts}
use Rattle.std.proofs.lemmas.List.{length-map}
use Rattle.va_base.proofs.Tests.{not_true}
use Rattle.std.proofs.lemmas.Option.{slice_get-map, slice_get_within, slice_get-get_or}
use Rattle.predict.specs.declared.symbol.Symbol.{Symbol}
use Rattle.predict.specs.Rules.{IsRow}
use Rattle.predict.specs.Table.{Row, symbols_of, chosen, is_among, one_more}
use Rattle.predict.specs.FirstFit.{Written, IsRowOf, IsFirstFit, NoneFits}
use Rattle.predict.specs.Sets.{Sets, with_kinds}
use Rattle.predict.proofs.Lists.{passes_at}
use Rattle.c_tree.specs.Words.{template}
use Rattle.c_syntax.specs.declared.row_tables.TheConstants.{ROWS}
use Rattle.c_syntax.specs.grammar.Names.{class_names, number_names, mark_names, word_names, field_names, kind_names, nonterminal_names}
use Rattle.c_syntax.specs.grammar.Rows.{row_texts, written_rows}
use Rattle.c_syntax.specs.grammar.Sets.{c_grammar, c_sets, c_table, c_rules}
use Rattle.c_syntax.specs.grammar.Choices.{symbol_numbered, further, kind_place, row_with_place, next_kinds, next_rows}
use Rattle.c_syntax.proofs.Fits.{first_fit, none_fits}

-- the symbols of each row, as they are written
abbrev pub written_symbols : List (List Symbol)
written_symbols = map (λ (row : Written). row.symbols) written_rows

-- the numbers from i on, so many, in order
abbrev pub numbers_from : ℕ → ℕ → List ℕ
numbers_from i zero = []
numbers_from i (suc n) = i ∷ numbers_from (suc i) n

abbrev pub numbers_in : Bor (List ℕ) → List ℕ
numbers_in numbers = numbers.now

lefts_few : list_all (λ (row : Row). nat_lt row.left 72) c_table.rows ≡ true
unfolding template class_names number_names mark_names word_names field_names kind_names nonterminal_names row_texts written_rows
lefts_few = refl

-- the symbols of a row in the table are those of the row as it is written
symbols_listed : (sets : Sets) (all : List Written) (i : ℕ) (symbols : List Symbol) → slice_get (map (λ (row : Written). row.symbols) all) i ≡ Some symbols → symbols_of (map (with_kinds sets) all) i ≡ symbols
symbols_listed sets [] i symbols h = cc
symbols_listed sets (row ∷ all) zero symbols h = cc
symbols_listed sets (row ∷ all) (suc i) symbols h = symbols_listed sets all i symbols h

row_first_fit : (left k row : ℕ) → c_rules.row_at left k ≡ Some row → IsFirstFit c_grammar left k row
unfolding c_rules
row_first_fit left k row h = first_fit left k row h

rows_count : length written_rows ≡ 144
unfolding template class_names number_names mark_names word_names field_names kind_names nonterminal_names row_texts written_rows
rows_count = refl

pub row_within : (row : ℕ) → IsRow c_rules row → row < 144
row_within row is =
    let f = row_first_fit is.0 is.1 row is.2 in
    subst (λ n. row < n) rows_count (slice_get_within written_rows row _ f.written)

all_few : list_all (λ (symbols : List Symbol). nat_lt (length symbols) 256) written_symbols ≡ true
unfolding template class_names number_names mark_names word_names field_names kind_names nonterminal_names row_texts written_rows
all_few = refl

-- the numbers of the symbols of each row
abbrev pub row_numbers : List (List ℕ)
row_numbers = map (λ row. row.now) ROWS

numbers_same : map (map symbol_numbered) row_numbers ≡ written_symbols
unfolding template class_names number_names mark_names word_names field_names kind_names nonterminal_names row_texts written_rows
numbers_same = refl

numbers_count : length row_numbers ≡ 144
numbers_count = refl

pub symbols_of_numbers : (numbers : List ℕ) (row : ℕ) → numbers ≡ get_or row_numbers row [] → IsRow c_rules row → map symbol_numbered numbers ≡ c_rules.symbols row
unfolding c_rules
symbols_of_numbers numbers row e is =
    let none : List ℕ = [] in
    let inside : row < length row_numbers = subst (λ n. row < n) (sym numbers_count) (row_within row is) in
    let there : slice_get written_symbols row ≡ Some (map symbol_numbered (get_or row_numbers row none)) =
    ap (λ l. slice_get l row) (sym numbers_same) ∙ slice_get-map (map symbol_numbered) row_numbers row ∙ ap (option_map (map symbol_numbered)) (slice_get-get_or row_numbers row none inside) in
    ap (map symbol_numbered) e ∙ sym (symbols_listed c_sets written_rows row (map symbol_numbered (get_or row_numbers row none)) there)

same_at : (all : List (Bor (List ℕ))) (numbers : List (List ℕ)) (row : ℕ) (none : Bor (List ℕ)) → map numbers_in all ≡ numbers → none.now ≡ [] → numbers_in (get_or all row none) ≡ get_or numbers row []
same_at all numbers row none same e = at all row ∙ ap (λ l. get_or l row []) same
  where
    at : (xs : List (Bor (List ℕ))) (i : ℕ) → numbers_in (get_or xs i none) ≡ get_or (map numbers_in xs) i []
    at [] i = e
    at (x ∷ xs) zero = refl
    at (x ∷ xs) (suc i) = at xs i

pub numbers_listed : (all : List (Bor (List ℕ))) (row : ℕ) (none : Bor (List ℕ)) → map numbers_in all ≡ row_numbers → none.now ≡ [] → numbers_in (get_or all row none) ≡ get_or row_numbers row []
numbers_listed all row none same e = same_at all row_numbers row none same e

-- the symbols of a row, as they are written
written_row : (row : ℕ) → row < 144 → slice_get written_symbols row ≡ Some (c_rules.symbols row)
unfolding c_rules
written_row row less =
    let none : List Symbol = [] in
    let long : row < length written_symbols = subst (λ n. row < n) (sym (length-map written_rows (λ (r : Written). r.symbols) ∙ rows_count)) less in
    let e = slice_get-get_or written_symbols row none long in
    e ∙ ap Some (sym (symbols_listed c_sets written_rows row (get_or written_symbols row none) e))

pub row_few : (row : ℕ) → IsRow c_rules row → length (c_rules.symbols row) < 256
row_few row is =
    ltb-true (length (c_rules.symbols row)) 256 (passes_at (λ (symbols : List Symbol). nat_lt (length symbols) 256) written_symbols row (c_rules.symbols row) all_few (written_row row (row_within row is)))

-- numbers that are those of a row
pub numbers_length : (numbers : List ℕ) (symbols : List Symbol) → map symbol_numbered numbers ≡ symbols → length numbers ≡ length symbols
numbers_length numbers symbols e = sym (length-map numbers symbol_numbered) ∙ ap length e

pub numbered_symbol : (numbers : List ℕ) (symbols : List Symbol) (i : ℕ) → map symbol_numbered numbers ≡ symbols → i < length symbols → slice_get symbols i ≡ Some (symbol_numbered (get_or numbers i 0))
numbered_symbol numbers symbols i e less =
    let inside : i < length numbers = subst (λ n. i < n) (sym (numbers_length numbers symbols e)) less in
    ap (λ l. slice_get l i) (sym e) ∙ slice_get-map symbol_numbered numbers i ∙ ap (option_map symbol_numbered) (slice_get-get_or numbers i 0 inside)

-- a row that is chosen is written as one of the nonterminal, with these symbols
pub row_written : (left k row : ℕ) → c_rules.row_at left k ≡ Some row → IsRowOf c_grammar row left (c_rules.symbols row)
unfolding c_rules
row_written left k row h =
    let f = row_first_fit left k row h in
    let symbols_of_row = λ (r : Written). r.symbols in
    let listed = slice_get-map symbols_of_row written_rows row ∙ ap (option_map symbols_of_row) f.written in
    subst (λ symbols. IsRowOf c_grammar row left symbols) (sym (symbols_listed c_sets written_rows row f.symbols listed)) f.written

pub row_fits : (left k row : ℕ) → c_rules.row_at left k ≡ Some row → IsFirstFit c_grammar left k row
row_fits left k row h = row_first_fit left k row h

pub row_none : (left k : ℕ) → c_rules.row_at left k ≡ None → NoneFits c_grammar left k
unfolding c_rules
row_none left k h = none_fits left k h

-- the lists of a nonterminal
numbers_at : (n i left : ℕ) → left < n → slice_get (numbers_from i n) left ≡ Some (i + left)
numbers_at zero i left less = absurd (omega (arith, less))
numbers_at (suc n) i zero less = ap (λ k. Some k) (let same : i ≡ i + 0 = omega arith in same)
numbers_at (suc n) i (suc left) less = numbers_at n (suc i) left (omega (arith, less)) ∙ ap (λ k. Some k) (let same : suc i + left ≡ i + suc left = omega arith in same)

some_same : (a b : List ℕ) → Some a ≡ Some b → a ≡ b
some_same a b e = cc

from_count : (i n : ℕ) → length (numbers_from i n) ≡ n
from_count i zero = refl
from_count i (suc n) = ap suc (from_count (suc i) n)

module _ (f : ℕ → List ℕ) (all : List (Bor (List ℕ))) (same : map numbers_in all ≡ map f (numbers_from 0 72)) where
  listed : (left : ℕ) (none : Bor (List ℕ)) → left < 72 → numbers_in (get_or all left none) ≡ f left
  listed left none less =
      let long : left < length all = subst (λ n. left < n) (sym (sym (length-map all numbers_in) ∙ ap length same ∙ length-map (numbers_from 0 72) f ∙ from_count 0 72)) less in
      let here : slice_get (map numbers_in all) left ≡ Some (numbers_in (get_or all left none)) = slice_get-map numbers_in all left ∙ ap (option_map numbers_in) (slice_get-get_or all left none long) in
      let there : slice_get (map f (numbers_from 0 72)) left ≡ Some (f (0 + left)) = slice_get-map f (numbers_from 0 72) left ∙ ap (option_map f) (numbers_at 72 0 left less) in
      some_same _ _ (sym here ∙ ap (λ l. slice_get l left) same ∙ there) ∙ ap f (let zero_less : 0 + left ≡ left = omega arith in zero_less)

pub kinds_listed : (all : List (Bor (List ℕ))) → map numbers_in all ≡ map (next_kinds c_table.rows) (numbers_from 0 72) → (left : ℕ) (none : Bor (List ℕ)) → left < 72
    → numbers_in (get_or all left none) ≡ next_kinds c_table.rows left
kinds_listed all same left none less = listed (next_kinds c_table.rows) all same left none less

pub rows_listed : (all : List (Bor (List ℕ))) → map numbers_in all ≡ map (next_rows 0 c_table.rows) (numbers_from 0 72) → (left : ℕ) (none : Bor (List ℕ)) → left < 72
    → numbers_in (get_or all left none) ≡ next_rows 0 c_table.rows left
rows_listed all same left none less = listed (next_rows 0 c_table.rows) all same left none less

-- a choice, counted from a row on
abbrev placed_row : ℕ → Option ℕ → Option ℕ
placed_row i None = None
placed_row i (Some row) = Some (i + row)

placed_more : (i : ℕ) (r : Option ℕ) → placed_row (suc i) r ≡ placed_row i (one_more r)
placed_more i None = refl
placed_more i (Some row) = ap (λ k. Some k) (let same : suc i + row ≡ i + suc row = omega arith in same)

shift : (i : ℕ) (r : Option ℕ) (rows : List ℕ) → row_with_place (i ∷ rows) (further r) ≡ row_with_place rows r
shift i None rows = refl
shift i (Some n) rows = refl

one_kind : (b m : Bool) (i : ℕ) (r : Option ℕ) (rows : List ℕ) (x : Option ℕ) → row_with_place rows r ≡ (if m then Some i else x)
    → row_with_place (i ∷ rows) (if b then Some 0 else further r) ≡ (if b || m then Some i else x)
one_kind true m i r rows x e = refl
one_kind false m i r rows x e = shift i r rows ∙ e

-- the choices of a row, and those behind it
row_kinds : (kinds more rows : List ℕ) (i next : ℕ)
    → row_with_place (map (λ kind. i) kinds ++ rows) (kind_place (kinds ++ more) next)
    ≡ (if is_among kinds next then Some i else row_with_place rows (kind_place more next))
row_kinds [] more rows i next = refl
row_kinds (kind ∷ kinds) more rows i next =
    one_kind (nat_eq next kind) (is_among kinds next) i (kind_place (kinds ++ more) next) (map (λ kind. i) kinds ++ rows)
    (row_with_place rows (kind_place more next)) (row_kinds kinds more rows i next)

one_row : (m : Bool) (i : ℕ) (others o : Option ℕ) → others ≡ placed_row (suc i) o → (if m then Some i else others) ≡ placed_row i (if m then Some 0 else one_more o)
one_row true i others o e = ap (λ k. Some k) (let same : i ≡ i + 0 = omega arith in same)
one_row false i others o e = e ∙ placed_more i o

row_choices : (b : Bool) (kinds more rows : List ℕ) (i next : ℕ) (o : Option ℕ) → row_with_place rows (kind_place more next) ≡ placed_row (suc i) o
    → row_with_place ((if b then map (λ kind. i) kinds else []) ++ rows) (kind_place ((if b then kinds else []) ++ more) next)
    ≡ placed_row i (if b && is_among kinds next then Some 0 else one_more o)
row_choices true kinds more rows i next o e = row_kinds kinds more rows i next ∙ one_row (is_among kinds next) i (row_with_place rows (kind_place more next)) o e
row_choices false kinds more rows i next o e = e ∙ placed_more i o

rows_chosen : (rows : List Row) (i left next : ℕ) → row_with_place (next_rows i rows left) (kind_place (next_kinds rows left) next) ≡ placed_row i (chosen rows left next)
rows_chosen [] i left next = refl
rows_chosen (row ∷ rows) i left next =
    row_choices (nat_eq left row.left) row.kinds (next_kinds rows left) (next_rows (suc i) rows left) i next (chosen rows left next)
    (rows_chosen rows (suc i) left next)

placed_first : (r : Option ℕ) → placed_row 0 r ≡ r
placed_first None = refl
placed_first (Some row) = ap (λ k. Some k) (let same : 0 + row ≡ row = omega arith in same)

-- the choices of a nonterminal are those of the rows
pub choice_ruled : (left next : ℕ) → row_with_place (next_rows 0 c_table.rows left) (kind_place (next_kinds c_table.rows left) next) ≡ c_rules.row_at left next
unfolding c_rules
choice_ruled left next = rows_chosen c_table.rows 0 left next ∙ placed_first (chosen c_table.rows left next)

-- beyond the nonterminals there is no row
no_row : (rows : List Row) (left next : ℕ) → list_all (λ (row : Row). nat_lt row.left 72) rows ≡ true → 72 ≤ left → chosen rows left next ≡ None
no_row [] left next h le = refl
no_row (row ∷ rows) left next h le =
    let p = and_parts (nat_lt row.left 72) (list_all (λ (r : Row). nat_lt r.left 72) rows) h in
    let below = ltb-true row.left 72 p.0 in
    let other : nat_eq left row.left ≡ false = not_true _ (λ e. let same = eqb-true left row.left e in omega (arith, same, below, le)) in
    ap (λ b. if b && is_among row.kinds next then Some 0 else one_more (chosen rows left next)) other ∙ ap one_more (no_row rows left next p.1 le)

pub none_outside : (left next : ℕ) → 72 ≤ left → c_rules.row_at left next ≡ None
unfolding c_rules
none_outside left next le = no_row c_table.rows left next lefts_few le

-- The parts of the rows are those that are written.
use Rattle.std.specs.Prelude.{ℕ, ◌≡◌, ◌<◌, suc, zero, true, nat_lt, List, [], ◌∷◌, Some, refl, slice_get, length, map, get_or}
use Rattle.std.specs.List.{list_all}
use Rattle.std.specs.Option.{option_map}
use Rattle.std.proofs.Common.{sym, ap, subst, ◌∙◌, ltb-true, Bor}
use Rattle.std.proofs.lemmas.List.{length-map}
use Rattle.std.proofs.lemmas.Option.{slice_get-map, slice_get_within, slice_get-get_or}
use Rattle.predict.specs.declared.symbol.Symbol.{Symbol}
use Rattle.predict.specs.Rules.{IsRow}
use Rattle.predict.specs.Table.{symbols_of}
use Rattle.predict.specs.FirstFit.{Written, IsRowOf}
use Rattle.va_grammar.specs.Parts.{symbol_of}
use Rattle.va_grammar.specs.Rows.{rows}
use Rattle.predict.specs.Sets.{Sets, with_kinds}
use Rattle.va_grammar.specs.Sets.{va_grammar, va_sets, va_rules}
use Rattle.va_grammar.specs.declared.rows.Part.{Part}
use Rattle.va_grammar.proofs.Entries.{row_first_fit}
use Rattle.predict.proofs.Lists.{passes_at}

-- the symbols of each row, as they are written
abbrev pub written_symbols : List (List Symbol)
written_symbols = map (λ (row : Written). row.symbols) rows

-- the symbols of parts
abbrev pub symbols_in : Bor (List Part) → List Symbol
symbols_in parts = map symbol_of parts.now

symbols_listed : (sets : Sets) (all : List Written) (i : ℕ) (symbols : List Symbol) → slice_get (map (λ (row : Written). row.symbols) all) i ≡ Some symbols → symbols_of (map (with_kinds sets) all) i ≡ symbols
symbols_listed sets [] i symbols h = cc
symbols_listed sets (row ∷ all) zero symbols h = cc
symbols_listed sets (row ∷ all) (suc i) symbols h = symbols_listed sets all i symbols h

pub row_within : (row : ℕ) → IsRow va_rules row → row < 173
row_within row is = let f = row_first_fit is.0 is.1 row is.2 in slice_get_within rows row _ f.written

all_few : list_all (λ (symbols : List Symbol). nat_lt (length symbols) 16) written_symbols ≡ true
all_few = refl

module _ (all : List (Bor (List Part))) (same : map symbols_in all ≡ written_symbols) where
  within : (row : ℕ) → row < 173 → row < length all
  within row less = let e : length all ≡ 173 = sym (length-map all symbols_in) ∙ ap length same in subst (λ n. row < n) (sym e) less

  there : (row : ℕ) (none : Bor (List Part)) → row < 173 → slice_get written_symbols row ≡ Some (symbols_in (get_or all row none))
  there row none less = ap (λ l. slice_get l row) (sym same) ∙ slice_get-map symbols_in all row ∙ ap (option_map symbols_in) (slice_get-get_or all row none (within row less))

  pub row_symbols : (row : ℕ) (none : Bor (List Part)) → IsRow va_rules row → symbols_in (get_or all row none) ≡ va_rules.symbols row
  unfolding va_rules
  row_symbols row none is = sym (symbols_listed va_sets rows row (symbols_in (get_or all row none)) (there row none (row_within row is)))

-- the symbols of a row, as they are written
written_row : (row : ℕ) → row < 173 → slice_get written_symbols row ≡ Some (va_rules.symbols row)
unfolding va_rules
written_row row less =
    let none : List Symbol = [] in
    let e = slice_get-get_or written_symbols row none less in
    e ∙ ap Some (sym (symbols_listed va_sets rows row (get_or written_symbols row none) e))

pub row_few : (row : ℕ) → IsRow va_rules row → length (va_rules.symbols row) < 16
row_few row is =
    ltb-true (length (va_rules.symbols row)) 16 (passes_at (λ (symbols : List Symbol). nat_lt (length symbols) 16) written_symbols row (va_rules.symbols row) all_few (written_row row (row_within row is)))

-- parts that are those of a row
pub parts_length : (parts : List Part) (symbols : List Symbol) → map symbol_of parts ≡ symbols → length parts ≡ length symbols
parts_length parts symbols e = sym (length-map parts symbol_of) ∙ ap length e

pub part_symbol : (parts : List Part) (symbols : List Symbol) (i : ℕ) (none : Part) → map symbol_of parts ≡ symbols → i < length symbols → slice_get symbols i ≡ Some (symbol_of (get_or parts i none))
part_symbol parts symbols i none e less =
    let inside : i < length parts = subst (λ n. i < n) (sym (parts_length parts symbols e)) less in
    ap (λ l. slice_get l i) (sym e) ∙ slice_get-map symbol_of parts i ∙ ap (option_map symbol_of) (slice_get-get_or parts i none inside)

-- a row that is chosen is written as one of the nonterminal, with these symbols
pub row_written : (left k row : ℕ) → va_rules.row_at left k ≡ Some row → IsRowOf va_grammar row left (va_rules.symbols row)
unfolding va_rules
row_written left k row h =
    let f = row_first_fit left k row h in
    let symbols_of_row = λ (r : Written). r.symbols in
    let listed = slice_get-map symbols_of_row rows row ∙ ap (option_map symbols_of_row) f.written in
    subst (λ symbols. IsRowOf va_grammar row left symbols) (sym (symbols_listed va_sets rows row f.symbols listed)) f.written

-- The parts of the rows are those that are written.
use Rattle.std.specs.Prelude.{◌≡◌, ◌<◌, ◌≤◌, ℕ, suc, zero, List, [], ◌∷◌, Some, refl, map, length, get_or, slice_get}
use Rattle.std.specs.Option.{option_map}
use Rattle.std.proofs.Common.{ap, sym, ◌∙◌, subst, arith, Bor}
use Rattle.std.proofs.lemmas.List.{length-map}
use Rattle.std.proofs.lemmas.Option.{slice_get-map, slice_get-get_or}
use Rattle.predict.specs.declared.symbol.Symbol.{Symbol}
use Rattle.predict.specs.FirstFit.{Written}
use Rattle.va_build.specs.Reading.{row_symbols, symbols_at}
use Rattle.va_grammar.specs.Rows.{rows}
use Rattle.va_grammar.specs.declared.rows.Part.{Part}
use Rattle.va_grammar.proofs.VaSymbols.{written_symbols, symbols_in}

at_written : (all : List Written) (i : ℕ) (symbols : List Symbol) → slice_get (map (λ (row : Written). row.symbols) all) i ≡ Some symbols → symbols ≡ symbols_at all i
at_written [] i symbols h = cc
at_written (row ∷ all) zero symbols h = cc
at_written (row ∷ all) (suc i) symbols h = at_written all i symbols h

none_written : (all : List Written) (i : ℕ) → length all ≤ i → [] ≡ symbols_at all i
none_written [] i h = refl
none_written (row ∷ all) zero h = absurd (omega (arith, h))
none_written (row ∷ all) (suc i) h = none_written all i (omega (arith, h))

module _ (all : List (Bor (List Part))) (same : map symbols_in all ≡ written_symbols) where
  inside : (row : ℕ) → row < 173 → row < length all
  inside row less = let e : length all ≡ 173 = sym (length-map all symbols_in) ∙ ap length same in subst (λ n. row < n) (sym e) less

  pub parts_of_row : (row : ℕ) (none : Bor (List Part)) → row < 173 → symbols_in (get_or all row none) ≡ row_symbols row
  unfolding row_symbols
  parts_of_row row none less = at_written rows row (symbols_in (get_or all row none)) (ap (λ l. slice_get l row) (sym same) ∙ slice_get-map symbols_in all row ∙ ap (option_map symbols_in) (slice_get-get_or all row none (inside row less)))

pub no_parts_of_row : (row : ℕ) → 173 ≤ row → [] ≡ row_symbols row
unfolding row_symbols
no_parts_of_row row h = none_written rows row h

-- Sets that are closed under the rules hold all that can be empty, begin and follow.
use Rattle.std.specs.Prelude.{ℕ, ◌≡◌, Bool, true, not, ◌&&◌, ◌||◌, List, [], ◌∷◌, ◌++◌, refl}
use Rattle.std.specs.List.{list_all}
use Rattle.std.proofs.Common.{inl, inr}
use Rattle.std.proofs.lemmas.Bool.{and_parts, and_from}
use Rattle.predict.specs.declared.symbol.Symbol.{Symbol}
use Rattle.predict.specs.declared.symbol.Symbol.TheVariants.{Kind, Left}
use Rattle.predict.specs.Laws.{all_empty}
use Rattle.predict.specs.Table.{is_among, kinds_at}
use Rattle.predict.specs.FirstFit.{Written, WrittenGrammar, HasRow, Fits, CanBeEmpty, no_symbols, empty_row, CanBegin, kind_first, row_first, behind_empty, CanFollow, text_ends, in_row, at_row_end}
use Rattle.predict.specs.Sets.{Sets, is_empty, firsts, kinds_of}
use Rattle.predict.proofs.Lists.{implied, passes_at, among_passes, among_one, among_first, among_second, if_there}

-- a test on each nonterminal of a row and what stands behind it
abbrev pub places_pass : (ℕ → List Symbol → Bool) → List Symbol → Bool
places_pass test [] = true
places_pass test (Kind k ∷ rest) = places_pass test rest
places_pass test (Left x ∷ rest) = test x rest && places_pass test rest

place_told : (test : ℕ → List Symbol → Bool) (front rest : List Symbol) (x : ℕ) → places_pass test (front ++ Left x ∷ rest) ≡ true → test x rest ≡ true
place_told test [] rest x h = (and_parts (test x rest) (places_pass test rest) h).0
place_told test (Kind k ∷ front) rest x h = place_told test front rest x h
place_told test (Left y ∷ front) rest x h = place_told test front rest x (and_parts (test y (front ++ Left x ∷ rest)) (places_pass test (front ++ Left x ∷ rest)) h).1

-- whether the first kinds are among the second
abbrev pub within : List ℕ → List ℕ → Bool
within some all = list_all (is_among all) some

-- where x stands in a row before the rest
abbrev pub follow_closed : Sets → ℕ → ℕ → List Symbol → Bool
follow_closed sets left x rest =
    within (firsts sets rest) (kinds_at sets.follows x) && (not (all_empty (is_empty sets) rest) || within (kinds_at sets.follows left) (kinds_at sets.follows x))

-- the sets are closed under what the row says
abbrev pub row_closed : Sets → Written → Bool
row_closed sets row =
    (not (all_empty (is_empty sets) row.symbols) || is_empty sets row.left)
    && (within (firsts sets row.symbols) (kinds_at sets.begins row.left) && places_pass (follow_closed sets row.left) row.symbols)

-- the sets are closed under what the rows say
abbrev pub all_closed : WrittenGrammar → Sets → Bool
all_closed g sets = is_among (kinds_at sets.follows g.start) g.end_kind && list_all (row_closed sets) g.rows

-- the parts of the test on a row
record RowClosed (sets : Sets) (left : ℕ) (symbols : List Symbol) : Type 0 where
  emptied : (not (all_empty (is_empty sets) symbols) || is_empty sets left) ≡ true
  begun : within (firsts sets symbols) (kinds_at sets.begins left) ≡ true
  followed : places_pass (follow_closed sets left) symbols ≡ true

module _ (g : WrittenGrammar) (sets : Sets) (closed : all_closed g sets ≡ true) where
  known : (left : ℕ) (symbols : List Symbol) → HasRow g left symbols → RowClosed sets left symbols
  known left symbols has =
      let c = and_parts (is_among (kinds_at sets.follows g.start) g.end_kind) (list_all (row_closed sets) g.rows) closed in
      let p = passes_at (row_closed sets) g.rows has.0 (record { left = left; symbols = symbols }) c.1 has.1 in
      let begun = within (firsts sets symbols) (kinds_at sets.begins left) in
      let followed = places_pass (follow_closed sets left) symbols in
      let q = and_parts (not (all_empty (is_empty sets) symbols) || is_empty sets left) (begun && followed) p in
      let r = and_parts begun followed q.1 in
      record { emptied = q.0; begun = r.0; followed = r.1 }

  pub empty_listed : {symbols : List Symbol} → CanBeEmpty g symbols → all_empty (is_empty sets) symbols ≡ true
  empty_listed no_symbols = refl
  empty_listed (empty_row {left = l} {symbols = s} {more = m} has e rest) =
      and_from (is_empty sets l) (all_empty (is_empty sets) m) (implied (all_empty (is_empty sets) s) (is_empty sets l) (known l s has).emptied (empty_listed e)) (empty_listed rest)

  pub begin_listed : {symbols : List Symbol} {k : ℕ} → CanBegin g symbols k → is_among (firsts sets symbols) k ≡ true
  begin_listed (kind_first {k = k}) = among_one k
  begin_listed (row_first {left = l} {k = k} {symbols = s} {more = m} has b) =
      among_first (kinds_at sets.begins l) _ k (among_passes (is_among (kinds_at sets.begins l)) (firsts sets s) k (known l s has).begun (begin_listed b))
  begin_listed (behind_empty {left = l} {k = k} {symbols = s} {more = m} has e b) =
      among_second (kinds_at sets.begins l) _ k
      (if_there (is_empty sets l) (firsts sets m) k (implied (all_empty (is_empty sets) s) (is_empty sets l) (known l s has).emptied (empty_listed e)) (begin_listed b))

  at_place : (left x : ℕ) (front rest : List Symbol) → HasRow g left (front ++ Left x ∷ rest) → (within (firsts sets rest) (kinds_at sets.follows x) ≡ true) × ((not (all_empty (is_empty sets) rest) || within (kinds_at sets.follows left) (kinds_at sets.follows x)) ≡ true)
  at_place left x front rest has =
      and_parts (within (firsts sets rest) (kinds_at sets.follows x)) (not (all_empty (is_empty sets) rest) || within (kinds_at sets.follows left) (kinds_at sets.follows x))
      (place_told (follow_closed sets left) front rest x (known left (front ++ Left x ∷ rest) has).followed)

  pub follow_listed : {x k : ℕ} → CanFollow g x k → is_among (kinds_at sets.follows x) k ≡ true
  follow_listed text_ends = (and_parts (is_among (kinds_at sets.follows g.start) g.end_kind) (list_all (row_closed sets) g.rows) closed).0
  follow_listed (in_row {x = x} {k = k} left front rest has b) = among_passes (is_among (kinds_at sets.follows x)) (firsts sets rest) k (at_place left x front rest has).0 (begin_listed b)
  follow_listed (at_row_end {x = x} {k = k} left front rest has e f) =
      among_passes (is_among (kinds_at sets.follows x)) (kinds_at sets.follows left) k
      (implied (all_empty (is_empty sets) rest) (within (kinds_at sets.follows left) (kinds_at sets.follows x)) (at_place left x front rest has).1 (empty_listed e)) (follow_listed f)

  pub fits_listed : (left : ℕ) (symbols : List Symbol) (k : ℕ) → Fits g left symbols k → is_among (kinds_of sets (record { left = left; symbols = symbols })) k ≡ true
  fits_listed left symbols k fits =
      elim fits [
        | inl b ↦ among_first (firsts sets symbols) _ k (begin_listed b)
        | inr p ↦ among_second (firsts sets symbols) _ k (if_there (all_empty (is_empty sets) symbols) (kinds_at sets.follows left) k (empty_listed p.0) (follow_listed p.1))
      ]

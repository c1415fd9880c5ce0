-- The row that a table chooses is the first that fits.
use Rattle.std.specs.Prelude.{ℕ, ◌≡◌, ◌<◌, suc, zero, Bool, true, false, ◌&&◌, if◌then◌else◌, nat_eq, List, [], ◌∷◌, Option, Some, None, refl, slice_get, map}
use Rattle.std.proofs.Common.{sym, ap, subst, inl, inr, ◌⊎◌, arith, eqb-true, eq-eqb}
use Rattle.std.proofs.lemmas.Bool.{and_parts, and_from, both_ways}
use Rattle.predict.specs.declared.symbol.Symbol.{Symbol}
use Rattle.predict.specs.Table.{is_among, chosen, one_more}
use Rattle.predict.specs.FirstFit.{Written, WrittenGrammar, IsFirstFit, NoneFits}
use Rattle.predict.specs.Sets.{Sets, kinds_of, with_kinds}
use Rattle.predict.proofs.Complete.{all_closed, fits_listed}
use Rattle.predict.proofs.Sound.{Facts, all_known, listed_fits}

-- the row of the nonterminal with these symbols is listed with the kind
abbrev pub Listed : Sets → ℕ → List Symbol → ℕ → Type 0
Listed sets left symbols k = is_among (kinds_of sets (record { left = left; symbols = symbols })) k ≡ true

-- the first of the rows that is listed with the kind
pub record FirstListed (sets : Sets) (rows : List Written) (left k i : ℕ) : Type 0 where
  pub symbols : List Symbol
  pub there : slice_get rows i ≡ Some (record { left = left; symbols = symbols })
  pub listed : Listed sets left symbols k
  pub first : (j : ℕ) (others : List Symbol) → j < i → slice_get rows j ≡ Some (record { left = left; symbols = others }) → ¬ Listed sets left others k

picked : (b : Bool) (rest : Option ℕ) (r : ℕ) → (if b then Some 0 else one_more rest) ≡ Some r → ((b ≡ true) × (0 ≡ r)) ⊎ ((i : ℕ) × (b ≡ false) × (rest ≡ Some i) × (suc i ≡ r))
picked true rest r h = inl (refl, cc)
picked false None r h = cc
picked false (Some i) r h = inr (i, refl, refl, cc)

none_picked : (b : Bool) (rest : Option ℕ) → (if b then Some 0 else one_more rest) ≡ None → (b ≡ false) × (rest ≡ None)
none_picked true rest h = cc
none_picked false None h = (refl, refl)
none_picked false (Some i) h = cc

-- a row that isn't chosen isn't listed
not_listed : (sets : Sets) (row : Written) (left k : ℕ) (symbols : List Symbol) → (nat_eq left row.left && is_among (kinds_of sets row) k) ≡ false → row ≡ record { left = left; symbols = symbols } → ¬ Listed sets left symbols k
not_listed sets row left k symbols f same l =
    let t : (nat_eq left row.left && is_among (kinds_of sets row) k) ≡ true =
    subst (λ (r : Written). (nat_eq left r.left && is_among (kinds_of sets r) k) ≡ true) (sym same) (and_from (nat_eq left left) _ (eq-eqb left left refl) l) in
    both_ways (nat_eq left row.left && is_among (kinds_of sets row) k) f t

same_some : (a b : Written) → Some a ≡ Some b → a ≡ b
same_some a b e = cc

earlier : (sets : Sets) (row : Written) (rows : List Written) (left k i : ℕ) → (nat_eq left row.left && is_among (kinds_of sets row) k) ≡ false
    → ((j : ℕ) (others : List Symbol) → j < i → slice_get rows j ≡ Some (record { left = left; symbols = others }) → ¬ Listed sets left others k)
    → (j : ℕ) (others : List Symbol) → j < suc i → slice_get (row ∷ rows) j ≡ Some (record { left = left; symbols = others }) → ¬ Listed sets left others k
earlier sets row rows left k i f known zero others less there = not_listed sets row left k others f (same_some row (record { left = left; symbols = others }) there)
earlier sets row rows left k i f known (suc j) others less there = known j others (omega (arith, less)) there

pub chosen_first : (sets : Sets) (rows : List Written) (left k i : ℕ) → chosen (map (with_kinds sets) rows) left k ≡ Some i → FirstListed sets rows left k i
chosen_first sets [] left k i h = cc
chosen_first sets (row ∷ rows) left k i h =
    elim (picked (nat_eq left row.left && is_among (kinds_of sets row) k) (chosen (map (with_kinds sets) rows) left k) i h) [
      | inl p ↦
          let q = and_parts (nat_eq left row.left) (is_among (kinds_of sets row) k) p.0 in
          let same : row.left ≡ left = sym (eqb-true left row.left q.0) in
          subst (FirstListed sets (row ∷ rows) left k) p.1 (record {
            symbols = row.symbols;
            there = ap (λ l. let r : Written = record { left = l; symbols = row.symbols } in Some r) same;
            listed = subst (λ l. Listed sets l row.symbols k) same q.1;
            first = λ j others less there. absurd (omega (arith, less));
          })
      | inr p ↦
          let f = chosen_first sets rows left k p.0 p.2 in
          subst (FirstListed sets (row ∷ rows) left k) p.3 (record {
            symbols = f.symbols;
            there = f.there;
            listed = f.listed;
            first = earlier sets row rows left k p.0 p.1 f.first;
          })
    ]

pub chosen_none : (sets : Sets) (rows : List Written) (left k : ℕ) → chosen (map (with_kinds sets) rows) left k ≡ None → (j : ℕ) (symbols : List Symbol) → slice_get rows j ≡ Some (record { left = left; symbols = symbols }) → ¬ Listed sets left symbols k
chosen_none sets [] left k h j symbols there l = cc
chosen_none sets (row ∷ rows) left k h zero symbols there l =
    let p = none_picked (nat_eq left row.left && is_among (kinds_of sets row) k) (chosen (map (with_kinds sets) rows) left k) h in
    not_listed sets row left k symbols p.0 (same_some row (record { left = left; symbols = symbols }) there) l
chosen_none sets (row ∷ rows) left k h (suc j) symbols there l =
    let p = none_picked (nat_eq left row.left && is_among (kinds_of sets row) k) (chosen (map (with_kinds sets) rows) left k) h in
    chosen_none sets rows left k p.1 j symbols there l

-- What a table chooses by sets that are exactly what can begin and follow is the first row that fits.
pub table_first_fit : (g : WrittenGrammar) (sets : Sets) (facts : Facts) → all_closed g sets ≡ true → all_known g sets facts ≡ true → (left k i : ℕ) → chosen (map (with_kinds sets) g.rows) left k ≡ Some i → IsFirstFit g left k i
table_first_fit g sets facts closed known left k i h =
    let f = chosen_first sets g.rows left k i h in
    record {
      symbols = f.symbols;
      written = f.there;
      fits = listed_fits g sets facts known left f.symbols k f.listed;
      first = λ j others less there fits. f.first j others less there (fits_listed g sets closed left others k fits);
    }

pub table_none_fits : (g : WrittenGrammar) (sets : Sets) → all_closed g sets ≡ true → (left k : ℕ) → chosen (map (with_kinds sets) g.rows) left k ≡ None → NoneFits g left k
table_none_fits g sets closed left k h = λ j symbols there fits. chosen_none sets g.rows left k h j symbols there (fits_listed g sets closed left symbols k fits)

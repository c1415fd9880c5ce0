-- Why a table that passes the test keeps both laws.
use Rattle.std.specs.Prelude.{ℕ, ◌≡◌, ◌≢◌, ◌+◌, suc, zero, Bool, true, false, not, ◌&&◌, ◌||◌, if◌then◌else◌, nat_eq, nat_lt, List, [], ◌∷◌, Option, Some, None, refl}
use Rattle.std.specs.List.{list_all}
use Rattle.std.proofs.Common.{sym, ap, subst, ◌∙◌, inl, inr, ◌⊎◌, arith, eqb-true, eq-eqb, ltb-true}
use Rattle.std.proofs.lemmas.Bool.{and_parts, or_cases, not-true}
use Rattle.predict.specs.declared.symbol.Symbol.{Symbol}
use Rattle.predict.specs.declared.symbol.Symbol.TheVariants.{Kind, Left}
use Rattle.predict.specs.Rules.{Rules}
use Rattle.predict.specs.Tree.{Tree, Parts, node, no_parts, token, subtree, spelling_of}
use Rattle.predict.specs.Sentence.{IsTreeOf, ArePartsOf, first}
use Rattle.predict.specs.Laws.{NoLeftRecursion, NoDeadEnd, BeginsBelow, all_empty}
use Rattle.predict.specs.Witness.{leads, RowFits, Witnessed, no_dead_end}
use Rattle.predict.specs.Table.{Row, Table, Evidence, is_among, one_more, chosen, symbols_of, rules_of, kinds_at, follows, begins_below, row_fits, is_this, is_tree, are_parts, row_passes, trees_pass, keeps_laws, table_open}

implied : (a b : Bool) → (not a || b) ≡ true → a ≡ true → b ≡ true
implied true b h e = h
implied false b h e = cc

among_all : (test : ℕ → Bool) (kinds : List ℕ) (k : ℕ) → list_all test kinds ≡ true → is_among kinds k ≡ true → test k ≡ true
among_all test [] k h a = cc
among_all test (j ∷ kinds) k h a =
    let each = and_parts (test j) (list_all test kinds) h in
    elim (or_cases (nat_eq k j) (is_among kinds k) a) [ inl e ↦ ap test (eqb-true k j e) ∙ each.0 | inr b ↦ among_all test kinds k each.1 b ]

some_is : (i j : ℕ) → Some i ≡ Some j → i ≡ j
some_is i j e = cc

picked : (b : Bool) (rest : Option ℕ) (r : ℕ) → (if b then Some 0 else one_more rest) ≡ Some r → ((b ≡ true) × (0 ≡ r)) ⊎ ((i : ℕ) × (rest ≡ Some i) × (suc i ≡ r))
picked true rest r h = inl (refl, some_is 0 r h)
picked false None r h = cc
picked false (Some i) r h = inr (i, refl, some_is (suc i) r h)

-- the row that was chosen
record Found (rows : List Row) (left r : ℕ) (test : Row → Bool) : Type 0 where
  row : Row
  of_left : row.left ≡ left
  symbols_are : row.symbols ≡ symbols_of rows r
  passes : test row ≡ true

found : (test : Row → Bool) (rows : List Row) (left next r : ℕ) → list_all test rows ≡ true → chosen rows left next ≡ Some r → Found rows left r test
found test [] left next r h e = absurd (let f : None ≡ Some r = e in cc)
found test (row ∷ rows) left next r h e =
    let each = and_parts (test row) (list_all test rows) h in
    let fits = nat_eq left row.left && is_among row.kinds next in
    elim (picked fits (chosen rows left next) r e) [
      | inl p ↦ record { row = row; of_left = sym (eqb-true left row.left (and_parts (nat_eq left row.left) (is_among row.kinds next) p.0).0); symbols_are = ap (symbols_of (row ∷ rows)) p.1; passes = each.0 }
      | inr p ↦
          let f = found test rows left next p.0 each.1 p.1 in
          record { row = f.row; of_left = f.of_left; symbols_are = f.symbols_are ∙ ap (symbols_of (row ∷ rows)) p.2; passes = f.passes }
    ]

begins_told : (rank : ℕ → ℕ) (empty : ℕ → Bool) (n : ℕ) (symbols : List Symbol) → begins_below rank empty n symbols ≡ true → BeginsBelow rank empty n symbols
begins_told rank empty n [] h = tt
begins_told rank empty n (Kind k ∷ symbols) h = tt
begins_told rank empty n (Left left ∷ symbols) h =
    let p = and_parts (nat_lt (rank left) n) (not (empty left) || begins_below rank empty n symbols) h in
    (ltb-true (rank left) n p.0, (λ e. begins_told rank empty n symbols (implied (empty left) (begins_below rank empty n symbols) p.1 e)))

other_told : (a b : ℕ) → not (nat_eq a b) ≡ true → a ≢ b
other_told a b h e = let t : nat_eq a b ≡ true = eq-eqb a b e in let f : nat_eq a b ≡ false = not-true (nat_eq a b) h in cc

fits_told : (may_follow : ℕ → ℕ → Bool) (witness : ℕ → ℕ → Tree) (end_kind next : ℕ) (symbols : List Symbol) → row_fits may_follow witness end_kind next symbols ≡ true → RowFits may_follow witness end_kind next symbols
fits_told may_follow witness end_kind next [] h = tt
fits_told may_follow witness end_kind next (Kind k ∷ symbols) h =
    let p = and_parts (not (nat_eq k end_kind)) (row_fits may_follow witness end_kind next symbols) h in
    (other_told k end_kind p.0, fits_told may_follow witness end_kind next symbols p.1)
fits_told may_follow witness end_kind next (Left left ∷ symbols) h =
    let p = and_parts (may_follow left (leads witness next symbols)) (row_fits may_follow witness end_kind next symbols) h in
    (p.0, fits_told may_follow witness end_kind next symbols p.1)

this_told : (i : ℕ) (o : Option ℕ) → is_this i o ≡ true → o ≡ Some i
this_told i None h = absurd (let f : false ≡ true = h in cc)
this_told i (Some j) h = ap Some (eqb-true j i h)

mutual
  tree_told : (rules : Rules) (left : ℕ) (t : Tree) (next : ℕ) → is_tree rules left t next ≡ true → IsTreeOf rules left t next
  tree_told rules left (node row parts) next h =
      let p = and_parts (is_this row (rules.row_at left (first (spelling_of parts) next))) (are_parts rules (rules.symbols row) parts next) h in
      (this_told row (rules.row_at left (first (spelling_of parts) next)) p.0, parts_told rules (rules.symbols row) parts next p.1)

  parts_told : (rules : Rules) (symbols : List Symbol) (parts : Parts) (next : ℕ) → are_parts rules symbols parts next ≡ true → ArePartsOf rules symbols parts next
  parts_told rules [] no_parts next h = tt
  parts_told rules (Kind k ∷ symbols) (token j parts) next h =
      let p = and_parts (nat_eq j k) (are_parts rules symbols parts next) h in
      (eqb-true j k p.0, parts_told rules symbols parts next p.1)
  parts_told rules (Left left ∷ symbols) (subtree t parts) next h =
      let p = and_parts (is_tree rules left t (first (spelling_of parts) next)) (are_parts rules symbols parts next) h in
      (tree_told rules left t (first (spelling_of parts) next) p.0, parts_told rules symbols parts next p.1)
  parts_told rules [] (token j parts) next h = cc
  parts_told rules [] (subtree t parts) next h = cc
  parts_told rules (Kind k ∷ symbols) no_parts next h = cc
  parts_told rules (Kind k ∷ symbols) (subtree t parts) next h = cc
  parts_told rules (Left left ∷ symbols) no_parts next h = cc
  parts_told rules (Left left ∷ symbols) (token j parts) next h = cc

trees_told : (rules : Rules) (witness : ℕ → ℕ → Tree) (from : ℕ) (following : List (List ℕ)) (i left next : ℕ) → trees_pass rules witness from following ≡ true → is_among (kinds_at following i) next ≡ true → from + i ≡ left → is_tree rules left (witness left next) next ≡ true
trees_told rules witness from [] i left next h a e = absurd (let f : false ≡ true = a in cc)
trees_told rules witness from (kinds ∷ more) zero left next h a e =
    let p = and_parts (list_all (λ k. is_tree rules from (witness from k) k) kinds) (trees_pass rules witness (suc from) more) h in
    let same : from ≡ left = omega (arith, e) in
    subst (λ (n : ℕ). is_tree rules n (witness n next) next ≡ true) same (among_all (λ k. is_tree rules from (witness from k) k) kinds next p.0 a)
trees_told rules witness from (kinds ∷ more) (suc i) left next h a e =
    let p = and_parts (list_all (λ k. is_tree rules from (witness from k) k) kinds) (trees_pass rules witness (suc from) more) h in
    trees_told rules witness (suc from) more i left next p.1 a (omega (arith, e))

-- The parts of the test.
record Told (table : Table) (e : Evidence) : Type 0 where
  starts : follows e table.start table.end_kind ≡ true
  rows : list_all (row_passes table e) table.rows ≡ true
  trees : trees_pass (rules_of table) e.witness 0 e.following ≡ true

told : (table : Table) (e : Evidence) → keeps_laws table e ≡ true → Told table e
told table e h =
    let rows = list_all (row_passes table e) table.rows in
    let trees = trees_pass (rules_of table) e.witness 0 e.following in
    let p = and_parts (follows e table.start table.end_kind) (rows && trees) h in
    let q = and_parts rows trees p.1 in
    record { starts = p.0; rows = q.0; trees = q.1 }

-- The parts of the test on a row.
record RowTold (table : Table) (e : Evidence) (row : Row) : Type 0 where
  emptied : (not (all_empty e.empty row.symbols) || e.empty row.left) ≡ true
  falls : begins_below e.rank e.empty (e.rank row.left) row.symbols ≡ true
  fits : list_all (λ next. row_fits (follows e) e.witness table.end_kind next row.symbols) (kinds_at e.following row.left) ≡ true

row_told : (table : Table) (e : Evidence) (row : Row) → row_passes table e row ≡ true → RowTold table e row
row_told table e row h =
    let falls = begins_below e.rank e.empty (e.rank row.left) row.symbols in
    let fits = list_all (λ next. row_fits (follows e) e.witness table.end_kind next row.symbols) (kinds_at e.following row.left) in
    let p = and_parts (not (all_empty e.empty row.symbols) || e.empty row.left) (falls && fits) h in
    let q = and_parts falls fits p.1 in
    record { emptied = p.0; falls = q.0; fits = q.1 }

-- A table that passes has no left recursion.
pub table_no_left_recursion : (table : Table) (e : Evidence) → keeps_laws table e ≡ true → NoLeftRecursion (rules_of table) e.rank e.empty
table_no_left_recursion table e h =
    let known = told table e h in
    record {
      emptied = λ left next row r all.
          let f = found (row_passes table e) table.rows left next row known.rows r in
          let p = row_told table e f.row f.passes in
          ap e.empty (sym f.of_left) ∙ implied (all_empty e.empty f.row.symbols) (e.empty f.row.left) p.emptied (ap (all_empty e.empty) f.symbols_are ∙ all);
      falls = λ left next row r.
          let f = found (row_passes table e) table.rows left next row known.rows r in
          let p = row_told table e f.row f.passes in
          subst (BeginsBelow e.rank e.empty (e.rank left)) f.symbols_are (subst (λ (l : ℕ). BeginsBelow e.rank e.empty (e.rank l) f.row.symbols) f.of_left (begins_told e.rank e.empty (e.rank f.row.left) f.row.symbols p.falls));
    }

table_witnessed : (table : Table) (e : Evidence) → keeps_laws table e ≡ true → Witnessed (rules_of table) (follows e) e.witness
table_witnessed table e h =
    let known = told table e h in
    record {
      starts = known.starts;
      trees = λ left next a. tree_told (rules_of table) left (e.witness left next) next (trees_told (rules_of table) e.witness 0 e.following left left next known.trees a (omega arith));
      rows = λ left kind row next r a.
          let f = found (row_passes table e) table.rows left kind row known.rows r in
          let p = row_told table e f.row f.passes in
          let a' = ap (λ l. follows e l next) f.of_left ∙ a in
          subst (RowFits (follows e) e.witness table.end_kind next) f.symbols_are (fits_told (follows e) e.witness table.end_kind next f.row.symbols (among_all (λ n. row_fits (follows e) e.witness table.end_kind n f.row.symbols) (kinds_at e.following f.row.left) next p.fits a'));
    }

-- A table that passes has no dead end.
pub table_no_dead_end : (table : Table) (e : Evidence) → keeps_laws table e ≡ true → NoDeadEnd (rules_of table) (table_open table e)
table_no_dead_end table e h = no_dead_end (rules_of table) (follows e) e.witness (table_witnessed table e h)

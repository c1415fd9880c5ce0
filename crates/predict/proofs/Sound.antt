-- What facts with their rows show: that all that the sets hold can be empty, begin and follow.
use Rattle.std.specs.Prelude.{ℕ, ◌≡◌, Bool, true, false, not, ◌&&◌, ◌||◌, nat_eq, List, [], ◌∷◌, ◌++◌, Option, Some, None, refl, slice_get}
use Rattle.std.specs.List.{list_all, list_any}
use Rattle.std.proofs.Common.{sym, ap, subst, ◌∙◌, inl, inr, eqb-true, zero-add, append_assoc}
use Rattle.std.proofs.lemmas.Bool.{and_parts, or_cases}
use Rattle.predict.specs.declared.symbol.Symbol.{Symbol}
use Rattle.predict.specs.declared.symbol.Symbol.TheVariants.{Kind, Left}
use Rattle.predict.specs.Laws.{all_empty}
use Rattle.predict.specs.Table.{is_among, kinds_at}
use Rattle.predict.specs.FirstFit.{Written, WrittenGrammar, HasRow, Fits, CanBeEmpty, no_symbols, empty_row, CanBegin, kind_first, row_first, behind_empty, CanFollow, text_ends, in_row, at_row_end}
use Rattle.predict.specs.Sets.{Sets, is_empty, firsts, kinds_of}
use Rattle.predict.proofs.Lists.{implied, at_each, each_told, among_passes, among_either, if_told, listed_at, true_at}

-- a nonterminal, and its row that can be empty
pub record EmptyFact : Type 0 where
  pub left : ℕ
  pub row : ℕ

-- a nonterminal, a kind with which it can begin or that can follow it, and the row that shows it
pub record Fact : Type 0 where
  pub left : ℕ
  pub kind : ℕ
  pub row : ℕ

abbrev pub knows_empty : List EmptyFact → ℕ → Bool
knows_empty facts left = list_any (λ f. nat_eq f.left left) facts

abbrev pub knows : List Fact → ℕ → ℕ → Bool
knows facts left kind = list_any (λ f. nat_eq f.left left && nat_eq f.kind kind) facts

-- a test on the row with this number
abbrev pub on_row : List Written → ℕ → (Written → Bool) → Bool
on_row rows i test = elim (slice_get rows i) [ None ↦ false | Some row ↦ test row ]

-- the row that passed
record Passed (rows : List Written) (i : ℕ) (test : Written → Bool) : Type 0 where
  row : Written
  there : slice_get rows i ≡ Some row
  passes : test row ≡ true

passed_at : (test : Written → Bool) (found : Option Written) → (elim found [ None ↦ false | Some row ↦ test row ]) ≡ true → (row : Written) × (found ≡ Some row) × (test row ≡ true)
passed_at test None h = cc
passed_at test (Some row) h = (row, refl, h)

passed : (rows : List Written) (i : ℕ) (test : Written → Bool) → on_row rows i test ≡ true → Passed rows i test
passed rows i test h = let p = passed_at test (slice_get rows i) h in record { row = p.0; there = p.1; passes = p.2 }

-- nonterminals that are known to be empty
abbrev pub empty_by : List EmptyFact → List Symbol → Bool
empty_by facts [] = true
empty_by facts (Kind k ∷ more) = false
empty_by facts (Left left ∷ more) = knows_empty facts left && empty_by facts more

-- each fact is shown by its row and the facts behind it
abbrev pub empties_pass : List Written → List EmptyFact → Bool
empties_pass rows [] = true
empties_pass rows (f ∷ facts) = on_row rows f.row (λ row. nat_eq row.left f.left && empty_by facts row.symbols) && empties_pass rows facts

-- the symbols begin with the kind by what is known
abbrev pub begin_by : Sets → List Fact → List Symbol → ℕ → Bool
begin_by sets facts [] k = false
begin_by sets facts (Kind j ∷ more) k = nat_eq j k
begin_by sets facts (Left left ∷ more) k = knows facts left k || (is_empty sets left && begin_by sets facts more k)

abbrev pub begins_pass : List Written → Sets → List Fact → Bool
begins_pass rows sets [] = true
begins_pass rows sets (f ∷ facts) = on_row rows f.row (λ row. nat_eq row.left f.left && begin_by sets facts row.symbols f.kind) && begins_pass rows sets facts

-- whether some nonterminal of a row passes with what stands behind it
abbrev pub any_place : (ℕ → List Symbol → Bool) → List Symbol → Bool
any_place test [] = false
any_place test (Kind k ∷ rest) = any_place test rest
any_place test (Left x ∷ rest) = test x rest || any_place test rest

-- in a row of this nonterminal the kind comes behind x, by what is known
abbrev pub behind : Sets → List Fact → ℕ → ℕ → ℕ → ℕ → List Symbol → Bool
behind sets facts left wanted k x rest = nat_eq x wanted && (is_among (firsts sets rest) k || (all_empty (is_empty sets) rest && knows facts left k))

abbrev pub follows_pass : WrittenGrammar → Sets → List Fact → Bool
follows_pass g sets [] = true
follows_pass g sets (f ∷ facts) =
    ((nat_eq g.start f.left && nat_eq g.end_kind f.kind) || on_row g.rows f.row (λ row. any_place (behind sets facts row.left f.left f.kind) row.symbols)) && follows_pass g sets facts

-- What shows that the sets hold nothing more than they are to hold.
pub record Facts : Type 0 where
  pub empties : List EmptyFact
  pub begins : List Fact
  pub follows : List Fact

-- all that the sets hold is known
abbrev pub all_known : WrittenGrammar → Sets → Facts → Bool
all_known g sets facts =
    (at_each (λ left flag. not flag || knows_empty facts.empties left) 0 sets.empty && empties_pass g.rows facts.empties)
    && ((at_each (λ left kinds. list_all (knows facts.begins left) kinds) 0 sets.begins && begins_pass g.rows sets facts.begins)
    && (at_each (λ left kinds. list_all (knows facts.follows left) kinds) 0 sets.follows && follows_pass g sets facts.follows))

-- a row of the nonterminal that can be empty
abbrev RowEmpty : WrittenGrammar → ℕ → Type 0
RowEmpty g left = (symbols : List Symbol) × HasRow g left symbols × CanBeEmpty g symbols

-- a row of the nonterminal that can begin with the kind
abbrev RowBegins : WrittenGrammar → ℕ → ℕ → Type 0
RowBegins g left k = (symbols : List Symbol) × HasRow g left symbols × CanBegin g symbols k

-- a row at its place, as one of the nonterminal
has_row : (g : WrittenGrammar) (i : ℕ) (row : Written) (left : ℕ) → slice_get g.rows i ≡ Some row → row.left ≡ left → HasRow g left row.symbols
has_row g i row left there same = (i, there ∙ ap (λ l. let r : Written = record { left = l; symbols = row.symbols } in Some r) same)

empty_by_told : (g : WrittenGrammar) (facts : List EmptyFact) → ((left : ℕ) → knows_empty facts left ≡ true → RowEmpty g left) → (symbols : List Symbol) → empty_by facts symbols ≡ true → CanBeEmpty g symbols
empty_by_told g facts known [] h = no_symbols
empty_by_told g facts known (Kind k ∷ more) h = cc
empty_by_told g facts known (Left left ∷ more) h =
    let p = and_parts (knows_empty facts left) (empty_by facts more) h in
    let r = known left p.0 in
    empty_row r.1 r.2 (empty_by_told g facts known more p.1)

empties_told : (g : WrittenGrammar) (facts : List EmptyFact) → empties_pass g.rows facts ≡ true → (left : ℕ) → knows_empty facts left ≡ true → RowEmpty g left
empties_told g [] h left k = cc
empties_told g (f ∷ facts) h left k =
    let test = λ (row : Written). nat_eq row.left f.left && empty_by facts row.symbols in
    let p = and_parts (on_row g.rows f.row test) (empties_pass g.rows facts) h in
    elim (or_cases (nat_eq f.left left) (knows_empty facts left) k) [
      | inl e ↦
          let q = passed g.rows f.row test p.0 in
          let r = and_parts (nat_eq q.row.left f.left) (empty_by facts q.row.symbols) q.passes in
          (q.row.symbols, has_row g f.row q.row left q.there (eqb-true q.row.left f.left r.0 ∙ eqb-true f.left left e), empty_by_told g facts (empties_told g facts p.1) q.row.symbols r.1)
      | inr b ↦ empties_told g facts p.1 left b
    ]

module _ (g : WrittenGrammar) (sets : Sets) (empties : (left : ℕ) → is_empty sets left ≡ true → RowEmpty g left) where
  all_empty_told : (symbols : List Symbol) → all_empty (is_empty sets) symbols ≡ true → CanBeEmpty g symbols
  all_empty_told [] h = no_symbols
  all_empty_told (Kind k ∷ more) h = cc
  all_empty_told (Left left ∷ more) h =
      let p = and_parts (is_empty sets left) (all_empty (is_empty sets) more) h in
      let r = empties left p.0 in
      empty_row r.1 r.2 (all_empty_told more p.1)

  begin_by_told : (facts : List Fact) → ((left k : ℕ) → knows facts left k ≡ true → RowBegins g left k) → (symbols : List Symbol) (k : ℕ) → begin_by sets facts symbols k ≡ true → CanBegin g symbols k
  begin_by_told facts known [] k h = cc
  begin_by_told facts known (Kind j ∷ more) k h = subst (λ n. CanBegin g (Kind j ∷ more) n) (eqb-true j k h) kind_first
  begin_by_told facts known (Left left ∷ more) k h =
      elim (or_cases (knows facts left k) (is_empty sets left && begin_by sets facts more k) h) [
        | inl b ↦ let r = known left k b in row_first r.1 r.2
        | inr b ↦
            let p = and_parts (is_empty sets left) (begin_by sets facts more k) b in
            let r = empties left p.0 in
            behind_empty r.1 r.2 (begin_by_told facts known more k p.1)
      ]

  begins_told : (facts : List Fact) → begins_pass g.rows sets facts ≡ true → (left k : ℕ) → knows facts left k ≡ true → RowBegins g left k
  begins_told [] h left k a = cc
  begins_told (f ∷ facts) h left k a =
      let test = λ (row : Written). nat_eq row.left f.left && begin_by sets facts row.symbols f.kind in
      let p = and_parts (on_row g.rows f.row test) (begins_pass g.rows sets facts) h in
      elim (or_cases (nat_eq f.left left && nat_eq f.kind k) (knows facts left k) a) [
        | inl e ↦
            let s = and_parts (nat_eq f.left left) (nat_eq f.kind k) e in
            let q = passed g.rows f.row test p.0 in
            let r = and_parts (nat_eq q.row.left f.left) (begin_by sets facts q.row.symbols f.kind) q.passes in (
              q.row.symbols,
              has_row g f.row q.row left q.there (eqb-true q.row.left f.left r.0 ∙ eqb-true f.left left s.0),
              subst (λ n. CanBegin g q.row.symbols n) (eqb-true f.kind k s.1) (begin_by_told facts (begins_told facts p.1) q.row.symbols f.kind r.1),
            )
        | inr b ↦ begins_told facts p.1 left k b
      ]

  module _ (begins : (left k : ℕ) → is_among (kinds_at sets.begins left) k ≡ true → RowBegins g left k) where
    firsts_told : (symbols : List Symbol) (k : ℕ) → is_among (firsts sets symbols) k ≡ true → CanBegin g symbols k
    firsts_told [] k h = cc
    firsts_told (Kind j ∷ more) k h = elim (or_cases (nat_eq k j) false h) [ inl e ↦ subst (λ n. CanBegin g (Kind j ∷ more) n) (sym (eqb-true k j e)) kind_first | inr b ↦ cc ]
    firsts_told (Left left ∷ more) k h =
        elim (among_either (kinds_at sets.begins left) _ k h) [
          | inl b ↦ let r = begins left k b in row_first r.1 r.2
          | inr b ↦
              let p = if_told (is_empty sets left) (firsts sets more) k b in
              let r = empties left p.0 in
              behind_empty r.1 r.2 (firsts_told more k p.1)
        ]

    -- a place of x in a row where the kind comes next
    place_told : (facts : List Fact) (left wanted k : ℕ) → (knows facts left k ≡ true → CanFollow g left k) → (front symbols : List Symbol) → HasRow g left (front ++ symbols) → any_place (behind sets facts left wanted k) symbols ≡ true → CanFollow g wanted k
    place_told facts left wanted k known front [] has h = cc
    place_told facts left wanted k known front (Kind j ∷ rest) has h = place_told facts left wanted k known (front ++ Kind j ∷ []) rest (subst (HasRow g left) (sym (append_assoc front (Kind j ∷ []) rest)) has) h
    place_told facts left wanted k known front (Left x ∷ rest) has h =
        elim (or_cases (behind sets facts left wanted k x rest) (any_place (behind sets facts left wanted k) rest) h) [
          | inl b ↦
              let p = and_parts (nat_eq x wanted) (is_among (firsts sets rest) k || (all_empty (is_empty sets) rest && knows facts left k)) b in
              subst (λ n. CanFollow g n k) (eqb-true x wanted p.0) (elim (or_cases (is_among (firsts sets rest) k) (all_empty (is_empty sets) rest && knows facts left k) p.1) [
                | inl c ↦ in_row left front rest has (firsts_told rest k c)
                | inr c ↦ let q = and_parts (all_empty (is_empty sets) rest) (knows facts left k) c in at_row_end left front rest has (all_empty_told rest q.0) (known q.1)
              ])
          | inr b ↦ place_told facts left wanted k known (front ++ Left x ∷ []) rest (subst (HasRow g left) (sym (append_assoc front (Left x ∷ []) rest)) has) b
        ]

    fact_told : (f : Fact) (facts : List Fact) → ((left k : ℕ) → knows facts left k ≡ true → CanFollow g left k) →
        ((nat_eq g.start f.left && nat_eq g.end_kind f.kind) || on_row g.rows f.row (λ row. any_place (behind sets facts row.left f.left f.kind) row.symbols)) ≡ true → CanFollow g f.left f.kind
    fact_told f facts known h =
        let test = λ (row : Written). any_place (behind sets facts row.left f.left f.kind) row.symbols in
        elim (or_cases (nat_eq g.start f.left && nat_eq g.end_kind f.kind) (on_row g.rows f.row test) h) [
          | inl e ↦
              let s = and_parts (nat_eq g.start f.left) (nat_eq g.end_kind f.kind) e in
              subst (λ n. CanFollow g f.left n) (eqb-true g.end_kind f.kind s.1) (subst (λ n. CanFollow g n g.end_kind) (eqb-true g.start f.left s.0) text_ends)
          | inr b ↦
              let q = passed g.rows f.row test b in
              place_told facts q.row.left f.left f.kind (known q.row.left f.kind) [] q.row.symbols (has_row g f.row q.row q.row.left q.there refl) q.passes
        ]

    follows_told : (facts : List Fact) → follows_pass g sets facts ≡ true → (left k : ℕ) → knows facts left k ≡ true → CanFollow g left k
    follows_told [] h left k a = cc
    follows_told (f ∷ facts) h left k a =
        let shown = (nat_eq g.start f.left && nat_eq g.end_kind f.kind) || on_row g.rows f.row (λ row. any_place (behind sets facts row.left f.left f.kind) row.symbols) in
        let p = and_parts shown (follows_pass g sets facts) h in
        elim (or_cases (nat_eq f.left left && nat_eq f.kind k) (knows facts left k) a) [
          | inl e ↦
              let s = and_parts (nat_eq f.left left) (nat_eq f.kind k) e in
              subst (λ n. CanFollow g left n) (eqb-true f.kind k s.1) (subst (λ n. CanFollow g n f.kind) (eqb-true f.left left s.0) (fact_told f facts (follows_told facts p.1) p.0))
          | inr b ↦ follows_told facts p.1 left k b
        ]

-- what is known of the listed sets
known_kind : (facts : List Fact) (lists : List (List ℕ)) → at_each (λ left kinds. list_all (knows facts left) kinds) 0 lists ≡ true → (left k : ℕ) → is_among (kinds_at lists left) k ≡ true → knows facts left k ≡ true
known_kind facts lists h left k a =
    among_passes (knows facts left) (kinds_at lists left) k (each_told (λ left kinds. list_all (knows facts left) kinds) 0 lists left left (kinds_at lists left) h (listed_at lists left k a) (zero-add left)) a

-- The parts of the test.
record AllKnown (g : WrittenGrammar) (sets : Sets) (facts : Facts) : Type 0 where
  flags : at_each (λ left flag. not flag || knows_empty facts.empties left) 0 sets.empty ≡ true
  empties : empties_pass g.rows facts.empties ≡ true
  begin_lists : at_each (λ left kinds. list_all (knows facts.begins left) kinds) 0 sets.begins ≡ true
  begins : begins_pass g.rows sets facts.begins ≡ true
  follow_lists : at_each (λ left kinds. list_all (knows facts.follows left) kinds) 0 sets.follows ≡ true
  follows : follows_pass g sets facts.follows ≡ true

all_parts : (g : WrittenGrammar) (sets : Sets) (facts : Facts) → all_known g sets facts ≡ true → AllKnown g sets facts
all_parts g sets facts h =
    let a = at_each (λ left flag. not flag || knows_empty facts.empties left) 0 sets.empty in
    let b = empties_pass g.rows facts.empties in
    let c = at_each (λ left kinds. list_all (knows facts.begins left) kinds) 0 sets.begins in
    let d = begins_pass g.rows sets facts.begins in
    let e = at_each (λ left kinds. list_all (knows facts.follows left) kinds) 0 sets.follows in
    let f = follows_pass g sets facts.follows in
    let p = and_parts (a && b) ((c && d) && (e && f)) h in
    let q = and_parts (c && d) (e && f) p.1 in
    let ab = and_parts a b p.0 in
    let cd = and_parts c d q.0 in
    let ef = and_parts e f q.1 in
    record { flags = ab.0; empties = ab.1; begin_lists = cd.0; begins = cd.1; follow_lists = ef.0; follows = ef.1 }

-- A row that the sets let fit fits.
pub listed_fits : (g : WrittenGrammar) (sets : Sets) (facts : Facts) → all_known g sets facts ≡ true → (left : ℕ) (symbols : List Symbol) (k : ℕ) → is_among (kinds_of sets (record { left = left; symbols = symbols })) k ≡ true → Fits g left symbols k
listed_fits g sets facts h left symbols k a =
    let t = all_parts g sets facts h in
    let empties : (l : ℕ) → is_empty sets l ≡ true → RowEmpty g l = λ l e. empties_told g facts.empties t.empties l (implied true (knows_empty facts.empties l) (each_told (λ l flag. not flag || knows_empty facts.empties l) 0 sets.empty l l true t.flags (true_at sets.empty l e) (zero-add l)) refl) in
    let begins : (l j : ℕ) → is_among (kinds_at sets.begins l) j ≡ true → RowBegins g l j = λ l j b. begins_told g sets empties facts.begins t.begins l j (known_kind facts.begins sets.begins t.begin_lists l j b) in
    elim (among_either (firsts sets symbols) _ k a) [
      | inl b ↦ inl (firsts_told g sets empties begins symbols k b)
      | inr b ↦
          let p = if_told (all_empty (is_empty sets) symbols) (kinds_at sets.follows left) k b in
          inr (all_empty_told g sets empties symbols p.0, follows_told g sets empties begins facts.follows t.follows left k (known_kind facts.follows sets.follows t.follow_lists left k p.1))
    ]

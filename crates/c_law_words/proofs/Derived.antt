-- In a grammar of which no two rows of one nonterminal fit the same next token, a tree of rows is the tree that the next tokens choose.
use Rattle.std.proofs.Common.{◌≡◌, ◌⊎◌, inl, inr, ℕ, zero, suc, List, [], ◌∷◌, ◌++◌, refl, ap, sym, subst, ◌∙◌, Some, eq-eqb, eqb-true}
use Rattle.std.specs.Prelude.{Bool, true, false, not, ◌&&◌, ◌||◌, if◌then◌else◌, nat_eq, map, slice_get}
use Rattle.std.specs.List.{list_all}
use Rattle.std.proofs.lemmas.Bool.{and_parts, and_from, both_ways}
use Rattle.predict.specs.declared.symbol.Symbol.{Symbol}
use Rattle.predict.specs.declared.symbol.Symbol.TheVariants.{Kind, Left}
use Rattle.predict.specs.Tree.{Tree, Parts, node, no_parts, token, subtree, spelling, spelling_of}
use Rattle.predict.specs.Rules.{Rules}
use Rattle.predict.specs.Sentence.{first, IsTreeOf, ArePartsOf}
use Rattle.predict.specs.Laws.{all_empty}
use Rattle.predict.specs.Table.{Row, rules_of, chosen, symbols_of, one_more, is_among, kinds_at}
use Rattle.predict.specs.FirstFit.{Written, WrittenGrammar}
use Rattle.predict.specs.Sets.{Sets, is_empty, firsts, kinds_of, with_kinds}
use Rattle.predict.proofs.Lists.{implied, passes_at, among_passes, among_one, among_first, among_second, if_there}
use Rattle.predict.proofs.Complete.{within, places_pass, follow_closed, row_closed, all_closed}

abbrev mutual
  -- each node of the tree has a row of its nonterminal, whatever comes next
  pub Derives : List Written → ℕ → Tree → Type 0
  Derives rows left (node row parts) =
      (symbols : List Symbol) × (slice_get rows row ≡ Some (record { left = left; symbols = symbols })) × Fit rows symbols parts

  pub Fit : List Written → List Symbol → Parts → Type 0
  Fit rows [] no_parts = Unit {0}
  Fit rows (Kind k ∷ symbols) (token j parts) = (j ≡ k) × Fit rows symbols parts
  Fit rows (Left left ∷ symbols) (subtree t parts) = Derives rows left t × Fit rows symbols parts
  Fit rows [] (token j parts) = ⊥
  Fit rows [] (subtree t parts) = ⊥
  Fit rows (Kind k ∷ symbols) no_parts = ⊥
  Fit rows (Kind k ∷ symbols) (subtree t parts) = ⊥
  Fit rows (Left left ∷ symbols) no_parts = ⊥
  Fit rows (Left left ∷ symbols) (token j parts) = ⊥

-- no kind is in both lists
abbrev pub are_apart : List ℕ → List ℕ → Bool
are_apart some others = list_all (λ k. not (is_among others k)) some

-- no later row of the nonterminal fits a kind that this one fits
abbrev pub no_clash : List Row → Bool
no_clash [] = true
no_clash (row ∷ rows) = list_all (λ (other : Row). not (nat_eq row.left other.left) || are_apart row.kinds other.kinds) rows && no_clash rows

-- the first of kinds, or nothing at all
abbrev Leads : List ℕ → Bool → List ℕ → Type 0
Leads kinds empty spelled = ((k : ℕ) × (rest : List ℕ) × (spelled ≡ k ∷ rest) × (is_among kinds k ≡ true)) ⊎ ((empty ≡ true) × (spelled ≡ []))

module _ (g : WrittenGrammar) (sets : Sets) (closed : all_closed g sets ≡ true) where
  -- the parts of the test on a row
  record RowClosed (left : ℕ) (symbols : List Symbol) : Type 0 where
    emptied : (not (all_empty (is_empty sets) symbols) || is_empty sets left) ≡ true
    begun : within (firsts sets symbols) (kinds_at sets.begins left) ≡ true
    followed : places_pass (follow_closed sets left) symbols ≡ true

  known : (left row : ℕ) (symbols : List Symbol) → slice_get g.rows row ≡ Some (record { left = left; symbols = symbols }) → RowClosed left symbols
  known left row symbols there =
      let c = and_parts (is_among (kinds_at sets.follows g.start) g.end_kind) (list_all (row_closed sets) g.rows) closed in
      let p = passes_at (row_closed sets) g.rows row (record { left = left; symbols = symbols }) c.1 there in
      let begun = within (firsts sets symbols) (kinds_at sets.begins left) in
      let followed = places_pass (follow_closed sets left) symbols in
      let q = and_parts (not (all_empty (is_empty sets) symbols) || is_empty sets left) (begun && followed) p in
      let r = and_parts begun followed q.1 in
      record { emptied = q.0; begun = r.0; followed = r.1 }

  row_leads : (left : ℕ) (symbols : List Symbol) (spelled : List ℕ) → RowClosed left symbols
      → Leads (firsts sets symbols) (all_empty (is_empty sets) symbols) spelled → Leads (kinds_at sets.begins left) (is_empty sets left) spelled
  row_leads left symbols spelled c leads =
      elim leads [
        | inl p ↦ inl (p.0, p.1, p.2, among_passes (is_among (kinds_at sets.begins left)) (firsts sets symbols) p.0 c.begun p.3)
        | inr p ↦ inr (implied (all_empty (is_empty sets) symbols) (is_empty sets left) c.emptied p.0, p.1)
      ]

  more_leads : (left : ℕ) (symbols : List Symbol) (front rest : List ℕ) → Leads (kinds_at sets.begins left) (is_empty sets left) front
      → Leads (firsts sets symbols) (all_empty (is_empty sets) symbols) rest
      → Leads (firsts sets (Left left ∷ symbols)) (all_empty (is_empty sets) (Left left ∷ symbols)) (front ++ rest)
  more_leads left symbols front rest f r =
      elim f [
        | inl p ↦ inl (p.0, p.1 ++ rest, ap (λ l. l ++ rest) p.2, among_first (kinds_at sets.begins left) _ p.0 p.3)
        | inr e ↦ elim r [
          | inl p ↦ inl (
            p.0,
            p.1,
            ap (λ l. l ++ rest) e.1 ∙ p.2,
            among_second (kinds_at sets.begins left) _ p.0 (if_there (is_empty sets left) (firsts sets symbols) p.0 e.0 p.3),
          )
          | inr p ↦ inr (and_from (is_empty sets left) (all_empty (is_empty sets) symbols) e.0 p.0, ap (λ l. l ++ rest) e.1 ∙ p.1)
        ]
      ]

  mutual
    tree_leads : (left : ℕ) (t : Tree) → Derives g.rows left t → Leads (kinds_at sets.begins left) (is_empty sets left) (spelling t)
    tree_leads left (node row parts) d = row_leads left d.0 (spelling_of parts) (known left row d.0 d.1) (parts_lead d.0 parts d.2)

    parts_lead : (symbols : List Symbol) (parts : Parts) → Fit g.rows symbols parts → Leads (firsts sets symbols) (all_empty (is_empty sets) symbols) (spelling_of parts)
    parts_lead [] no_parts f = inr (refl, refl)
    parts_lead (Kind k ∷ symbols) (token j parts) f = inl (j, spelling_of parts, refl, subst (λ n. is_among (k ∷ []) n ≡ true) (sym f.0) (among_one k))
    parts_lead (Left left ∷ symbols) (subtree t parts) f =
        more_leads left symbols (spelling t) (spelling_of parts) (tree_leads left t f.0) (parts_lead symbols parts f.1)
    parts_lead [] (token j parts) f = absurd f
    parts_lead [] (subtree t parts) f = absurd f
    parts_lead (Kind k ∷ symbols) no_parts f = absurd f
    parts_lead (Kind k ∷ symbols) (subtree t parts) f = absurd f
    parts_lead (Left left ∷ symbols) no_parts f = absurd f
    parts_lead (Left left ∷ symbols) (token j parts) f = absurd f

  -- the first kind of a row's parts is one that the row fits
  row_fits_first : (left next : ℕ) (symbols : List Symbol) (spelled : List ℕ) → Leads (firsts sets symbols) (all_empty (is_empty sets) symbols) spelled
      → is_among (kinds_at sets.follows left) next ≡ true
      → is_among (kinds_of sets (record { left = left; symbols = symbols })) (first spelled next) ≡ true
  row_fits_first left next symbols spelled leads follows =
      elim leads [
        | inl p ↦ among_first (firsts sets symbols) _ (first spelled next) (ap (λ l. is_among (firsts sets symbols) (first l next)) p.2 ∙ p.3)
        | inr p ↦ among_second (firsts sets symbols) _ (first spelled next)
            (if_there (all_empty (is_empty sets) symbols) (kinds_at sets.follows left) (first spelled next) p.0
            (ap (λ l. is_among (kinds_at sets.follows left) (first l next)) p.1 ∙ follows))
      ]

  -- and the first kind behind a nonterminal of a row can follow it
  follows_first : (left x next : ℕ) (symbols : List Symbol) (spelled : List ℕ) → follow_closed sets left x symbols ≡ true
      → Leads (firsts sets symbols) (all_empty (is_empty sets) symbols) spelled → is_among (kinds_at sets.follows left) next ≡ true
      → is_among (kinds_at sets.follows x) (first spelled next) ≡ true
  follows_first left x next symbols spelled c leads follows =
      let p = and_parts (within (firsts sets symbols) (kinds_at sets.follows x)) (not (all_empty (is_empty sets) symbols) || within (kinds_at sets.follows left) (kinds_at sets.follows x)) c in
      elim leads [
        | inl q ↦ ap (λ l. is_among (kinds_at sets.follows x) (first l next)) q.2 ∙ among_passes (is_among (kinds_at sets.follows x)) (firsts sets symbols) q.0 p.0 q.3
        | inr q ↦ ap (λ l. is_among (kinds_at sets.follows x) (first l next)) q.1
            ∙ among_passes (is_among (kinds_at sets.follows x)) (kinds_at sets.follows left) next
            (implied (all_empty (is_empty sets) symbols) (within (kinds_at sets.follows left) (kinds_at sets.follows x)) p.1 q.0) follows
      ]

  some_same : (a b : Written) → Some a ≡ Some b → a ≡ b
  some_same a b e = cc

  -- a later row that fits a kind isn't hidden by the first
  not_hidden : (w : Written) (rows : List Written) (row left k : ℕ) (symbols : List Symbol)
      → list_all (λ (other : Row). not (nat_eq w.left other.left) || are_apart (kinds_of sets w) other.kinds) (map (with_kinds sets) rows) ≡ true
      → slice_get rows row ≡ Some (record { left = left; symbols = symbols })
      → is_among (kinds_of sets (record { left = left; symbols = symbols })) k ≡ true
      → (nat_eq left w.left && is_among (kinds_of sets w) k) ≡ false
  not_hidden w [] row left k symbols h there fits = cc
  not_hidden w (v ∷ rows) (suc row) left k symbols h there fits =
      not_hidden w rows row left k symbols (and_parts _ _ h).1 there fits
  not_hidden w (v ∷ rows) zero left k symbols h there fits = by_tests (nat_eq left w.left) (is_among (kinds_of sets w) k) refl refl
    where
      by_tests : (a b : Bool) → nat_eq left w.left ≡ a → is_among (kinds_of sets w) k ≡ b → (a && b) ≡ false
      by_tests false b d e = refl
      by_tests true false d e = refl
      by_tests true true d e =
          let same = some_same v (record { left = left; symbols = symbols }) there in
          let one_left : w.left ≡ v.left = sym (eqb-true left w.left d) ∙ ap (λ (u : Written). u.left) (sym same) in
          let apart = implied (nat_eq w.left v.left) (are_apart (kinds_of sets w) (kinds_of sets v))
          (and_parts (not (nat_eq w.left v.left) || are_apart (kinds_of sets w) (kinds_of sets v)) _ h).0 (eq-eqb w.left v.left one_left) in
          let outside = among_passes (λ n. not (is_among (kinds_of sets v) n)) (kinds_of sets w) k apart e in
          let inside : is_among (kinds_of sets v) k ≡ true = ap (λ u. is_among (kinds_of sets u) k) same ∙ fits in
          absurd (both_ways (not (is_among (kinds_of sets v) k)) (ap not inside) outside)

  row_chosen : (rows : List Written) (row left k : ℕ) (symbols : List Symbol) → no_clash (map (with_kinds sets) rows) ≡ true
      → slice_get rows row ≡ Some (record { left = left; symbols = symbols })
      → is_among (kinds_of sets (record { left = left; symbols = symbols })) k ≡ true
      → chosen (map (with_kinds sets) rows) left k ≡ Some row
  row_chosen [] row left k symbols h there fits = cc
  row_chosen (w ∷ rows) zero left k symbols h there fits =
      let same = some_same w (record { left = left; symbols = symbols }) there in
      let fit : (nat_eq left w.left && is_among (kinds_of sets w) k) ≡ true =
      subst (λ (u : Written). (nat_eq left u.left && is_among (kinds_of sets u) k) ≡ true) (sym same) (and_from (nat_eq left left) _ (eq-eqb left left refl) fits) in
      ap (λ b. if b then Some 0 else one_more (chosen (map (with_kinds sets) rows) left k)) fit
  row_chosen (w ∷ rows) (suc row) left k symbols h there fits =
      let p = and_parts _ (no_clash (map (with_kinds sets) rows)) h in
      ap (λ b. if b then Some 0 else one_more (chosen (map (with_kinds sets) rows) left k)) (not_hidden w rows row left k symbols p.0 there fits)
      ∙ ap one_more (row_chosen rows row left k symbols p.1 there fits)

  symbols_listed : (rows : List Written) (row left : ℕ) (symbols : List Symbol) → slice_get rows row ≡ Some (record { left = left; symbols = symbols })
      → symbols_of (map (with_kinds sets) rows) row ≡ symbols
  symbols_listed [] row left symbols h = cc
  symbols_listed (w ∷ rows) zero left symbols h = ap (λ (u : Written). u.symbols) (some_same w (record { left = left; symbols = symbols }) h)
  symbols_listed (w ∷ rows) (suc row) left symbols h = symbols_listed rows row left symbols h

  -- the rules of the table of the rows
  abbrev table_rules : Rules
  table_rules = rules_of (record { start = g.start; end_kind = g.end_kind; rows = map (with_kinds sets) g.rows })

  module _ (apart : no_clash (map (with_kinds sets) g.rows) ≡ true) where
    mutual
      pub tree_is : (left : ℕ) (t : Tree) (next : ℕ) → Derives g.rows left t → is_among (kinds_at sets.follows left) next ≡ true → IsTreeOf table_rules left t next
      tree_is left (node row parts) next d follows = (
        row_chosen g.rows row left (first (spelling_of parts) next) d.0 apart d.1
            (row_fits_first left next d.0 (spelling_of parts) (parts_lead d.0 parts d.2) follows),
        subst (λ symbols. ArePartsOf table_rules symbols parts next) (sym (symbols_listed g.rows row left d.0 d.1))
            (parts_are left d.0 parts next d.2 (known left row d.0 d.1).followed follows),
      )

      parts_are : (left : ℕ) (symbols : List Symbol) (parts : Parts) (next : ℕ) → Fit g.rows symbols parts → places_pass (follow_closed sets left) symbols ≡ true
          → is_among (kinds_at sets.follows left) next ≡ true → ArePartsOf table_rules symbols parts next
      parts_are left [] no_parts next f c follows = tt
      parts_are left (Kind k ∷ symbols) (token j parts) next f c follows = (f.0, parts_are left symbols parts next f.1 c follows)
      parts_are left (Left x ∷ symbols) (subtree t parts) next f c follows =
          let p = and_parts (follow_closed sets left x symbols) (places_pass (follow_closed sets left) symbols) c in (
            tree_is x t (first (spelling_of parts) next) f.0 (follows_first left x next symbols (spelling_of parts) p.0 (parts_lead symbols parts f.1) follows),
            parts_are left symbols parts next f.1 p.1 follows,
          )
      parts_are left [] (token j parts) next f c follows = absurd f
      parts_are left [] (subtree t parts) next f c follows = absurd f
      parts_are left (Kind k ∷ symbols) no_parts next f c follows = absurd f
      parts_are left (Kind k ∷ symbols) (subtree t parts) next f c follows = absurd f
      parts_are left (Left x ∷ symbols) no_parts next f c follows = absurd f
      parts_are left (Left x ∷ symbols) (token j parts) next f c follows = absurd f

-- Every list of kinds that ends with the end kind is a sentence, or has a first bad kind.
use Rattle.std.proofs.Common.{◌≡◌, ◌<◌, ◌+◌, ℕ, zero, suc, List, [], ◌∷◌, ◌++◌, length, nat_eq, nat_lt, refl, ap, sym, ◌∙◌, subst, append_assoc, ◌⊎◌, inl, inr, arith, ltb-true}
use Rattle.std.specs.Prelude.{Bool, true, false, Option, Some, None, take}
use Rattle.std.specs.List.{list_all}
use Rattle.std.proofs.lemmas.Bool.{and_parts}
use Rattle.std.proofs.lemmas.List.{append-nil, length-append}
use Rattle.std.proofs.Math.Seq.{take-append_seam}
use Rattle.predict.specs.declared.symbol.Symbol.{Symbol}
use Rattle.predict.specs.declared.symbol.Symbol.TheVariants.{Kind, Left}
use Rattle.predict.specs.declared.tree.ParseNode.{ParseNode}
use Rattle.predict.specs.Rules.{Rules}
use Rattle.predict.specs.Laws.{NoLeftRecursion, NoDeadEnd}
use Rattle.predict.specs.Sentence.{IsSentence, IsFirstBad, IsParsed, EndsWith}
use Rattle.predict.specs.Stack.{AreAlike, Takes, Refuses, Reads, node_of}
use Rattle.predict.specs.Table.{Row, symbols_of}
use Rattle.predict.proofs.Take.{kind_taken, kind_opens, kind_ends, kind_refused, row_refused, end_refused, row_alike, row_opens, row_lighter}
use Rattle.predict.proofs.Text.{begins, goes_on, first_bad, parsed, last_is}
use Rattle.predict.proofs.Weight.{weight}

module _ (rules : Rules) (rank : ℕ → ℕ) (empty : ℕ → Bool) (is_open : List Symbol → Type 0)
    (no_left : NoLeftRecursion rules rank empty) (no_dead : NoDeadEnd rules is_open)
    (base : ℕ) (few : (row : ℕ) → length (rules.symbols row) < base) where
  -- the next kind is taken, or refused
  abbrev Step : ℕ → List Symbol → List ParseNode → Type 0
  Step k s a =
      ((t : List Symbol) × (b : List ParseNode) × Takes rules k s a t b × is_open t × (k ≡ rules.end_kind → t ≡ [])) ⊎ Refuses rules k s a

  on_kind : (k w : ℕ) (s rest : List Symbol) (a b : List ParseNode) → is_open (Kind w ∷ rest) → AreAlike rules k s a (Kind w ∷ rest) b
      → (same : Bool) → nat_eq w k ≡ same → Step k s a
  on_kind k w s rest a b o like true e =
      inl (
        rest,
        b,
        kind_taken rules k w s (Kind w ∷ rest) rest a b like refl e,
        kind_opens rules is_open no_dead w (Kind w ∷ rest) rest refl o,
        λ last. kind_ends rules is_open no_dead w k (Kind w ∷ rest) rest refl o e last,
      )
  on_kind k w s rest a b o like false e = inr (kind_refused rules k w s (Kind w ∷ rest) rest a b like refl e)

  -- what a nonterminal does, where what its row leaves is known to do something
  on_row : (k l : ℕ) (s rest : List Symbol) (a b : List ParseNode) → is_open (Left l ∷ rest) → AreAlike rules k s a (Left l ∷ rest) b
      → ((t : List Symbol) (c : List ParseNode) → weight base rank empty t < weight base rank empty (Left l ∷ rest) → is_open t → AreAlike rules k s a t c → Step k s a)
      → (found : Option ℕ) → rules.row_at l k ≡ found → Step k s a
  on_row k l s rest a b o like more None e = inr (row_refused rules k l s (Left l ∷ rest) rest a b like refl e)
  on_row k l s rest a b o like more (Some row) e =
      let next : List Symbol = rules.symbols row ++ rest in
      let nodes : List ParseNode = b ++ node_of rules row ∷ [] in
      more next nodes
      (row_lighter rules rank empty base no_left k l row (Left l ∷ rest) rest next refl e refl (few row))
      (row_opens rules is_open no_dead k l row (Left l ∷ rest) rest next refl e refl o)
      (row_alike rules k l row s (Left l ∷ rest) rest next a b nodes like refl e refl refl)

  by_weight : (n k : ℕ) (s left : List Symbol) (a b : List ParseNode) → weight base rank empty left < n → is_open left → AreAlike rules k s a left b → Step k s a
  by_weight zero k s left a b h o like = let no : ⊥ = omega (arith, h) in absurd no
  by_weight (suc n) k s [] a b h o like = inr (end_refused rules k s [] a b like refl)
  by_weight (suc n) k s (Kind w ∷ rest) a b h o like = on_kind k w s rest a b o like (nat_eq w k) refl
  by_weight (suc n) k s (Left l ∷ rest) a b h o like =
      on_row k l s rest a b o like (λ t c lt opens alike. by_weight n k s t a c (omega (arith, h, lt)) opens alike) (rules.row_at l k) refl

  step : (k : ℕ) (s : List Symbol) (a : List ParseNode) → is_open s → Step k s a
  step k s a o = by_weight (suc (weight base rank empty s)) k s s a a (omega arith) o (λ kinds all f. ((λ x. x), (λ x. x)))

  module _ (kinds : List ℕ) (last : EndsWith rules.end_kind kinds) where
    -- the kind behind these is the last
    is_end : (done : List ℕ) (k : ℕ) → kinds ≡ done ++ k ∷ [] → k ≡ rules.end_kind
    is_end done k e =
        let count : length done + 1 ≡ length kinds = omega (arith, ap length e, length-append done (k ∷ [])) in
        sym (last_is done kinds k (length done) e count) ∙ last_is last.0 kinds rules.end_kind (length done) last.1 count

    Known : Type 0
    Known = IsSentence rules kinds ⊎ ((at : ℕ) × IsFirstBad rules kinds at)

    bad_here : (done rest : List ℕ) (k : ℕ) (s : List Symbol) (a : List ParseNode) → kinds ≡ done ++ k ∷ rest → Reads rules done s a → is_open s
        → Refuses rules k s a → Known
    unfolding Known
    bad_here done rest k s a e r o refused =
        let within : length done < length kinds = omega (arith, ap length e, length-append done (k ∷ rest)) in
        let front : take (length done) kinds ≡ done = ap (take (length done)) e ∙ take-append_seam done (k ∷ rest) in
        let longer : kinds ≡ (done ++ k ∷ []) ++ rest = e ∙ sym (append_assoc done (k ∷ []) rest) in
        let count : length done + 1 ≡ length (done ++ k ∷ []) = sym (length-append done (k ∷ [])) in
        let one_more : take (length done + 1) kinds ≡ done ++ k ∷ [] =
        ap (λ n. take n kinds) count ∙ ap (take (length (done ++ k ∷ []))) longer ∙ take-append_seam (done ++ k ∷ []) rest in
        inr (
          length done,
          first_bad rules is_open no_dead kinds (length done) k s a within (one_more ∙ ap (λ xs. xs ++ k ∷ []) (sym front))
              (subst (λ (xs : List ℕ). Reads rules xs s a) (sym front) r) o refused,
        )

    read_on : (rest done : List ℕ) (s : List Symbol) (a : List ParseNode) → kinds ≡ done ++ rest → Reads rules done s a → is_open s → (rest ≡ [] → s ≡ []) → Known
    unfolding Known
    read_on [] done s a e r o ended =
        let p : IsParsed rules kinds a = parsed rules kinds done s a (sym (append-nil done) ∙ sym e) (ended refl) r in
        inl (p.tree, p.sentence)
    read_on (k ∷ rest) done s a e r o ended =
        elim (step k s a o) [
          | inl p ↦ read_on rest (done ++ k ∷ []) p.0 p.1 (e ∙ sym (append_assoc done (k ∷ []) rest))
              (goes_on rules done (done ++ k ∷ []) k s p.0 a p.1 refl r p.2) p.3
              (λ none. p.4 (is_end done k (e ∙ ap (λ xs. done ++ k ∷ xs) none)))
          | inr refused ↦ bad_here done rest k s a e r o refused
        ]

    not_nothing : kinds ≡ [] → ⊥
    not_nothing e = omega (arith, ap length last.1, ap length e, length-append last.0 (rules.end_kind ∷ []))

    pub decided : IsSentence rules kinds ⊎ ((at : ℕ) × IsFirstBad rules kinds at)
    unfolding Known
    decided =
        read_on kinds [] (Left rules.start ∷ Kind rules.end_kind ∷ []) [] refl (begins rules (Left rules.start ∷ Kind rules.end_kind ∷ []) [] refl refl)
        no_dead.starts (λ e. absurd (not_nothing e))

-- where each row of a table is short
pub rows_short : (base : ℕ) → 0 < base → (rows : List Row) → list_all (λ r. nat_lt (length (Row.symbols r)) base) rows ≡ true → (i : ℕ) → length (symbols_of rows i) < base
rows_short base pos [] e i = pos
rows_short base pos (row ∷ rows) e zero = ltb-true (length row.symbols) base (and_parts (nat_lt (length row.symbols) base) (list_all (λ r. nat_lt (length (Row.symbols r)) base) rows) e).0
rows_short base pos (row ∷ rows) e (suc i) =
    rows_short base pos rows (and_parts (nat_lt (length row.symbols) base) (list_all (λ r. nat_lt (length (Row.symbols r)) base) rows) e).1 i

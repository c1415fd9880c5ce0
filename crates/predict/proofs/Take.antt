-- What the first symbol that is left does with the next kind.
use Rattle.std.proofs.Common.{◌≡◌, ℕ, ◌<◌, Bool, true, false, nat_eq, List, [], ◌∷◌, ◌++◌, length, reverse, Some, None, refl, ap, sym, ◌∙◌, subst, eqb-true, eq-eqb, arith}
use Rattle.std.proofs.lemmas.List.{reverse-append}
use Rattle.predict.specs.declared.symbol.Symbol.{Symbol}
use Rattle.predict.specs.declared.symbol.Symbol.TheVariants.{Kind, Left}
use Rattle.predict.specs.declared.tree.ParseNode.{ParseNode}
use Rattle.predict.specs.Rules.{Rules}
use Rattle.predict.specs.Laws.{NoLeftRecursion, NoDeadEnd}
use Rattle.predict.specs.Stack.{AreAlike, Takes, Refuses, node_of}
use Rattle.predict.proofs.Steps.{gives_way, takes_kind, refuses_other, refuses_missing, refuses_at_end, alike_then, alike_takes, alike_refuses}
use Rattle.predict.proofs.Weight.{weight, weight-falls}

-- the last symbol of the stack is the first that is left
pub shown : (items rest : List Symbol) (x y : Symbol) → items ≡ rest ++ x ∷ [] → x ≡ y → reverse items ≡ y ∷ reverse rest
shown items rest x y e f = ap reverse e ∙ reverse-append rest (x ∷ []) ∙ ap (λ z. z ∷ reverse rest) f

-- It is the kind.
pub kind_taken : (rules : Rules) (k wanted : ℕ) (s left rest : List Symbol) (a b : List ParseNode) → AreAlike rules k s a left b → left ≡ Kind wanted ∷ rest → nat_eq wanted k ≡ true → Takes rules k s a rest b
kind_taken rules k wanted s left rest a b h e f =
    let first_is = e ∙ ap (λ n. Kind n ∷ rest) (eqb-true wanted k f) in
    alike_takes rules k s left rest a b b h (subst (λ (t : List Symbol). Takes rules k t b rest b) (sym first_is) (takes_kind rules k rest b))

pub kind_opens : (rules : Rules) (is_open : List Symbol → Type 0) → NoDeadEnd rules is_open → (wanted : ℕ) (left rest : List Symbol) → left ≡ Kind wanted ∷ rest → is_open left → is_open rest
kind_opens rules is_open law wanted left rest e h = law.taken wanted rest (subst is_open e h)

pub kind_ends : (rules : Rules) (is_open : List Symbol → Type 0) → NoDeadEnd rules is_open → (wanted k : ℕ) (left rest : List Symbol) → left ≡ Kind wanted ∷ rest → is_open left → nat_eq wanted k ≡ true → k ≡ rules.end_kind → rest ≡ []
kind_ends rules is_open law wanted k left rest e h f last =
    law.ended rest (subst is_open (e ∙ ap (λ n. Kind n ∷ rest) (eqb-true wanted k f ∙ last)) h)

differs : (a b : ℕ) → nat_eq a b ≡ false → a ≡ b → ⊥
differs a b f e = let t : nat_eq a b ≡ true = eq-eqb a b e in cc

-- It is another kind.
pub kind_refused : (rules : Rules) (k wanted : ℕ) (s left rest : List Symbol) (a b : List ParseNode) → AreAlike rules k s a left b → left ≡ Kind wanted ∷ rest → nat_eq wanted k ≡ false → Refuses rules k s a
kind_refused rules k wanted s left rest a b h e f =
    alike_refuses rules k s left a b h (subst (λ (t : List Symbol). Refuses rules k t b) (sym e) (refuses_other rules wanted k rest b (differs wanted k f)))

-- It is a nonterminal without a row.
pub row_refused : (rules : Rules) (k left : ℕ) (s symbols rest : List Symbol) (a b : List ParseNode) → AreAlike rules k s a symbols b → symbols ≡ Left left ∷ rest → rules.row_at left k ≡ None → Refuses rules k s a
row_refused rules k left s symbols rest a b h e r =
    alike_refuses rules k s symbols a b h (subst (λ (t : List Symbol). Refuses rules k t b) (sym e) (refuses_missing rules left k rest b r))

pub none_shown : (items : List Symbol) → length items ≡ 0 → reverse items ≡ []
none_shown [] e = refl
none_shown (x ∷ items) e = absurd (omega (arith, e))

-- Nothing is left.
pub end_refused : (rules : Rules) (k : ℕ) (s left : List Symbol) (a b : List ParseNode) → AreAlike rules k s a left b → left ≡ [] → Refuses rules k s a
end_refused rules k s left a b h e = alike_refuses rules k s left a b h (subst (λ (t : List Symbol). Refuses rules k t b) (sym e) (refuses_at_end rules k b))

-- It is a nonterminal that gives way to its row.
pub row_alike : (rules : Rules) (k left row : ℕ) (s symbols rest symbols' : List Symbol) (a b b' : List ParseNode) → AreAlike rules k s a symbols b → symbols ≡ Left left ∷ rest → rules.row_at left k ≡ Some row →
    symbols' ≡ rules.symbols row ++ rest → b' ≡ b ++ node_of rules row ∷ [] → AreAlike rules k s a symbols' b'
row_alike rules k left row s symbols rest symbols' a b b' h e r f g =
    let step = gives_way rules left k row rest b r in
    let from_here = subst (λ (t : List Symbol). AreAlike rules k t b (rules.symbols row ++ rest) (b ++ node_of rules row ∷ [])) (sym e) step in
    let to_there = subst (λ (t : List Symbol). AreAlike rules k symbols b t (b ++ node_of rules row ∷ [])) (sym f) from_here in
    alike_then rules k s symbols symbols' a b b' h (subst (λ (c : List ParseNode). AreAlike rules k symbols b symbols' c) (sym g) to_there)

pub row_opens : (rules : Rules) (is_open : List Symbol → Type 0) → NoDeadEnd rules is_open → (k left row : ℕ) (symbols rest symbols' : List Symbol) → symbols ≡ Left left ∷ rest → rules.row_at left k ≡ Some row → symbols' ≡ rules.symbols row ++ rest →
    is_open symbols → is_open symbols'
row_opens rules is_open law k left row symbols rest symbols' e r f h = subst is_open (sym f) (law.gives_way left k row rest r (subst is_open e h))

pub row_lighter : (rules : Rules) (rank : ℕ → ℕ) (empty : ℕ → Bool) (base : ℕ) → NoLeftRecursion rules rank empty → (k left row : ℕ) (symbols rest symbols' : List Symbol) → symbols ≡ Left left ∷ rest → rules.row_at left k ≡ Some row → symbols' ≡ rules.symbols row ++ rest →
    length (rules.symbols row) < base → weight base rank empty symbols' < weight base rank empty symbols
row_lighter rules rank empty base law k left row symbols rest symbols' e r f few =
    subst (λ (t : List Symbol). weight base rank empty t < weight base rank empty symbols) (sym f)
    (subst (λ (t : List Symbol). weight base rank empty (rules.symbols row ++ rest) < weight base rank empty t) (sym e) (weight-falls rules rank empty base law left k row rest r few))

-- Parts one after the other.
use Rattle.std.proofs.Common.{◌≡◌, ℕ, ◌+◌, List, [], ◌∷◌, ◌++◌, refl, ap, sym, ◌∙◌, subst, append_assoc}
use Rattle.predict.specs.declared.symbol.Symbol.{Symbol}
use Rattle.predict.specs.declared.symbol.Symbol.TheVariants.{Kind, Left}
use Rattle.predict.specs.Rules.{Rules, nonterminal_count}
use Rattle.predict.specs.Tree.{Parts, no_parts, token, subtree, spelling, spelling_of, nodes, nodes_of, tree_count}
use Rattle.predict.specs.Sentence.{IsTreeOf, ArePartsOf, first}

-- the parts of the first, then those of the second
abbrev pub followed : Parts → Parts → Parts
followed no_parts q = q
followed (token k p) q = token k (followed p q)
followed (subtree t p) q = subtree t (followed p q)

pub spelling-followed : (p q : Parts) → spelling_of (followed p q) ≡ spelling_of p ++ spelling_of q
spelling-followed no_parts q = refl
spelling-followed (token k p) q = ap (λ xs. k ∷ xs) (spelling-followed p q)
spelling-followed (subtree t p) q = ap (λ xs. spelling t ++ xs) (spelling-followed p q) ∙ sym (append_assoc (spelling t) (spelling_of p) (spelling_of q))

pub nodes-followed : (p q : Parts) → nodes_of (followed p q) ≡ nodes_of p ++ nodes_of q
nodes-followed no_parts q = refl
nodes-followed (token k p) q = nodes-followed p q
nodes-followed (subtree t p) q = ap (λ xs. nodes t ++ xs) (nodes-followed p q) ∙ sym (append_assoc (nodes t) (nodes_of p) (nodes_of q))

pub first-append : (a b : List ℕ) (next : ℕ) → first (a ++ b) next ≡ first a (first b next)
first-append [] b next = refl
first-append (x ∷ a) b next = refl

pub first-followed : (p q : Parts) (next : ℕ) → first (spelling_of (followed p q)) next ≡ first (spelling_of p) (first (spelling_of q) next)
first-followed p q next = ap (λ xs. first xs next) (spelling-followed p q) ∙ first-append (spelling_of p) (spelling_of q) next

pub joined : (rules : Rules) (symbols others : List Symbol) (p q : Parts) (next : ℕ) → ArePartsOf rules symbols p (first (spelling_of q) next) → ArePartsOf rules others q next →
    ArePartsOf rules (symbols ++ others) (followed p q) next
joined rules [] others no_parts q next h k = k
joined rules (Kind j ∷ symbols) others (token i p) q next h k = (h.0, joined rules symbols others p q next h.1 k)
joined rules (Left l ∷ symbols) others (subtree t p) q next h k =
    (subst (λ (n : ℕ). IsTreeOf rules l t n) (sym (first-followed p q next)) h.0, joined rules symbols others p q next h.1 k)
joined rules [] others (token i p) q next h k = absurd h
joined rules [] others (subtree t p) q next h k = absurd h
joined rules (Kind j ∷ symbols) others no_parts q next h k = absurd h
joined rules (Kind j ∷ symbols) others (subtree t p) q next h k = absurd h
joined rules (Left l ∷ symbols) others no_parts q next h k = absurd h
joined rules (Left l ∷ symbols) others (token i p) q next h k = absurd h

-- Parts of two lists of symbols are parts of the first and then parts of the second.
pub record Split (rules : Rules) (symbols others : List Symbol) (p : Parts) (next : ℕ) : Type 0 where
  pub front : Parts
  pub back : Parts
  pub whole : p ≡ followed front back
  pub at_front : ArePartsOf rules symbols front (first (spelling_of back) next)
  pub at_back : ArePartsOf rules others back next

pub split : (rules : Rules) (symbols others : List Symbol) (p : Parts) (next : ℕ) → ArePartsOf rules (symbols ++ others) p next → Split rules symbols others p next
split rules [] others p next h = record { front = no_parts; back = p; whole = refl; at_front = tt; at_back = h }
split rules (Kind j ∷ symbols) others (token i p) next h =
    let s = split rules symbols others p next h.1 in
    record { front = token i s.front; back = s.back; whole = ap (token i) s.whole; at_front = (h.0, s.at_front); at_back = s.at_back }
split rules (Left l ∷ symbols) others (subtree t p) next h =
    let s = split rules symbols others p next h.1 in
    let at = ap (λ r. first (spelling_of r) next) s.whole ∙ first-followed s.front s.back next in
    record { front = subtree t s.front; back = s.back; whole = ap (subtree t) s.whole; at_front = (subst (λ (n : ℕ). IsTreeOf rules l t n) at h.0, s.at_front); at_back = s.at_back }
split rules (Kind j ∷ symbols) others no_parts next h = absurd h
split rules (Kind j ∷ symbols) others (subtree t p) next h = absurd h
split rules (Left l ∷ symbols) others no_parts next h = absurd h
split rules (Left l ∷ symbols) others (token i p) next h = absurd h

-- There is a tree for each nonterminal.
pub counted : (rules : Rules) (symbols : List Symbol) (p : Parts) (next : ℕ) → ArePartsOf rules symbols p next → tree_count p ≡ nonterminal_count symbols
counted rules [] no_parts next h = refl
counted rules (Kind j ∷ symbols) (token i p) next h = counted rules symbols p next h.1
counted rules (Left l ∷ symbols) (subtree t p) next h = ap (λ n. n + 1) (counted rules symbols p next h.1)
counted rules [] (token i p) next h = absurd h
counted rules [] (subtree t p) next h = absurd h
counted rules (Kind j ∷ symbols) no_parts next h = absurd h
counted rules (Kind j ∷ symbols) (subtree t p) next h = absurd h
counted rules (Left l ∷ symbols) no_parts next h = absurd h
counted rules (Left l ∷ symbols) (token i p) next h = absurd h

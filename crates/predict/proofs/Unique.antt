-- A list of kinds has one tree.
use Rattle.std.proofs.Common.{◌≡◌, ℕ, List, [], ◌∷◌, ◌++◌, Some, refl, ap, sym, ◌∙◌, subst, append_assoc}
use Rattle.predict.specs.declared.symbol.Symbol.{Symbol}
use Rattle.predict.specs.declared.symbol.Symbol.TheVariants.{Kind, Left}
use Rattle.predict.specs.Rules.{Rules}
use Rattle.predict.specs.Tree.{Tree, Parts, node, no_parts, token, subtree, spelling, spelling_of}
use Rattle.predict.specs.Sentence.{IsTreeOf, ArePartsOf, first, IsSentenceOf}
use Rattle.predict.proofs.Parts.{first-append}

tail_is : (i j : ℕ) (a b : List ℕ) → i ∷ a ≡ j ∷ b → a ≡ b
tail_is i j a b e = cc

same_row : (r s : ℕ) → Some r ≡ Some s → r ≡ s
same_row r s e = cc

-- the row of a tree is the same as that of another, where both begin with the same kind
rows_agree : (rules : Rules) (l r s : ℕ) (a b x y : List ℕ) (next : ℕ) → rules.row_at l (first a (first x next)) ≡ Some r → rules.row_at l (first b (first y next)) ≡ Some s → a ++ x ≡ b ++ y → r ≡ s
rows_agree rules l r s a b x y next h k e =
    let at = sym (first-append a x next) ∙ ap (λ zs. first zs next) e ∙ first-append b y next in
    same_row r s (sym h ∙ ap (λ n. rules.row_at l n) at ∙ k)

-- the same for parts of the symbols of these rows
moved : (rules : Rules) (r s : ℕ) (q : Parts) (n : ℕ) → r ≡ s → ArePartsOf rules (rules.symbols s) q n → ArePartsOf rules (rules.symbols r) q n
moved rules r s q n e h = subst (λ (m : ℕ). ArePartsOf rules (rules.symbols m) q n) (sym e) h

-- the kinds behind the first tree are the parts' and those behind them
behind : (a b x c d y : List ℕ) → (a ++ b) ++ x ≡ (c ++ d) ++ y → a ++ (b ++ x) ≡ c ++ (d ++ y)
behind a b x c d y e = sym (append_assoc a b x) ∙ e ∙ append_assoc c d y

mutual
  -- Two trees of a nonterminal at the front of one list are the same.
  pub unique : (rules : Rules) (l : ℕ) (t u : Tree) (x y : List ℕ) (next : ℕ) → IsTreeOf rules l t (first x next) → IsTreeOf rules l u (first y next) → spelling t ++ x ≡ spelling u ++ y → (t ≡ u) × (x ≡ y)
  unique rules l (node r p) (node s q) x y next h k e =
      let rows = rows_agree rules l r s (spelling_of p) (spelling_of q) x y next h.0 k.0 e in
      let same = unique_parts rules (rules.symbols r) p q x y next h.1 (moved rules r s q (first y next) rows k.1) e in
      ((λ j. node (rows j) (same.0 j)), same.1)

  -- So are two lists of parts.
  pub unique_parts : (rules : Rules) (symbols : List Symbol) (p q : Parts) (x y : List ℕ) (next : ℕ) → ArePartsOf rules symbols p (first x next) → ArePartsOf rules symbols q (first y next) → spelling_of p ++ x ≡ spelling_of q ++ y → (p ≡ q) × (x ≡ y)
  unique_parts rules [] no_parts no_parts x y next h k e = (refl, e)
  unique_parts rules (Kind m ∷ symbols) (token i p) (token j q) x y next h k e =
      let same = unique_parts rules symbols p q x y next h.1 k.1 (tail_is i j _ _ e) in
      ((λ d. token ((h.0 ∙ sym k.0) d) (same.0 d)), same.1)
  unique_parts rules (Left l ∷ symbols) (subtree t p) (subtree u q) x y next h k e =
      let front = unique rules l t u (spelling_of p ++ x) (spelling_of q ++ y) next (subst (λ (n : ℕ). IsTreeOf rules l t n) (sym (first-append (spelling_of p) x next)) h.0) (subst (λ (n : ℕ). IsTreeOf rules l u n) (sym (first-append (spelling_of q) y next)) k.0) (behind (spelling t) (spelling_of p) x (spelling u) (spelling_of q) y e) in
      let same = unique_parts rules symbols p q x y next h.1 k.1 front.1 in
      ((λ d. subtree (front.0 d) (same.0 d)), same.1)
  unique_parts rules [] (token i p) q x y next h k e = absurd h
  unique_parts rules [] (subtree t p) q x y next h k e = absurd h
  unique_parts rules [] no_parts (token j q) x y next h k e = absurd k
  unique_parts rules [] no_parts (subtree u q) x y next h k e = absurd k
  unique_parts rules (Kind m ∷ symbols) no_parts q x y next h k e = absurd h
  unique_parts rules (Kind m ∷ symbols) (subtree t p) q x y next h k e = absurd h
  unique_parts rules (Kind m ∷ symbols) (token i p) no_parts x y next h k e = absurd k
  unique_parts rules (Kind m ∷ symbols) (token i p) (subtree u q) x y next h k e = absurd k
  unique_parts rules (Left l ∷ symbols) no_parts q x y next h k e = absurd h
  unique_parts rules (Left l ∷ symbols) (token i p) q x y next h k e = absurd h
  unique_parts rules (Left l ∷ symbols) (subtree t p) no_parts x y next h k e = absurd k
  unique_parts rules (Left l ∷ symbols) (subtree t p) (token j q) x y next h k e = absurd k

-- A sentence has one tree.
pub only_tree : (rules : Rules) (t u : Tree) (kinds : List ℕ) → IsSentenceOf rules t kinds → IsSentenceOf rules u kinds → t ≡ u
only_tree rules t u kinds h k =
    let end = rules.end_kind ∷ [] in
    let e = ap (λ xs. xs ++ end) h.2.spelled ∙ sym h.1 ∙ k.1 ∙ ap (λ xs. xs ++ end) (sym k.2.spelled) in
    (unique rules rules.start t u end end rules.end_kind h.2.derived k.2.derived e).0

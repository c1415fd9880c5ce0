-- A way to show that there is no dead end: a tree for each nonterminal before each kind that may come next after it.
use Rattle.std.specs.Prelude.{ℕ, ◌≡◌, ◌≢◌, Bool, true, List, [], ◌∷◌, ◌++◌, Some, refl}
use Rattle.std.proofs.Common.{sym, ap, subst, ◌∙◌, append_assoc, inl, inr}
use Rattle.std.proofs.lemmas.Bool.Decides.{eqb_tells}
use Rattle.predict.specs.declared.symbol.Symbol.{Symbol}
use Rattle.predict.specs.declared.symbol.Symbol.TheVariants.{Kind, Left}
use Rattle.predict.specs.Rules.{Rules}
use Rattle.predict.specs.Tree.{Tree, Parts, no_parts, token, subtree, spelling, spelling_of}
use Rattle.predict.specs.Sentence.{IsTreeOf, ArePartsOf, first}
use Rattle.predict.specs.Laws.{NoDeadEnd}

-- the kind with which the symbols begin, where each nonterminal gives way to its tree and this kind comes next
abbrev pub leads : (ℕ → ℕ → Tree) → ℕ → List Symbol → ℕ
leads witness next [] = next
leads witness next (Kind k ∷ symbols) = k
leads witness next (Left left ∷ symbols) = let after = leads witness next symbols in first (spelling (witness left after)) after

-- Where this kind comes next, a kind that may follow comes after each nonterminal, and the end kind isn't among the symbols.
abbrev pub RowFits : (ℕ → ℕ → Bool) → (ℕ → ℕ → Tree) → ℕ → ℕ → List Symbol → Type 0
RowFits follows witness end_kind next [] = Unit {0}
RowFits follows witness end_kind next (Kind k ∷ symbols) = (k ≢ end_kind) × RowFits follows witness end_kind next symbols
RowFits follows witness end_kind next (Left left ∷ symbols) = (follows left (leads witness next symbols) ≡ true) × RowFits follows witness end_kind next symbols

-- What is left to read ends with the end kind, which stands nowhere else in it, and a kind that may follow comes after each nonterminal.
abbrev pub IsOpen : (ℕ → ℕ → Bool) → (ℕ → ℕ → Tree) → ℕ → List Symbol → Type 0
IsOpen follows witness end_kind [] = Unit {0}
IsOpen follows witness end_kind (Kind k ∷ symbols) = (k ≡ end_kind → symbols ≡ []) × (k ≢ end_kind → symbols ≢ []) × IsOpen follows witness end_kind symbols
IsOpen follows witness end_kind (Left left ∷ symbols) = (follows left (leads witness end_kind symbols) ≡ true) × (symbols ≢ []) × IsOpen follows witness end_kind symbols

-- For each nonterminal and each kind that may follow it there is a tree, and the rows keep to what may follow.
pub record Witnessed (rules : Rules) (follows : ℕ → ℕ → Bool) (witness : ℕ → ℕ → Tree) : Type 0 where
  pub starts : follows rules.start rules.end_kind ≡ true
  pub trees : (left next : ℕ) → follows left next ≡ true → IsTreeOf rules left (witness left next) next
  pub rows : (left kind row next : ℕ) → rules.row_at left kind ≡ Some row → follows left next ≡ true → RowFits follows witness rules.end_kind next (rules.symbols row)

-- symbols in front of others that aren't none
not_none : (symbols others : List Symbol) → others ≢ [] → symbols ++ others ≢ []
not_none [] others h = h
not_none (x ∷ symbols) others h = λ e. cc

leads-append : (witness : ℕ → ℕ → Tree) (next : ℕ) (symbols others : List Symbol) → leads witness next (symbols ++ others) ≡ leads witness (leads witness next others) symbols
leads-append witness next [] others = refl
leads-append witness next (Kind k ∷ symbols) others = refl
leads-append witness next (Left left ∷ symbols) others = ap (λ n. first (spelling (witness left n)) n) (leads-append witness next symbols others)

-- a row in front of what is open
row_open : (follows : ℕ → ℕ → Bool) (witness : ℕ → ℕ → Tree) (end_kind : ℕ) (row symbols : List Symbol) → RowFits follows witness end_kind (leads witness end_kind symbols) row → symbols ≢ [] → IsOpen follows witness end_kind symbols →
    IsOpen follows witness end_kind (row ++ symbols)
row_open follows witness end_kind [] symbols fits some h = h
row_open follows witness end_kind (Kind k ∷ row) symbols fits some h = ((λ e. absurd (fits.0 e)), (λ _. not_none row symbols some), row_open follows witness end_kind row symbols fits.1 some h)
row_open follows witness end_kind (Left left ∷ row) symbols fits some h =
    (ap (follows left) (leads-append witness end_kind row symbols) ∙ fits.0, not_none row symbols some, row_open follows witness end_kind row symbols fits.1 some h)

first-append : (a b : List ℕ) (next : ℕ) → first (a ++ b) next ≡ first a (first b next)
first-append [] b next = refl
first-append (x ∷ a) b next = refl

-- Parts of what is open, which begin as the trees say.
record Completed (rules : Rules) (witness : ℕ → ℕ → Tree) (symbols : List Symbol) : Type 0 where
  parts : Parts
  derived : ArePartsOf rules symbols parts rules.end_kind
  leading : first (spelling_of parts) rules.end_kind ≡ leads witness rules.end_kind symbols
  ended : symbols ≢ [] → (front : List ℕ) × (spelling_of parts ≡ front ++ rules.end_kind ∷ [])

nothing : (rules : Rules) (parts : Parts) (next : ℕ) → ArePartsOf rules [] parts next → spelling_of parts ≡ []
nothing rules no_parts next h = refl
nothing rules (token k parts) next h = absurd h
nothing rules (subtree t parts) next h = absurd h

-- a kind in front: the end kind, or something ends with it
kind_ended : (rules : Rules) (k : ℕ) (symbols : List Symbol) (parts : Parts) → ArePartsOf rules symbols parts rules.end_kind → (k ≡ rules.end_kind → symbols ≡ []) → (k ≢ rules.end_kind → symbols ≢ []) → (symbols ≢ [] → (front : List ℕ) × (spelling_of parts ≡ front ++ rules.end_kind ∷ [])) →
    (front : List ℕ) × (k ∷ spelling_of parts ≡ front ++ rules.end_kind ∷ [])
kind_ended rules k symbols parts derived last more ended =
    elim (eqb_tells k rules.end_kind) [
      | inl p ↦ ([], (λ j. p.1 j ∷ nothing rules parts rules.end_kind (subst (λ (s : List Symbol). ArePartsOf rules s parts rules.end_kind) (last p.1) derived) j))
      | inr p ↦ let rest = ended (more p.1) in (k ∷ rest.0, ap (λ xs. k ∷ xs) rest.1)
    ]

complete : (rules : Rules) (follows : ℕ → ℕ → Bool) (witness : ℕ → ℕ → Tree) → Witnessed rules follows witness → (symbols : List Symbol) → IsOpen follows witness rules.end_kind symbols → Completed rules witness symbols
complete rules follows witness w [] h = record { parts = no_parts; derived = tt; leading = refl; ended = λ some. absurd (some refl) }
complete rules follows witness w (Kind k ∷ symbols) h =
    let c = complete rules follows witness w symbols h.2 in
    record { parts = token k c.parts; derived = (refl, c.derived); leading = refl; ended = λ _. kind_ended rules k symbols c.parts c.derived h.0 h.1 c.ended }
complete rules follows witness w (Left left ∷ symbols) h =
    let c = complete rules follows witness w symbols h.2 in
    let after = leads witness rules.end_kind symbols in
    let t = witness left after in
    let rest = c.ended h.1 in
    record {
      parts = subtree t c.parts;
      derived = (subst (λ (n : ℕ). IsTreeOf rules left t n) (sym c.leading) (w.trees left after h.0), c.derived);
      leading = first-append (spelling t) (spelling_of c.parts) rules.end_kind ∙ ap (first (spelling t)) c.leading;
      ended = λ _. (spelling t ++ rest.0, ap (λ xs. spelling t ++ xs) rest.1 ∙ sym (append_assoc (spelling t) rest.0 (rules.end_kind ∷ [])));
    }

-- Trees for what may follow show that there is no dead end.
pub no_dead_end : (rules : Rules) (follows : ℕ → ℕ → Bool) (witness : ℕ → ℕ → Tree) → Witnessed rules follows witness → NoDeadEnd rules (IsOpen follows witness rules.end_kind)
no_dead_end rules follows witness w =
    record {
      starts = (w.starts, (λ e. cc), ((λ _. refl), (λ some. absurd (some refl)), tt));
      gives_way = λ left next row symbols e h. row_open follows witness rules.end_kind (rules.symbols row) symbols (w.rows left next row (leads witness rules.end_kind symbols) e h.0) h.1 h.2;
      taken = λ k symbols h. h.2;
      ended = λ symbols h. h.0 refl;
      completed = λ symbols h some.
          let c = complete rules follows witness w symbols h in
          let rest = c.ended some in
          record { parts = c.parts; front = rest.0; derived = c.derived; spelled = rest.1 };
    }

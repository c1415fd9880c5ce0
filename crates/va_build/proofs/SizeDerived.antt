-- Trees that are derived: their rows, and their parts.
use Rattle.std.specs.Prelude.{◌≡◌, ℕ, suc, zero, Bool, true, not, ◌||◌, nat_eq, List, [], ◌∷◌, refl, map}
use Rattle.std.proofs.Common.{ap, sym, subst, inl, inr, eqb-true, eq-eqb, zero-add}
use Rattle.std.proofs.lemmas.Bool.{or_cases}
use Rattle.predict.specs.declared.symbol.Symbol.{Symbol}
use Rattle.predict.specs.declared.symbol.Symbol.TheVariants.{Kind, Left}
use Rattle.predict.specs.Sentence.{IsTreeOf, ArePartsOf, first}
use Rattle.predict.specs.Table.{is_among, symbols_of}
use Rattle.predict.specs.Tree.{Tree, Parts, node, no_parts, token, subtree, spelling_of}
use Rattle.predict.specs.FirstFit.{Written, IsRowOf}
use Rattle.va_build.specs.Reading.{row_symbols, symbols_at, parts_from}
use Rattle.va_grammar.specs.Rows.{rows}
use Rattle.predict.specs.Sets.{Sets, with_kinds}
use Rattle.va_grammar.specs.Sets.{va_grammar, va_rules, va_sets}
use Rattle.va_build.specs.Due.{AreDerived}
use Rattle.predict.proofs.Lists.{implied, at_each, each_told}
use Rattle.va_grammar.proofs.VaSymbols.{row_written}

same_symbols : (sets : Sets) (all : List Written) (i : ℕ) → symbols_at all i ≡ symbols_of (map (with_kinds sets) all) i
same_symbols sets [] i = refl
same_symbols sets (row ∷ all) zero = refl
same_symbols sets (row ∷ all) (suc i) = same_symbols sets all i

pub symbols_same : (row : ℕ) → row_symbols row ≡ va_rules.symbols row
unfolding row_symbols va_rules
symbols_same row = same_symbols va_sets rows row

-- the trees among some parts
abbrev pub trees_in : Parts → List Tree
trees_in no_parts = []
trees_in (token k parts) = trees_in parts
trees_in (subtree t parts) = t ∷ trees_in parts

-- the parts of some symbols are as these are
pub parts_shaped : (symbols : List Symbol) (parts : Parts) (next : ℕ) → ArePartsOf va_rules symbols parts next → parts ≡ parts_from symbols (trees_in parts)
parts_shaped [] no_parts next h = refl
parts_shaped (Kind k ∷ symbols) (token j parts) next h = (λ i. token (h.0 i) (parts_shaped symbols parts next h.1 i))
parts_shaped (Left l ∷ symbols) (subtree t parts) next h = ap (subtree t) (parts_shaped symbols parts next h.1)
parts_shaped [] (token j parts) next h = absurd h
parts_shaped [] (subtree t parts) next h = absurd h
parts_shaped (Kind k ∷ symbols) no_parts next h = absurd h
parts_shaped (Kind k ∷ symbols) (subtree t parts) next h = absurd h
parts_shaped (Left l ∷ symbols) no_parts next h = absurd h
parts_shaped (Left l ∷ symbols) (token j parts) next h = absurd h

pub parts_derived : (symbols : List Symbol) (parts : Parts) (next : ℕ) → ArePartsOf va_rules symbols parts next → AreDerived symbols (trees_in parts)
parts_derived [] no_parts next h = tt
parts_derived (Kind k ∷ symbols) (token j parts) next h = parts_derived symbols parts next h.1
parts_derived (Left l ∷ symbols) (subtree t parts) next h = ((first (spelling_of parts) next, h.0), parts_derived symbols parts next h.1)
parts_derived [] (token j parts) next h = absurd h
parts_derived [] (subtree t parts) next h = absurd h
parts_derived (Kind k ∷ symbols) no_parts next h = absurd h
parts_derived (Kind k ∷ symbols) (subtree t parts) next h = absurd h
parts_derived (Left l ∷ symbols) no_parts next h = absurd h
parts_derived (Left l ∷ symbols) (token j parts) next h = absurd h

-- a tree of a nonterminal: its row, which is one of the nonterminal, and the trees below it
pub record Shape (l : ℕ) (t : Tree) : Type 0 where
  pub row : ℕ
  pub trees : List Tree
  pub written : IsRowOf va_grammar row l (va_rules.symbols row)
  pub shape : t ≡ node row (parts_from (row_symbols row) trees)
  pub derived : AreDerived (row_symbols row) trees

pub shape_of : (l : ℕ) (t : Tree) (next : ℕ) → IsTreeOf va_rules l t next → Shape l t
shape_of l (node row parts) next h =
    let of_symbols : ArePartsOf va_rules (row_symbols row) parts next = subst (λ (symbols : List Symbol). ArePartsOf va_rules symbols parts next) (sym (symbols_same row)) h.1 in
    record {
      row = row;
      trees = trees_in parts;
      written = row_written l (first (spelling_of parts) next) row h.0;
      shape = ap (node row) (parts_shaped (row_symbols row) parts next of_symbols);
      derived = parts_derived (row_symbols row) parts next of_symbols;
    }

-- whether each row of a nonterminal is among these
abbrev pub has_rows : ℕ → List ℕ → Bool
has_rows l among = at_each (λ i (row : Written). not (nat_eq row.left l) || is_among among i) 0 rows

pub row_among : (l : ℕ) (among : List ℕ) (row : ℕ) (symbols : List Symbol) → has_rows l among ≡ true → IsRowOf va_grammar row l symbols → is_among among row ≡ true
row_among l among row symbols h is =
    implied (nat_eq l l) (is_among among row) (each_told (λ i (r : Written). not (nat_eq r.left l) || is_among among i) 0 rows row row (record { left = l; symbols = symbols }) h is (zero-add row)) (eq-eqb l l refl)

-- what holds of each of some numbers
abbrev pub Each : (ℕ → Type 0) → List ℕ → Type 0
Each P [] = Unit {0}
Each P (n ∷ ns) = P n × Each P ns

pub each_at : (P : ℕ → Type 0) (ns : List ℕ) (n : ℕ) → Each P ns → is_among ns n ≡ true → P n
each_at P [] n each h = cc
each_at P (m ∷ ns) n each h = elim (or_cases (nat_eq n m) (is_among ns n) h) [ inl e ↦ subst P (sym (eqb-true n m e)) each.0 | inr b ↦ each_at P ns n each.1 b ]

-- what holds of the trees of each row of a nonterminal holds of each tree of it
pub by_rows : (P : Tree → Type 0) (l : ℕ) (among : List ℕ) (t : Tree) (next : ℕ) → has_rows l among ≡ true → IsTreeOf va_rules l t next
    → Each (λ row. (ts : List Tree) → AreDerived (row_symbols row) ts → P (node row (parts_from (row_symbols row) ts))) among → P t
by_rows P l among t next rows_are h each =
    let s = shape_of l t next h in
    subst P (sym s.shape) (each_at (λ row. (ts : List Tree) → AreDerived (row_symbols row) ts → P (node row (parts_from (row_symbols row) ts))) among s.row each (row_among l among s.row (va_rules.symbols s.row) rows_are s.written) s.trees s.derived)

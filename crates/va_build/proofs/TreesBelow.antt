-- The trees below a tree: of which nonterminals they are, by the outline of the row, and how many tokens they spell at least.
use Rattle.std.specs.Prelude.{◌≡◌, ◌≤◌, ◌+◌, ℕ, Bool, true, false, not, ◌||◌, nat_eq, nat_le, List, [], ◌∷◌, get_or, if◌then◌else◌}
use Rattle.std.specs.List.{list_all}
use Rattle.std.specs.Str.{bytes_eq}
use Rattle.std.proofs.Common.{refl, ap, sym, subst, arith, eqb-true, eq-eqb}
use Rattle.std.proofs.lemmas.Bool.{leb-true}
use Rattle.std.proofs.lemmas.Slice.Eq.{bytes_eq-Decides}
use Rattle.predict.specs.declared.symbol.Symbol.{Symbol}
use Rattle.predict.specs.declared.symbol.Symbol.TheVariants.{Kind, Left}
use Rattle.predict.specs.FirstFit.{Written, IsRowOf}
use Rattle.predict.specs.Sentence.{IsTreeOf, ArePartsOf, first}
use Rattle.predict.specs.Table.{is_among}
use Rattle.predict.specs.Tree.{Tree, Parts, node, no_parts, token, subtree, spelling_of}
use Rattle.predict.proofs.Lists.{implied, passes_at}
use Rattle.va_grammar.specs.KindSets.{va_empty}
use Rattle.va_grammar.specs.Rows.{rows}
use Rattle.va_grammar.specs.Sets.{va_grammar, va_rules}
use Rattle.va_grammar.proofs.VaSymbols.{row_written}
use Rattle.va_build.specs.Reading.{row_symbols}
use Rattle.va_build.specs.Width.{width, width_of}
use Rattle.va_build.proofs.SizeDerived.{symbols_same, has_rows, row_among, Each, each_at}

-- The nonterminals of operands are of one sort, whatever their precedence, and so are those of the tails behind them. Every other one
-- is a sort of its own.
abbrev pub sort_of : ℕ → ℕ
sort_of l =
    if is_among (62 ∷ 64 ∷ 66 ∷ 68 ∷ 70 ∷ 72 ∷ 74 ∷ 76 ∷ []) l then 62
    else (if is_among (63 ∷ 65 ∷ 67 ∷ 69 ∷ 71 ∷ 73 ∷ 75 ∷ []) l then 63 else l)

-- a tree of a nonterminal of a sort
pub record IsOf (sort : ℕ) (t : Tree) : Type 0 where
  pub left : ℕ
  pub next : ℕ
  pub sort_is : sort_of left ≡ sort
  pub derived : IsTreeOf va_rules left t next

abbrev pub AreOf : List ℕ → List Tree → Type 0
AreOf [] ts = Unit {0}
AreOf (sort ∷ sorts) [] = ⊥
AreOf (sort ∷ sorts) (t ∷ ts) = IsOf sort t × AreOf sorts ts

-- the sorts of the nonterminals among symbols
abbrev pub sorts_in : List Symbol → List ℕ
sorts_in [] = []
sorts_in (Kind k ∷ symbols) = sorts_in symbols
sorts_in (Left l ∷ symbols) = sort_of l ∷ sorts_in symbols

abbrev pub trees_among : Parts → List Tree
trees_among no_parts = []
trees_among (token k parts) = trees_among parts
trees_among (subtree t parts) = t ∷ trees_among parts

-- where symbols have kinds (0) and where nonterminals (1), and parts tokens and trees
abbrev outline : List Symbol → List ℕ
outline [] = []
outline (Kind k ∷ symbols) = 0 ∷ outline symbols
outline (Left l ∷ symbols) = 1 ∷ outline symbols

abbrev pub outline_of : Parts → List ℕ
outline_of no_parts = []
outline_of (token k parts) = 0 ∷ outline_of parts
outline_of (subtree t parts) = 1 ∷ outline_of parts

same_outline : (symbols : List Symbol) (parts : Parts) (next : ℕ) → ArePartsOf va_rules symbols parts next → outline symbols ≡ outline_of parts
same_outline [] no_parts next h = refl
same_outline (Kind k ∷ symbols) (token j parts) next h = ap (λ (l : List ℕ). 0 ∷ l) (same_outline symbols parts next h.1)
same_outline (Left l ∷ symbols) (subtree t parts) next h = ap (λ (l : List ℕ). 1 ∷ l) (same_outline symbols parts next h.1)
same_outline [] (token j parts) next h = absurd h
same_outline [] (subtree t parts) next h = absurd h
same_outline (Kind k ∷ symbols) no_parts next h = absurd h
same_outline (Kind k ∷ symbols) (subtree t parts) next h = absurd h
same_outline (Left l ∷ symbols) no_parts next h = absurd h
same_outline (Left l ∷ symbols) (token j parts) next h = absurd h

are_of_sorts : (symbols : List Symbol) (parts : Parts) (next : ℕ) → ArePartsOf va_rules symbols parts next → AreOf (sorts_in symbols) (trees_among parts)
are_of_sorts [] no_parts next h = tt
are_of_sorts (Kind k ∷ symbols) (token j parts) next h = are_of_sorts symbols parts next h.1
are_of_sorts (Left l ∷ symbols) (subtree t parts) next h =
    (record { left = l; next = first (spelling_of parts) next; sort_is = refl; derived = h.0 }, are_of_sorts symbols parts next h.1)
are_of_sorts [] (token j parts) next h = absurd h
are_of_sorts [] (subtree t parts) next h = absurd h
are_of_sorts (Kind k ∷ symbols) no_parts next h = absurd h
are_of_sorts (Kind k ∷ symbols) (subtree t parts) next h = absurd h
are_of_sorts (Left l ∷ symbols) no_parts next h = absurd h
are_of_sorts (Left l ∷ symbols) (token j parts) next h = absurd h

-- whether a row, where it is one of a sort with this outline, has nonterminals of these sorts
abbrev pub has_sorts : ℕ → List ℕ → List ℕ → Written → Bool
has_sorts sort shape sorts row =
    not (nat_eq (sort_of row.left) sort) || (not (bytes_eq (outline row.symbols) shape) || bytes_eq (sorts_in row.symbols) sorts)

abbrev written_row : {sort row : ℕ} {parts : Parts} → (h : IsOf sort (node row parts)) → IsRowOf va_grammar row h.left (va_rules.symbols row)
written_row {sort} {row} {parts} h = row_written h.left (first (spelling_of parts) h.next) row h.derived.0

-- the trees below a tree of a sort are of these sorts, where each row of the sort with its outline has them
pub below : {row : ℕ} {parts : Parts} (sort : ℕ) (sorts : List ℕ) → IsOf sort (node row parts) → list_all (has_sorts sort (outline_of parts) sorts) rows ≡ true
    → AreOf sorts (trees_among parts)
below {row} {parts} sort sorts h all =
    let symbols : List Symbol = va_rules.symbols row in
    let one : Written = record { left = h.left; symbols = symbols } in
    let passes : has_sorts sort (outline_of parts) sorts one ≡ true = passes_at (has_sorts sort (outline_of parts) sorts) rows row one all (written_row h) in
    let here : nat_eq (sort_of h.left) sort ≡ true = eq-eqb (sort_of h.left) sort h.sort_is in
    let shaped : bytes_eq (outline symbols) (outline_of parts) ≡ true = (bytes_eq-Decides (outline symbols) (outline_of parts)).1 (same_outline symbols parts h.next h.derived.1) in
    let sorted : bytes_eq (sorts_in symbols) sorts ≡ true = implied (bytes_eq (outline symbols) (outline_of parts)) (bytes_eq (sorts_in symbols) sorts)
    (implied (nat_eq (sort_of h.left) sort) (not (bytes_eq (outline symbols) (outline_of parts)) || bytes_eq (sorts_in symbols) sorts) passes here) shaped in
    subst (λ (l : List ℕ). AreOf l (trees_among parts)) ((bytes_eq-Decides (sorts_in symbols) sorts).0 sorted) (are_of_sorts symbols parts h.next h.derived.1)

-- whether each tree of a nonterminal spells a token, and how many tokens symbols spell at least
abbrev is_spelled : ℕ → Bool
is_spelled l = not (get_or va_empty l true)

abbrev pub least : List Symbol → ℕ
least [] = 0
least (Kind k ∷ symbols) = least symbols + 1
least (Left l ∷ symbols) = (if is_spelled l then 1 else 0) + least symbols

all_spelled : list_all (λ (row : Written). not (is_spelled row.left) || nat_le 1 (least row.symbols)) rows ≡ true
all_spelled = refl

if_spelled : (b : Bool) (n : ℕ) → (b ≡ true → 1 ≤ n) → (if b then 1 else 0) ≤ n
if_spelled true n h = h refl
if_spelled false n h = omega arith

mutual
  spelled : (l : ℕ) (t : Tree) (next : ℕ) → IsTreeOf va_rules l t next → is_spelled l ≡ true → 1 ≤ width t
  spelled l (node row parts) next h s =
      let symbols : List Symbol = va_rules.symbols row in
      let written : IsRowOf va_grammar row l symbols = row_written l (first (spelling_of parts) next) row h.0 in
      let some : nat_le 1 (least symbols) ≡ true = implied (is_spelled l) (nat_le 1 (least symbols))
      (passes_at (λ (row : Written). not (is_spelled row.left) || nat_le 1 (least row.symbols)) rows row _ all_spelled written) s in
      let enough : 1 ≤ least symbols = leb-true 1 (least symbols) some in
      let wide : least symbols ≤ width_of parts = parts_wide symbols parts next h.1 in
      omega (arith, enough, wide)

  parts_wide : (symbols : List Symbol) (parts : Parts) (next : ℕ) → ArePartsOf va_rules symbols parts next → least symbols ≤ width_of parts
  parts_wide [] no_parts next h = omega arith
  parts_wide (Kind k ∷ symbols) (token j parts) next h = omega (arith, parts_wide symbols parts next h.1)
  parts_wide (Left l ∷ symbols) (subtree t parts) next h =
      let here : (if is_spelled l then 1 else 0) ≤ width t = if_spelled (is_spelled l) (width t) (spelled l t _ h.0) in
      omega (arith, here, parts_wide symbols parts next h.1)
  parts_wide [] (token j parts) next h = absurd h
  parts_wide [] (subtree t parts) next h = absurd h
  parts_wide (Kind k ∷ symbols) no_parts next h = absurd h
  parts_wide (Kind k ∷ symbols) (subtree t parts) next h = absurd h
  parts_wide (Left l ∷ symbols) no_parts next h = absurd h
  parts_wide (Left l ∷ symbols) (token j parts) next h = absurd h

-- a tree of a sort spells so many tokens at least, where each row of the sort does
pub wide : {t : Tree} (sort n : ℕ) → IsOf sort t → list_all (λ (row : Written). not (nat_eq (sort_of row.left) sort) || nat_le n (least row.symbols)) rows ≡ true → n ≤ width t
wide {t = node row parts} sort n h all =
    let symbols : List Symbol = va_rules.symbols row in
    let one : Written = record { left = h.left; symbols = symbols } in
    let enough : nat_le n (least symbols) ≡ true = implied (nat_eq (sort_of h.left) sort) (nat_le n (least symbols))
    (passes_at (λ (row : Written). not (nat_eq (sort_of row.left) sort) || nat_le n (least row.symbols)) rows row one all (written_row h))
    (eq-eqb (sort_of h.left) sort h.sort_is) in
    let less : n ≤ least symbols = leb-true n (least symbols) enough in
    let most : least symbols ≤ width_of parts = parts_wide symbols parts h.next h.derived.1 in
    omega (arith, less, most)

-- a tree of a sort is one of the nonterminal with this number, where the sort has no other
pub exactly : {t : Tree} (l : ℕ) → IsOf l t → list_all (λ (row : Written). not (nat_eq (sort_of row.left) l) || nat_eq row.left l) rows ≡ true → (next : ℕ) × IsTreeOf va_rules l t next
exactly {t = node row parts} l h all =
    let one : Written = record { left = h.left; symbols = va_rules.symbols row } in
    let same : nat_eq h.left l ≡ true = implied (nat_eq (sort_of h.left) l) (nat_eq h.left l)
    (passes_at (λ (row : Written). not (nat_eq (sort_of row.left) l) || nat_eq row.left l) rows row one all (written_row h))
    (eq-eqb (sort_of h.left) l h.sort_is) in
    (h.next, subst (λ (k : ℕ). IsTreeOf va_rules k (node row parts) h.next) (eqb-true h.left l same) h.derived)

pub is_of : {t : Tree} (l : ℕ) → (next : ℕ) × IsTreeOf va_rules l t next → IsOf (sort_of l) t
is_of {t} l d = record { left = l; next = d.0; sort_is = refl; derived = d.1 }

-- What follows for each row of a nonterminal, from the parts being those of the row, follows for a tree of the nonterminal.
pub by_row : {row : ℕ} {parts : Parts} (l : ℕ) (among : List ℕ) (G : Type 0) → IsOf l (node row parts)
    → list_all (λ (row : Written). not (nat_eq (sort_of row.left) l) || nat_eq row.left l) rows ≡ true → has_rows l among ≡ true
    → Each (λ (i : ℕ). (next : ℕ) → ArePartsOf va_rules (row_symbols i) parts next → AreOf (sorts_in (row_symbols i)) (trees_among parts) → G) among → G
by_row {row} {parts} l among G h alone rows_are each =
    let d = exactly l h alone in
    let written : IsRowOf va_grammar row l (va_rules.symbols row) = row_written l (first (spelling_of parts) d.0) row d.1.0 in
    let parts_are : ArePartsOf va_rules (row_symbols row) parts d.0 = subst (λ (symbols : List Symbol). ArePartsOf va_rules symbols parts d.0) (sym (symbols_same row)) d.1.1 in
    each_at (λ (i : ℕ). (next : ℕ) → ArePartsOf va_rules (row_symbols i) parts next → AreOf (sorts_in (row_symbols i)) (trees_among parts) → G) among row each
    (row_among l among row (va_rules.symbols row) rows_are written) d.0 parts_are (are_of_sorts (row_symbols row) parts d.0 parts_are)

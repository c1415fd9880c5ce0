-- Trees of rows over a text: the kinds of the words at their tokens, and the parts of each row.
use Rattle.std.proofs.Common.{◌≡◌, ◌⊎◌, inl, inr, ◌+◌, ℕ, zero, suc, List, [], ◌∷◌, ◌++◌, length, refl, ap, sym, subst, ◌∙◌, arith, Some, None, Option, eqb-true, eq-eqb}
use Rattle.std.specs.Prelude.{Bool, true, false, ◌==◌, ◌||◌, if◌then◌else◌, nat_eq, slice_get, map}
use Rattle.std.specs.List.{list_all, filter}
use Rattle.std.proofs.lemmas.Bool.{and_from, and_parts, or_cases}
use Rattle.std.proofs.lemmas.List.{length-append}
use Rattle.va_base.proofs.Longest.{some_none, some_same}
use Rattle.predict.specs.declared.symbol.Symbol.{Symbol}
use Rattle.predict.specs.declared.symbol.Symbol.TheVariants.{Kind, Left}
use Rattle.predict.specs.Tree.{Tree, Parts, node, no_parts, token, subtree, spelling, spelling_of}
use Rattle.predict.specs.FirstFit.{Written}
use Rattle.c_tree.specs.Spelling.{EachHas}
use Rattle.c_raw_build.specs.Due.{IsOfKind}
use Rattle.c_raw_build.specs.Placed.{Placed, width, width_of, end, row_of, is_of, parts_of, subtree_at, part, has_subtree, spine, spine_of, elements, elements_of_two, before_first, elements_before}
use Rattle.c_raw_build.specs.Words.{CText, word_at}
use Rattle.c_law_words.proofs.Derived.{Derives, Fit}
use Rattle.c_law_words.proofs.Listed.{row_list}

-- words of these kinds stand in the text from this token on
abbrev pub KindsAt : CText → ℕ → List ℕ → Type 0
KindsAt text at [] = Unit {0}
KindsAt text at (k ∷ kinds) = IsOfKind k (word_at text at) × KindsAt text (at + 1) kinds

pub kinds_moved : (text : CText) (at to : ℕ) (kinds : List ℕ) → at ≡ to → KindsAt text at kinds → KindsAt text to kinds
kinds_moved text at to kinds e s = subst (λ i. KindsAt text i kinds) e s

kinds_split : (text : CText) (at : ℕ) (xs ys : List ℕ) → KindsAt text at (xs ++ ys) → KindsAt text at xs × KindsAt text (at + length xs) ys
kinds_split text at [] ys s = (tt, kinds_moved text at (at + 0) ys (omega arith) s)
kinds_split text at (x ∷ xs) ys s =
    let rest = kinds_split text (at + 1) xs ys s.1 in
    ((s.0, rest.0), kinds_moved text (at + 1 + length xs) (at + suc (length xs)) ys (omega arith) rest.1)

mutual
  pub tree_width : (t : Tree) → width t ≡ length (spelling t)
  tree_width (node row parts) = parts_width parts

  pub parts_width : (parts : Parts) → width_of parts ≡ length (spelling_of parts)
  parts_width no_parts = refl
  parts_width (token k parts) = ap (λ n. n + 1) (parts_width parts) ∙ (let same : length (spelling_of parts) + 1 ≡ suc (length (spelling_of parts)) = omega arith in same)
  parts_width (subtree t parts) = (λ i. tree_width t i + parts_width parts i) ∙ sym (length-append (spelling t) (spelling_of parts))

-- a tree, and what stands behind it
pub tree_split : (text : CText) (at : ℕ) (t : Tree) (parts : Parts) → KindsAt text at (spelling t ++ spelling_of parts)
    → KindsAt text at (spelling t) × KindsAt text (at + width t) (spelling_of parts)
tree_split text at t parts s =
    let p = kinds_split text at (spelling t) (spelling_of parts) s in
    (p.0, kinds_moved text (at + length (spelling t)) (at + width t) (spelling_of parts) (ap (λ n. at + n) (sym (tree_width t))) p.1)

-- the symbols of a row
abbrev pub symbols_at : List Written → ℕ → List Symbol
symbols_at [] i = []
symbols_at (w ∷ rows) zero = w.symbols
symbols_at (w ∷ rows) (suc i) = symbols_at rows i

abbrev pub symbols_in : ℕ → List Symbol
symbols_in k = symbols_at row_list k

some_written : (a b : Written) → Some a ≡ Some b → a ≡ b
some_written a b e = some_same e

symbols_found : (rows : List Written) (i left : ℕ) (symbols : List Symbol) → slice_get rows i ≡ Some (record { left = left; symbols = symbols })
    → symbols ≡ symbols_at rows i
symbols_found [] i left symbols h = absurd (some_none (sym h))
symbols_found (w ∷ rows) zero left symbols h = ap (λ (u : Written). u.symbols) (sym (some_written w (record { left = left; symbols = symbols }) h))
symbols_found (w ∷ rows) (suc i) left symbols h = symbols_found rows i left symbols h

-- a tree of this nonterminal stands at its place in the text
pub record IsOf (text : CText) (left : ℕ) (p : Placed) : Type 0 where
  pub derived : Derives row_list left p.tree
  pub stands : KindsAt text p.at (spelling p.tree)

-- a tree of this row does
pub record IsRow (text : CText) (k : ℕ) (p : Placed) : Type 0 where
  pub row_is : row_of p.tree ≡ k
  pub fit : Fit row_list (symbols_in k) (parts_of p.tree)
  pub stands : KindsAt text p.at (spelling_of (parts_of p.tree))

-- the nonterminal with this place among those of a row
abbrev pub left_at : List Symbol → ℕ → Option ℕ
left_at [] i = None
left_at (Kind k ∷ symbols) i = left_at symbols i
left_at (Left left ∷ symbols) zero = Some left
left_at (Left left ∷ symbols) (suc i) = left_at symbols i

-- the kind of a row's token with this place, before which no nonterminal stands
abbrev pub kind_at : List Symbol → ℕ → Option ℕ
kind_at [] n = None
kind_at (Left left ∷ symbols) n = None
kind_at (Kind k ∷ symbols) zero = Some k
kind_at (Kind k ∷ symbols) (suc n) = kind_at symbols n

-- the same, counted from behind the nonterminal with place i
abbrev pub kind_behind : List Symbol → ℕ → ℕ → Option ℕ
kind_behind [] i n = None
kind_behind (Kind k ∷ symbols) i n = kind_behind symbols i n
kind_behind (Left left ∷ symbols) zero n = kind_at symbols n
kind_behind (Left left ∷ symbols) (suc i) n = kind_behind symbols i n

part_fits : (text : CText) (symbols : List Symbol) (i at : ℕ) (parts : Parts) (left : ℕ) → left_at symbols i ≡ Some left
    → Fit row_list symbols parts → KindsAt text at (spelling_of parts) → IsOf text left (subtree_at i at parts)
part_fits text [] i at parts left e f s = absurd (some_none (sym e))
part_fits text (Kind k ∷ symbols) i at (token j parts) left e f s = part_fits text symbols i (at + 1) parts left e f.1 s.1
part_fits text (Kind k ∷ symbols) i at no_parts left e f s = absurd f
part_fits text (Kind k ∷ symbols) i at (subtree t parts) left e f s = absurd f
part_fits text (Left x ∷ symbols) zero at (subtree t parts) left e f s =
    record { derived = subst (λ l. Derives row_list l t) (some_same e) f.0; stands = (tree_split text at t parts s).0 }
part_fits text (Left x ∷ symbols) (suc i) at (subtree t parts) left e f s =
    part_fits text symbols i (at + width t) parts left e f.1 (tree_split text at t parts s).1
part_fits text (Left x ∷ symbols) i at no_parts left e f s = absurd f
part_fits text (Left x ∷ symbols) i at (token j parts) left e f s = absurd f

token_fits : (text : CText) (symbols : List Symbol) (n at to : ℕ) (parts : Parts) (k : ℕ) → kind_at symbols n ≡ Some k → to ≡ at + n
    → Fit row_list symbols parts → KindsAt text at (spelling_of parts) → IsOfKind k (word_at text to)
token_fits text [] n at to parts k e m f s = absurd (some_none (sym e))
token_fits text (Left x ∷ symbols) n at to parts k e m f s = absurd (some_none (sym e))
token_fits text (Kind x ∷ symbols) zero at to (token j parts) k e m f s =
    let here : at ≡ to = omega (arith, m) in
    let kind : j ≡ k = f.0 ∙ some_same e in
    subst (λ i. IsOfKind k (word_at text i)) here (subst (λ l. IsOfKind l (word_at text at)) kind s.0)
token_fits text (Kind x ∷ symbols) (suc n) at to (token j parts) k e m f s =
    token_fits text symbols n (at + 1) to parts k e (omega (arith, m)) f.1 s.1
token_fits text (Kind x ∷ symbols) n at to no_parts k e m f s = absurd f
token_fits text (Kind x ∷ symbols) n at to (subtree t parts) k e m f s = absurd f

behind_fits : (text : CText) (symbols : List Symbol) (i n at to : ℕ) (parts : Parts) (k : ℕ) → kind_behind symbols i n ≡ Some k
    → to ≡ end (subtree_at i at parts) + n → Fit row_list symbols parts → KindsAt text at (spelling_of parts) → IsOfKind k (word_at text to)
behind_fits text [] i n at to parts k e m f s = absurd (some_none (sym e))
behind_fits text (Kind x ∷ symbols) i n at to (token j parts) k e m f s = behind_fits text symbols i n (at + 1) to parts k e m f.1 s.1
behind_fits text (Kind x ∷ symbols) i n at to no_parts k e m f s = absurd f
behind_fits text (Kind x ∷ symbols) i n at to (subtree t parts) k e m f s = absurd f
behind_fits text (Left x ∷ symbols) zero n at to (subtree t parts) k e m f s =
    token_fits text symbols n (at + width t) to parts k e m f.1 (tree_split text at t parts s).1
behind_fits text (Left x ∷ symbols) (suc i) n at to (subtree t parts) k e m f s =
    behind_fits text symbols i n (at + width t) to parts k e m f.1 (tree_split text at t parts s).1
behind_fits text (Left x ∷ symbols) i n at to no_parts k e m f s = absurd f
behind_fits text (Left x ∷ symbols) i n at to (token j parts) k e m f s = absurd f

module _ {text : CText} where
  -- the part of a row with place i
  pub sub : (k i left : ℕ) (p : Placed) → left_at (symbols_in k) i ≡ Some left → IsRow text k p → IsOf text left (part i p)
  sub k i left p e r = part_fits text (symbols_in k) i p.at (parts_of p.tree) left e r.fit r.stands

  -- the token of a row with place n
  pub tok : (k n kind to : ℕ) (p : Placed) → kind_at (symbols_in k) n ≡ Some kind → to ≡ p.at + n → IsRow text k p → IsOfKind kind (word_at text to)
  tok k n kind to p e m r = token_fits text (symbols_in k) n p.at to (parts_of p.tree) kind e m r.fit r.stands

  -- the token with place n behind the part with place i
  pub behind : (k i n kind to : ℕ) (p : Placed) → kind_behind (symbols_in k) i n ≡ Some kind → to ≡ end (part i p) + n → IsRow text k p
      → IsOfKind kind (word_at text to)
  behind k i n kind to p e m r = behind_fits text (symbols_in k) i n p.at to (parts_of p.tree) kind e m r.fit r.stands

-- the numbers of the rows of a nonterminal, where the rows are numbered from one on
abbrev pub numbers_of : ℕ → ℕ → List Written → List ℕ
numbers_of left from [] = []
numbers_of left from (w ∷ rows) = if nat_eq left w.left then from ∷ numbers_of left (suc from) rows else numbers_of left (suc from) rows

abbrev pub OneOf : ℕ → List ℕ → Type 0
OneOf n [] = ⊥
OneOf n (k ∷ ks) = (n ≡ k) ⊎ OneOf n ks

here : (b : Bool) (n from : ℕ) (ks : List ℕ) → b ≡ true → n ≡ from → OneOf n (if b then from ∷ ks else ks)
here true n from ks e h = inl h
here false n from ks e h = cc

later : (b : Bool) (n from : ℕ) (ks : List ℕ) → OneOf n ks → OneOf n (if b then from ∷ ks else ks)
later true n from ks h = inr h
later false n from ks h = h

number_found : (left from i n : ℕ) (rows : List Written) (symbols : List Symbol) → slice_get rows i ≡ Some (record { left = left; symbols = symbols })
    → from + i ≡ n → OneOf n (numbers_of left from rows)
number_found left from i n [] symbols h m = absurd (some_none (sym h))
number_found left from zero n (w ∷ rows) symbols h m =
    let same = some_written w (record { left = left; symbols = symbols }) h in
    here (nat_eq left w.left) n from (numbers_of left (suc from) rows) (eq-eqb left w.left (sym (ap (λ (u : Written). u.left) same))) (omega (arith, m))
number_found left from (suc i) n (w ∷ rows) symbols h m =
    later (nat_eq left w.left) n from (numbers_of left (suc from) rows) (number_found left (suc from) i n rows symbols h (omega (arith, m)))

-- a fact for each row of a nonterminal
abbrev pub Choices : CText → (Placed → Type 0) → List ℕ → Type 0
Choices text P [] = Unit {0}
Choices text P (k ∷ ks) =
    ((at : ℕ) (parts : Parts) → IsRow text k (record { at = at; tree = node k parts }) → P (record { at = at; tree = node k parts })) × Choices text P ks

-- holds for the nonterminal
pub by_rows : {text : CText} (P : Placed → Type 0) (left : ℕ) (ks : List ℕ) (p : Placed) → numbers_of left 0 row_list ≡ ks → IsOf text left p
    → Choices text P ks → P p
by_rows {text} P left ks p e o c = go p.at p.tree o
  where
    go : (at : ℕ) (t : Tree) → IsOf text left (record { at = at; tree = t }) → P (record { at = at; tree = t })
    go at (node row parts) o =
        let symbols = o.derived.0 in
        let there : slice_get row_list row ≡ Some (record { left = left; symbols = symbols }) = o.derived.1 in
        let one = number_found left 0 row row row_list symbols there (omega arith) in
        pick ks (subst (λ l. OneOf row l) e one) c
      where
        pick : (ks : List ℕ) → OneOf row ks → Choices text P ks → P (record { at = at; tree = node row parts })
        pick [] h c = absurd h
        pick (k ∷ ks) h c =
            elim h [
              | inl same ↦
                  let whole : symbols_in k ≡ o.derived.0 = ap symbols_in (sym same) ∙ sym (symbols_found row_list row left o.derived.0 o.derived.1) in
                  subst (λ r. P (record { at = at; tree = node r parts })) (sym same) (c.0 at parts (record {
                    row_is = refl;
                    fit = subst (λ s. Fit row_list s parts) (sym whole) o.derived.2;
                    stands = o.stands;
                  }))
              | inr more ↦ pick ks more c.1
            ]

-- the row of a nonterminal that has one row
pub only_row : {text : CText} (left k : ℕ) (p : Placed) → numbers_of left 0 row_list ≡ k ∷ [] → IsOf text left p → IsRow text k p
only_row {text} left k p e o = by_rows (IsRow text k) left (k ∷ []) p e o (λ at parts r. r, tt)

-- elements of lists
pub each_map : {A B : Type 0} (P : A → Type 0) (Q : B → Type 0) (f : A → B) → ((a : A) → P a → Q (f a)) → (xs : List A) → EachHas P xs → EachHas Q (map f xs)
each_map P Q f h [] e = tt
each_map P Q f h (x ∷ xs) e = (h x e.0, each_map P Q f h xs e.1)

pub each_weaker : {A : Type 0} (P Q : A → Type 0) → ((a : A) → P a → Q a) → (xs : List A) → EachHas P xs → EachHas Q xs
each_weaker P Q h [] e = tt
each_weaker P Q h (x ∷ xs) e = (h x e.0, each_weaker P Q h xs e.1)

pub each_both : {A : Type 0} (P Q : A → Type 0) (xs : List A) → EachHas P xs → EachHas Q xs → EachHas (λ x. P x × Q x) xs
each_both P Q [] e f = tt
each_both P Q (x ∷ xs) e f = ((e.0, f.0), each_both P Q xs e.1 f.1)

-- what each passes, and what is made of each
pub each_told : {A : Type 0} (test : A → Bool) (xs : List A) → list_all test xs ≡ true → EachHas (λ x. test x ≡ true) xs
each_told test [] h = tt
each_told test (x ∷ xs) h = let p = and_parts (test x) (list_all test xs) h in (p.0, each_told test xs p.1)

pub each_told_map : {A B C : Type 0} (test : C → Bool) (g : B → C) (f : A → B) (xs : List A) → list_all test (map g (map f xs)) ≡ true
    → EachHas (λ x. test (g (f x)) ≡ true) xs
each_told_map test g f [] h = tt
each_told_map test g f (x ∷ xs) h =
    let p = and_parts (test (g (f x))) (list_all test (map g (map f xs))) h in (p.0, each_told_map test g f xs p.1)

pub each_passes : {A : Type 0} (test : A → Bool) (xs : List A) → EachHas (λ x. test x ≡ true) xs → list_all test xs ≡ true
each_passes test [] e = refl
each_passes test (x ∷ xs) e = and_from (test x) (list_all test xs) e.0 (each_passes test xs e.1)

-- a test that what is made of each passes
pub passes_map : {A B : Type 0} (P : A → Type 0) (test : B → Bool) (f : A → B) → ((a : A) → P a → test (f a) ≡ true) → (xs : List A) → EachHas P xs
    → list_all test (map f xs) ≡ true
passes_map P test f h xs e = each_passes test (map f xs) (each_map P (λ y. test y ≡ true) f h xs e)

pub passes_map_map : {A B C : Type 0} (P : A → Type 0) (test : C → Bool) (g : B → C) (f : A → B) → ((a : A) → P a → test (g (f a)) ≡ true) → (xs : List A)
    → EachHas P xs → list_all test (map g (map f xs)) ≡ true
passes_map_map P test g f h xs e =
    each_passes test (map g (map f xs)) (each_map (λ b. test (g b) ≡ true) (λ y. test y ≡ true) g (λ b k. k) (map f xs) (each_map P (λ b. test (g b) ≡ true) f h xs e))

filtered : {A : Type 0} (P Q : A → Type 0) (test : A → Bool) → ((x : A) → P x → test x ≡ true → Q x) → (xs : List A) → EachHas P xs → EachHas Q (filter test xs)
filtered P Q test h [] e = tt
filtered {A} P Q test h (x ∷ xs) e = by_test (test x) refl (filtered P Q test h xs e.1)
  where
    by_test : (b : Bool) → test x ≡ b → EachHas Q (filter test xs) → EachHas Q (if b then x ∷ filter test xs else filter test xs)
    by_test true t rest = (h x e.0 t, rest)
    by_test false t rest = rest

abbrev pub Known : CText → Placed → Type 0
Known text q = (left : ℕ) × IsOf text left q

one_of_two : {A : Type 0} (P : A → Type 0) (b : Bool) (xs ys : List A) → EachHas P xs → EachHas P ys → EachHas P (if b then xs else ys)
one_of_two P true xs ys h g = h
one_of_two P false xs ys h g = g

mutual
  spine_known : (text : CText) (left at : ℕ) (t : Tree) → Derives row_list left t → KindsAt text at (spelling t) → EachHas (Known text) (spine at t)
  spine_known text left at (node row parts) d s = ((left, record { derived = d; stands = s }), spine_of_known text d.0 at parts d.2 s)

  spine_of_known : (text : CText) (symbols : List Symbol) (at : ℕ) (parts : Parts) → Fit row_list symbols parts → KindsAt text at (spelling_of parts)
      → EachHas (Known text) (spine_of at parts)
  spine_of_known text symbols at no_parts f s = tt
  spine_of_known text (Kind k ∷ symbols) at (token j parts) f s = spine_of_known text symbols (at + 1) parts f.1 s.1
  spine_of_known text (Left x ∷ symbols) at (subtree t parts) f s =
      let p = tree_split text at t parts s in
      one_of_two (Known text) (has_subtree parts) (spine_of (at + width t) parts) (spine at t) (spine_of_known text symbols (at + width t) parts f.1 p.1)
      (spine_known text x at t f.0 p.0)
  spine_of_known text [] at (token j parts) f s = absurd f
  spine_of_known text [] at (subtree t parts) f s = absurd f
  spine_of_known text (Kind k ∷ symbols) at (subtree t parts) f s = absurd f
  spine_of_known text (Left x ∷ symbols) at (token j parts) f s = absurd f

pub known_row : (text : CText) (k : ℕ) (q : Placed) → Known text q → is_of k q ≡ true → IsRow text k q
known_row text k q h e = go q.at q.tree h.0 h.1.derived h.1.stands e
  where
    go : (at : ℕ) (t : Tree) (left : ℕ) → Derives row_list left t → KindsAt text at (spelling t) → (row_of t == k) ≡ true → IsRow text k (record { at = at; tree = t })
    go at (node row parts) left d s e =
        let same : row ≡ k = eqb-true row k e in
        let whole : symbols_in k ≡ d.0 = ap symbols_in (sym same) ∙ sym (symbols_found row_list row left d.0 d.1) in
        record { row_is = same; fit = subst (λ l. Fit row_list l parts) (sym whole) d.2; stands = s }

spine_of_tree : {text : CText} (left : ℕ) (p : Placed) → IsOf text left p → EachHas (Known text) (spine p.at p.tree)
spine_of_tree {text} left p o = spine_known text left p.at p.tree o.derived o.stands

pub elements_rows : {text : CText} (row left : ℕ) (p : Placed) → IsOf text left p → EachHas (IsRow text row) (elements row p)
elements_rows {text} row left p o = filtered (Known text) (IsRow text row) (is_of row) (known_row text row) (spine p.at p.tree) (spine_of_tree left p o)

pub elements_two_rows : {text : CText} (first more left : ℕ) (p : Placed) → IsOf text left p
    → EachHas (λ q. IsRow text first q ⊎ IsRow text more q) (elements_of_two first more p)
elements_two_rows {text} first more left p o =
    filtered (Known text) (λ q. IsRow text first q ⊎ IsRow text more q) (λ q. is_of first q || is_of more q) choose (spine p.at p.tree) (spine_of_tree left p o)
  where
    choose : (q : Placed) → Known text q → (is_of first q || is_of more q) ≡ true → IsRow text first q ⊎ IsRow text more q
    choose q h e = elim (or_cases (is_of first q) (is_of more q) e) [ inl a ↦ inl (known_row text first q h a) | inr b ↦ inr (known_row text more q h b) ]

before_known : (P : Placed → Type 0) (stop : ℕ) (qs : List Placed) → EachHas P qs → EachHas P (before_first stop qs)
before_known P stop [] h = tt
before_known P stop (q ∷ qs) h = one_of_two P (is_of stop q) [] (q ∷ before_first stop qs) tt (h.0, before_known P stop qs h.1)

pub elements_before_rows : {text : CText} (stop row left : ℕ) (p : Placed) → IsOf text left p → EachHas (IsRow text row) (elements_before stop row p)
elements_before_rows {text} stop row left p o =
    filtered (Known text) (IsRow text row) (is_of row) (known_row text row) (before_first stop (spine p.at p.tree)) (before_known (Known text) stop (spine p.at p.tree) (spine_of_tree left p o))

-- What is due after a row, tokens or a tree, with the tokens of the text.
use Rattle.std.specs.List.{list_all}
use Rattle.std.specs.Prelude.{ℕ, zero, suc, ◌≡◌, ◌≢◌, ◌⊎◌, ◌+◌, ◌==◌, ◌≤◌, ◌<◌, Bool, true, false, List, [], ◌∷◌, ◌++◌, length, refl}
use Rattle.std.proofs.Common.{ap, sym, ◌∙◌, subst, arith, eqb-true, eq-eqb, inl, inr}
use Rattle.std.proofs.lemmas.List.{append-nil, length-append}
use Rattle.va_base.proofs.Tests.{true_not_false}
use Rattle.predict.specs.declared.symbol.Symbol.{Symbol}
use Rattle.predict.specs.declared.symbol.Symbol.TheVariants.{Kind, Left}
use Rattle.predict.specs.Table.{is_among}
use Rattle.predict.specs.Tree.{Tree, Parts, node, no_parts, token, subtree, spelling, spelling_of}
use Rattle.predict.proofs.Lists.{among_one, among_passes}
use Rattle.c_raw_build.specs.Due.{IsDue, HasToken, HasOneOf, IsThere, AreThere, HasTokens, AreDueIn, IsDueIn, is_one_of}
use Rattle.c_raw_build.specs.Placed.{Placed, width, width_of}
use Rattle.c_raw_build.specs.Reading.{Ahead, TakesRow, Passes, Reads, row_symbols, first_tree, later_trees, parts_from, trees, trees_of}
use Rattle.c_raw_build.specs.Words.{CText}
use Rattle.c_raw_build.proofs.DueRows as rows
use Rattle.c_raw_build.proofs.DueRows.{rest_of, are_kinds, begins_among, begins_left}

pub moved : (text : CText) (at to : ℕ) (kinds : List ℕ) → at ≡ to → HasTokens text at kinds → HasTokens text to kinds
moved text at to kinds e s = subst (λ i. HasTokens text i kinds) e s

pub record Split (text : CText) (at : ℕ) (xs ys : List ℕ) : Type 0 where
  pub front : HasTokens text at xs
  pub back : HasTokens text (at + length xs) ys

pub split : (text : CText) (at : ℕ) (xs ys : List ℕ) → HasTokens text at (xs ++ ys) → Split text at xs ys
unfolding HasTokens
split text at [] ys s = record { front = tt; back = moved text at (at + 0) ys (omega arith) s }
split text at (x ∷ xs) ys s =
    let rest = split text (at + 1) xs ys s.1 in
    record { front = (s.0, rest.front); back = moved text (at + 1 + length xs) (at + suc (length xs)) ys (omega arith) rest.back }

-- how many tokens a tree spells
mutual
  pub width_spelled : (t : Tree) → width t ≡ length (spelling t)
  width_spelled (node row parts) = width_of_spelled parts

  pub width_of_spelled : (parts : Parts) → width_of parts ≡ length (spelling_of parts)
  width_of_spelled no_parts = refl
  width_of_spelled (token k parts) = omega (arith, width_of_spelled parts)
  width_of_spelled (subtree t parts) = omega (arith, width_spelled t, width_of_spelled parts, length-append (spelling t) (spelling_of parts))

-- the tokens of a tree alone
alone : (text : CText) (at : ℕ) (t : Tree) → HasTokens text at (spelling t ++ []) → HasTokens text at (spelling t)
alone text at t h = subst (HasTokens text at) (append-nil (spelling t)) h

kinds_passed : (text : CText) (n at : ℕ) (symbols : List Symbol) (ts : List Tree) → are_kinds n symbols ≡ true → HasTokens text at (spelling_of (parts_from symbols ts))
    → HasTokens text (at + n) (spelling_of (parts_from (rest_of n symbols) ts))
unfolding HasTokens
kinds_passed text zero at symbols ts h s = moved text at (at + 0) (spelling_of (parts_from symbols ts)) (omega arith) s
kinds_passed text (suc n) at [] ts h s = absurd (true_not_false h refl)
kinds_passed text (suc n) at (Kind k ∷ symbols) ts h s =
    moved text (at + 1 + n) (at + suc n) (spelling_of (parts_from (rest_of n symbols) ts)) (omega arith) (kinds_passed text n (at + 1) symbols ts h s.1)
kinds_passed text (suc n) at (Left left ∷ symbols) ts h s = absurd (true_not_false h refl)

-- the trees alone
pub ahead : {text : CText} {lefts : List ℕ} {a : Ahead} → IsDueIn text lefts a → IsDue lefts a
ahead d = record { left = d.left; is_one = d.is_one; due = d.due.due }

row_tokens : (text : CText) (left row : ℕ) (a b : Ahead) → AreDueIn text (Left left ∷ []) a → TakesRow a b row → AreDueIn text (row_symbols row) b
unfolding is_one_of
row_tokens text left row a b d t =
    let parts : Parts = parts_from (row_symbols row) (trees b) in
    let here : HasTokens text a.at (spelling_of parts) =
    subst (λ (ts : List Tree). HasTokens text a.at (spelling (first_tree ts))) t.trees_are (alone text a.at (first_tree (trees a)) d.tokens) in
    record { due = rows.taken row (let one : IsDue (left ∷ []) a = record { left = left; is_one = among_one left; due = d.due } in one) t refl; tokens = moved text a.at b.at (spelling_of parts) (sym t.at_is) here }

-- the symbols of the row with this number are due, which was taken
pub taken : {text : CText} {lefts : List ℕ} {row : ℕ} {a b : Ahead} (k : ℕ) → IsDueIn text lefts a → TakesRow a b row → row ≡ k → AreDueIn text (row_symbols k) b
taken {text = text} {row = row} {a = a} {b = b} k d t is = subst (λ (i : ℕ). AreDueIn text (row_symbols i) b) is (row_tokens text d.left row a b d.due t)

-- so many tokens were passed
pub passed : {text : CText} {symbols : List Symbol} {a b : Ahead} (n : ℕ) → AreDueIn text symbols a → Passes a b n → are_kinds n symbols ≡ true
    → AreDueIn text (rest_of n symbols) b
passed {text} {symbols} {a} {b} n d p h =
    let same : trees b ≡ trees a = ap trees_of p.nodes_are in
    let kinds : HasTokens text (a.at + n) (spelling_of (parts_from (rest_of n symbols) (trees a))) = kinds_passed text n a.at symbols (trees a) h d.tokens in
    let here : HasTokens text (a.at + n) (spelling_of (parts_from (rest_of n symbols) (trees b))) =
    subst (λ (ts : List Tree). HasTokens text (a.at + n) (spelling_of (parts_from (rest_of n symbols) ts))) (sym same) kinds in
    record { due = rows.passed n d.due p h; tokens = moved text (a.at + n) b.at (spelling_of (parts_from (rest_of n symbols) (trees b))) (sym p.at_is) here }

left_behind : (text : CText) (symbols : List Symbol) (a b : Ahead) → HasTokens text a.at (spelling_of (parts_from symbols (trees a))) → trees b ≡ later_trees (trees a)
    → b.at ≡ a.at + width (first_tree (trees a)) → begins_left symbols ≡ true → HasTokens text b.at (spelling_of (parts_from (rest_of 1 symbols) (trees b)))
left_behind text [] a b s trees_are at_is h = absurd (true_not_false h refl)
left_behind text (Kind k ∷ symbols) a b s trees_are at_is h = absurd (true_not_false h refl)
left_behind text (Left left ∷ symbols) a b s trees_are at_is h =
    let t : Tree = first_tree (trees a) in
    let rest = split text a.at (spelling t) (spelling_of (parts_from symbols (later_trees (trees a)))) s in
    let to : a.at + length (spelling t) ≡ b.at = ap (λ n. a.at + n) (sym (width_spelled t)) ∙ sym at_is in
    subst (λ (ts : List Tree). HasTokens text b.at (spelling_of (parts_from symbols ts))) (sym trees_are)
    (moved text (a.at + length (spelling t)) b.at (spelling_of (parts_from symbols (later_trees (trees a)))) to rest.back)

-- a tree was read
pub behind : {text : CText} {X : Type 0} {symbols : List Symbol} {meaning : Placed → X} {a b : Ahead} {value : X} → AreDueIn text symbols a → Reads meaning a b value
    → begins_left symbols ≡ true → AreDueIn text (rest_of 1 symbols) b
behind {text = text} {symbols = symbols} {a = a} {b = b} d r h =
    record { due = rows.behind d.due r h; tokens = left_behind text symbols a b d.tokens r.trees_are r.at_is h }

first_due : (text : CText) (lefts : List ℕ) (symbols : List Symbol) (a : Ahead) → AreDueIn text symbols a → begins_among lefts symbols ≡ true → IsDueIn text lefts a
unfolding is_one_of
first_due text lefts [] a d h = absurd (true_not_false h refl)
first_due text lefts (Kind k ∷ symbols) a d h = absurd (true_not_false h refl)
first_due text lefts (Left left ∷ symbols) a d h =
    let t : Tree = first_tree (trees a) in
    let front : HasTokens text a.at (spelling t) = (split text a.at (spelling t) (spelling_of (parts_from symbols (later_trees (trees a)))) d.tokens).front in
    record {
      left = left;
      is_one = h;
      due = record {
        due = record { derived = (d.due.derived.0, tt); fits = omega (arith, d.due.fits) };
        tokens = subst (HasTokens text a.at) (sym (append-nil (spelling t))) front;
      };
    }

-- the first of several trees is due
pub due : {text : CText} {lefts : List ℕ} {symbols : List Symbol} {a : Ahead} → AreDueIn text symbols a → begins_among lefts symbols ≡ true → IsDueIn text lefts a
due {text} {lefts} {symbols} {a} d h = first_due text lefts symbols a d h

-- a tree of some nonterminals is one of more
pub wider : {text : CText} {lefts more : List ℕ} {a : Ahead} → IsDueIn text lefts a → list_all (is_among more) lefts ≡ true → IsDueIn text more a
unfolding is_one_of
wider {lefts = lefts} {more = more} d h = record { left = d.left; is_one = among_passes (is_among more) lefts d.left h d.is_one; due = d.due }

-- whether the first symbol is one of these kinds
abbrev pub begins_kind : List ℕ → List Symbol → Bool
begins_kind kinds [] = false
begins_kind kinds (Kind k ∷ symbols) = is_among kinds k
begins_kind kinds (Left left ∷ symbols) = false

first_token : (text : CText) (kinds : List ℕ) (symbols : List Symbol) (a : Ahead) → HasTokens text a.at (spelling_of (parts_from symbols (trees a))) → begins_kind kinds symbols ≡ true
    → HasOneOf text a.at kinds
unfolding HasTokens
first_token text kinds [] a s h = absurd (true_not_false h refl)
first_token text kinds (Kind k ∷ symbols) a s h = record { kind = k; is_one = h; has = s.0 }
first_token text kinds (Left left ∷ symbols) a s h = absurd (true_not_false h refl)

-- the token that is due is of one of these kinds
pub token_due : {text : CText} {kinds : List ℕ} {symbols : List Symbol} {a : Ahead} {at : ℕ} → AreDueIn text symbols a → at ≡ a.at → begins_kind kinds symbols ≡ true → HasOneOf text at kinds
token_due {text} {kinds} {symbols} {a} d is h = subst (λ (i : ℕ). HasOneOf text i kinds) (sym is) (first_token text kinds symbols a d.tokens h)

there : (text : CText) (from at : ℕ) (kinds : List ℕ) → HasTokens text from kinds → from ≤ at → at < from + length kinds → IsThere text at
unfolding HasTokens
there text from at [] s low high = absurd (omega (arith, low, high))
there text from at (k ∷ kinds) s low high = elim (nat_cases from at) [ inl e ↦ record { kind = k; has = subst (λ (i : ℕ). HasToken text i k) e s.0 } | inr other ↦ there text (from + 1) at kinds s.1 (omega (arith, low, other)) (omega (arith, high)) ]
  where
    nat_cases : (m n : ℕ) → (m ≡ n) ⊎ (m ≢ n)
    nat_cases m n = by_test (m == n) refl
      where
        by_test : (b : Bool) → (m == n) ≡ b → (m ≡ n) ⊎ (m ≢ n)
        by_test true e = inl (eqb-true m n e)
        by_test false e = inr (λ same. true_not_false (eq-eqb m n same) e)

-- the tokens of a front of what is due stand in the text
pub front_there : {text : CText} {symbols : List Symbol} {a : Ahead} (first end : ℕ) → AreDueIn text symbols a → first ≡ a.at
    → end ≤ a.at + width_of (parts_from symbols (trees a)) → AreThere text first end
front_there {text} {symbols} {a} first end d is inside at low high =
    let parts : Parts = parts_from symbols (trees a) in
    there text a.at at (spelling_of parts) d.tokens (omega (arith, low, is)) (omega (arith, high, inside, width_of_spelled parts))

-- all of them do
pub all_there : {text : CText} {symbols : List Symbol} {a : Ahead} (first end : ℕ) → AreDueIn text symbols a → first ≡ a.at
    → end ≡ a.at + width_of (parts_from symbols (trees a)) → AreThere text first end
all_there {text} {symbols} {a} first end d is inside = front_there first end d is (omega (arith, inside))

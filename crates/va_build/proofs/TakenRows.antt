-- From a row that was taken to what its tree stands for.
use Rattle.std.specs.Prelude.{◌≡◌, ◌+◌, ◌≤◌, ℕ, List, [], ◌∷◌, ◌++◌, length, refl}
use Rattle.std.proofs.Common.{ap, sym, ◌∙◌, subst, arith}
use Rattle.predict.specs.declared.symbol.Symbol.{Symbol}
use Rattle.predict.specs.Tree.{Tree, node, no_parts}
use Rattle.va_build.specs.Reading.{row_symbols, Ahead, TakesRow, Reads, ReadsOn, first_tree, later_trees, parts_from, trees_behind, trees}
use Rattle.va_build.specs.Width.{width, width_of}

-- a tree of a row with these symbols was read
pub read_row : {X : Type 0} (meaning : ℕ → Tree → X) (before middle after : Ahead) (row : ℕ) (symbols : List Symbol) (value : X) → TakesRow before middle row → row_symbols row ≡ symbols
    → value ≡ meaning before.at (node row (parts_from symbols (trees middle)))
    → trees after ≡ trees_behind symbols (trees middle)
    → after.at ≡ middle.at + width_of (parts_from symbols (trees middle))
    → length after.nodes ≤ length middle.nodes
    → Reads meaning before after value
read_row {X} meaning before middle after row symbols value t is v r w n =
    let shape : trees before ≡ node row (parts_from symbols (trees middle)) ∷ trees_behind symbols (trees middle) = subst (λ (s : List Symbol). trees before ≡ node row (parts_from s (trees middle)) ∷ trees_behind s (trees middle)) is t.trees_are in
    record {
      value_is = v ∙ sym (ap (λ (ts : List Tree). meaning before.at (first_tree ts)) shape);
      trees_are = r ∙ sym (ap later_trees shape);
      at_is = w ∙ ap (λ (i : ℕ). i + width_of (parts_from symbols (trees middle))) t.at_is ∙ sym (ap (λ (ts : List Tree). before.at + width (first_tree ts)) shape);
      fewer = omega (arith, t.fewer, n);
    }

-- a tree of the row with this number was read
pub read : {X : Type 0} (meaning : ℕ → Tree → X) (before middle after : Ahead) (row k : ℕ) (value : X) → TakesRow before middle row → row ≡ k
    → value ≡ meaning before.at (node k (parts_from (row_symbols k) (trees middle)))
    → trees after ≡ trees_behind (row_symbols k) (trees middle)
    → after.at ≡ middle.at + width_of (parts_from (row_symbols k) (trees middle))
    → length after.nodes ≤ length middle.nodes
    → Reads meaning before after value
read meaning before middle after row k value t is v r w n = read_row meaning before middle after k (row_symbols k) value (subst (TakesRow before middle) is t) refl v r w n

pub begun : {X : Type 0} (all : ℕ → Tree → X) (before : Ahead) → ReadsOn all all before before
begun all before = record { value_is = refl; trees_are = refl; at_is = refl; fewer = omega arith }

-- a list goes on by a row with these symbols, of which the last subtree is left to read
pub reads_on : {X : Type 0} (rest rest' all : ℕ → Tree → X) (start before middle after : Ahead) (row : ℕ) (symbols : List Symbol) → ReadsOn rest all start before → TakesRow before middle row → row_symbols row ≡ symbols
    → rest' after.at (first_tree (trees after)) ≡ rest before.at (node row (parts_from symbols (trees middle)))
    → later_trees (trees after) ≡ trees_behind symbols (trees middle)
    → after.at + width (first_tree (trees after)) ≡ middle.at + width_of (parts_from symbols (trees middle))
    → length after.nodes ≤ length middle.nodes
    → ReadsOn rest' all start after
reads_on {X} rest rest' all start before middle after row symbols on t is v r w n =
    let shape : trees before ≡ node row (parts_from symbols (trees middle)) ∷ trees_behind symbols (trees middle) = subst (λ (s : List Symbol). trees before ≡ node row (parts_from s (trees middle)) ∷ trees_behind s (trees middle)) is t.trees_are in
    record {
      value_is = v ∙ sym (ap (λ (ts : List Tree). rest before.at (first_tree ts)) shape) ∙ on.value_is;
      trees_are = r ∙ sym (ap later_trees shape) ∙ on.trees_are;
      at_is = w ∙ ap (λ (i : ℕ). i + width_of (parts_from symbols (trees middle))) t.at_is ∙ sym (ap (λ (ts : List Tree). before.at + width (first_tree ts)) shape) ∙ on.at_is;
      fewer = omega (arith, t.fewer, n, on.fewer);
    }

-- a list ends with an empty row
pub read_end : {X : Type 0} (rest all : ℕ → Tree → X) (start before after : Ahead) (row : ℕ) (value : X) → ReadsOn rest all start before → TakesRow before after row → row_symbols row ≡ []
    → value ≡ rest before.at (node row no_parts)
    → Reads all start after value
read_end {X} rest all start before after row value on t is v =
    let shape : trees before ≡ node row no_parts ∷ trees after = subst (λ (s : List Symbol). trees before ≡ node row (parts_from s (trees after)) ∷ trees_behind s (trees after)) is t.trees_are in
    record {
      value_is = v ∙ sym (ap (λ (ts : List Tree). rest before.at (first_tree ts)) shape) ∙ on.value_is;
      trees_are = sym (ap later_trees shape) ∙ on.trees_are;
      at_is = t.at_is ∙ omega arith ∙ sym (ap (λ (ts : List Tree). before.at + width (first_tree ts)) shape) ∙ on.at_is;
      fewer = omega (arith, t.fewer, on.fewer);
    }

-- a list goes on by the row with this number
pub reads_on_row : {X : Type 0} (rest rest' all : ℕ → Tree → X) (start before middle after : Ahead) (row k : ℕ) → ReadsOn rest all start before → TakesRow before middle row → row ≡ k
    → rest' after.at (first_tree (trees after)) ≡ rest before.at (node k (parts_from (row_symbols k) (trees middle)))
    → later_trees (trees after) ≡ trees_behind (row_symbols k) (trees middle)
    → after.at + width (first_tree (trees after)) ≡ middle.at + width_of (parts_from (row_symbols k) (trees middle))
    → length after.nodes ≤ length middle.nodes
    → ReadsOn rest' all start after
reads_on_row rest rest' all start before middle after row k on t is v r w n = reads_on rest rest' all start before middle after k (row_symbols k) on (subst (TakesRow before middle) is t) refl v r w n

-- a list ends with the row of this number, which is empty
pub read_end_row : {X : Type 0} (rest all : ℕ → Tree → X) (start before after : Ahead) (row k : ℕ) (value : X) → ReadsOn rest all start before → TakesRow before after row → row ≡ k → row_symbols k ≡ []
    → value ≡ rest before.at (node k no_parts)
    → Reads all start after value
read_end_row rest all start before after row k value on t is empty v = read_end rest all start before after k value on (subst (TakesRow before after) is t) empty v

pub pushed : {X : Type 0} (old new more more' : List X) (x x' : X) → new ≡ old ++ x ∷ [] → x ≡ x' → more ≡ more' → new ++ more ≡ old ++ (x' ∷ more')
pushed {X} old new more more' x x' h p q = ap (λ (l : List X). l ++ more) h ∙ append_one old more x ∙ (λ j. old ++ (p j ∷ q j))
  where
    append_one : (l m : List X) (y : X) → (l ++ y ∷ []) ++ m ≡ l ++ (y ∷ m)
    append_one [] m y = refl
    append_one (z ∷ l) m y = ap (λ (r : List X). z ∷ r) (append_one l m y)

pub pushed_list : {X : Type 0} (old new more more' one : List X) (x : X) → new ≡ old ++ x ∷ [] → x ∷ [] ≡ one → more ≡ more' → new ++ more ≡ old ++ (one ++ more')
pushed_list {X} old new more more' one x h p q = pushed old new more more' x x h refl q ∙ ap (λ (l : List X). old ++ (l ++ more')) p

pub nothing_behind : {X : Type 0} (xs : List X) → xs ≡ xs ++ []
nothing_behind [] = refl
nothing_behind {X} (x ∷ xs) = ap (λ (r : List X). x ∷ r) (nothing_behind xs)

-- what the next tree says by its row alone
pub told : {X : Type 0} (say : Tree → X) (before middle : Ahead) (row k : ℕ) (value : X) → TakesRow before middle row → row ≡ k → value ≡ say (node k (parts_from (row_symbols k) (trees middle))) → value ≡ say (first_tree (trees before))
told {X} say before middle row k value t is v =
    let taken : TakesRow before middle k = subst (TakesRow before middle) is t in
    v ∙ sym (ap (λ (ts : List Tree). say (first_tree ts)) taken.trees_are)

-- nothing was read of one list
pub skipped : {X : Type 0} (old more more' one : List X) → one ≡ [] → more ≡ more' → old ++ more ≡ old ++ (one ++ more')
skipped {X} old more more' one p q = ap (λ (l : List X). old ++ l) (q ∙ sym (ap (λ (l : List X). l ++ more') p))

-- a list was read behind another
pub appended : {X : Type 0} (old new more more' one one' : List X) → new ≡ old ++ one → one ≡ one' → more ≡ more' → new ++ more ≡ old ++ (one' ++ more')
appended {X} old new more more' one one' h p q = ap (λ (l : List X). l ++ more) h ∙ together old one more ∙ (λ j. old ++ (p j ++ q j))
  where
    together : (k l m : List X) → (k ++ l) ++ m ≡ k ++ (l ++ m)
    together [] l m = refl
    together (x ∷ k) l m = ap (λ (r : List X). x ∷ r) (together k l m)

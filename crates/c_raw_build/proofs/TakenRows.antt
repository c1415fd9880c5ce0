-- From a row that was taken to what its tree stands for.
use Rattle.std.specs.Prelude.{◌≡◌, ◌+◌, ◌≤◌, ℕ, List, [], ◌∷◌, ◌++◌, length, map, Bool, true, ◌&&◌, refl}
use Rattle.std.specs.List.{list_all}
use Rattle.std.proofs.lemmas.Bool.{and_parts}
use Rattle.std.proofs.Common.{ap, sym, ◌∙◌, subst, arith}
use Rattle.predict.specs.Tree.{Tree}
use Rattle.c_raw_build.specs.Placed.{Placed, width, width_of}
use Rattle.c_raw_build.specs.Reading.{placed, of_row, last_of_row, ReadsElement, row_symbols, Ahead, TakesRow, Reads, ReadsOn, first_tree, later_trees, parts_from, trees_behind, trees, next_tree}

-- a tree of the row with this number was read
pub read : {X : Type 0} (meaning : Placed → X) (before middle after : Ahead) (row k : ℕ) (value : X) → TakesRow before middle row → row ≡ k
    → value ≡ meaning (of_row before.at k middle)
    → trees after ≡ trees_behind (row_symbols k) (trees middle)
    → after.at ≡ middle.at + width_of (parts_from (row_symbols k) (trees middle))
    → length after.nodes ≤ length middle.nodes
    → Reads meaning before after value
read {X} meaning before middle after row k value taken is v r w n =
    let t : TakesRow before middle k = subst (TakesRow before middle) is taken in
    record {
      value_is = v ∙ sym (ap (λ (ts : List Tree). meaning (placed before.at (first_tree ts))) t.trees_are);
      trees_are = r ∙ sym (ap later_trees t.trees_are);
      at_is = w ∙ ap (λ (i : ℕ). i + width_of (parts_from (row_symbols k) (trees middle))) t.at_is ∙ sym (ap (λ (ts : List Tree). before.at + width (first_tree ts)) t.trees_are);
      fewer = omega (arith, t.fewer, n);
    }

-- a list goes on by the row with this number, of which the last subtree is left to read
pub reads_on_row : {X : Type 0} (rest rest' all : Placed → X) (start before middle after : Ahead) (row k : ℕ) → ReadsOn rest all start before → TakesRow before middle row → row ≡ k
    → rest' (next_tree after) ≡ rest (of_row before.at k middle)
    → later_trees (trees after) ≡ trees_behind (row_symbols k) (trees middle)
    → after.at + width (first_tree (trees after)) ≡ middle.at + width_of (parts_from (row_symbols k) (trees middle))
    → length after.nodes ≤ length middle.nodes
    → ReadsOn rest' all start after
reads_on_row {X} rest rest' all start before middle after row k on taken is v r w n =
    let t : TakesRow before middle k = subst (TakesRow before middle) is taken in
    record {
      value_is = v ∙ sym (ap (λ (ts : List Tree). rest (placed before.at (first_tree ts))) t.trees_are) ∙ on.value_is;
      trees_are = r ∙ sym (ap later_trees t.trees_are) ∙ on.trees_are;
      at_is = w ∙ ap (λ (i : ℕ). i + width_of (parts_from (row_symbols k) (trees middle))) t.at_is ∙ sym (ap (λ (ts : List Tree). before.at + width (first_tree ts)) t.trees_are) ∙ on.at_is;
      fewer = omega (arith, t.fewer, n, on.fewer);
    }

-- a list ends with the row of this number
pub read_end_row : {X : Type 0} (rest all : Placed → X) (start before middle after : Ahead) (row k : ℕ) (value : X) → ReadsOn rest all start before → TakesRow before middle row → row ≡ k
    → value ≡ rest (of_row before.at k middle)
    → trees after ≡ trees_behind (row_symbols k) (trees middle)
    → after.at ≡ middle.at + width_of (parts_from (row_symbols k) (trees middle))
    → length after.nodes ≤ length middle.nodes
    → Reads all start after value
read_end_row {X} rest all start before middle after row k value on taken is v r w n =
    let t : TakesRow before middle k = subst (TakesRow before middle) is taken in
    record {
      value_is = v ∙ sym (ap (λ (ts : List Tree). rest (placed before.at (first_tree ts))) t.trees_are) ∙ on.value_is;
      trees_are = r ∙ sym (ap later_trees t.trees_are) ∙ on.trees_are;
      at_is = w ∙ ap (λ (i : ℕ). i + width_of (parts_from (row_symbols k) (trees middle))) t.at_is ∙ sym (ap (λ (ts : List Tree). before.at + width (first_tree ts)) t.trees_are) ∙ on.at_is;
      fewer = omega (arith, t.fewer, n, on.fewer);
    }

-- what is left to read, by its place and its first tree
pub next_is : {X : Type 0} (f : Placed → X) (a : Ahead) (at : ℕ) (t : Tree) → a.at ≡ at → first_tree (trees a) ≡ t → f (next_tree a) ≡ f (placed at t)
next_is f a at t p q = λ j. f (placed (p j) (q j))

-- the text of a list that is seen through a view, with one more element
pub pushed : {A X : Type 0} (view : A → X) (old new : List A) (a : A) (x : X) → new ≡ old ++ a ∷ [] → view a ≡ x → (more : List X) → map view new ++ more ≡ map view old ++ (x ∷ more)
pushed {A} {X} view old new a x h p more = ap (λ (l : List A). map view l ++ more) h ∙ append_one old ∙ (λ j. map view old ++ (p j ∷ more))
  where
    append_one : (l : List A) → map view (l ++ a ∷ []) ++ more ≡ map view l ++ (view a ∷ more)
    append_one [] = refl
    append_one (z ∷ l) = ap (λ (r : List X). view z ∷ r) (append_one l)

-- An element of a list was read by the row with this number, and pushed; the rest of the list comes next.
pub goes_on : {A X : Type 0} {all : Placed → List X} (view : A → X) (list : Placed → List X) (old new : List A) (a : A) (x : X) (start before middle after : Ahead) (row k : ℕ)
    → ReadsOn (λ p. map view old ++ list p) all start before → TakesRow before middle row → row ≡ k
    → list (of_row before.at k middle) ≡ x ∷ list (last_of_row before.at k middle)
    → new ≡ old ++ a ∷ [] → view a ≡ x
    → after.at ≡ (last_of_row before.at k middle).at → first_tree (trees after) ≡ (last_of_row before.at k middle).tree
    → later_trees (trees after) ≡ trees_behind (row_symbols k) (trees middle)
    → after.at + width (first_tree (trees after)) ≡ middle.at + width_of (parts_from (row_symbols k) (trees middle))
    → length after.nodes ≤ length middle.nodes
    → ReadsOn (λ p. map view new ++ list p) all start after
goes_on {A} {X} {all} view list old new a x start before middle after row k on taken is step h p i q r w n =
    let value : map view new ++ list (next_tree after) ≡ map view old ++ list (of_row before.at k middle) =
    ap (λ (l : List X). map view new ++ l) (next_is list after _ _ i q) ∙ pushed view old new a x h p (list (last_of_row before.at k middle)) ∙ sym (ap (λ (l : List X). map view old ++ l) step) in
    reads_on_row (λ p. map view old ++ list p) (λ p. map view new ++ list p) all start before middle after row k on taken is value r w n

-- A row without an element was read; the rest of the list comes next.
pub goes_past : {X : Type 0} {all : Placed → List X} (list : Placed → List X) (seen : List X) (start before middle after : Ahead) (row k : ℕ)
    → ReadsOn (λ p. seen ++ list p) all start before → TakesRow before middle row → row ≡ k
    → list (of_row before.at k middle) ≡ list (last_of_row before.at k middle)
    → after.at ≡ (last_of_row before.at k middle).at → first_tree (trees after) ≡ (last_of_row before.at k middle).tree
    → later_trees (trees after) ≡ trees_behind (row_symbols k) (trees middle)
    → after.at + width (first_tree (trees after)) ≡ middle.at + width_of (parts_from (row_symbols k) (trees middle))
    → length after.nodes ≤ length middle.nodes
    → ReadsOn (λ p. seen ++ list p) all start after
goes_past {X} {all} list seen start before middle after row k on taken is step i q r w n =
    let value : seen ++ list (next_tree after) ≡ seen ++ list (of_row before.at k middle) =
    ap (λ (l : List X). seen ++ l) (next_is list after _ _ i q ∙ sym step) in
    reads_on_row (λ p. seen ++ list p) (λ p. seen ++ list p) all start before middle after row k on taken is value r w n

-- A list ends with the row of this number.
pub ends : {X : Type 0} {all : Placed → List X} (list : Placed → List X) (seen : List X) (start before middle after : Ahead) (row k : ℕ)
    → ReadsOn (λ p. seen ++ list p) all start before → TakesRow before middle row → row ≡ k
    → list (of_row before.at k middle) ≡ []
    → trees after ≡ trees_behind (row_symbols k) (trees middle)
    → after.at ≡ middle.at + width_of (parts_from (row_symbols k) (trees middle))
    → length after.nodes ≤ length middle.nodes
    → Reads all start after seen
ends {X} {all} list seen start before middle after row k on taken is step r w n =
    let value : seen ≡ seen ++ list (of_row before.at k middle) = nothing_behind seen ∙ sym (ap (λ (l : List X). seen ++ l) step) in
    read_end_row (λ p. seen ++ list p) all start before middle after row k seen on taken is value r w n
  where
    nothing_behind : {X : Type 0} (xs : List X) → xs ≡ xs ++ []
    nothing_behind [] = refl
    nothing_behind {X} (x ∷ xs) = ap (λ (r : List X). x ∷ r) (nothing_behind xs)

-- the same, where a function read the element
pub element_read : {A X : Type 0} {all : Placed → List X} (view : A → X) (list : Placed → List X) (meaning : Placed → X) (old new : List A) (a : A) (start before middle after : Ahead) (row k : ℕ)
    → ReadsOn (λ p. map view old ++ list p) all start before → TakesRow before middle row → row ≡ k
    → list (of_row before.at k middle) ≡ meaning (of_row before.at k middle) ∷ list (last_of_row before.at k middle)
    → new ≡ old ++ a ∷ [] → ReadsElement k meaning middle after (view a)
    → ReadsOn (λ p. map view new ++ list p) all start after
element_read {A} {X} {all} view list meaning old new a start before middle after row k on taken is step h e =
    let t : TakesRow before middle k = subst (TakesRow before middle) is taken in
    let at_is : after.at ≡ (last_of_row before.at k middle).at = e.last_at_is ∙ ap (λ (i : ℕ). (last_of_row i k middle).at) t.at_is in
    let tree_is : first_tree (trees after) ≡ (last_of_row before.at k middle).tree = e.last_tree_is ∙ ap (λ (i : ℕ). (last_of_row i k middle).tree) t.at_is in
    goes_on view list old new a (meaning (of_row before.at k middle)) start before middle after row k on taken is step h
    (e.value_is ∙ ap (λ (i : ℕ). meaning (of_row i k middle)) t.at_is) at_is tree_is e.trees_are e.at_is e.fewer

-- The parts of a row but for the last subtree were read.
pub element : {X : Type 0} (meaning : Placed → X) (k : ℕ) (before after : Ahead) (value : X)
    → value ≡ meaning (of_row before.at k before)
    → after.at ≡ (last_of_row before.at k before).at → first_tree (trees after) ≡ (last_of_row before.at k before).tree
    → later_trees (trees after) ≡ trees_behind (row_symbols k) (trees before)
    → after.at + width (first_tree (trees after)) ≡ before.at + width_of (parts_from (row_symbols k) (trees before))
    → length after.nodes ≤ length before.nodes
    → ReadsElement k meaning before after value
element meaning k before after value v i q r w n = record { value_is = v; last_at_is = i; last_tree_is = q; trees_are = r; at_is = w; fewer = n }

-- what the next tree means is what the last subtree of its row does
pub same_behind : {X : Type 0} (f : Placed → X) (before middle after : Ahead) (row k : ℕ) → TakesRow before middle row → row ≡ k
    → f (of_row before.at k middle) ≡ f (last_of_row before.at k middle)
    → after.at ≡ (last_of_row before.at k middle).at → first_tree (trees after) ≡ (last_of_row before.at k middle).tree
    → f (next_tree after) ≡ f (next_tree before)
same_behind f before middle after row k taken is step i q =
    let t : TakesRow before middle k = subst (TakesRow before middle) is taken in
    next_is f after _ _ i q ∙ sym step ∙ sym (ap (λ (ts : List Tree). f (placed before.at (first_tree ts))) t.trees_are)

-- the same, where a function read the row but for this subtree
pub same_behind_element : {X Y : Type 0} (f : Placed → X) (meaning : Placed → Y) (before middle after : Ahead) (row k : ℕ) (value : Y) → TakesRow before middle row → row ≡ k
    → f (of_row before.at k middle) ≡ f (last_of_row before.at k middle)
    → ReadsElement k meaning middle after value
    → f (next_tree after) ≡ f (next_tree before)
same_behind_element f meaning before middle after row k value taken is step e =
    let t : TakesRow before middle k = subst (TakesRow before middle) is taken in
    same_behind f before middle after row k taken is step (e.last_at_is ∙ ap (λ (i : ℕ). (last_of_row i k middle).at) t.at_is) (e.last_tree_is ∙ ap (λ (i : ℕ). (last_of_row i k middle).tree) t.at_is)

-- a test that all elements of a list pass, with one more
pub all_pass : {A : Type 0} (test : A → Bool) (old new : List A) (a : A) → new ≡ old ++ a ∷ [] → list_all test old ≡ true → test a ≡ true → list_all test new ≡ true
all_pass {A} test old new a p h q = ap (list_all test) p ∙ go old h
  where
    go : (l : List A) → list_all test l ≡ true → list_all test (l ++ a ∷ []) ≡ true
    go [] h = ap (λ b. b && true) q
    go (x ∷ l) h =
        let parts = and_parts (test x) (list_all test l) h in
        ap (λ b. b && list_all test (l ++ a ∷ [])) parts.0 ∙ go l parts.1

pub map_same : {A : Type 0} (l : List A) → map (λ x. x) l ≡ l
map_same [] = refl
map_same {A} (x ∷ l) = ap (λ (m : List A). x ∷ m) (map_same l)

-- What trees of statements stand for is within the limits of what can be spelled.
use Rattle.std.proofs.Common.{◌≡◌, ◌≤◌, ◌+◌, ℕ, zero, suc, List, [], ◌∷◌, ◌++◌, refl, ap, sym, subst, ◌∙◌, arith}
use Rattle.std.specs.Prelude.{Bool, true}
use Rattle.std.specs.List.{list_all}
use Rattle.std.proofs.lemmas.Bool.{and_from}
use Rattle.std.proofs.lemmas.List.Folds.{list_all-append}
use Rattle.alg_laws.specs.declared.number.Ty.{Ty}
use Rattle.predict.specs.declared.symbol.Symbol.{Symbol}
use Rattle.predict.specs.declared.symbol.Symbol.TheVariants.{Kind, Left}
use Rattle.predict.specs.Tree.{Tree, Parts, node, no_parts, token, subtree}
use Rattle.predict.specs.FirstFit.{Written}
use Rattle.c_tree.specs.declared.body.CAtom.{CAtom}
use Rattle.c_tree.specs.declared.body.CStatement.{CStatement}
use Rattle.c_tree.specs.Blocks.{flat_of, HasBlocks}
use Rattle.c_tree.specs.Spelling.{is_unsigned, spells_field, spells_atom, spells_simple, spells_statement}
use Rattle.c_tree.specs.FileOf as given
use Rattle.c_tree.specs.FileOf.{test_of, block_in, before_test, behind_test, body_of}
use Rattle.c_tree.specs.Raw.{At, RawBlock, closed, simple, leave, choice, loop}
use Rattle.c_tree.proofs.Nesting.{block-flat}
use Rattle.c_raw_build.specs.Placed.{Placed, part, width}
use Rattle.c_raw_build.specs.RawAtoms.{field, placed_atom}
use Rattle.c_raw_build.specs.RawBodies.{declared, Target, of_field, of_pair, instance_target, set_target, simple_of, block_of, statement, if_rest, body_block}
use Rattle.c_raw_build.specs.RowNumbers.{statements_row, no_statements_row, constant_row, declared_row, assigned_row, if_row, for_row, set_model_row, set_instance_row, report_row, first_value_row, no_first_value_row, break_row, two_arms_row, field_target_row, collapse_target_row}
use Rattle.c_raw_build.specs.Words.{CText, word_at}
use Rattle.c_law_words.proofs.Derived.{Fit}
use Rattle.c_law_print_parses.proofs.Lefts.{field_name_left, statements_left, statement_left, first_value_left, if_rest_left, instance_target_left, right_left, atom_left, number_left}
use Rattle.c_law_words.proofs.Listed.{row_list}
use Rattle.c_law_words.proofs.Pieces.{◌▹◌}
use Rattle.c_law_spelled.proofs.Rows.{IsOf, IsRow, symbols_in, sub, tok, behind, by_rows}
use Rattle.c_raw_build.proofs.NameNumbers.{name_value}
use Rattle.c_law_spelled.proofs.Atoms.{first_place, number_spelled, field_spelled, atom_spelled, right_spelled}

-- each number of a target is within the limits
abbrev target_fits : Target → Bool
target_fits (of_field f) = spells_field f
target_fits (of_pair pair) = is_unsigned pair

set_spelled : (at : ℕ) (target : Target) (value : At CAtom) → target_fits target ≡ true → spells_atom value.value ≡ true
    → spells_simple (given.simple_of (set_target at target value)) ≡ true
set_spelled at (of_field f) value h a = and_from (spells_field f) (spells_atom value.value) h a
set_spelled at (of_pair pair) value h a = and_from (is_unsigned pair) (spells_atom value.value) h a

-- a statement without blocks that can be spelled
abbrev IsSimple : CText → Placed → Type 0
IsSimple text p = spells_simple (given.simple_of (simple_of text p)) ≡ true

module _ {text : CText} where
  declared_spelled : (ty : Ty) (local : At ℕ) → is_unsigned local.value ≡ true → (p : Placed) → IsOf text first_value_left p
      → spells_simple (given.simple_of (declared text ty local p)) ≡ true
  unfolding row_list declared
  declared_spelled ty local h p o =
      by_rows (λ q. spells_simple (given.simple_of (declared text ty local q)) ≡ true) first_value_left (first_value_row ∷ no_first_value_row ∷ []) p refl o
      ((λ at parts r. and_from (is_unsigned local.value) _ h (atom_spelled _ (sub first_value_row 0 atom_left _ refl r)))
      ▹ (λ at parts r. h) ▹ tt)

  target_spelled : (p : Placed) → IsOf text instance_target_left p → target_fits (instance_target text p) ≡ true
  unfolding row_list instance_target
  target_spelled p o =
      by_rows (λ q. target_fits (instance_target text q) ≡ true) instance_target_left (field_target_row ∷ collapse_target_row ∷ []) p refl o
      ((λ at parts r. field_spelled _ (sub field_target_row 0 field_name_left _ refl r))
      ▹ (λ at parts r. number_spelled _ (sub collapse_target_row 0 number_left _ refl r)) ▹ tt)

  constant_spelled : (at : ℕ) (parts : Parts) → IsRow text constant_row (record { at = at; tree = node constant_row parts }) → IsSimple text (record { at = at; tree = node constant_row parts })
  unfolding row_list simple_of
  constant_spelled at parts r =
      and_from (is_unsigned _) _ (name_value 12 _ refl refl refl (behind constant_row 0 0 12 _ _ refl (first_place _) r)) (right_spelled _ (sub constant_row 1 right_left _ refl r))

  declares_spelled : (at : ℕ) (parts : Parts) → IsRow text declared_row (record { at = at; tree = node declared_row parts }) → IsSimple text (record { at = at; tree = node declared_row parts })
  unfolding row_list simple_of
  declares_spelled at parts r =
      declared_spelled _ _ (name_value 12 _ refl refl refl (behind declared_row 0 0 12 _ _ refl (first_place _) r)) _ (sub declared_row 1 first_value_left _ refl r)

  assigned_spelled : (at : ℕ) (parts : Parts) → IsRow text assigned_row (record { at = at; tree = node assigned_row parts }) → IsSimple text (record { at = at; tree = node assigned_row parts })
  unfolding row_list simple_of
  assigned_spelled at parts r =
      and_from (is_unsigned _) _ (name_value 12 (word_at text at) refl refl refl (tok assigned_row 0 12 at _ refl (first_place at) r)) (atom_spelled _ (sub assigned_row 0 atom_left _ refl r))

  set_model_spelled : (at : ℕ) (parts : Parts) → IsRow text set_model_row (record { at = at; tree = node set_model_row parts }) → IsSimple text (record { at = at; tree = node set_model_row parts })
  unfolding row_list simple_of
  set_model_spelled at parts r =
      and_from (spells_field (field text (part 0 (record { at = at; tree = node set_model_row parts })))) _ (field_spelled _ (sub set_model_row 0 field_name_left _ refl r)) (atom_spelled _ (sub set_model_row 1 atom_left _ refl r))

  set_instance_spelled : (at : ℕ) (parts : Parts) → IsRow text set_instance_row (record { at = at; tree = node set_instance_row parts }) → IsSimple text (record { at = at; tree = node set_instance_row parts })
  unfolding row_list simple_of
  set_instance_spelled at parts r =
      set_spelled at (instance_target text (part 0 (record { at = at; tree = node set_instance_row parts })))
      (placed_atom text (part 1 (record { at = at; tree = node set_instance_row parts }))) (target_spelled _ (sub set_instance_row 0 instance_target_left _ refl r)) (atom_spelled _ (sub set_instance_row 1 atom_left _ refl r))

  report_spelled : (at : ℕ) (parts : Parts) → IsRow text report_row (record { at = at; tree = node report_row parts }) → IsSimple text (record { at = at; tree = node report_row parts })
  unfolding row_list simple_of
  report_spelled at parts r = number_spelled _ (sub report_row 0 number_left _ refl r)

-- each number of a block is within the limits
abbrev pub Fits : RawBlock → Type 0
Fits (closed at) = Unit {0}
Fits (simple s rest) = (spells_simple (given.simple_of s) ≡ true) × Fits rest
Fits (leave at a rest) = (spells_atom a.value ≡ true) × Fits rest
Fits (choice a x y rest) = (spells_atom a.value ≡ true) × Fits x × Fits y × Fits rest
Fits (loop x rest) = Fits x × Fits rest

-- how many rows a tree has
abbrev mutual
  weight : Tree → ℕ
  weight (node row parts) = suc (weight_of parts)

  weight_of : Parts → ℕ
  weight_of no_parts = 0
  weight_of (token k parts) = weight_of parts
  weight_of (subtree t parts) = weight t + weight_of parts

-- the subtree with this place
abbrev tree_in : Parts → ℕ → Tree
tree_in no_parts i = node 0 no_parts
tree_in (token k parts) i = tree_in parts i
tree_in (subtree t parts) zero = t
tree_in (subtree t parts) (suc i) = tree_in parts i

-- the parts of a row with these subtrees
abbrev filled : List Symbol → (ℕ → Tree) → Parts
filled [] trees = no_parts
filled (Kind k ∷ symbols) trees = token k (filled symbols trees)
filled (Left left ∷ symbols) trees = subtree (trees 0) (filled symbols (λ i. trees (suc i)))

filled_is : (rows : List Written) (symbols : List Symbol) (parts : Parts) → Fit rows symbols parts → parts ≡ filled symbols (tree_in parts)
filled_is rows [] no_parts f = refl
filled_is rows (Kind k ∷ symbols) (token j parts) f = λ i. token (f.0 i) (filled_is rows symbols parts f.1 i)
filled_is rows (Left left ∷ symbols) (subtree t parts) f = ap (subtree t) (filled_is rows symbols parts f.1)
filled_is rows [] (token j parts) f = absurd f
filled_is rows [] (subtree t parts) f = absurd f
filled_is rows (Kind k ∷ symbols) no_parts f = absurd f
filled_is rows (Kind k ∷ symbols) (subtree t parts) f = absurd f
filled_is rows (Left left ∷ symbols) no_parts f = absurd f
filled_is rows (Left left ∷ symbols) (token j parts) f = absurd f

-- a fact on a row, where its parts are written out
as_filled : {text : CText} (k at : ℕ) (parts : Parts) (P : Parts → Type 0) → IsRow text k (record { at = at; tree = node k parts })
    → (IsRow text k (record { at = at; tree = node k (filled (symbols_in k) (tree_in parts)) }) → P (filled (symbols_in k) (tree_in parts))) → P parts
as_filled {text} k at parts P r h =
    let same : parts ≡ filled (symbols_in k) (tree_in parts) = filled_is row_list (symbols_in k) parts r.fit in
    subst P (sym same) (h (subst (λ l. IsRow text k (record { at = at; tree = node k l })) same r))

moved : {text : CText} (left at to : ℕ) (t : Tree) → at ≡ to → IsOf text left (record { at = at; tree = t }) → IsOf text left (record { at = to; tree = t })
moved {text} left at to t e o = subst (λ i. IsOf text left (record { at = i; tree = t })) e o

module _ {text : CText} where
  mutual
    unfolding row_list

    block_fits : (n last at : ℕ) (t : Tree) → weight t ≤ n → IsOf text statements_left (record { at = at; tree = t }) → Fits (block_of text last at t)
    block_fits zero last at (node row parts) w o = absurd (omega (arith, w))
    block_fits (suc n) last at t w o =
        by_rows (λ q. weight q.tree ≤ suc n → Fits (block_of text last q.at q.tree)) statements_left (statements_row ∷ no_statements_row ∷ [])
        (record { at = at; tree = t }) refl o
        ((λ at parts r. as_filled statements_row at parts (λ l. suc (weight_of l) ≤ suc n → Fits (block_of text last at (node statements_row l))) r
        (λ f w.
        let first = tree_in parts 0 in
        let rest = tree_in parts 1 in
        let room : suc (weight first + (weight rest + 0)) ≤ suc n = w in
        statement_fits n at first (block_of text last (at + width first) rest) (omega (arith, room)) (sub statements_row 0 statement_left _ refl f)
        (block_fits n last (at + width first) rest (omega (arith, room)) (sub statements_row 1 statements_left _ refl f))))
        ▹ (λ at parts r. as_filled no_statements_row at parts (λ l. suc (weight_of l) ≤ suc n → Fits (block_of text last at (node no_statements_row l))) r (λ f w. tt)) ▹ tt) w

    statement_fits : (n at : ℕ) (t : Tree) (rest : RawBlock) → weight t ≤ n → IsOf text statement_left (record { at = at; tree = t }) → Fits rest
        → Fits (statement text at t rest)
    statement_fits zero at (node row parts) rest w o h = absurd (omega (arith, w))
    statement_fits (suc n) at t rest w o h =
        by_rows (λ q. weight q.tree ≤ suc n → Fits (statement text q.at q.tree rest)) statement_left
        (constant_row ∷ declared_row ∷ assigned_row ∷ if_row ∷ for_row ∷ set_model_row ∷ set_instance_row ∷ report_row ∷ [])
        (record { at = at; tree = t }) refl o
        ((λ at parts r. as_filled constant_row at parts (λ l. suc (weight_of l) ≤ suc n → Fits (statement text at (node constant_row l) rest)) r
        (λ f w. (constant_spelled at _ f, h)))
        ▹ (λ at parts r. as_filled declared_row at parts (λ l. suc (weight_of l) ≤ suc n → Fits (statement text at (node declared_row l) rest)) r
        (λ f w. (declares_spelled at _ f, h)))
        ▹ (λ at parts r. as_filled assigned_row at parts (λ l. suc (weight_of l) ≤ suc n → Fits (statement text at (node assigned_row l) rest)) r
        (λ f w. (assigned_spelled at _ f, h)))
        ▹ (λ at parts r. as_filled if_row at parts (λ l. suc (weight_of l) ≤ suc n → Fits (statement text at (node if_row l) rest)) r
        (λ f w.
        let chosen = tree_in parts 0 in
        let room : suc (weight chosen + 0) ≤ suc n = w in
        if_fits n at chosen rest (omega (arith, room)) (moved if_rest_left (at + 1 + 1) (at + 2) chosen (omega arith) (sub if_row 0 if_rest_left _ refl f)) h))
        ▹ (λ at parts r. as_filled for_row at parts (λ l. suc (weight_of l) ≤ suc n → Fits (statement text at (node for_row l) rest)) r
        (λ f w.
        let body = tree_in parts 0 in
        let room : suc (weight body + 0) ≤ suc n = w in (
          block_fits n (at + 6 + width body) (at + 6) body (omega (arith, room))
              (moved statements_left (at + 1 + 1 + 1 + 1 + 1 + 1) (at + 6) body (omega arith) (sub for_row 0 statements_left _ refl f)),
          h,
        )))
        ▹ (λ at parts r. as_filled set_model_row at parts (λ l. suc (weight_of l) ≤ suc n → Fits (statement text at (node set_model_row l) rest)) r
        (λ f w. (set_model_spelled at _ f, h)))
        ▹ (λ at parts r. as_filled set_instance_row at parts (λ l. suc (weight_of l) ≤ suc n → Fits (statement text at (node set_instance_row l) rest)) r
        (λ f w. (set_instance_spelled at _ f, h)))
        ▹ (λ at parts r. as_filled report_row at parts (λ l. suc (weight_of l) ≤ suc n → Fits (statement text at (node report_row l) rest)) r
        (λ f w. (report_spelled at _ f, h))) ▹ tt) w

    if_fits : (n at : ℕ) (t : Tree) (rest : RawBlock) → weight t ≤ n → IsOf text if_rest_left (record { at = at + 2; tree = t }) → Fits rest
        → Fits (if_rest text at t rest)
    if_fits zero at (node row parts) rest w o h = absurd (omega (arith, w))
    if_fits (suc n) at t rest w o h =
        by_rows (λ q. q.at ≡ at + 2 → weight q.tree ≤ suc n → Fits (if_rest text at q.tree rest)) if_rest_left (break_row ∷ two_arms_row ∷ [])
        (record { at = at + 2; tree = t }) refl o
        ((λ to parts r. as_filled break_row to parts (λ l. to ≡ at + 2 → suc (weight_of l) ≤ suc n → Fits (if_rest text at (node break_row l) rest)) r
        (λ f e w.
        let test = tree_in parts 0 in
        let from : to + 1 ≡ at + 2 + 1 = omega (arith, e) in
        (atom_spelled _ (moved atom_left (to + 1) (at + 2 + 1) test from (sub break_row 0 atom_left _ refl f)), h)))
        ▹ (λ to parts r. as_filled two_arms_row to parts (λ l. to ≡ at + 2 → suc (weight_of l) ≤ suc n → Fits (if_rest text at (node two_arms_row l) rest)) r
        (λ f e w.
        let test = tree_in parts 0 in
        let first = tree_in parts 1 in
        let second = tree_in parts 2 in
        let room : suc (weight test + (weight first + (weight second + 0))) ≤ suc n = w in
        let one : to + width test + 1 + 1 ≡ at + 4 + width test = omega (arith, e) in
        let two : to + width test + 1 + 1 + width first + 1 + 1 + 1 ≡ at + 4 + width test + width first + 3 = omega (arith, e) in (
          atom_spelled _ (moved atom_left to (at + 2) test e (sub two_arms_row 0 atom_left _ refl f)),
          block_fits n (at + 4 + width test + width first) (at + 4 + width test) first (omega (arith, room))
              (moved statements_left (to + width test + 1 + 1) (at + 4 + width test) first one (sub two_arms_row 1 statements_left _ refl f)),
          block_fits n (at + 4 + width test + width first + 3 + width second) (at + 4 + width test + width first + 3) second (omega (arith, room))
              (moved statements_left (to + width test + 1 + 1 + width first + 1 + 1 + 1) (at + 4 + width test + width first + 3) second two
              (sub two_arms_row 2 statements_left _ refl f)),
          h,
        ))) ▹ tt) refl w

-- the flat list of a block
joined : (xs ys zs : List CStatement) → list_all spells_statement xs ≡ true → list_all spells_statement ys ≡ true → list_all spells_statement zs ≡ true
    → list_all spells_statement (xs ++ ys ++ zs) ≡ true
joined xs ys zs h g k =
    list_all-append spells_statement (xs ++ ys) zs
    ∙ and_from (list_all spells_statement (xs ++ ys)) (list_all spells_statement zs)
    (list_all-append spells_statement xs ys ∙ and_from (list_all spells_statement xs) (list_all spells_statement ys) h g) k

test_spelled : (b : RawBlock) → Fits b → spells_atom (test_of b) ≡ true
test_spelled (closed at) f = refl
test_spelled (simple s rest) f = test_spelled rest f.1
test_spelled (leave at a rest) f = f.0
test_spelled (choice a x y rest) f = test_spelled rest f.3
test_spelled (loop x rest) f = test_spelled rest f.1

mutual
  flat_spelled : (b : RawBlock) → Fits b → list_all spells_statement (flat_of (block_in b)) ≡ true
  flat_spelled (closed at) f = refl
  flat_spelled (simple s rest) f = and_from (spells_simple (given.simple_of s)) _ f.0 (flat_spelled rest f.1)
  flat_spelled (leave at a rest) f = flat_spelled rest f.1
  flat_spelled (choice a x y rest) f =
      and_from (spells_atom a.value) _ f.0
      (joined (flat_of (block_in x)) (flat_of (block_in y)) (flat_of (block_in rest)) (flat_spelled x f.1) (flat_spelled y f.2) (flat_spelled rest f.3))
  flat_spelled (loop x rest) f =
      and_from (spells_atom (test_of x)) _ (test_spelled x f.0)
      (joined (flat_of (before_test x)) (flat_of (behind_test x)) (flat_of (block_in rest)) (before_spelled x f.0) (behind_spelled x f.0) (flat_spelled rest f.1))

  before_spelled : (b : RawBlock) → Fits b → list_all spells_statement (flat_of (before_test b)) ≡ true
  before_spelled (closed at) f = refl
  before_spelled (simple s rest) f = and_from (spells_simple (given.simple_of s)) _ f.0 (before_spelled rest f.1)
  before_spelled (leave at a rest) f = refl
  before_spelled (choice a x y rest) f =
      and_from (spells_atom a.value) _ f.0
      (joined (flat_of (block_in x)) (flat_of (block_in y)) (flat_of (before_test rest)) (flat_spelled x f.1) (flat_spelled y f.2) (before_spelled rest f.3))
  before_spelled (loop x rest) f =
      and_from (spells_atom (test_of x)) _ (test_spelled x f.0)
      (joined (flat_of (before_test x)) (flat_of (behind_test x)) (flat_of (before_test rest)) (before_spelled x f.0) (behind_spelled x f.0) (before_spelled rest f.1))

  behind_spelled : (b : RawBlock) → Fits b → list_all spells_statement (flat_of (behind_test b)) ≡ true
  behind_spelled (closed at) f = refl
  behind_spelled (simple s rest) f = behind_spelled rest f.1
  behind_spelled (leave at a rest) f = flat_spelled rest f.1
  behind_spelled (choice a x y rest) f = behind_spelled rest f.3
  behind_spelled (loop x rest) f = behind_spelled rest f.1

-- the numbers of a body fit
pub body_blocks : (b : RawBlock) → HasBlocks (body_of b)
body_blocks b = ap flat_of (block-flat (block_in b))

-- the body of a tree of statements
pub body_spelled : {text : CText} (last : ℕ) (p : Placed) → IsOf text statements_left p → list_all spells_statement (body_of (body_block text last p)) ≡ true
unfolding body_block
body_spelled {text} last p o = flat_spelled (block_of text last p.at p.tree) (block_fits (weight p.tree) last p.at p.tree (omega arith) o)

-- What was read of statements, as what is left of the bodies in which they stand.
use Rattle.std.specs.Prelude.{◌≡◌, ◌+◌, ◌≤◌, ◌<◌, ℕ, List, [], ◌∷◌, ◌++◌, length, map, refl}
use Rattle.std.proofs.Common.{ap, sym, ◌∙◌, subst, arith}
use Rattle.predict.specs.Tree.{Tree, node, no_parts, subtree}
use Rattle.c_tree.specs.declared.body.CAtom.{CAtom}
use Rattle.c_raw.specs.declared.body.RawSimple.{RawSimple}
use Rattle.c_raw.specs.declared.body.RawStatement.{RawStatement}
use Rattle.c_raw.specs.declared.body.RawStatement.TheVariants.{Simple, Leave, If, For, End}
use Rattle.c_raw.specs.declared.token.At.{At}
use Rattle.c_raw.specs.Blocks.{at_view, simple_view}
use Rattle.c_raw_build.specs.Placed.{width, width_of}
use Rattle.c_raw_build.specs.RawAtoms.{placed_atom}
use Rattle.c_raw_build.specs.RawBodies.{simple_of}
use Rattle.c_raw_build.specs.Reading.{row_symbols, Ahead, TakesRow, Passes, Reads, placed, of_row, first_tree, later_trees, parts_from, trees_behind, trees}
use Rattle.c_raw_build.specs.Steps.{Step, of_simple, of_leave, of_if, of_for, of_end, step_view, steps, statement_steps, statements, left, trees_left, end_left, opened, turned, innermost_first, IsAlone, ReadsSimple, ReadsHead, BodyOn, before_more}
use Rattle.c_raw_build.specs.Words.{CText}
use Rattle.c_raw_build.proofs.TakenRows.{read, pushed}

-- a statement without blocks of the row with this number was read
pub alone_read : (text : CText) (before middle after : Ahead) (row k : ℕ) (s : RawSimple) → TakesRow before middle row → row ≡ k
    → simple_view s ≡ simple_of text (of_row before.at k middle)
    → trees after ≡ trees_behind (row_symbols k) (trees middle)
    → after.at ≡ middle.at + width_of (parts_from (row_symbols k) (trees middle))
    → length after.nodes ≤ length middle.nodes
    → IsAlone (node k (parts_from (row_symbols k) (trees middle)))
    → ReadsSimple text before after s
alone_read text before middle after row k s taken is v r w n alone =
    let t : TakesRow before middle k = subst (TakesRow before middle) is taken in
    record {
      reads = read (simple_of text) before middle after row k (simple_view s) taken is v r w n;
      alone = subst (λ (ts : List Tree). IsAlone (first_tree ts)) (sym t.trees_are) alone;
    }

-- a statement without blocks, in a body
pub simple_head : (text : CText) (before after : Ahead) (s : RawSimple) → ReadsSimple text before after s → ReadsHead text before after (Simple s)
simple_head text before after s r = record {
  value_is = λ more open_blocks. r.alone text before.at (left text more open_blocks (later_trees (trees before)) (before.at + width (first_tree (trees before))))
      ∙ (λ j. of_simple (sym r.reads.value_is j) ∷ left text more open_blocks (sym r.reads.trees_are j) (sym r.reads.at_is j));
  trees_are = λ open_blocks. ap (trees_left open_blocks) r.reads.trees_are;
  at_is = λ open_blocks j. end_left open_blocks (r.reads.trees_are j) (r.reads.at_is j);
  fewer = r.reads.fewer;
}

-- the body of a `for` comes next
pub for_head : (text : CText) (before middle after : Ahead) → TakesRow before middle 39 → Passes middle after 6 → ReadsHead text before after For
unfolding row_symbols
for_head text before middle after t p =
    let ts : List Tree = trees middle in
    let b : Tree = first_tree ts in
    let whole : Tree = node 39 (parts_from (row_symbols 39) ts) in
    let same : trees before ≡ whole ∷ later_trees ts = t.trees_are in
    let at : before.at + 6 ≡ after.at = omega (arith, t.at_is, p.at_is) in
    let behind : before.at + width whole ≡ after.at + width b + 1 = omega (arith, t.at_is, p.at_is) in
    let here : trees after ≡ ts = ap (λ nodes. trees (record { nodes = nodes; at = 0 })) p.nodes_are in
    record {
      value_is = λ more open_blocks. ap (λ (us : List Tree). statement_steps text before.at (first_tree us) (left text more open_blocks (later_trees us) (before.at + width (first_tree us)))) same
          ∙ (λ j. of_for ∷ steps text (at j) b (of_end (at j + width b) ∷ left text more open_blocks (later_trees ts) (behind j)))
          ∙ ap (λ (us : List Tree). of_for ∷ left text more (1 ∷ open_blocks) us after.at) (sym here);
      trees_are = λ open_blocks. ap (λ (us : List Tree). trees_left open_blocks (later_trees us)) here ∙ ap (λ (us : List Tree). trees_left open_blocks (later_trees us)) (sym same);
      at_is = λ open_blocks. ap (λ (us : List Tree). end_left (1 ∷ open_blocks) us after.at) here
          ∙ ap (end_left open_blocks (later_trees ts)) (sym behind)
          ∙ ap (λ (us : List Tree). end_left open_blocks (later_trees us) (before.at + width (first_tree us))) (sym same);
      fewer = subst (λ nodes. length nodes < length before.nodes) (sym p.nodes_are) t.fewer;
    }

-- a `break` was read, whose `if` stands first
pub break_head : (text : CText) (before outer inner middle atom after : Ahead) (test : At CAtom) → TakesRow before outer 38 → Passes outer inner 2 → TakesRow inner middle 45
    → Passes middle atom 1 → (read_atom : Ahead) → Reads (placed_atom text) atom read_atom (at_view test) → Passes read_atom after 5
    → ReadsHead text before after (Leave before.at test)
unfolding row_symbols
break_head text before outer inner middle atom after test t p u q read_atom a z =
    let ts : List Tree = trees middle in
    let chosen : Tree = node 45 (parts_from (row_symbols 45) ts) in
    let whole : Tree = node 38 (parts_from (row_symbols 38) (trees outer)) in
    let outer_is : trees outer ≡ chosen ∷ later_trees ts = sym (ap (λ nodes. trees (record { nodes = nodes; at = 0 })) p.nodes_are) ∙ u.trees_are in
    let same : trees before ≡ node 38 (parts_from (row_symbols 38) (chosen ∷ later_trees ts)) ∷ later_trees ts = t.trees_are ∙ ap (λ (us : List Tree). node 38 (parts_from (row_symbols 38) us) ∷ trees_behind (row_symbols 38) us) outer_is in
    let atom_is : trees atom ≡ ts = ap (λ nodes. trees (record { nodes = nodes; at = 0 })) q.nodes_are in
    let at : atom.at ≡ before.at + 2 + 1 = omega (arith, t.at_is, p.at_is, u.at_is, q.at_is) in
    let value : at_view test ≡ placed_atom text (placed (before.at + 2 + 1) (first_tree ts)) = a.value_is ∙ (λ j. placed_atom text (placed (at j) (first_tree (atom_is j)))) in
    let here : trees after ≡ later_trees ts = ap (λ nodes. trees (record { nodes = nodes; at = 0 })) z.nodes_are ∙ a.trees_are ∙ ap later_trees atom_is in
    let wide : width (first_tree (trees atom)) ≡ width (first_tree ts) = ap (λ (us : List Tree). width (first_tree us)) atom_is in
    let behind : before.at + width (node 38 (parts_from (row_symbols 38) (chosen ∷ later_trees ts))) ≡ after.at = omega (arith, wide, at, a.at_is, z.at_is) in
    record {
      value_is = λ more open_blocks. ap (λ (us : List Tree). statement_steps text before.at (first_tree us) (left text more open_blocks (later_trees us) (before.at + width (first_tree us)))) same
          ∙ (λ j. of_leave before.at (sym value j) ∷ left text more open_blocks (sym here j) (behind j));
      trees_are = λ open_blocks. ap (trees_left open_blocks) here ∙ ap (λ (us : List Tree). trees_left open_blocks (later_trees us)) (sym same);
      at_is = λ open_blocks. (λ j. end_left open_blocks (here j) (sym behind j))
          ∙ ap (λ (us : List Tree). end_left open_blocks (later_trees us) (before.at + width (first_tree us))) (sym same);
      fewer = omega (arith, t.fewer, ap length p.nodes_are, u.fewer, ap length q.nodes_are, a.fewer, ap length z.nodes_are);
    }

-- the first block of an `if` comes next
pub if_head : (text : CText) (before outer inner middle read_atom after : Ahead) (test : At CAtom) → TakesRow before outer 38 → Passes outer inner 2 → TakesRow inner middle 46
    → Reads (placed_atom text) middle read_atom (at_view test) → Passes read_atom after 2
    → ReadsHead text before after (If test)
unfolding row_symbols
if_head text before outer inner middle read_atom after test t p u a z =
    let ts : List Tree = trees middle in
    let first : Tree = first_tree ts in
    let us : List Tree = later_trees ts in
    let x : Tree = first_tree us in
    let y : Tree = first_tree (later_trees us) in
    let rest : List Tree = later_trees (later_trees us) in
    let chosen : Tree = node 46 (parts_from (row_symbols 46) ts) in
    let whole : Tree = node 38 (parts_from (row_symbols 38) (chosen ∷ rest)) in
    let outer_is : trees outer ≡ chosen ∷ rest = sym (ap (λ nodes. trees (record { nodes = nodes; at = 0 })) p.nodes_are) ∙ u.trees_are in
    let same : trees before ≡ whole ∷ rest = t.trees_are ∙ ap (λ (vs : List Tree). node 38 (parts_from (row_symbols 38) vs) ∷ trees_behind (row_symbols 38) vs) outer_is in
    let at : middle.at ≡ before.at + 2 = omega (arith, t.at_is, p.at_is, u.at_is) in
    let value : at_view test ≡ placed_atom text (placed (before.at + 2) first) = a.value_is ∙ ap (λ i. placed_atom text (placed i first)) at in
    let here : trees after ≡ us = ap (λ nodes. trees (record { nodes = nodes; at = 0 })) z.nodes_are ∙ a.trees_are in
    let inside : before.at + 4 + width first ≡ after.at = omega (arith, at, a.at_is, z.at_is) in
    let second : before.at + 4 + width first + width x + 3 ≡ after.at + width x + 3 = ap (λ i. i + width x + 3) inside in
    let behind : before.at + width whole ≡ after.at + width x + 3 + width y + 1 = omega (arith, inside) in
    record {
      value_is = λ more open_blocks. ap (λ (vs : List Tree). statement_steps text before.at (first_tree vs) (left text more open_blocks (later_trees vs) (before.at + width (first_tree vs)))) same
          ∙ (λ j. of_if (sym value j) ∷ steps text (inside j) x (of_end (inside j + width x) ∷ steps text (second j) y (of_end (second j + width y) ∷ left text more open_blocks rest (behind j))))
          ∙ ap (λ (vs : List Tree). of_if (at_view test) ∷ left text more (3 ∷ 1 ∷ open_blocks) vs after.at) (sym here);
      trees_are = λ open_blocks. ap (λ (vs : List Tree). trees_left (3 ∷ 1 ∷ open_blocks) vs) here ∙ ap (λ (vs : List Tree). trees_left open_blocks (later_trees vs)) (sym same);
      at_is = λ open_blocks. ap (λ (vs : List Tree). end_left (3 ∷ 1 ∷ open_blocks) vs after.at) here
          ∙ ap (end_left open_blocks rest) (sym behind)
          ∙ ap (λ (vs : List Tree). end_left open_blocks (later_trees vs) (before.at + width (first_tree vs))) (sym same);
      fewer = omega (arith, t.fewer, ap length p.nodes_are, u.fewer, a.fewer, ap length z.nodes_are);
    }

-- Behind the last statement of a block stand its end, and what follows the block.
left_statement : (text : CText) (more : List Step) (open_blocks : List ℕ) (row : ℕ) (s : Tree) (ts : List Tree) (at : ℕ)
    → left text more open_blocks (node row (subtree s (subtree (first_tree ts) no_parts)) ∷ later_trees ts) at ≡ statement_steps text at s (left text more open_blocks ts (at + width s))
left_statement text more [] row s ts at = refl
left_statement text more (count ∷ open_blocks) row s ts at =
    let rest : Tree = first_tree ts in
    let behind : at + (width s + (width rest + 0)) ≡ at + width s + width rest = omega arith in
    λ j. statement_steps text at s (steps text (at + width s) rest (of_end (behind j) ∷ left text more open_blocks (later_trees ts) (behind j + count)))

trees_statement : (open_blocks : List ℕ) (row : ℕ) (s : Tree) (ts : List Tree) → trees_left open_blocks (node row (subtree s (subtree (first_tree ts) no_parts)) ∷ later_trees ts) ≡ trees_left open_blocks ts
trees_statement [] row s ts = refl
trees_statement (count ∷ open_blocks) row s ts = refl

end_statement : (open_blocks : List ℕ) (row : ℕ) (s : Tree) (ts : List Tree) (at : ℕ) → end_left open_blocks (node row (subtree s (subtree (first_tree ts) no_parts)) ∷ later_trees ts) at ≡ end_left open_blocks ts (at + width s)
end_statement [] row s ts at = omega arith
end_statement (count ∷ open_blocks) row s ts at =
    let behind : at + (width s + (width (first_tree ts) + 0)) ≡ at + width s + width (first_tree ts) = omega arith in
    ap (λ i. end_left open_blocks (later_trees ts) (i + count)) behind

-- one more statement was read up to its first block
pub statement_read : (text : CText) (start before middle after : Ahead) (row : ℕ) (old new : List RawStatement) (s : RawStatement) (open_blocks : List ℕ)
    → BodyOn text start before old open_blocks → TakesRow before middle row → row ≡ 33 → ReadsHead text middle after s → new ≡ old ++ s ∷ []
    → BodyOn text start after new (opened s open_blocks)
unfolding row_symbols
statement_read text start before middle after row old new s open_blocks on taken is h p =
    let t : TakesRow before middle 33 = subst (TakesRow before middle) is taken in
    let ts : List Tree = trees middle in
    let us : List Tree = later_trees ts in
    let next : Tree = first_tree ts in
    let at : before.at ≡ middle.at = sym t.at_is in
    record {
      value_is = λ more. pushed step_view old new s (step_view s) p refl (left text more (opened s open_blocks) (trees after) after.at)
          ∙ ap (λ (l : List Step). map step_view old ++ l) (sym (h.value_is more open_blocks) ∙ sym (left_statement text more open_blocks 33 next us middle.at)
          ∙ (λ j. left text more open_blocks (sym t.trees_are j) (sym at j)))
          ∙ on.value_is more;
      trees_are = h.trees_are open_blocks ∙ sym (trees_statement open_blocks 33 next us) ∙ ap (trees_left open_blocks) (sym t.trees_are) ∙ on.trees_are;
      at_is = h.at_is open_blocks ∙ sym (end_statement open_blocks 33 next us middle.at) ∙ (λ j. end_left open_blocks (sym t.trees_are j) (sym at j)) ∙ on.at_is;
      fewer = omega (arith, t.fewer, h.fewer, on.fewer);
    }

-- the innermost block ended, and what follows it comes next
pub block_ended : (text : CText) (start before middle after : Ahead) (row count : ℕ) (old new : List RawStatement) (open_blocks : List ℕ)
    → BodyOn text start before old (count ∷ open_blocks) → TakesRow before middle row → row ≡ 34 → new ≡ old ++ End middle.at ∷ [] → Passes middle after count
    → BodyOn text start after new open_blocks
unfolding row_symbols
block_ended text start before middle after row count old new open_blocks on taken is p z =
    let t : TakesRow before middle 34 = subst (TakesRow before middle) is taken in
    let ts : List Tree = trees middle in
    let here : trees after ≡ ts = ap (λ nodes. trees (record { nodes = nodes; at = 0 })) z.nodes_are in
    let ended : middle.at ≡ before.at + 0 = omega (arith, t.at_is) in
    let behind : after.at ≡ before.at + 0 + count = omega (arith, t.at_is, z.at_is) in
    record {
      value_is = λ more. pushed step_view old new (End middle.at) (of_end middle.at) p refl (left text more open_blocks (trees after) after.at)
          ∙ (λ j. map step_view old ++ (of_end (ended j) ∷ left text more open_blocks (here j) (behind j)))
          ∙ ap (λ (us : List Tree). map step_view old ++ left text more (count ∷ open_blocks) us before.at) (sym t.trees_are)
          ∙ on.value_is more;
      trees_are = ap (trees_left open_blocks) here ∙ ap (trees_left (count ∷ open_blocks)) (sym t.trees_are) ∙ on.trees_are;
      at_is = (λ j. end_left open_blocks (here j) (behind j)) ∙ ap (λ (us : List Tree). end_left (count ∷ open_blocks) us before.at) (sym t.trees_are) ∙ on.at_is;
      fewer = omega (arith, t.fewer, ap length z.nodes_are, on.fewer);
    }

-- the outermost block ended
pub body_ended : (text : CText) (start before after : Ahead) (row : ℕ) (list : List RawStatement)
    → BodyOn text start before list [] → TakesRow before after row → row ≡ 34
    → Reads (statements text) start after (before_more list)
unfolding row_symbols statements
body_ended text start before after row list on taken is =
    let t : TakesRow before after 34 = subst (TakesRow before after) is taken in
    record {
      value_is = λ j more. (ap (λ (us : List Tree). map step_view list ++ left text more [] us before.at) (sym t.trees_are) ∙ on.value_is more) j;
      trees_are = ap (trees_left []) (sym t.trees_are) ∙ on.trees_are;
      at_is = omega (arith, t.at_is) ∙ ap (λ (us : List Tree). end_left [] us before.at) (sym t.trees_are) ∙ on.at_is;
      fewer = omega (arith, t.fewer, on.fewer);
    }

-- a list with one more element, from its end on
turned_push : (behind l : List ℕ) (x : ℕ) → turned behind (l ++ x ∷ []) ≡ x ∷ turned behind l
turned_push behind [] x = refl
turned_push behind (y ∷ l) x = turned_push (y ∷ behind) l x

pub innermost_push : (l m : List ℕ) (x : ℕ) → m ≡ l ++ x ∷ [] → innermost_first m ≡ x ∷ innermost_first l
innermost_push l m x p = ap innermost_first p ∙ turned_push [] l x

-- From a row that was taken to the head of a statement, and from a head to the statement.
use Rattle.std.specs.Prelude.{◌≡◌, ◌+◌, ◌≤◌, ℕ, List, length}
use Rattle.std.proofs.Common.{ap, sym, ◌∙◌, subst, arith}
use Rattle.predict.specs.Tree.{Tree, node}
use Rattle.va_base.specs.declared.expanded.Expanded.{Expanded}
use Rattle.va_tree.specs.declared.stmt.Stmt.{Stmt}
use Rattle.va_build.specs.Reading.{row_symbols, Ahead, TakesRow, Reads, first_tree, later_trees, parts_from, trees_behind, trees}
use Rattle.va_build.specs.SourceStatements.{statement}
use Rattle.va_build.specs.StatementHeads.{OneLeft, TwoLeft}
use Rattle.va_build.specs.Width.{width, width_of}

pub one_left : (e : Expanded) (before middle after : Ahead) (row k tokens : ℕ) (whole : Stmt) → TakesRow before middle row → row ≡ k
    → whole ≡ statement e before.at (node k (parts_from (row_symbols k) (trees middle)))
    → later_trees (trees after) ≡ trees_behind (row_symbols k) (trees middle)
    → after.at + width (first_tree (trees after)) + tokens ≡ middle.at + width_of (parts_from (row_symbols k) (trees middle))
    → length after.nodes ≤ length middle.nodes
    → OneLeft e before after tokens whole
one_left e before middle after row k tokens whole t is v r w n =
    let taken : TakesRow before middle k = subst (TakesRow before middle) is t in
    record {
      value_is = v ∙ sym (ap (λ (ts : List Tree). statement e before.at (first_tree ts)) taken.trees_are);
      trees_are = r ∙ sym (ap later_trees taken.trees_are);
      at_is = w ∙ ap (λ (i : ℕ). i + width_of (parts_from (row_symbols k) (trees middle))) taken.at_is ∙ sym (ap (λ (ts : List Tree). before.at + width (first_tree ts)) taken.trees_are);
      fewer = omega (arith, taken.fewer, n);
    }

pub two_left : (e : Expanded) (before middle after : Ahead) (row k : ℕ) (whole : Stmt) → TakesRow before middle row → row ≡ k
    → whole ≡ statement e before.at (node k (parts_from (row_symbols k) (trees middle)))
    → later_trees (later_trees (trees after)) ≡ trees_behind (row_symbols k) (trees middle)
    → after.at + width (first_tree (trees after)) + width (first_tree (later_trees (trees after))) ≡ middle.at + width_of (parts_from (row_symbols k) (trees middle))
    → length after.nodes ≤ length middle.nodes
    → TwoLeft e before after whole
two_left e before middle after row k whole t is v r w n =
    let taken : TakesRow before middle k = subst (TakesRow before middle) is t in
    record {
      value_is = v ∙ sym (ap (λ (ts : List Tree). statement e before.at (first_tree ts)) taken.trees_are);
      trees_are = r ∙ sym (ap later_trees taken.trees_are);
      at_is = w ∙ ap (λ (i : ℕ). i + width_of (parts_from (row_symbols k) (trees middle))) taken.at_is ∙ sym (ap (λ (ts : List Tree). before.at + width (first_tree ts)) taken.trees_are);
      fewer = omega (arith, taken.fewer, n);
    }

-- the subtree that was left was read, and the tokens behind it
pub one_read : (e : Expanded) (before middle after : Ahead) (tokens : ℕ) (whole value : Stmt) → OneLeft e before middle tokens whole → value ≡ whole
    → trees after ≡ later_trees (trees middle) → after.at ≡ middle.at + width (first_tree (trees middle)) + tokens → length after.nodes ≤ length middle.nodes
    → Reads (statement e) before after value
one_read e before middle after tokens whole value h v r w n = record {
  value_is = v ∙ h.value_is;
  trees_are = r ∙ h.trees_are;
  at_is = w ∙ h.at_is;
  fewer = omega (arith, h.fewer, n);
}

pub two_read : (e : Expanded) (before middle after : Ahead) (whole value : Stmt) → TwoLeft e before middle whole → value ≡ whole
    → trees after ≡ later_trees (later_trees (trees middle)) → after.at ≡ middle.at + width (first_tree (trees middle)) + width (first_tree (later_trees (trees middle))) → length after.nodes ≤ length middle.nodes
    → Reads (statement e) before after value
two_read e before middle after whole value h v r w n = record {
  value_is = v ∙ h.value_is;
  trees_are = r ∙ h.trees_are;
  at_is = w ∙ h.at_is;
  fewer = omega (arith, h.fewer, n);
}

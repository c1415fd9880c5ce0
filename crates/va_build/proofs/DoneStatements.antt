-- From statements that are done to the statement that holds them.
use Rattle.std.specs.Prelude.{◌≡◌, ◌+◌, ◌<◌, ◌≤◌, ℕ, true, false, List, [], ◌∷◌, ◌++◌, Option, Some, None, length, refl}
use Rattle.std.specs.Option.{is_some}
use Rattle.std.proofs.Common.{ap, sym, ◌∙◌, arith, length-append}
use Rattle.va_base.specs.declared.expanded.Expanded.{Expanded}
use Rattle.va_tree.specs.declared.expr.Expr.{Expr}
use Rattle.va_tree.specs.declared.stmt.Stmt.{Stmt}
use Rattle.va_tree.specs.declared.stmt.Stmt.TheVariants.{If}
use Rattle.va_build.specs.Reading.{Ahead, Reads, first_tree, later_trees, trees}
use Rattle.va_build.specs.SourceStatements.{statement}
use Rattle.va_build.specs.StatementHeads.{OneLeft, TwoLeft, listed}
use Rattle.va_build.specs.Width.{width}
use Rattle.va_build.proofs.TakenRows.{nothing_behind}

-- the subtree that was left was read, and the tokens behind it, and the statement is done
pub one_done : (e : Expanded) (before middle after : Ahead) (tokens : ℕ) (whole : Stmt) (front done : List Stmt) → OneLeft e before middle tokens whole → done ≡ front ++ whole ∷ []
    → trees after ≡ later_trees (trees middle) → after.at ≡ middle.at + width (first_tree (trees middle)) + tokens → length after.nodes ≤ length middle.nodes
    → Reads (λ at t. front ++ statement e at t ∷ []) before after done
one_done e before middle after tokens whole front done h v r w n = record {
  value_is = v ∙ ap (λ (s : Stmt). front ++ s ∷ []) h.value_is;
  trees_are = r ∙ h.trees_are;
  at_is = w ∙ h.at_is;
  fewer = omega (arith, h.fewer, n);
}

pub two_done : (e : Expanded) (before middle after : Ahead) (whole : Stmt) (front done : List Stmt) → TwoLeft e before middle whole → done ≡ front ++ whole ∷ []
    → trees after ≡ later_trees (later_trees (trees middle)) → after.at ≡ middle.at + width (first_tree (trees middle)) + width (first_tree (later_trees (trees middle))) → length after.nodes ≤ length middle.nodes
    → Reads (λ at t. front ++ statement e at t ∷ []) before after done
two_done e before middle after whole front done h v r w n = record {
  value_is = v ∙ ap (λ (s : Stmt). front ++ s ∷ []) h.value_is;
  trees_are = r ∙ h.trees_are;
  at_is = w ∙ h.at_is;
  fewer = omega (arith, h.fewer, n);
}

two_behind : (front : List Stmt) (a b : Stmt) → (front ++ a ∷ []) ++ b ∷ [] ≡ front ++ a ∷ b ∷ []
two_behind [] a b = refl
two_behind (x ∷ front) a b = ap (λ (l : List Stmt). x ∷ l) (two_behind front a b)

-- an `if` with its `else`
pub with_else : (o : Option Stmt) (front one two done : List Stmt) (at : ℕ) (test : Expr) (a : Stmt) → is_some o ≡ true → one ≡ front ++ a ∷ [] → two ≡ one ++ listed o
    → ((f : List Stmt) (x y : Stmt) → two ≡ f ++ x ∷ y ∷ [] → done ≡ f ++ If at test x (Some y) ∷ []) → done ≡ front ++ If at test a o ∷ []
with_else None front one two done at test a s h k close = cc
with_else (Some b) front one two done at test a s h k close = close front a b (k ∙ ap (λ (l : List Stmt). l ++ b ∷ []) h ∙ two_behind front a b)

-- an `if` without `else`
pub without_else : (o : Option Stmt) (front one two done : List Stmt) (at : ℕ) (test : Expr) (a : Stmt) → is_some o ≡ false → one ≡ front ++ a ∷ [] → two ≡ one ++ listed o
    → ((f : List Stmt) (x : Stmt) → two ≡ f ++ x ∷ [] → done ≡ f ++ If at test x None ∷ []) → done ≡ front ++ If at test a o ∷ []
without_else None front one two done at test a s h k close = close front a (k ∙ sym (nothing_behind one) ∙ h)
without_else (Some b) front one two done at test a s h k close = cc

-- a statement is there
pub some_done : (front done : List Stmt) (s : Stmt) → done ≡ front ++ s ∷ [] → 0 < length done
some_done front done s h = omega (arith, ap length h, length-append front (s ∷ []))

-- what was there before is there
pub one_there : (front one two more : List Stmt) (s : Stmt) → one ≡ front ++ s ∷ [] → two ≡ one ++ more → 0 < length two
one_there front one two more s h k = omega (arith, ap length h, length-append front (s ∷ []), ap length k, length-append one more)

-- the statement of an `if` and that of its `else` are there
pub two_there : (o : Option Stmt) (front one two : List Stmt) (s : Stmt) → is_some o ≡ true → one ≡ front ++ s ∷ [] → two ≡ one ++ listed o → 1 < length two
two_there None front one two s is h k = cc
two_there (Some b) front one two s is h k = omega (arith, ap length h, length-append front (s ∷ []), ap length k, length-append one (b ∷ []))

-- where the statements of a block begin
pub start_within : (front body done : List Stmt) (start : ℕ) → done ≡ front ++ body → start ≡ length front → start ≤ length done
start_within front body done start h is = omega (arith, ap length h, length-append front body, is)

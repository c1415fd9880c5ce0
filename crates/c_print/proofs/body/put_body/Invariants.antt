use Rattle.std.proofs.Common.{◌+◌, ◌*◌, List, ℕ, ◌++◌, length}
use Rattle.c_tree.specs.Text.{body_words}
use Rattle.c_print.specs.Prints.{Prints}
use Rattle.c_print.specs.Pending.{pending, weight}
use Rattle.c_print.proofs.body.put_body.Given as goal

-- whatever prints what is left prints the whole
abbrev pub invariant-steps : goal.invariant-steps
invariant-steps l =
    (new : List ℕ) → Prints l.out.items new (body_words l.k l.left ++ pending l.k l.open.items) → Prints l.fn.out.items new (body_words l.k l.body)

abbrev pub decreases-steps : goal.decreases-steps
decreases-steps l = 3 * length l.left + weight l.open.items

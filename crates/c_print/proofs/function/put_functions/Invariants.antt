use Rattle.std.proofs.Common.{List, ℕ, drop}
use Rattle.c_tree.specs.Text.{function_words}
use Rattle.c_print.specs.Prints.{Prints}
use Rattle.c_print.proofs.Numbered.{numbered_words}
use Rattle.c_print.proofs.function.put_functions.Given as goal

-- whatever prints the elements that are left prints them all
abbrev pub invariant-loop-index : goal.invariant-loop-index
invariant-loop-index l =
    (new : List ℕ) → Prints l.out.items new (numbered_words (function_words l.k) l.index (drop l.index l.functions))
    → Prints l.fn.out.items new (numbered_words (function_words l.k) 0 l.functions)

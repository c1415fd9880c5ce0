use Rattle.std.proofs.Common.{List, ℕ, drop}
use Rattle.c_tree.specs.Text.{module_words}
use Rattle.c_print.specs.Prints.{Prints}
use Rattle.c_print.proofs.Numbered.{numbered_words}
use Rattle.c_print.proofs.whole.put_modules.Given as goal

-- whatever prints the elements that are left prints them all
abbrev pub invariant-loop-index : goal.invariant-loop-index
invariant-loop-index l =
    (new : List ℕ) → Prints l.out.items new (numbered_words (module_words) l.index (drop l.index l.modules))
    → Prints l.fn.out.items new (numbered_words (module_words) 0 l.modules)

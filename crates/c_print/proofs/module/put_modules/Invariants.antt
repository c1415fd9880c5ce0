use Rattle.std.proofs.Common.{List, ℕ, drop}
use Rattle.c_print.specs.Prints.{Prints}
use Rattle.c_print.proofs.Printing.{modules_words}
use Rattle.c_print.proofs.module.put_modules.Given as goal

-- whatever prints the modules that are left prints them all
abbrev pub invariant-loop-index : goal.invariant-loop-index
invariant-loop-index l =
    (new : List ℕ) → Prints l.out.items new (modules_words l.index (drop l.index l.modules))
    → Prints l.fn.out.items new (modules_words 0 l.modules)

use Rattle.std.proofs.Common.{List, ℕ, length, IsUtf8}
use Rattle.c_tree.specs.short.Text.{template}
use Rattle.c_print.specs.Prints.{Prints}
use Rattle.c_print.proofs.words.put_template.Given as goal

-- whatever prints what is left prints the whole
abbrev pub invariant-words : goal.invariant-words
invariant-words l =
    ((new : List ℕ) → Prints l.out.items new (template l.rest) → Prints l.fn.out.items new (template l.text))
    × IsUtf8 l.rest

abbrev pub decreases-words : goal.decreases-words
decreases-words l = length l.rest

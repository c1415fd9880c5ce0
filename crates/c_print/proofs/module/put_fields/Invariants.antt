use Rattle.c_tree.specs.short.Text.{fields_words}
use Rattle.c_print.specs.Prints.{Prints}
use Rattle.c_print.proofs.module.put_fields.Given as goal

abbrev pub invariant-loop-i : goal.invariant-loop-i
invariant-loop-i l = Prints l.fn.out.items l.out.items (fields_words l.name l.i)

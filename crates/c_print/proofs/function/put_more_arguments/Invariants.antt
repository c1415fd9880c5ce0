use Rattle.std.proofs.Common.{take}
use Rattle.std.specs.Prelude.{codes}
use Rattle.c_tree.specs.Words.{marked}
use Rattle.c_tree.specs.Text.{argument_words}
use Rattle.c_print.specs.Prints.{Prints}
use Rattle.c_print.proofs.function.put_more_arguments.Given as goal

abbrev pub invariant-loop-argument : goal.invariant-loop-argument
invariant-loop-argument l = Prints l.fn.out.items l.out.items (marked (codes ",") argument_words (take l.argument-index l.arguments))

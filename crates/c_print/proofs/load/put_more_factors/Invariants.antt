use Rattle.std.proofs.Common.{take}
use Rattle.std.specs.Prelude.{codes}
use Rattle.c_tree.specs.Words.{marked}
use Rattle.c_tree.specs.Text.{factor_words}
use Rattle.c_print.specs.Prints.{Prints}
use Rattle.c_print.proofs.load.put_more_factors.Given as goal

abbrev pub invariant-loop-factor : goal.invariant-loop-factor
invariant-loop-factor l = Prints l.fn.out.items l.out.items (marked (codes "*") factor_words (take l.factor-index l.factors))

use Rattle.std.proofs.Common.{take}
use Rattle.std.specs.List.{flat_map}
use Rattle.c_tree.specs.Text.{load_words}
use Rattle.c_print.specs.Prints.{Prints}
use Rattle.c_print.proofs.load.put_load_statements.Given as goal

abbrev pub invariant-loop-load : goal.invariant-loop-load
invariant-loop-load l = Prints l.fn.out.items l.out.items (flat_map load_words (take l.load-index l.loads))

use Rattle.std.proofs.Common.{take}
use Rattle.std.specs.Prelude.{codes, ◌++◌}
use Rattle.std.specs.List.{flat_map}
use Rattle.c_tree.specs.Words.{word}
use Rattle.c_tree.specs.Text.{parameter_words}
use Rattle.c_print.specs.Prints.{Prints}
use Rattle.c_print.proofs.table.put_parameters.Given as goal

abbrev pub invariant-loop-parameter : goal.invariant-loop-parameter
invariant-loop-parameter l = Prints l.fn.out.items l.out.items (flat_map (λ parameter. parameter_words parameter ++ word (codes ",")) (take l.parameter-index l.parameters))

use Rattle.std.proofs.Common.{take}
use Rattle.std.specs.Prelude.{codes}
use Rattle.c_tree.specs.Words.{marked}
use Rattle.c_tree.specs.Text.{atom_words}
use Rattle.c_print.specs.Prints.{Prints}
use Rattle.c_print.proofs.value.put_more_atoms.Given as goal

abbrev pub invariant-loop-atom : goal.invariant-loop-atom
invariant-loop-atom l = Prints l.fn.out.items l.out.items (marked (codes ",") atom_words (take l.atom-index l.atoms))

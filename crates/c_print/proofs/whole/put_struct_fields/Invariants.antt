use Rattle.std.proofs.Common.{take}
use Rattle.std.specs.List.{flat_map}
use Rattle.c_tree.specs.Text.{field_words}
use Rattle.c_print.specs.Prints.{Prints}
use Rattle.c_print.proofs.whole.put_struct_fields.Given as goal

abbrev pub invariant-loop-field : goal.invariant-loop-field
invariant-loop-field l = Prints l.fn.out.items l.out.items (flat_map field_words (take l.field-index l.fields))

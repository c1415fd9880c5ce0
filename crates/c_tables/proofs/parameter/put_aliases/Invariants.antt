use Rattle.std.proofs.Common.{take}
use Rattle.std.specs.List.{flat_map}
use Rattle.va_base.specs.Tables.{alias_text}
use Rattle.c_tables.specs.Prints.{Prints}
use Rattle.c_tables.proofs.parameter.put_aliases.Given as goal

abbrev pub invariant-loop-name : goal.invariant-loop-name
invariant-loop-name l = Prints l.fn.out.items l.out.items (flat_map (alias_text l.id) (take l.name-index l.aliases))

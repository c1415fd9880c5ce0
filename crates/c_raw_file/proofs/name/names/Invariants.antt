use Rattle.std.proofs.Common.{◌≡◌, ◌++◌, drop}
use Rattle.c_raw_file.proofs.name.names.Given as goal

abbrev pub invariant-loop-element : goal.invariant-loop-element
invariant-loop-element l = l.list.items ++ drop l.element-index l.from ≡ l.from

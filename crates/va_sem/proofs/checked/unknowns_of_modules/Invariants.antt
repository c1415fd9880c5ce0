use Rattle.std.proofs.Common.{◌≡◌, map, zip, drop, ◌++◌}
use Rattle.va_sem.specs.Kinds.{module_unknowns}
use Rattle.va_sem.proofs.checked.unknowns_of_modules.Given as goal

abbrev pub invariant-loop-index : goal.invariant-loop-index
invariant-loop-index l =
    l.list.items ++ map module_unknowns (zip (drop l.index l.modules) (drop l.index l.names)) ≡ map module_unknowns (zip l.modules l.names)

use Rattle.std.proofs.Common.{◌≡◌, All, Some, map, zip, drop, ◌++◌}
use Rattle.va_sem.specs.Kinds.{module_kinds, HasAllKinds}
use Rattle.va_sem.proofs.checked.kinds_of_modules.Given as goal

abbrev pub invariant-loop-index : goal.invariant-loop-index
invariant-loop-index l = record {
  listed : map (map Some) l.list.items ++ map module_kinds (zip (drop l.index l.modules) (drop l.index l.names)) ≡ map module_kinds (zip l.modules l.names);
  kinds : All HasAllKinds (zip (drop l.index l.modules) (drop l.index l.names));
}

use Rattle.std.proofs.Common.{drop}
use Rattle.std.specs.Prelude.{map, Option}
use Rattle.va_sem.specs.NamesFaults.{FaultAt}
use Rattle.va_scopes.specs.Bindings.{name_at}
use Rattle.va_scopes.specs.Finds.{Finds}
use Rattle.va_scopes.proofs.SecondDeclarations.{builtins_in}
use Rattle.va_scopes.proofs.twice.find_builtins.Given as goal

-- whatever finds what is left finds it all
abbrev pub invariant-loop-binding : goal.invariant-loop-binding
invariant-loop-binding l =
    (new : Option FaultAt) → Finds l.least new (builtins_in (map name_at (drop l.binding-index l.names)))
    → Finds l.fn.least new (builtins_in (map name_at l.names))

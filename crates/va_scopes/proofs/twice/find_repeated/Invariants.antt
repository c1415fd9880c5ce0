use Rattle.std.proofs.Common.{drop}
use Rattle.std.specs.Prelude.{map, Option, false}
use Rattle.std.specs.Option.{is_some}
use Rattle.va_sem.specs.NamesFaults.{FaultAt}
use Rattle.va_scopes.specs.Bindings.{name_at}
use Rattle.va_scopes.specs.Finds.{Finds}
use Rattle.va_scopes.specs.Tables.{by_name}
use Rattle.va_scopes.proofs.SecondDeclarations.{again_by}
use Rattle.va_scopes.proofs.twice.find_repeated.Given as goal

-- whatever finds what is left finds it all
abbrev pub invariant-loop-binding : goal.invariant-loop-binding
invariant-loop-binding l =
    (new : Option FaultAt) → Finds l.least new (again_by (λ k. is_some (by_name l.before k)) (map name_at (drop l.binding-index l.names)))
    → Finds l.fn.least new (again_by (λ k. false) (map name_at l.names))

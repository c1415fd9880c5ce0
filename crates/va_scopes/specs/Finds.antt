-- What a part of a pass finds: some faults, of which the least so far is kept.
use Rattle.std.specs.Prelude.{◌≡◌, List, map, filter, Option}
use Rattle.va_base.specs.declared.fault.FaultCode.TheVariants.{TwiceDeclared}
use Rattle.va_tree.specs.declared.name.NameAt.{NameAt}
use Rattle.va_sem.specs.NamesFaults.{FaultAt, all_at}
use Rattle.va_sem.specs.Faults.{least_of}
use Rattle.va_sem.specs.FaultsLaws.{earlier}
use Rattle.va_sem.specs.Scopes.{is_builtin}

-- the new least fault is the least of the old one and these
pub record Finds (old new : Option FaultAt) (faults : List FaultAt) : Type 0 where
  pub is : new ≡ earlier old (least_of faults)

-- the names of built-in functions among declared names
abbrev pub of_builtins : List NameAt → List FaultAt
of_builtins names = all_at TwiceDeclared (map (λ (n : NameAt). n.at) (filter (λ (n : NameAt). is_builtin n.name) names))

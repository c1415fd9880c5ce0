use Rattle.va_sem.proofs.ScopesByName.{scopes_by_name}
use Rattle.va_sem.proofs.laws.scopes_are_found_by_name.Goals as goal

pub returns : goal.returns
returns c = scopes_by_name

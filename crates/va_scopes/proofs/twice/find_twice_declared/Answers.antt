use Rattle.va_scopes.proofs.Finding.{◌▸◌}
use Rattle.va_scopes.proofs.twice.find_twice_declared.Goals as goal

pub returns : goal.returns
returns c = c.in_ok-find_repeated.ensures ▸ c.find_builtins.ensures

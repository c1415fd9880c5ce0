use Rattle.va_sem.proofs.OwnTokens.{names_have_own_tokens}
use Rattle.va_sem.proofs.laws.names_have_own_tokens.Goals as goal

pub returns : goal.returns
returns c = names_have_own_tokens

use Rattle.va_preproc.proofs.Lexed.{lexed_tokens}
use Rattle.va_preproc.proofs.laws.tokens_are_of_texts.Goals as goal

-- by the law
pub returns : goal.returns
returns c = lexed_tokens

use Rattle.std.proofs.Common.{rules}
use Rattle.va_grammar.proofs.SpelledAt.{spelling_at}
use Rattle.va_grammar.proofs.terminal.Terminal.spelling.Goals as goal

pub returns : goal.returns
returns c = search (rules, spelling_at, c.number.ensures)

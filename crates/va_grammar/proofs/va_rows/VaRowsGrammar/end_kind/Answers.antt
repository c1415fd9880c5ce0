use Rattle.va_grammar.specs.Sets.{va_rules}
use Rattle.va_grammar.proofs.va_rows.VaRowsGrammar.end_kind.Goals as goal

pub returns : goal.returns
unfolding va_rules
returns c = c.number.ensures

use Rattle.std.proofs.Common.{refl}
use Rattle.c_syntax.specs.grammar.Sets.{c_rules}
use Rattle.c_syntax.proofs.c_rows.CRowsGrammar.start.Goals as goal

pub returns : goal.returns
unfolding c_rules
returns c = refl

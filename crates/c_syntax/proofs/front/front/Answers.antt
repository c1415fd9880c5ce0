use Rattle.std.proofs.Common.{refl}
use Rattle.c_tree.specs.tokens.Tokens.{front_len}
use Rattle.c_syntax.proofs.Fronts.{front-fits}
use Rattle.c_syntax.proofs.front.front.Goals as goal

pub returns-clause-some : goal.returns-clause-some
returns-clause-some c = rw c.front_by_first_byte.ensures (front-fits c.args.text.now (front_len c.args.text.now) refl).0

pub returns-clause-within : goal.returns-clause-within
returns-clause-within c = rw c.front_by_first_byte.ensures (front-fits c.args.text.now (front_len c.args.text.now) refl).1

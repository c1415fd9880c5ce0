use Rattle.std.proofs.Common.{sym}
use Rattle.c_syntax.proofs.Fronts.{front-mark-some, front-mark-none}
use Rattle.c_syntax.proofs.front.mark.Goals as goal

pub returns-in-Some : goal.returns-in-Some
returns-in-Some c = sym (front-mark-some c.args.text.now c.in-Some.len c.requires (sym c.in-Some.ensures.longest))

pub returns-in-None : goal.returns-in-None
returns-in-None c = sym (front-mark-none c.args.text.now c.requires (sym c.in-None.ensures.longest))

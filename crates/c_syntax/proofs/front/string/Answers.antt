use Rattle.std.proofs.Common.{sym}
use Rattle.c_syntax.proofs.Strings.{front-string, front-no_string}
use Rattle.c_syntax.proofs.front.string.Goals as goal

pub returns-in-Some : goal.returns-in-Some
returns-in-Some c = sym (front-string c.args.text.now c.in-Some.len c.requires (sym c.in-Some.ensures.longest))

pub returns-in-None : goal.returns-in-None
returns-in-None c = sym (front-no_string c.args.text.now c.requires (sym c.in-None.ensures.longest))

use Rattle.std.proofs.Common.{drop}
use Rattle.c_tree.specs.rules.Locals.{used_locals}
use Rattle.c_form.proofs.Walking.{Reached}
use Rattle.c_form.proofs.locals.walk.Given as goal

abbrev pub invariant-loop-statement : goal.invariant-loop-statement
invariant-loop-statement l = Reached used_locals l.scope l.fn.least l.least l.list (drop l.statement-index l.list)

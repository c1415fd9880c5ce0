use Rattle.std.proofs.Common.{drop}
use Rattle.c_form_settings.proofs.Declaring.{Reached}
use Rattle.c_form_settings.proofs.settings.block.Given as goal

-- behind so many statements the same is still to be blamed, but what was blamed
abbrev pub invariant-loop-statement : goal.invariant-loop-statement
invariant-loop-statement l = Reached l.fn.least l.least l.initial.pass l.pass l.list (drop l.statement-index l.list)

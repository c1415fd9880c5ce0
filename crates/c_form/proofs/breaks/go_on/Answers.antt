use Rattle.c_form.proofs.Open.{innermost-push}
use Rattle.c_form.proofs.breaks.go_on.Goals as goal

pub returns : goal.returns
returns c = rw (c.in_ok-push.ensures.items) (innermost-push c.args.blocks.now.items c.args.wanted)

use Rattle.std.proofs.Common.{sym, ap, ◌∙◌}
use Rattle.va_preproc.proofs.Lists.{more, more_twice, list_skip}
use Rattle.va_preproc.proofs.Loops.{no_token}
use Rattle.va_preproc.proofs.argument.argument_list.Goals as goal

-- one line's end more
pub loop-at-preserved : goal.loop-at-preserved
loop-at-preserved c =
    c.loop-at.invariant
    ∙ ap (more c.loop-at.at) (list_skip c.args.files.now c.args.tokens.now c.loop-at.at no_token c.loop-at-test.true
    (sym (c.is_line_end.ensures c.args.files.now) ∙ c.if-is_line_end.true))
    ∙ more_twice c.loop-at.at 1 _

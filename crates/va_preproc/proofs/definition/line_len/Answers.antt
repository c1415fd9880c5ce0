use Rattle.std.proofs.Common.{sym, ◌∙◌}
use Rattle.va_preproc.proofs.DefinitionForms.{line_ends, line_goes_on}
use Rattle.va_preproc.proofs.Loops.{no_token}
use Rattle.va_preproc.proofs.definition.line_len.Goals as goal

pub returns-then-is_line_end-clause-line : goal.returns-then-is_line_end-clause-line
returns-then-is_line_end-clause-line c = λ files.
    line_ends files c.args.tokens.now c.loop-at.at no_token c.loop-at-test.true (sym (c.is_line_end.ensures files) ∙ c.if-is_line_end.true) (c.loop-at.invariant files)

pub loop-at-preserved : goal.loop-at-preserved
loop-at-preserved c = λ files.
    line_goes_on files c.args.tokens.now c.loop-at.at no_token c.loop-at-test.true (sym (c.is_line_end.ensures files) ∙ c.if-is_line_end.false) (c.loop-at.invariant files)

use Rattle.std.proofs.Common.{sym, ◌∙◌}
use Rattle.c_tree.specs.tokens.Spelling.{is_mark}
use Rattle.va_base.proofs.Longest.{longest-nil}
use Rattle.c_syntax.proofs.Marks.{mark-two, mark-one, mark-nothing}
use Rattle.c_syntax.proofs.front.mark_len.Goals as goal

pub returns-then-begins_double_mark-clause-longest : goal.returns-then-begins_double_mark-clause-longest
returns-then-begins_double_mark-clause-longest c =
    sym (mark-two c.args.text.now (sym c.begins_double_mark.ensures ∙ c.if-begins_double_mark.true))

pub returns-in_err-first-clause-longest : goal.returns-in_err-first-clause-longest
returns-in_err-first-clause-longest c =
    c.from_residual.ensures ∙ sym (longest-nil is_mark c.args.text.now c.in_err-first.ensures.cases)

pub returns-then-is_single_mark-clause-longest : goal.returns-then-is_single_mark-clause-longest
returns-then-is_single_mark-clause-longest c =
    sym (mark-one c.args.text.now _ _ c.in_ok-first.ensures.cases.0
    (sym c.begins_double_mark.ensures ∙ c.if-begins_double_mark.false) (sym c.is_single_mark.ensures ∙ c.if-is_single_mark.true))

pub returns-else-is_single_mark-clause-longest : goal.returns-else-is_single_mark-clause-longest
returns-else-is_single_mark-clause-longest c =
    sym (mark-nothing c.args.text.now _ _ c.in_ok-first.ensures.cases.0
    (sym c.begins_double_mark.ensures ∙ c.if-begins_double_mark.false) (sym c.is_single_mark.ensures ∙ c.if-is_single_mark.false))

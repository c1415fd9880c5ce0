use Rattle.std.proofs.Common.{ap, refl, sym, ◌∙◌}
use Rattle.va_tree.specs.ExpressionLaws.{at_group, at_unary, at_binary, at_choose}
use Rattle.va_sem.specs.rules.BranchKinds.{is_zero, signed_zero}
use Rattle.va_sem.proofs.findings.+zero.Goals as goal

pub returns-in-Group : goal.returns-in-Group
returns-in-Group t c =
    c.is_zero_numeral-answer.ensures
    ∙ sym (ap is_zero (at_group c.args.e.now c.in-Group.at c.in-Group.inner c.get.result.now c.in-Group.is (sym c.get.ensures)))

pub returns-in-Unary : goal.returns-in-Unary
returns-in-Unary t c =
    c.is_signed_zero.ensures ∙ ap (signed_zero c.in-Unary.op) c.is_zero_numeral-answer-in-Unary.ensures
    ∙ sym (ap is_zero (at_unary c.args.e.now c.in-Unary.at c.in-Unary.op c.in-Unary.operand c.get-in-Unary.result.now c.in-Unary.is (sym c.get-in-Unary.ensures)))

pub returns-in-Binary : goal.returns-in-Binary
returns-in-Binary t c =
    sym (ap is_zero (at_binary c.args.e.now c.in-Binary.at c.in-Binary.left c.in-Binary.op c.in-Binary.right c.in-Binary.left c.in-Binary.right c.in-Binary.is refl refl))

pub returns-in-Choose : goal.returns-in-Choose
returns-in-Choose t c =
    sym (ap is_zero (at_choose c.args.e.now c.in-Choose.at c.in-Choose.test c.in-Choose.yes c.in-Choose.no c.in-Choose.test c.in-Choose.yes c.in-Choose.no c.in-Choose.is refl refl refl))

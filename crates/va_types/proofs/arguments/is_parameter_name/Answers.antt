use Rattle.std.proofs.Common.{ap, refl, sym}
use Rattle.va_tree.specs.ExpressionLaws.{at_group, at_unary, at_binary, at_choose}
use Rattle.va_sem.specs.Typing.{is_parameter_name}
use Rattle.va_types.proofs.arguments.is_parameter_name.Goals as goal

pub returns-in-Group : goal.returns-in-Group
returns-in-Group c = sym (ap (is_parameter_name c.args.table.now.uses) (at_group c.args.e.now c.in-Group.at c.in-Group.inner c.in-Group.inner c.in-Group.is refl))

pub returns-in-Unary : goal.returns-in-Unary
returns-in-Unary c =
    sym (ap (is_parameter_name c.args.table.now.uses) (at_unary c.args.e.now c.in-Unary.at c.in-Unary.op c.in-Unary.operand c.in-Unary.operand c.in-Unary.is refl))

pub returns-in-Binary : goal.returns-in-Binary
returns-in-Binary c =
    sym (ap (is_parameter_name c.args.table.now.uses) (at_binary c.args.e.now c.in-Binary.at c.in-Binary.left c.in-Binary.op c.in-Binary.right c.in-Binary.left c.in-Binary.right c.in-Binary.is refl refl))

pub returns-in-Choose : goal.returns-in-Choose
returns-in-Choose c =
    sym (ap (is_parameter_name c.args.table.now.uses) (at_choose c.args.e.now c.in-Choose.at c.in-Choose.test c.in-Choose.yes c.in-Choose.no c.in-Choose.test c.in-Choose.yes c.in-Choose.no c.in-Choose.is refl refl refl))

use Rattle.va_sem.proofs.TypesListed.{each_has_a_type}
use Rattle.va_sem.proofs.laws.each_expression_has_a_type.Goals as goal

pub returns : goal.returns
returns c = each_has_a_type

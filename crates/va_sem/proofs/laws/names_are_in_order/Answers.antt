use Rattle.va_sem.proofs.Ascending.{uses_in_text_order}
use Rattle.va_sem.proofs.laws.names_are_in_order.Goals as goal

pub returns : goal.returns
returns c = uses_in_text_order

use Rattle.va_base.proofs.Digits.{DigitsRead}
use Rattle.va_base.proofs.numeral.digits_len.Given as goal

abbrev pub invariant-loop-at : goal.invariant-loop-at
invariant-loop-at l = DigitsRead l.text l.at l.len

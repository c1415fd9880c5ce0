use Rattle.std.proofs.Common.{refl}
use Rattle.va_build.specs.Reading.{row_symbols}
use Rattle.va_build.proofs.OperatorRows.{operands}
use Rattle.va_build.proofs.operators.operand_row.Goals as goal

pub returns-in_default : goal.returns-in_default
returns-in_default c = operands c.args.row c.requires c.in_default.in_default-own.rest.0.0.0.1 c.in_default.in_default-own.rest.0.0.1 c.in_default.in_default-own.rest.0.1 c.in_default.in_default-own.rest.1

pub returns-in-162 : goal.returns-in-162
unfolding row_symbols
returns-in-162 c = rw c.in-162.is (_, _, refl, refl)

pub returns-in-163 : goal.returns-in-163
unfolding row_symbols
returns-in-163 c = rw c.in-163.is (_, _, refl, refl)

pub returns-in-164 : goal.returns-in-164
unfolding row_symbols
returns-in-164 c = rw c.in-164.is (_, _, refl, refl)

pub returns-in-165 : goal.returns-in-165
unfolding row_symbols
returns-in-165 c = rw c.in-165.is (_, refl)

use Rattle.std.proofs.Common.{refl}
use Rattle.va_build.specs.Reading.{row_symbols}
use Rattle.va_build.proofs.OperatorRows.{ends}
use Rattle.va_build.proofs.operators.tail_row.Goals as goal

pub returns-in_default : goal.returns-in_default
returns-in_default c = ends c.args.row c.requires c.in_default.in_default-own.rest.0.0.0.0.0.0.0.0.0.0.0.0.0.1 c.in_default.in_default-own.rest.0.0.0.0.0.0.0.0.0.0.0.0.1 c.in_default.in_default-own.rest.0.0.0.0.0.0.0.0.0.0.0.1 c.in_default.in_default-own.rest.0.0.0.0.0.0.0.0.0.0.1 c.in_default.in_default-own.rest.0.0.0.0.0.0.0.0.0.1 c.in_default.in_default-own.rest.0.0.0.0.0.0.0.0.1 c.in_default.in_default-own.rest.0.0.0.0.0.0.0.1 c.in_default.in_default-own.rest.0.0.0.0.0.0.1 c.in_default.in_default-own.rest.0.0.0.0.0.1 c.in_default.in_default-own.rest.0.0.0.0.1 c.in_default.in_default-own.rest.0.0.0.1 c.in_default.in_default-own.rest.0.0.1 c.in_default.in_default-own.rest.0.1 c.in_default.in_default-own.rest.1

pub returns-in-135 : goal.returns-in-135
unfolding row_symbols
returns-in-135 c = rw c.in-135.is (_, _, _, refl, refl)

pub returns-in-138 : goal.returns-in-138
unfolding row_symbols
returns-in-138 c = rw c.in-138.is (_, _, _, refl, refl)

pub returns-in-141 : goal.returns-in-141
unfolding row_symbols
returns-in-141 c = rw c.in-141.is (_, _, _, refl, refl)

pub returns-in-142 : goal.returns-in-142
unfolding row_symbols
returns-in-142 c = rw c.in-142.is (_, _, _, refl, refl)

pub returns-in-145 : goal.returns-in-145
unfolding row_symbols
returns-in-145 c = rw c.in-145.is (_, _, _, refl, refl)

pub returns-in-146 : goal.returns-in-146
unfolding row_symbols
returns-in-146 c = rw c.in-146.is (_, _, _, refl, refl)

pub returns-in-147 : goal.returns-in-147
unfolding row_symbols
returns-in-147 c = rw c.in-147.is (_, _, _, refl, refl)

pub returns-in-148 : goal.returns-in-148
unfolding row_symbols
returns-in-148 c = rw c.in-148.is (_, _, _, refl, refl)

pub returns-in-151 : goal.returns-in-151
unfolding row_symbols
returns-in-151 c = rw c.in-151.is (_, _, _, refl, refl)

pub returns-in-152 : goal.returns-in-152
unfolding row_symbols
returns-in-152 c = rw c.in-152.is (_, _, _, refl, refl)

pub returns-in-155 : goal.returns-in-155
unfolding row_symbols
returns-in-155 c = rw c.in-155.is (_, _, _, refl, refl)

pub returns-in-156 : goal.returns-in-156
unfolding row_symbols
returns-in-156 c = rw c.in-156.is (_, _, _, refl, refl)

pub returns-in-157 : goal.returns-in-157
unfolding row_symbols
returns-in-157 c = rw c.in-157.is (_, _, _, refl, refl)

pub returns-in-160 : goal.returns-in-160
unfolding row_symbols
returns-in-160 c = rw c.in-160.is (_, _, _, refl, refl)

use Rattle.std.proofs.Common.{◌<◌, ◌+◌, ◌^◌, Option, sym, ◌∙◌, arith, lit<, subst, ℕ}
use Rattle.std.specs.Option.{SomeIff}
use Rattle.va_base.specs.Numerals.{number_of}
use Rattle.va_base.proofs.NumberOf.{number_of-nil, number_of-take-le, number_of_digit, number_of_other}
use Rattle.va_base.proofs.numeral.number.Goals as goal
use Rattle.va_base.proofs.numeral.number.Goals.{then-is_digit+in_ok-number, else-is_digit}

pub loop-byte-init : goal.loop-byte-init
loop-byte-init c = record { value = sym number_of-nil; small = lit< tt }

pub returns-in_err-number : goal.returns-in_err-number
returns-in_err-number c =
    let bytes = c.args.bytes.now in
    let i = c.loop-byte.byte-index in
    let next = number_of_digit i bytes c.loop-byte-test.true (sym c.is_digit.ensures ∙ c.if-is_digit.true) in
    let front = number_of-take-le (i + 1) bytes in
    let value = c.loop-byte.invariant.value in
    let P : Option ℕ → Type 0 = λ r. SomeIff r (number_of bytes < 2 ^ 127) (number_of bytes) in
    subst P (sym c.from_residual.ensures) (λ small. c.in_err-number.ensures (omega arith))

pub loop-byte-preserved : goal.loop-byte-preserved
loop-byte-preserved c = elim c.if-is_digit.branch [
  | then-is_digit+in_ok-number w ↦ (
      let next = number_of_digit c.loop-byte.byte-index c.args.bytes.now c.loop-byte-test.true (sym c.is_digit.ensures ∙ w.if-is_digit.true) in
      let value = c.loop-byte.invariant.value in
      let step = w.in_ok-number.ensures in
      record { value = omega arith; small = omega arith }
      )
  | else-is_digit w ↦ (
      let next = number_of_other c.loop-byte.byte-index c.args.bytes.now c.loop-byte-test.true (sym c.is_digit.ensures ∙ w.if-is_digit.false) in
      let value = c.loop-byte.invariant.value in
      let small = c.loop-byte.invariant.small in
      record { value = omega arith; small = omega arith }
      )
]

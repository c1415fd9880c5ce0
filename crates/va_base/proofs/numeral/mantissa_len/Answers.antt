use Rattle.std.proofs.Common.{length, sym, ◌∙◌, arith}
use Rattle.std.proofs.lemmas.List.Sums.{prefix_len_is}
use Rattle.va_base.specs.Numerals.{is_mantissa_byte}
use Rattle.va_base.proofs.numeral.mantissa_len.Goals as goal

pub returns-then-not-is_mantissa_byte-clause-length :
    goal.returns-then-not-is_mantissa_byte-clause-length
returns-then-not-is_mantissa_byte-clause-length c =
    sym (prefix_len_is is_mantissa_byte c.args.bytes.now c.loop-at.at 0 (omega arith) c.loop-at.invariant
    (λ lt. sym c.is_mantissa_byte.ensures ∙ c.if-not-is_mantissa_byte.true))

pub returns-clause-length : goal.returns-clause-length
returns-clause-length c =
    let bytes = c.args.bytes.now in
    sym (prefix_len_is is_mantissa_byte bytes (length bytes) 0 (omega arith) (λ k lt. c.loop-at.invariant k (omega arith))
    (λ lt. absurd (omega arith)))

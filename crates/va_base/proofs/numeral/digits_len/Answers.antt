use Rattle.std.proofs.Common.{◌≡◌, get_or, sym, ◌∙◌, inl, inr, arith, false}
use Rattle.va_base.specs.Spelling.{is_digit}
use Rattle.va_base.proofs.Digits.{StopsDigits, digits_done, other_byte}
use Rattle.va_base.proofs.numeral.digits_len.Goals as goal
use Rattle.va_base.proofs.numeral.digits_len.Goals.{else-loop-at-test, then-loop-at-test+else-is_digit+then-byte-ne95, then-byte-ne95-via-then-byte-ne95, then-byte-ne95-via-else-byte-ne95+then-len-eq0}

pub returns-clause-longest : goal.returns-clause-longest
returns-clause-longest c =
    let text = c.args.text.now in
    let at = c.loop-at.at in
    let len = c.loop-at.len in
    let stops : StopsDigits text at len = elim c.loop-at-test.branch as (λ b. StopsDigits text at len) [
      | else-loop-at-test w ↦ (let a = w.loop-at-test in inl (omega (arith, a.false, c.loop-at.auto.at-end)))
      | then-loop-at-test+else-is_digit+then-byte-ne95 w ↦ (
          let digit : is_digit (get_or text at 0) ≡ false = sym w.is_digit.ensures ∙ w.if-is_digit.false in
          inr (
            w.loop-at-test.true,
            digit,
            elim w.then-byte-ne95.branch [
              | then-byte-ne95-via-then-byte-ne95 v ↦ (let q = v.if-byte-ne95 in inl (other_byte (get_or text at 0) digit q.true))
              | then-byte-ne95-via-else-byte-ne95+then-len-eq0 v ↦ inr v.if-len-eq0.true
            ],
          ))
    ] in
    c.then_some.ensures ∙ sym (digits_done text at len c.loop-at.invariant stops)

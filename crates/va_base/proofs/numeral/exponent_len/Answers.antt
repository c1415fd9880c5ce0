use Rattle.std.proofs.Common.{Some, ap, sym, ◌∙◌, arith, false}
use Rattle.va_base.specs.Longest.{one_more}
use Rattle.va_base.specs.Spelling.{is_exponent}
use Rattle.va_base.proofs.Longest.{longest-nil}
use Rattle.va_base.proofs.Numerals.{exponent-signed, exponent-plain}
use Rattle.va_base.proofs.numeral.exponent_len.Goals as goal

pub returns-in_err-first-clause-longest : goal.returns-in_err-first-clause-longest
returns-in_err-first-clause-longest c =
    c.from_residual.ensures ∙ sym (longest-nil is_exponent c.args.text.now c.in_err-first.ensures.cases)

pub returns-in_err-digits_len-clause-longest : goal.returns-in_err-digits_len-clause-longest
returns-in_err-digits_len-clause-longest c =
    c.from_residual-in_err-digits_len.ensures
    ∙ sym (exponent-signed c.args.text.now _ _ c.in_ok-first.ensures.cases.0 (sym c.is_sign.ensures ∙ c.if-is_sign.true)
    ∙ ap (one_more false) (sym c.in_err-digits_len.ensures.longest))

pub returns-in_ok-digits_len-clause-longest : goal.returns-in_ok-digits_len-clause-longest
returns-in_ok-digits_len-clause-longest c =
    ap (λ n. Some n) (omega arith)
    ∙ sym (exponent-signed c.args.text.now _ _ c.in_ok-first.ensures.cases.0 (sym c.is_sign.ensures ∙ c.if-is_sign.true)
    ∙ ap (one_more false) (sym c.in_ok-digits_len.ensures.longest))

pub returns-else-is_sign-clause-longest : goal.returns-else-is_sign-clause-longest
returns-else-is_sign-clause-longest c =
    c.digits_len-else-is_sign.ensures.longest
    ∙ sym (exponent-plain c.args.text.now _ _ c.in_ok-first.ensures.cases.0 (sym c.is_sign.ensures ∙ c.if-is_sign.false))

use Rattle.std.proofs.Common.{Some, ap, sym, ◌∙◌, arith, true}
use Rattle.std.specs.Option.{is_some}
use Rattle.va_base.specs.Longest.{one_more}
use Rattle.va_base.specs.Spelling.{is_tail}
use Rattle.va_base.proofs.Longest.{longest-nil}
use Rattle.va_base.proofs.Numerals.{tail-scale, tail-exponent, tail-other}
use Rattle.va_base.proofs.numeral.tail_len.Goals as goal

pub returns-in_default-clause-longest : goal.returns-in_default-clause-longest
returns-in_default-clause-longest c = longest-nil is_tail c.args.text.now c.in_default.ensures.cases

pub returns-then-is_some-clause-longest : goal.returns-then-is_some-clause-longest
returns-then-is_some-clause-longest c =
    tail-scale c.args.text.now _ _ c.in-Some.ensures.cases.0
    (ap is_some (sym c.scale_power.ensures) ∙ sym c.is_some.ensures ∙ c.if-is_some.true)

pub returns-then-not-is_exponent_letter-clause-longest :
    goal.returns-then-not-is_exponent_letter-clause-longest
returns-then-not-is_exponent_letter-clause-longest c =
    tail-other c.args.text.now _ _ c.in-Some.ensures.cases.0
    (ap is_some (sym c.scale_power.ensures) ∙ sym c.is_some.ensures ∙ c.if-is_some.false)
    (sym c.is_exponent_letter.ensures ∙ c.if-not-is_exponent_letter.true)

pub returns-in-Some-exponent_len-clause-longest : goal.returns-in-Some-exponent_len-clause-longest
returns-in-Some-exponent_len-clause-longest c =
    tail-exponent c.args.text.now _ _ c.in-Some.ensures.cases.0
    (ap is_some (sym c.scale_power.ensures) ∙ sym c.is_some.ensures ∙ c.if-is_some.false)
    (sym c.is_exponent_letter.ensures ∙ c.if-not-is_exponent_letter.false)
    ∙ ap (one_more true) (sym c.in-Some-exponent_len.ensures.longest) ∙ ap (λ n. Some n) (omega arith)

pub returns-in-None-clause-longest : goal.returns-in-None-clause-longest
returns-in-None-clause-longest c =
    tail-exponent c.args.text.now _ _ c.in-Some.ensures.cases.0
    (ap is_some (sym c.scale_power.ensures) ∙ sym c.is_some.ensures ∙ c.if-is_some.false)
    (sym c.is_exponent_letter.ensures ∙ c.if-not-is_exponent_letter.false) ∙ ap (one_more true) (sym c.in-None.ensures.longest)

use Rattle.std.proofs.Common.{◌≡◌, Some, ap, refl, sym, ◌∙◌, arith, true, drop}
use Rattle.std.proofs.lemmas.List.{take_rest}
use Rattle.va_base.specs.Longest.{one_more, longest}
use Rattle.va_base.specs.Spelling.{is_after_whole, is_tail}
use Rattle.va_base.proofs.Longest.{longest-nil}
use Rattle.va_base.proofs.DigitsThen.{digits_then_some, digits_then_none}
use Rattle.va_base.proofs.Numerals.{after_whole-point, after_whole-tail, tail-no_digits}
use Rattle.va_base.proofs.numeral.after_whole_len.Goals as goal

pub returns-in_default-clause-longest : goal.returns-in_default-clause-longest
returns-in_default-clause-longest c = longest-nil is_after_whole c.args.text.now c.in_default.ensures.cases

pub returns-then-first-ne46-clause-longest : goal.returns-then-first-ne46-clause-longest
returns-then-first-ne46-clause-longest c =
    after_whole-tail c.args.text.now _ _ c.in-Some.ensures.cases.0 c.if-first-ne46.true ∙ c.tail_len.ensures.longest

pub returns-in-Some-digits_len-clause-longest : goal.returns-in-Some-digits_len-clause-longest
returns-in-Some-digits_len-clause-longest c =
    let rest = c.in-Some.rest.now in
    let digits = c.in-Some-digits_len.digits in
    let tail = c.tail_len-in-Some-digits_len.result in
    let after : longest is_tail (drop digits rest) ≡ Some tail =
    ap (longest is_tail) (sym (take_rest rest digits)) ∙ c.tail_len-in-Some-digits_len.ensures.longest in
    after_whole-point c.args.text.now _ _ c.in-Some.ensures.cases.0 c.if-first-ne46.false
    ∙ ap (one_more true) (digits_then_some is_tail rest digits tail refl tail-no_digits (sym c.in-Some-digits_len.ensures.longest) after)
    ∙ ap (λ n. Some n) (omega arith)

pub returns-in-None-clause-longest : goal.returns-in-None-clause-longest
returns-in-None-clause-longest c =
    after_whole-point c.args.text.now _ _ c.in-Some.ensures.cases.0 c.if-first-ne46.false
    ∙ ap (one_more true) (digits_then_none is_tail c.in-Some.rest.now (sym c.in-None.ensures.longest))

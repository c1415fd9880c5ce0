use Rattle.std.proofs.Common.{◌≡◌, Some, ap, refl, sym, ◌∙◌, drop}
use Rattle.std.proofs.lemmas.List.{take_rest}
use Rattle.va_base.specs.Longest.{longest}
use Rattle.va_base.specs.Spelling.{is_after_whole, is_numeral}
use Rattle.va_base.proofs.DigitsThen.{digits_then_some, digits_then_none}
use Rattle.va_base.proofs.Numerals.{after_whole-no_digits}
use Rattle.va_base.proofs.numeral.numeral_len.Goals as goal

pub returns-in_err-whole-clause-longest : goal.returns-in_err-whole-clause-longest
unfolding is_numeral
returns-in_err-whole-clause-longest c =
    c.from_residual.ensures ∙ sym (digits_then_none is_after_whole c.args.text.now (sym c.in_err-whole.ensures.longest))

pub returns-clause-longest : goal.returns-clause-longest
unfolding is_numeral
returns-clause-longest c =
    let text = c.args.text.now in
    let whole = c.in_ok-whole.whole in
    let more = c.after_whole_len.result in
    let after : longest is_after_whole (drop whole text) ≡ Some more =
    ap (longest is_after_whole) (sym (take_rest text whole)) ∙ c.after_whole_len.ensures.longest in
    sym (digits_then_some is_after_whole text whole more refl after_whole-no_digits (sym c.in_ok-whole.ensures.longest) after)

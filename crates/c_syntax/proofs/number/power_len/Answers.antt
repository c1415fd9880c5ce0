use Rattle.std.proofs.Common.{ap, sym, ◌∙◌, arith, false}
use Rattle.va_base.specs.Longest.{one_more}
use Rattle.c_syntax.specs.Fronts.{above_zero}
use Rattle.c_syntax.proofs.Numbers.{power-plain, power-minus, minus-zero, minus-some}
use Rattle.c_syntax.proofs.number.power_len.Goals as goal

pub returns-then-not-begins_with-clause-power : goal.returns-then-not-begins_with-clause-power
returns-then-not-begins_with-clause-power c =
    power-plain c.args.text.now (sym c.begins_with.ensures ∙ c.if-not-begins_with.true) ∙ ap above_zero (sym c.front_len.ensures.count)

pub returns-then-digits-eq0-clause-power : goal.returns-then-digits-eq0-clause-power
returns-then-digits-eq0-clause-power c =
    power-minus c.args.text.now (sym c.begins_with.ensures ∙ c.if-not-begins_with.false)
    ∙ ap (λ n. one_more false (above_zero n)) (sym c.front_len-digits.ensures.count) ∙ minus-zero c.front_len-digits.result c.if-digits-eq0.true

pub returns-else-digits-eq0-clause-power : goal.returns-else-digits-eq0-clause-power
returns-else-digits-eq0-clause-power c =
    let some = c.if-digits-eq0.false in
    power-minus c.args.text.now (sym c.begins_with.ensures ∙ c.if-not-begins_with.false)
    ∙ ap (λ n. one_more false (above_zero n)) (sym c.front_len-digits.ensures.count) ∙ minus-some c.front_len-digits.result (omega arith)

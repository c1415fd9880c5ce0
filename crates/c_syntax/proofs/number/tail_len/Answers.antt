use Rattle.std.proofs.Common.{sym, ◌∙◌, arith}
use Rattle.c_syntax.proofs.Numbers.{tail-u, tail-nothing, tail-power, tail-zero, tail-some}
use Rattle.c_syntax.proofs.number.tail_len.Goals as goal

pub returns-then-begins_with-clause-longest : goal.returns-then-begins_with-clause-longest
returns-then-begins_with-clause-longest c = tail-u c.args.text.now (sym c.begins_with.ensures ∙ c.if-begins_with.true)

pub returns-then-not-begins_with-clause-longest : goal.returns-then-not-begins_with-clause-longest
returns-then-not-begins_with-clause-longest c =
    tail-nothing c.args.text.now (sym c.begins_with.ensures ∙ c.if-begins_with.false) (sym c.begins_with-2.ensures ∙ c.if-not-begins_with.true)

pub returns-then-power-eq0-clause-longest : goal.returns-then-power-eq0-clause-longest
returns-then-power-eq0-clause-longest c =
    tail-power c.args.text.now c.power_len-power.result (sym c.begins_with.ensures ∙ c.if-begins_with.false)
    (sym c.begins_with-2.ensures ∙ c.if-not-begins_with.false) c.power_len-power.ensures.power
    ∙ tail-zero c.power_len-power.result c.if-power-eq0.true

pub returns-else-power-eq0-clause-longest : goal.returns-else-power-eq0-clause-longest
returns-else-power-eq0-clause-longest c =
    let some = c.if-power-eq0.false in
    tail-power c.args.text.now c.power_len-power.result (sym c.begins_with.ensures ∙ c.if-begins_with.false)
    (sym c.begins_with-2.ensures ∙ c.if-not-begins_with.false) c.power_len-power.ensures.power
    ∙ tail-some c.power_len-power.result (omega arith)

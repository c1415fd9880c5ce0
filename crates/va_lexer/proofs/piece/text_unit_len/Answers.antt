use Rattle.std.proofs.Common.{◌≡◌, ◌<◌, ◌≤◌, ◌+◌, ℕ, suc, List, ◌∷◌, length, take, drop, refl, ap, sym, ◌∙◌, arith, Option, Some, None, true, false}
use Rattle.va_lexer.proofs.TextFronts.{unit-quote, unit-stop, unit-one, unit-two, unit-alone}
use Rattle.va_lexer.proofs.piece.text_unit_len.Goals as goal

pub returns-then-begins_with-clause-none : goal.returns-then-begins_with-clause-none
returns-then-begins_with-clause-none c = λ z. unit-quote c.args.rest.now (sym c.begins_with.ensures ∙ c.if-begins_with.true)

pub returns-then-not-begins-clause-none : goal.returns-then-not-begins-clause-none
returns-then-not-begins-clause-none c = λ z.
    unit-stop c.args.rest.now (sym c.begins_with.ensures ∙ c.if-begins_with.false) (sym c.begins.ensures ∙ c.if-not-begins.true)

pub returns-then-not-begins_with-clause-unit : goal.returns-then-not-begins_with-clause-unit
returns-then-not-begins_with-clause-unit c = λ z.
    unit-one c.args.rest.now (sym c.begins_with.ensures ∙ c.if-begins_with.false) (sym c.begins.ensures ∙ c.if-not-begins.false)
    (sym c.begins_with-2.ensures ∙ c.if-not-begins_with.true)

pub returns-then-begins-clause-unit : goal.returns-then-begins-clause-unit
returns-then-begins-clause-unit c = λ z.
    unit-two c.args.rest.now (sym c.begins_with-2.ensures ∙ c.if-not-begins_with.false) (sym c.begins-2.ensures ∙ c.if-begins.true)

pub returns-else-begins-clause-none : goal.returns-else-begins-clause-none
returns-else-begins-clause-none c = λ z.
    unit-alone c.args.rest.now (sym c.begins_with.ensures ∙ c.if-begins_with.false)
    (sym c.begins_with-2.ensures ∙ c.if-not-begins_with.false) (sym c.begins-2.ensures ∙ c.if-begins.false)

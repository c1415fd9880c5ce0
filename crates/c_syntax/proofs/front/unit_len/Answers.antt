use Rattle.std.proofs.Common.{length, sym, ◌∙◌, true, false}
use Rattle.std.proofs.lemmas.Bool.{eqb-true}
use Rattle.c_syntax.proofs.Strings.{string-plain, string-escape, string-stop, first-plain, string-empty, some_there}
use Rattle.c_syntax.proofs.front.unit_len.Goals as goal

pub returns-then-is_empty-clause-none : goal.returns-then-is_empty-clause-none
returns-then-is_empty-clause-none c = λ z.
    string-empty c.args.rest.now (eqb-true (length c.args.rest.now) 0 (sym c.is_empty.ensures ∙ c.if-is_empty.true))

pub returns-then-is_plain-clause-unit : goal.returns-then-is_plain-clause-unit
returns-then-is_plain-clause-unit c = λ z.
    let rest = c.args.rest.now in
    string-plain rest (first-plain rest true (some_there rest (sym c.is_empty.ensures ∙ c.if-is_empty.false)) (sym c.is_plain.ensures ∙ c.if-is_plain.true))

pub returns-then-begins_escape-clause-unit : goal.returns-then-begins_escape-clause-unit
returns-then-begins_escape-clause-unit c = λ z. string-escape c.args.rest.now (sym c.begins_escape.ensures ∙ c.if-begins_escape.true)

pub returns-else-begins_escape-clause-none : goal.returns-else-begins_escape-clause-none
returns-else-begins_escape-clause-none c = λ z.
    let rest = c.args.rest.now in
    string-stop rest (first-plain rest false (some_there rest (sym c.is_empty.ensures ∙ c.if-is_empty.false)) (sym c.is_plain.ensures ∙ c.if-is_plain.false))
    (sym c.begins_escape.ensures ∙ c.if-begins_escape.false)

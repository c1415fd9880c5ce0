use Rattle.std.proofs.Common.{◌≡◌, ◌<◌, ◌≤◌, ◌+◌, ℕ, suc, List, ◌∷◌, length, take, drop, refl, ap, sym, ◌∙◌, arith, Option, Some, None, true, false}
use Rattle.va_lexer.proofs.TextFronts.{end-newline, end-other, end-return, end-alone}
use Rattle.va_lexer.proofs.piece.line_end_len.Goals as goal

pub returns-then-begins_with-clause-longest : goal.returns-then-begins_with-clause-longest
returns-then-begins_with-clause-longest c = sym (end-newline c.args.text.now (sym c.begins_with.ensures ∙ c.if-begins_with.true))

pub returns-then-not-begins_with-clause-longest : goal.returns-then-not-begins_with-clause-longest
returns-then-not-begins_with-clause-longest c =
    sym (end-other c.args.text.now (sym c.begins_with.ensures ∙ c.if-begins_with.false)
    (sym c.begins_with-2.ensures ∙ c.if-not-begins_with.true))

pub returns-then-begins_with-2-clause-longest : goal.returns-then-begins_with-2-clause-longest
returns-then-begins_with-2-clause-longest c =
    sym (end-return c.args.text.now (sym c.begins_with-2.ensures ∙ c.if-not-begins_with.false)
    (sym c.begins_with-3.ensures ∙ c.if-begins_with-2.true))

pub returns-else-begins_with-2-clause-longest : goal.returns-else-begins_with-2-clause-longest
returns-else-begins_with-2-clause-longest c =
    sym (end-alone c.args.text.now (sym c.begins_with-2.ensures ∙ c.if-not-begins_with.false)
    (sym c.begins_with-3.ensures ∙ c.if-begins_with-2.false))

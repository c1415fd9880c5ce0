use Rattle.std.proofs.Common.{◌≡◌, ◌≤◌, length, sym, ◌∙◌, arith}
use Rattle.std.proofs.lemmas.List.Sums.{prefix_len_is}
use Rattle.va_base.proofs.bytes.front_len.Goals as goal

pub returns-then-not-passes-clause-count : goal.returns-then-not-passes-clause-count
returns-then-not-passes-clause-count g c =
    sym (prefix_len_is g.T.ByteTest.test c.args.text.now c.loop-at.at 0 (omega arith) c.loop-at.invariant
    (λ lt. sym c.passes.ensures ∙ c.if-not-passes.true))

pub returns-clause-count : goal.returns-clause-count
returns-clause-count g c =
    let bytes = c.args.text.now in
    sym (prefix_len_is g.T.ByteTest.test bytes (length bytes) 0 (omega arith) (λ k lt. c.loop-at.invariant k (omega arith))
    (λ lt. absurd (omega arith)))

use Rattle.std.proofs.Common.{sym, ◌∙◌, ◌/◌, arith}
use Rattle.alg_run.proofs.Halves.{even, odd}
use Rattle.alg_run.proofs.literals.+copies_of_one.Goals as goal

pub returns-then-count-eq0-2 : goal.returns-then-count-eq0-2
returns-then-count-eq0-2 g t c =
    let a = g.A.Algebra in
    c.add-twice.ensures
    ∙ (λ i. a.ops.sum (c.copies_of_one-half.ensures i) (c.copies_of_one-half.ensures i))
    ∙ sym (even a.ops a.valid a.unit a.laws c.args.count (c.args.count / 2) (omega (arith, c.if-count-eq0-2.true)))

pub returns : goal.returns
returns g t c =
    let a = g.A.Algebra in
    c.add.ensures
    ∙ (λ i. a.ops.sum (c.add-twice.ensures i) (c.one.ensures i))
    ∙ (λ i. a.ops.sum (a.ops.sum (c.copies_of_one-half.ensures i) (c.copies_of_one-half.ensures i)) a.ops.one)
    ∙ sym (odd a.ops a.valid a.unit a.laws c.args.count (c.args.count / 2) (omega (arith, c.if-count-eq0-2.false)))

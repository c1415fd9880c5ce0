use Rattle.std.proofs.Common.{sym, ◌∙◌}
use Rattle.c_syntax.specs.grammar.Names.{place_of}
use Rattle.c_syntax.proofs.Places.{placed-none, name-later, name-here, name-nowhere, names_in}
use Rattle.c_syntax.proofs.kinds.place_of.Goals as goal

pub loop-place-init : goal.loop-place-init
loop-place-init c = placed-none (place_of (names_in c.args.names.now) c.args.word.now)

pub loop-place-preserved : goal.loop-place-preserved
loop-place-preserved c =
    c.loop-place.invariant
    ∙ name-later c.args.names.now c.loop-place.place c.args.word.now c.as_bytes.result.now _ c.loop-place-test.true c.as_bytes.ensures.value
    (sym c.is_same.ensures ∙ c.if-is_same.false)

pub returns-then-is_same-clause-place : goal.returns-then-is_same-clause-place
returns-then-is_same-clause-place c =
    sym (c.loop-place.invariant
    ∙ name-here c.args.names.now c.loop-place.place c.args.word.now c.as_bytes.result.now _ c.loop-place-test.true c.as_bytes.ensures.value
    (sym c.is_same.ensures ∙ c.if-is_same.true))

pub returns-clause-place : goal.returns-clause-place
returns-clause-place c =
    sym (c.loop-place.invariant ∙ name-nowhere c.args.names.now c.loop-place.place c.args.word.now c.loop-place-test.false)

use Rattle.va_sem.specs.Builtins.{taken_at}
use Rattle.va_types.proofs.FittingKinds.{kinds_next}
use Rattle.va_types.proofs.kinds.note_kinds.Goals as goal

pub loop-place-preserved : goal.loop-place-preserved
loop-place-preserved c =
    kinds_next c.args.table.now.uses (taken_at c.args.callee c.args.name.now) c.args.args.now c.args.found.now c.loop-place.found c.note_if.new.self c.loop-place.place c.token_of.result c.index-args-place.result c.loop-place.all c.takes-fits.result c.both-all.result
    c.loop-place-test.true c.index-args-place.is c.takes-fits.ensures c.token_of.ensures c.both-all.ensures c.note_if.ensures c.loop-place.invariant

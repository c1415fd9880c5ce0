use Rattle.std.proofs.Common.{arith, refl, ◌∷◌, []}
use Rattle.va_build.specs.Reading.{row_symbols}
use Rattle.va_build.specs.SourceStatements.{event_analyses, event_kind}
use Rattle.va_build.proofs.TakenRows.{read, told}
use Rattle.va_build.proofs.DueRows.{no_other, node_left, one_due, passed, taken, token_left}
use Rattle.va_build.proofs.statement_parts.event.Goals as goal

pub returns-in_ok-analyses-in-117-clause-event : goal.returns-in_ok-analyses-in-117-clause-event
unfolding row_symbols
returns-in_ok-analyses-in-117-clause-event c = told event_kind _ _ _ 117 _ c.enter.ensures c.in-117.is refl

pub returns-in_ok-analyses-in-118-clause-event : goal.returns-in_ok-analyses-in-118-clause-event
unfolding row_symbols
returns-in_ok-analyses-in-118-clause-event c = told event_kind _ _ _ 118 _ c.enter.ensures c.in-118.is refl

pub returns-in_ok-analyses-in-117-clause-analyses : goal.returns-in_ok-analyses-in-117-clause-analyses
unfolding row_symbols
returns-in_ok-analyses-in-117-clause-analyses c = read (event_analyses c.args.e.now) _ _ _ _ 117 _ c.enter.ensures c.in-117.is (grind arith) (grind arith) (grind arith) (grind arith)

pub returns-in_ok-analyses-in-118-clause-analyses : goal.returns-in_ok-analyses-in-118-clause-analyses
unfolding row_symbols
returns-in_ok-analyses-in-118-clause-analyses c = read (event_analyses c.args.e.now) _ _ _ _ 118 _ c.enter.ensures c.in-118.is (grind arith) (grind arith) (grind arith) (grind arith)

pub enter-requires : goal.enter-requires
enter-requires c = node_left c.requires.due

pub pass-requires : goal.pass-requires
unfolding row_symbols
pass-requires c = token_left (taken 117 c.requires.due c.enter.ensures c.in-117.is)

pub analyses-requires-clause-due : goal.analyses-requires-clause-due
unfolding row_symbols
analyses-requires-clause-due c = one_due (passed (taken 117 c.requires.due c.enter.ensures c.in-117.is) c.pass.ensures)

pub pass-requires-in-118 : goal.pass-requires-in-118
unfolding row_symbols
pass-requires-in-118 c = token_left (taken 118 c.requires.due c.enter.ensures c.in-118.is)

pub analyses-requires-in-118-clause-due : goal.analyses-requires-in-118-clause-due
unfolding row_symbols
analyses-requires-in-118-clause-due c = one_due (passed (taken 118 c.requires.due c.enter.ensures c.in-118.is) c.pass-in-118.ensures)

pub unreachable-requires : goal.unreachable-requires
unreachable-requires c = no_other (117 ∷ 118 ∷ []) c.requires.due c.enter.ensures refl (c.in_default.in_default-own.rest.0.1, (c.in_default.in_default-own.rest.1, tt))

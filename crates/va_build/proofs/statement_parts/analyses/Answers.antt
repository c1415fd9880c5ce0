use Rattle.std.proofs.Common.{arith, refl, ◌∷◌, []}
use Rattle.va_build.specs.Reading.{row_symbols}
use Rattle.va_build.specs.SourceStatements.{analyses}
use Rattle.va_build.proofs.TakenRows.{read}
use Rattle.va_build.proofs.DueRows.{behind, no_other, node_left, one_due, passed, passed_by, taken, token_left}
use Rattle.va_build.proofs.statement_parts.analyses.Goals as goal

pub returns-in_ok-list-in-119 : goal.returns-in_ok-list-in-119
unfolding row_symbols
returns-in_ok-list-in-119 c = read (analyses c.args.e.now) _ _ _ _ 119 _ c.enter.ensures c.in-119.is (grind arith) (grind arith) (grind arith) (grind arith)

pub returns-in-120 : goal.returns-in-120
unfolding row_symbols
returns-in-120 c = read (analyses c.args.e.now) _ _ _ _ 120 _ c.enter.ensures c.in-120.is (grind arith) (grind arith) (grind arith) (grind arith)

pub enter-requires : goal.enter-requires
enter-requires c = node_left c.requires.due

pub pass-requires : goal.pass-requires
unfolding row_symbols
pass-requires c = token_left (taken 119 c.requires.due c.enter.ensures c.in-119.is)

pub named-requires-clause-due : goal.named-requires-clause-due
unfolding row_symbols
named-requires-clause-due c = token_left (passed (taken 119 c.requires.due c.enter.ensures c.in-119.is) c.pass.ensures)

pub analyses_behind-requires-clause-due : goal.analyses_behind-requires-clause-due
unfolding row_symbols
analyses_behind-requires-clause-due c = one_due (passed_by (passed (taken 119 c.requires.due c.enter.ensures c.in-119.is) c.pass.ensures) c.in_ok-first-in-119.ensures.passed c.in_ok-first-in-119.ensures.nodes)

pub pass-requires-in-119 : goal.pass-requires-in-119
unfolding row_symbols
pass-requires-in-119 c = token_left (behind (passed_by (passed (taken 119 c.requires.due c.enter.ensures c.in-119.is) c.pass.ensures) c.in_ok-first-in-119.ensures.passed c.in_ok-first-in-119.ensures.nodes) c.in_ok-list-in-119.ensures)

pub unreachable-requires : goal.unreachable-requires
unreachable-requires c = no_other (119 ∷ 120 ∷ []) c.requires.due c.enter.ensures refl (c.in_default.in_default-own.rest.0.1, (c.in_default.in_default-own.rest.1, tt))

use Rattle.std.proofs.Common.{arith, refl, [], ◌∷◌}
use Rattle.va_build.specs.Reading.{row_symbols}
use Rattle.va_build.specs.SourceItems.{directed}
use Rattle.va_build.proofs.TakenRows.{read}
use Rattle.va_build.proofs.DueRows.{no_other, node_left, one_due, passed_by, taken, token_left}
use Rattle.va_build.proofs.item_bodies.directed.Goals as goal

pub returns-in_ok-names-in-52 : goal.returns-in_ok-names-in-52
unfolding row_symbols
returns-in_ok-names-in-52 c = record { each = λ start to. read (directed c.args.e.now start to c.args.name) _ _ _ _ 52 _ c.enter.ensures c.in-52.is (grind arith) (grind arith) (grind arith) (grind arith) }

pub returns-in_ok-names-in-53 : goal.returns-in_ok-names-in-53
unfolding row_symbols
returns-in_ok-names-in-53 c = record { each = λ start to. read (directed c.args.e.now start to c.args.name) _ _ _ _ 53 _ c.enter.ensures c.in-53.is (grind arith) (grind arith) (grind arith) (grind arith) }

pub enter-requires : goal.enter-requires
enter-requires c = node_left c.requires.due

pub names_behind-requires-clause-due : goal.names_behind-requires-clause-due
unfolding row_symbols
names_behind-requires-clause-due c = one_due (passed_by (taken 52 c.requires.due c.enter.ensures c.in-52.is) c.in_ok-first-in-52.ensures.passed c.in_ok-first-in-52.ensures.nodes)

pub names_behind-requires-in-53-clause-due : goal.names_behind-requires-in-53-clause-due
unfolding row_symbols
names_behind-requires-in-53-clause-due c = one_due (taken 53 c.requires.due c.enter.ensures c.in-53.is)

pub unreachable-requires : goal.unreachable-requires
unreachable-requires c = no_other (52 ∷ 53 ∷ []) c.requires.due c.enter.ensures refl (c.in_default.in_default-own.rest.0.1, (c.in_default.in_default-own.rest.1, tt))

pub named-requires-clause-due : goal.named-requires-clause-due
unfolding row_symbols
named-requires-clause-due c = token_left (taken 52 c.requires.due c.enter.ensures c.in-52.is)

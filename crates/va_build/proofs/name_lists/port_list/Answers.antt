use Rattle.std.proofs.Common.{arith, refl, [], ◌∷◌}
use Rattle.va_build.specs.Reading.{row_symbols}
use Rattle.va_build.specs.SourceOf.{port_list}
use Rattle.va_build.proofs.TakenRows.{read}
use Rattle.va_build.proofs.DueRows.{no_other, node_left, one_due, passed_by, taken, token_left}
use Rattle.va_build.proofs.name_lists.port_list.Goals as goal

pub returns-in_ok-list-in-33 : goal.returns-in_ok-list-in-33
unfolding row_symbols
returns-in_ok-list-in-33 c = read (port_list c.args.e.now) _ _ _ _ 33 _ c.enter.ensures c.in-33.is (grind arith) (grind arith) (grind arith) (grind arith)

pub returns-in-34 : goal.returns-in-34
unfolding row_symbols
returns-in-34 c = read (port_list c.args.e.now) _ _ _ _ 34 _ c.enter.ensures c.in-34.is (grind arith) (grind arith) (grind arith) (grind arith)

pub enter-requires : goal.enter-requires
enter-requires c = node_left c.requires.due

pub unreachable-requires : goal.unreachable-requires
unreachable-requires c = no_other (33 ∷ 34 ∷ []) c.requires.due c.enter.ensures refl (c.in_default.in_default-own.rest.0.1, (c.in_default.in_default-own.rest.1, tt))

pub names_behind-requires-clause-due : goal.names_behind-requires-clause-due
unfolding row_symbols
names_behind-requires-clause-due c = one_due (passed_by (taken 33 c.requires.due c.enter.ensures c.in-33.is) c.in_ok-first-in-33.ensures.passed c.in_ok-first-in-33.ensures.nodes)

pub named-requires-clause-due : goal.named-requires-clause-due
unfolding row_symbols
named-requires-clause-due c = token_left (taken 33 c.requires.due c.enter.ensures c.in-33.is)

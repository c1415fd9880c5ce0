use Rattle.std.proofs.Common.{arith, refl, [], ◌∷◌}
use Rattle.va_build.specs.Reading.{row_symbols}
use Rattle.va_build.specs.SourceOf.{ports}
use Rattle.va_build.proofs.TakenRows.{read}
use Rattle.va_build.proofs.DueRows.{behind, no_other, node_left, one_due, passed, taken, token_left}
use Rattle.va_build.proofs.name_lists.ports.Goals as goal

pub returns-in_ok-list-in-31 : goal.returns-in_ok-list-in-31
unfolding row_symbols
returns-in_ok-list-in-31 c = read (ports c.args.e.now) _ _ _ _ 31 _ c.enter.ensures c.in-31.is (grind arith) (grind arith) (grind arith) (grind arith)

pub returns-in-32 : goal.returns-in-32
unfolding row_symbols
returns-in-32 c = read (ports c.args.e.now) _ _ _ _ 32 _ c.enter.ensures c.in-32.is (grind arith) (grind arith) (grind arith) (grind arith)

pub enter-requires : goal.enter-requires
enter-requires c = node_left c.requires.due

pub pass-requires : goal.pass-requires
unfolding row_symbols
pass-requires c = token_left (taken 31 c.requires.due c.enter.ensures c.in-31.is)

pub port_list-requires-clause-due : goal.port_list-requires-clause-due
unfolding row_symbols
port_list-requires-clause-due c = one_due (passed (taken 31 c.requires.due c.enter.ensures c.in-31.is) c.pass.ensures)

pub pass-requires-in-31 : goal.pass-requires-in-31
unfolding row_symbols
pass-requires-in-31 c = token_left (behind (passed (taken 31 c.requires.due c.enter.ensures c.in-31.is) c.pass.ensures) c.in_ok-list-in-31.ensures)

pub unreachable-requires : goal.unreachable-requires
unreachable-requires c = no_other (31 ∷ 32 ∷ []) c.requires.due c.enter.ensures refl (c.in_default.in_default-own.rest.0.1, (c.in_default.in_default-own.rest.1, tt))

use Rattle.std.proofs.Common.{arith, refl, ◌∷◌, []}
use Rattle.va_build.specs.Reading.{row_symbols}
use Rattle.va_build.specs.SourceStatements.{second_node}
use Rattle.va_build.proofs.TakenRows.{read}
use Rattle.va_build.proofs.DueRows.{no_other, node_left, passed, taken, token_left}
use Rattle.va_build.proofs.statement_parts.second_node.Goals as goal

pub returns-in_ok-name-in-54 : goal.returns-in_ok-name-in-54
unfolding row_symbols
returns-in_ok-name-in-54 c = read (second_node c.args.e.now) _ _ _ _ 54 _ c.enter.ensures c.in-54.is (grind arith) (grind arith) (grind arith) (grind arith)

pub returns-in-55 : goal.returns-in-55
unfolding row_symbols
returns-in-55 c = read (second_node c.args.e.now) _ _ _ _ 55 _ c.enter.ensures c.in-55.is (grind arith) (grind arith) (grind arith) (grind arith)

pub enter-requires : goal.enter-requires
enter-requires c = node_left c.requires.due

pub pass-requires : goal.pass-requires
unfolding row_symbols
pass-requires c = token_left (taken 54 c.requires.due c.enter.ensures c.in-54.is)

pub named-requires-clause-due : goal.named-requires-clause-due
unfolding row_symbols
named-requires-clause-due c = token_left (passed (taken 54 c.requires.due c.enter.ensures c.in-54.is) c.pass.ensures)

pub unreachable-requires : goal.unreachable-requires
unreachable-requires c = no_other (54 ∷ 55 ∷ []) c.requires.due c.enter.ensures refl (c.in_default.in_default-own.rest.0.1, (c.in_default.in_default-own.rest.1, tt))

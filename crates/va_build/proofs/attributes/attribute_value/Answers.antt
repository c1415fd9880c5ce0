use Rattle.std.proofs.Common.{arith, refl, [], ◌∷◌}
use Rattle.va_build.specs.Reading.{row_symbols}
use Rattle.va_build.specs.SourceItems.{attribute_value}
use Rattle.va_build.proofs.TakenRows.{read}
use Rattle.va_build.proofs.DueRows.{no_other, node_left, one_due, passed, taken, token_left}
use Rattle.va_build.proofs.attributes.attribute_value.Goals as goal

pub returns-in_ok-value-in-11 : goal.returns-in_ok-value-in-11
unfolding row_symbols
returns-in_ok-value-in-11 c = read (attribute_value c.args.e.now) _ _ _ _ 11 _ c.enter.ensures c.in-11.is (grind arith) (grind arith) (grind arith) (grind arith)

pub returns-in-12 : goal.returns-in-12
unfolding row_symbols
returns-in-12 c = read (attribute_value c.args.e.now) _ _ _ _ 12 _ c.enter.ensures c.in-12.is (grind arith) (grind arith) (grind arith) (grind arith)

pub enter-requires : goal.enter-requires
enter-requires c = node_left c.requires.due

pub pass-requires : goal.pass-requires
unfolding row_symbols
pass-requires c = token_left (taken 11 c.requires.due c.enter.ensures c.in-11.is)

pub unreachable-requires : goal.unreachable-requires
unreachable-requires c = no_other (11 ∷ 12 ∷ []) c.requires.due c.enter.ensures refl (c.in_default.in_default-own.rest.0.1, (c.in_default.in_default-own.rest.1, tt))

pub argument-requires-clause-due : goal.argument-requires-clause-due
unfolding row_symbols
argument-requires-clause-due c = one_due (passed (taken 11 c.requires.due c.enter.ensures c.in-11.is) c.pass.ensures)

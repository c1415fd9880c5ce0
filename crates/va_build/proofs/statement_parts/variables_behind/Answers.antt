use Rattle.std.proofs.Common.{arith, refl, ◌+◌, ◌++◌, ◌∷◌, []}
use Rattle.va_build.specs.Reading.{row_symbols, first_tree, trees}
use Rattle.va_build.specs.SourceStatements.{variable, more_variables}
use Rattle.va_build.proofs.TakenRows.{read_end_row, reads_on_row, pushed_list, nothing_behind}
use Rattle.va_build.proofs.DueRows.{behind, no_other, node_left, one_due, passed, taken, token_left}
use Rattle.va_build.proofs.statement_parts.variables_behind.Goals as goal

pub loop-reader-preserved : goal.loop-reader-preserved
unfolding row_symbols
loop-reader-preserved c = record { reads = reads_on_row (λ at t. c.loop-reader.list.items ++ more_variables c.args.e.now at t) _ _ _ _ _ _ _ 77 c.loop-reader.invariant.reads c.enter.ensures c.in-77.is (pushed_list _ _ _ _ (variable c.args.e.now (c.loop-reader.reader.at + 1) (first_tree (trees c.enter.new.self))) _ c.in_ok-push-in-77.ensures.items (grind arith) (grind arith)) (grind arith) (grind arith) (grind arith); due = behind (passed (taken 77 c.loop-reader.invariant.due c.enter.ensures c.in-77.is) c.pass.ensures) c.in_ok-next-in-77.ensures }

pub returns-in-78 : goal.returns-in-78
unfolding row_symbols
returns-in-78 c = read_end_row (λ at t. c.loop-reader.list.items ++ more_variables c.args.e.now at t) _ _ _ _ _ 78 _ c.loop-reader.invariant.reads c.enter.ensures c.in-78.is refl (nothing_behind _)

pub enter-requires : goal.enter-requires
enter-requires c = node_left c.loop-reader.invariant.due

pub pass-requires : goal.pass-requires
unfolding row_symbols
pass-requires c = token_left (taken 77 c.loop-reader.invariant.due c.enter.ensures c.in-77.is)

pub variable-requires-clause-due : goal.variable-requires-clause-due
unfolding row_symbols
variable-requires-clause-due c = one_due (passed (taken 77 c.loop-reader.invariant.due c.enter.ensures c.in-77.is) c.pass.ensures)

pub unreachable-requires : goal.unreachable-requires
unreachable-requires c = no_other (77 ∷ 78 ∷ []) c.loop-reader.invariant.due c.enter.ensures refl (c.in_default.in_default-own.rest.0.1, (c.in_default.in_default-own.rest.1, tt))

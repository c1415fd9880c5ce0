use Rattle.std.proofs.Common.{arith, refl, ◌+◌, ◌++◌, [], ◌∷◌}
use Rattle.va_build.specs.Reading.{row_symbols, first_tree, trees}
use Rattle.va_build.specs.SourceItems.{more_parameters, parameter}
use Rattle.va_build.proofs.TakenRows.{read_end_row, reads_on_row, pushed_list, nothing_behind}
use Rattle.va_build.proofs.DueRows.{behind, no_other, node_left, one_due, passed, taken, token_left}
use Rattle.va_build.proofs.parameters.parameters_behind.Goals as goal

pub loop-reader-preserved : goal.loop-reader-preserved
unfolding row_symbols
loop-reader-preserved c = record { reads = reads_on_row (λ at t. c.loop-reader.list.items ++ more_parameters c.args.e.now at t) _ _ _ _ _ _ _ 60 c.loop-reader.invariant.reads c.enter.ensures c.in-60.is (pushed_list _ _ _ _ (parameter c.args.e.now (c.loop-reader.reader.at + 1) (first_tree (trees c.enter.new.self))) _ c.in_ok-push-in-60.ensures.items (grind arith) (grind arith)) (grind arith) (grind arith) (grind arith); due = behind (passed (taken 60 c.loop-reader.invariant.due c.enter.ensures c.in-60.is) c.pass.ensures) c.in_ok-next-in-60.ensures }

pub returns-in-61 : goal.returns-in-61
unfolding row_symbols
returns-in-61 c = read_end_row (λ at t. c.loop-reader.list.items ++ more_parameters c.args.e.now at t) _ _ _ _ _ 61 _ c.loop-reader.invariant.reads c.enter.ensures c.in-61.is refl (nothing_behind _)

pub enter-requires : goal.enter-requires
enter-requires c = node_left c.loop-reader.invariant.due

pub pass-requires : goal.pass-requires
unfolding row_symbols
pass-requires c = token_left (taken 60 c.loop-reader.invariant.due c.enter.ensures c.in-60.is)

pub parameter-requires-clause-due : goal.parameter-requires-clause-due
unfolding row_symbols
parameter-requires-clause-due c = one_due (passed (taken 60 c.loop-reader.invariant.due c.enter.ensures c.in-60.is) c.pass.ensures)

pub unreachable-requires : goal.unreachable-requires
unreachable-requires c = no_other (60 ∷ 61 ∷ []) c.loop-reader.invariant.due c.enter.ensures refl (c.in_default.in_default-own.rest.0.1, (c.in_default.in_default-own.rest.1, tt))

use Rattle.std.proofs.Common.{arith, refl, ◌+◌, ◌++◌, [], ◌∷◌}
use Rattle.va_build.specs.Reading.{row_symbols, first_tree, trees}
use Rattle.va_build.specs.SourceItems.{exclusion, interval, ranges}
use Rattle.va_build.proofs.TakenRows.{read_end_row, reads_on_row, pushed_list, nothing_behind}
use Rattle.va_build.proofs.DueRows.{behind, no_other, node_left, one_due, passed, taken, token_left}
use Rattle.va_build.proofs.ranges.ranges.Goals as goal

pub loop-reader-preserved-in-Continue-branch-2 : goal.loop-reader-preserved-in-Continue-branch-2
unfolding row_symbols
loop-reader-preserved-in-Continue-branch-2 c = record { reads = reads_on_row (λ at t. c.loop-reader.list.items ++ ranges c.args.e.now at t) _ _ _ _ _ _ _ 63 c.loop-reader.invariant.reads c.enter.ensures c.in-63.is (pushed_list _ _ _ _ (interval c.args.e.now (c.loop-reader.reader.at + 1) (first_tree (trees c.enter.new.self))) _ c.in_ok-push-in-63.ensures.items (grind arith) (grind arith)) (grind arith) (grind arith) (grind arith); due = behind (passed (taken 63 c.loop-reader.invariant.due c.enter.ensures c.in-63.is) c.pass.ensures) c.in_ok-next-in-63.ensures }

pub loop-reader-preserved : goal.loop-reader-preserved
unfolding row_symbols
loop-reader-preserved c = record { reads = reads_on_row (λ at t. c.loop-reader.list.items ++ ranges c.args.e.now at t) _ _ _ _ _ _ _ 64 c.loop-reader.invariant.reads c.enter.ensures c.in-64.is (pushed_list _ _ _ _ (exclusion c.args.e.now (c.loop-reader.reader.at + 1) (first_tree (trees c.enter.new.self))) _ c.in_ok-push-in-64.ensures.items (grind arith) (grind arith)) (grind arith) (grind arith) (grind arith); due = behind (passed (taken 64 c.loop-reader.invariant.due c.enter.ensures c.in-64.is) c.pass-in-64.ensures) c.in_ok-next-in-64.ensures }

pub returns-in-65 : goal.returns-in-65
unfolding row_symbols
returns-in-65 c = read_end_row (λ at t. c.loop-reader.list.items ++ ranges c.args.e.now at t) _ _ _ _ _ 65 _ c.loop-reader.invariant.reads c.enter.ensures c.in-65.is refl (nothing_behind _)

pub enter-requires : goal.enter-requires
enter-requires c = node_left c.loop-reader.invariant.due

pub pass-requires : goal.pass-requires
unfolding row_symbols
pass-requires c = token_left (taken 63 c.loop-reader.invariant.due c.enter.ensures c.in-63.is)

pub interval-requires-clause-due : goal.interval-requires-clause-due
unfolding row_symbols
interval-requires-clause-due c = one_due (passed (taken 63 c.loop-reader.invariant.due c.enter.ensures c.in-63.is) c.pass.ensures)

pub pass-requires-in-64 : goal.pass-requires-in-64
unfolding row_symbols
pass-requires-in-64 c = token_left (taken 64 c.loop-reader.invariant.due c.enter.ensures c.in-64.is)

pub exclusion-requires-clause-due : goal.exclusion-requires-clause-due
unfolding row_symbols
exclusion-requires-clause-due c = one_due (passed (taken 64 c.loop-reader.invariant.due c.enter.ensures c.in-64.is) c.pass-in-64.ensures)

pub unreachable-requires : goal.unreachable-requires
unreachable-requires c = no_other (63 ∷ 64 ∷ 65 ∷ []) c.loop-reader.invariant.due c.enter.ensures refl (c.in_default.in_default-own.rest.0.0.1, (c.in_default.in_default-own.rest.0.1, (c.in_default.in_default-own.rest.1, tt)))

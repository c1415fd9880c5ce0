use Rattle.std.proofs.Common.{arith, refl, ◌++◌, ◌∷◌, []}
use Rattle.va_build.specs.Reading.{row_symbols, first_tree, trees}
use Rattle.va_build.specs.SourceStatements.{declaration, declarations}
use Rattle.va_build.proofs.TakenRows.{read_end_row, reads_on_row, pushed_list, nothing_behind}
use Rattle.va_build.proofs.DueRows.{behind, no_other, node_left, one_due, taken}
use Rattle.va_build.proofs.statement_parts.declarations.Goals as goal

pub loop-reader-preserved : goal.loop-reader-preserved
unfolding row_symbols
loop-reader-preserved c = record { reads = reads_on_row (λ at t. c.loop-reader.list.items ++ declarations c.args.e.now at t) _ _ _ _ _ _ _ 101 c.loop-reader.invariant.reads c.enter.ensures c.in-101.is (pushed_list _ _ _ _ (declaration c.args.e.now (c.loop-reader.reader.at) (first_tree (trees c.enter.new.self))) _ c.in_ok-push-in-101.ensures.items (grind arith) (grind arith)) (grind arith) (grind arith) (grind arith); due = behind (taken 101 c.loop-reader.invariant.due c.enter.ensures c.in-101.is) c.in_ok-next-in-101.ensures }

pub returns-in-102 : goal.returns-in-102
unfolding row_symbols
returns-in-102 c = read_end_row (λ at t. c.loop-reader.list.items ++ declarations c.args.e.now at t) _ _ _ _ _ 102 _ c.loop-reader.invariant.reads c.enter.ensures c.in-102.is refl (nothing_behind _)

pub enter-requires : goal.enter-requires
enter-requires c = node_left c.loop-reader.invariant.due

pub declaration-requires-clause-due : goal.declaration-requires-clause-due
unfolding row_symbols
declaration-requires-clause-due c = one_due (taken 101 c.loop-reader.invariant.due c.enter.ensures c.in-101.is)

pub unreachable-requires : goal.unreachable-requires
unreachable-requires c = no_other (101 ∷ 102 ∷ []) c.loop-reader.invariant.due c.enter.ensures refl (c.in_default.in_default-own.rest.0.1, (c.in_default.in_default-own.rest.1, tt))

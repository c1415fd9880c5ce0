use Rattle.std.proofs.Common.{refl, ◌++◌, [], ◌∷◌}
use Rattle.va_build.specs.Reading.{row_symbols}
use Rattle.va_build.specs.SourceOf.{all_of_sort, nature, discipline_of, module_of}
use Rattle.va_build.proofs.TakenRows.{read_end_row, nothing_behind}
use Rattle.va_build.proofs.TopRows.{all_on}
use Rattle.va_build.proofs.DueRows.{behind, no_other, node_left, one_due, taken}
use Rattle.va_build.proofs.read_source.all_found.Goals as goal

pub loop-reader-preserved : goal.loop-reader-preserved
unfolding row_symbols
loop-reader-preserved c = record { reads = (all_on nature c.args.e.now _ _ _ _ _ _ _ c.loop-reader.invariant.reads.0 c.enter.ensures c.in-0.is c.in_ok-top_item-in-0.ensures.natures, all_on discipline_of c.args.e.now _ _ _ _ _ _ _ c.loop-reader.invariant.reads.1 c.enter.ensures c.in-0.is c.in_ok-top_item-in-0.ensures.disciplines, all_on module_of c.args.e.now _ _ _ _ _ _ _ c.loop-reader.invariant.reads.2 c.enter.ensures c.in-0.is c.in_ok-top_item-in-0.ensures.modules); due = behind (taken 0 c.loop-reader.invariant.due c.enter.ensures c.in-0.is) c.in_ok-top_item-in-0.ensures.natures }

pub returns-in-1-clause-natures : goal.returns-in-1-clause-natures
unfolding row_symbols
returns-in-1-clause-natures c = read_end_row (λ at t. c.loop-reader.found.natures.items ++ all_of_sort nature c.args.e.now at t) _ _ _ _ _ 1 _ c.loop-reader.invariant.reads.0 c.enter.ensures c.in-1.is refl (nothing_behind _)

pub returns-in-1-clause-disciplines : goal.returns-in-1-clause-disciplines
unfolding row_symbols
returns-in-1-clause-disciplines c = read_end_row (λ at t. c.loop-reader.found.disciplines.items ++ all_of_sort discipline_of c.args.e.now at t) _ _ _ _ _ 1 _ c.loop-reader.invariant.reads.1 c.enter.ensures c.in-1.is refl (nothing_behind _)

pub returns-in-1-clause-modules : goal.returns-in-1-clause-modules
unfolding row_symbols
returns-in-1-clause-modules c = read_end_row (λ at t. c.loop-reader.found.modules.items ++ all_of_sort module_of c.args.e.now at t) _ _ _ _ _ 1 _ c.loop-reader.invariant.reads.2 c.enter.ensures c.in-1.is refl (nothing_behind _)

pub enter-requires : goal.enter-requires
enter-requires c = node_left c.loop-reader.invariant.due

pub unreachable-requires : goal.unreachable-requires
unreachable-requires c = no_other (0 ∷ 1 ∷ []) c.loop-reader.invariant.due c.enter.ensures refl (c.in_default.in_default-own.rest.0.1, (c.in_default.in_default-own.rest.1, tt))

pub top_item-requires-clause-due : goal.top_item-requires-clause-due
unfolding row_symbols
top_item-requires-clause-due c = one_due (taken 0 c.loop-reader.invariant.due c.enter.ensures c.in-0.is)

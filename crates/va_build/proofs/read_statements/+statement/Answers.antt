use Rattle.std.specs.Prelude.{true}
use Rattle.predict.specs.Table.{is_among}
use Rattle.va_build.specs.Due.{simple_rows, turn_rows}
use Rattle.std.specs.Option.{is_some}
use Rattle.std.proofs.Common.{rules, arith, refl, ◌+◌, ◌∷◌, ◌++◌, [], ◌∙◌, sym, ap, ◌≡◌}
use Rattle.va_build.specs.Reading.{row_symbols, first_tree, later_trees, trees}
use Rattle.va_build.specs.SourceStatements.{statement, statements, else_branch, case_items, case_item, case_defaults, case_default}
use Rattle.va_build.specs.StatementHeads.{else_statements}
use Rattle.va_build.specs.Width.{width}
use Rattle.va_build.proofs.TakenRows.{read, told, read_end_row, reads_on_row, pushed, skipped, appended, nothing_behind}
use Rattle.va_build.proofs.DoneStatements.{one_done, one_there, some_done, start_within, two_done, two_there, with_else, without_else}
use Rattle.va_build.proofs.DueRows.{behind, entered, next_each, no_other, node_left, one_due, passed, taken, token_left}
use Rattle.va_build.proofs.read_statements.+statement.Goals as goal

pub loop_or_wait-returns : goal.loop_or_wait-returns
loop_or_wait-returns t c = one_done c.args.e.now _ _ _ 0 _ _ _ c.in_ok-turn.ensures.left (c.in_ok-close_turn.ensures c.args.done.now.items _ c.in_ok-statement.ensures.value_is) (grind arith) (grind arith) (grind arith)

pub block-returns : goal.block-returns
unfolding row_symbols
block-returns t c = read (λ at t. c.args.done.now.items ++ statement c.args.e.now at t ∷ []) _ _ _ _ 89 _ c.enter.ensures (entered c.enter.ensures ∙ c.requires.row) (c.in_ok-close_block.ensures c.args.done.now.items _ c.in_ok-statements.ensures.value_is (search rules) ∙ grind arith) (grind arith) (grind arith) (grind arith)

pub case_statement-returns : goal.case_statement-returns
case_statement-returns t c = one_done c.args.e.now _ _ _ 1 _ _ _ c.in_ok-selector.ensures.left (grind arith) (grind arith) (grind arith) (grind arith)

pub if_statement-returns : goal.if_statement-returns
if_statement-returns t c = two_done c.args.e.now _ _ _ _ _ _ c.in_ok-test.ensures.left (without_else (else_branch c.args.e.now (c.if_head.new.reader.at + width (first_tree (trees c.if_head.new.reader))) (first_tree (later_trees (trees c.if_head.new.reader)))) c.args.done.now.items _ _ _ _ _ _ (grind arith) c.in_ok-statement.ensures.value_is (grind arith) c.in_ok-close_if.ensures) (grind arith) (grind arith) (grind arith)

pub if_statement-returns-then-with_else : goal.if_statement-returns-then-with_else
if_statement-returns-then-with_else t c = two_done c.args.e.now _ _ _ _ _ _ c.in_ok-test.ensures.left (with_else (else_branch c.args.e.now (c.if_head.new.reader.at + width (first_tree (trees c.if_head.new.reader))) (first_tree (later_trees (trees c.if_head.new.reader)))) c.args.done.now.items _ _ _ _ _ _ (grind arith) c.in_ok-statement.ensures.value_is (grind arith) c.in_ok-close_if_else.ensures) (grind arith) (grind arith) (grind arith)

pub else_branch-returns-in-108-clause-read : goal.else_branch-returns-in-108-clause-read
unfolding row_symbols
else_branch-returns-in-108-clause-read t c = read (λ at t. c.args.done.now.items ++ else_statements c.args.e.now at t) _ _ _ _ 108 _ c.enter.ensures c.in-108.is (nothing_behind _) (grind arith) (grind arith) (grind arith)

pub else_branch-returns-in-108-clause-found : goal.else_branch-returns-in-108-clause-found
unfolding row_symbols
else_branch-returns-in-108-clause-found t c = told (λ tree. is_some (else_branch c.args.e.now c.args.reader.now.at tree)) _ _ _ 108 _ c.enter.ensures c.in-108.is refl

pub statements-loop-reader-preserved : goal.statements-loop-reader-preserved
unfolding row_symbols
statements-loop-reader-preserved t c = record { reads = reads_on_row (λ at t. c.loop-reader.done.items ++ statements c.args.e.now at t) _ _ _ _ _ _ _ 105 c.loop-reader.invariant.reads c.enter.ensures c.in-105.is (pushed _ _ _ _ _ _ c.in_ok-statement-in-105.ensures.value_is (grind arith) (grind arith)) (grind arith) (grind arith) (grind arith); due = behind (taken 105 c.loop-reader.invariant.due c.enter.ensures c.in-105.is) c.in_ok-statement-in-105.ensures }

pub statements-returns-in-106 : goal.statements-returns-in-106
unfolding row_symbols
statements-returns-in-106 t c = read_end_row (λ at t. c.loop-reader.done.items ++ statements c.args.e.now at t) _ _ _ _ _ 106 _ c.loop-reader.invariant.reads c.enter.ensures c.in-106.is refl (nothing_behind _)

pub case_parts-returns-in-110-clause-items : goal.case_parts-returns-in-110-clause-items
unfolding row_symbols
case_parts-returns-in-110-clause-items t c = read_end_row (λ at t. c.loop-reader.items.items ++ case_items c.args.e.now at t) _ _ _ _ _ 110 _ c.loop-reader.invariant.items c.enter.ensures c.in-110.is refl (nothing_behind _)

pub case_parts-returns-in-110-clause-defaults : goal.case_parts-returns-in-110-clause-defaults
unfolding row_symbols
case_parts-returns-in-110-clause-defaults t c = read_end_row (λ at t. c.loop-reader.defaults.items ++ case_defaults c.args.e.now at t) _ _ _ _ _ 110 _ c.loop-reader.invariant.defaults c.enter.ensures c.in-110.is refl (nothing_behind _)

pub case_parts-loop-reader-preserved : goal.case_parts-loop-reader-preserved
unfolding row_symbols
case_parts-loop-reader-preserved t c = record { items = reads_on_row (λ at t. c.loop-reader.items.items ++ case_items c.args.e.now at t) _ _ _ _ _ _ _ 109 c.loop-reader.invariant.items c.enter.ensures c.in-109.is (appended _ _ _ _ _ (case_item c.args.e.now c.loop-reader.reader.at (first_tree (trees c.enter.new.self))) c.in_ok-case_item-in_default-peek.ensures.item.value_is (grind arith) (grind arith)) (grind arith) (grind arith) (grind arith); defaults = reads_on_row (λ at t. c.loop-reader.defaults.items ++ case_defaults c.args.e.now at t) _ _ _ _ _ _ _ 109 c.loop-reader.invariant.defaults c.enter.ensures c.in-109.is (skipped _ _ _ (case_default c.args.e.now c.loop-reader.reader.at (first_tree (trees c.enter.new.self))) (grind arith) (grind arith)) (grind arith) (grind arith) (grind arith); done = c.in_ok-case_item-in_default-peek.ensures.done ∙ c.loop-reader.invariant.done; due = behind (taken 109 c.loop-reader.invariant.due c.enter.ensures c.in-109.is) c.in_ok-case_item-in_default-peek.ensures.item }

pub case_parts-loop-reader-preserved-in-Continue-1 : goal.case_parts-loop-reader-preserved-in-Continue-1
unfolding row_symbols
case_parts-loop-reader-preserved-in-Continue-1 t c = record { items = reads_on_row (λ at t. c.loop-reader.items.items ++ case_items c.args.e.now at t) _ _ _ _ _ _ _ 109 c.loop-reader.invariant.items c.enter.ensures c.in-109.is (skipped _ _ _ (case_item c.args.e.now c.loop-reader.reader.at (first_tree (trees c.enter.new.self))) (grind arith) (grind arith)) (grind arith) (grind arith) (grind arith); defaults = reads_on_row (λ at t. c.loop-reader.defaults.items ++ case_defaults c.args.e.now at t) _ _ _ _ _ _ _ 109 c.loop-reader.invariant.defaults c.enter.ensures c.in-109.is (appended _ _ _ _ _ (case_default c.args.e.now c.loop-reader.reader.at (first_tree (trees c.enter.new.self))) c.in_ok-case_default-in-111.ensures.item.value_is (grind arith) (grind arith)) (grind arith) (grind arith) (grind arith); done = c.in_ok-case_default-in-111.ensures.done ∙ c.loop-reader.invariant.done; due = behind (taken 109 c.loop-reader.invariant.due c.enter.ensures c.in-109.is) c.in_ok-case_default-in-111.ensures.item }

pub case_item-returns-clause-item : goal.case_item-returns-clause-item
unfolding row_symbols
case_item-returns-clause-item t c = read (λ at t. c.args.items.now.items ++ case_item c.args.e.now at t) _ _ _ _ 112 _ c.enter.ensures (entered c.enter.ensures ∙ c.requires.row) ((c.in_ok-close_item.ensures c.args.done.now.items _ c.in_ok-statement.ensures.value_is).1 ∙ grind arith) (grind arith) (grind arith) (grind arith)

pub case_item-returns-clause-done : goal.case_item-returns-clause-done
case_item-returns-clause-done t c = (c.in_ok-close_item.ensures c.args.done.now.items _ c.in_ok-statement.ensures.value_is).0

pub case_item-returns-clause-only : goal.case_item-returns-clause-only
unfolding row_symbols
case_item-returns-clause-only t c = sym (told (λ tree. case_default c.args.e.now c.args.reader.now.at tree) _ _ _ 112 _ c.enter.ensures (entered c.enter.ensures ∙ c.requires.row) refl)

pub case_default-returns-clause-item : goal.case_default-returns-clause-item
unfolding row_symbols
case_default-returns-clause-item t c = read (λ at t. c.args.defaults.now.items ++ case_default c.args.e.now at t) _ _ _ _ 111 _ c.enter.ensures (entered c.enter.ensures ∙ c.requires.row) ((c.in_ok-close_default.ensures c.args.done.now.items _ c.in_ok-statement.ensures.value_is).1 ∙ grind arith) (grind arith) (grind arith) (grind arith)

pub case_default-returns-clause-done : goal.case_default-returns-clause-done
case_default-returns-clause-done t c = (c.in_ok-close_default.ensures c.args.done.now.items _ c.in_ok-statement.ensures.value_is).0

pub case_default-returns-clause-only : goal.case_default-returns-clause-only
unfolding row_symbols
case_default-returns-clause-only t c = sym (told (λ tree. case_item c.args.e.now c.args.reader.now.at tree) _ _ _ 111 _ c.enter.ensures (entered c.enter.ensures ∙ c.requires.row) refl)

pub else_branch-returns-in_ok-statement-in-107-clause-read : goal.else_branch-returns-in_ok-statement-in-107-clause-read
unfolding row_symbols
else_branch-returns-in_ok-statement-in-107-clause-read t c = read (λ at t. c.args.done.now.items ++ else_statements c.args.e.now at t) _ _ _ _ 107 _ c.enter.ensures c.in-107.is (grind arith) (grind arith) (grind arith) (grind arith)

pub else_branch-returns-in_ok-statement-in-107-clause-found : goal.else_branch-returns-in_ok-statement-in-107-clause-found
unfolding row_symbols
else_branch-returns-in_ok-statement-in-107-clause-found t c = told (λ tree. is_some (else_branch c.args.e.now c.args.reader.now.at tree)) _ _ _ 107 _ c.enter.ensures c.in-107.is refl

pub statement-peek-requires : goal.statement-peek-requires
statement-peek-requires t c = node_left c.requires.due

pub statement-simple_done-requires-clause-row : goal.statement-simple_done-requires-clause-row
statement-simple_done-requires-clause-row t c = ap (is_among simple_rows) (sym c.peek.ensures ∙ c.in-96.is)

pub statement-simple_done-requires-in-97-clause-row : goal.statement-simple_done-requires-in-97-clause-row
statement-simple_done-requires-in-97-clause-row t c = ap (is_among simple_rows) (sym c.peek.ensures ∙ c.in-97.is)

pub statement-simple_done-requires-in-98-clause-row : goal.statement-simple_done-requires-in-98-clause-row
statement-simple_done-requires-in-98-clause-row t c = ap (is_among simple_rows) (sym c.peek.ensures ∙ c.in-98.is)

pub loop_or_wait-close_turn-requires : goal.loop_or_wait-close_turn-requires
loop_or_wait-close_turn-requires t c = some_done c.args.done.now.items _ _ c.in_ok-statement.ensures.value_is

pub block-enter-requires : goal.block-enter-requires
block-enter-requires t c = node_left c.requires.due

pub block-pass-at-requires : goal.block-pass-at-requires
unfolding row_symbols
block-pass-at-requires t c = token_left (taken 89 c.requires.due c.enter.ensures (entered c.enter.ensures ∙ c.requires.row))

pub block-label-requires-clause-due : goal.block-label-requires-clause-due
unfolding row_symbols
block-label-requires-clause-due t c = one_due (passed (taken 89 c.requires.due c.enter.ensures (entered c.enter.ensures ∙ c.requires.row)) c.pass-at.ensures)

pub block-declarations-requires-clause-due : goal.block-declarations-requires-clause-due
unfolding row_symbols
block-declarations-requires-clause-due t c = one_due (behind (passed (taken 89 c.requires.due c.enter.ensures (entered c.enter.ensures ∙ c.requires.row)) c.pass-at.ensures) c.in_ok-label.ensures)

pub block-pass-requires : goal.block-pass-requires
unfolding row_symbols
block-pass-requires t c = token_left (behind (behind (behind (passed (taken 89 c.requires.due c.enter.ensures (entered c.enter.ensures ∙ c.requires.row)) c.pass-at.ensures) c.in_ok-label.ensures) c.in_ok-list.ensures) c.in_ok-statements.ensures)

pub block-close_block-requires : goal.block-close_block-requires
block-close_block-requires t c = start_within c.args.done.now.items _ _ _ c.in_ok-statements.ensures.value_is (search rules)

pub statements-enter-requires : goal.statements-enter-requires
statements-enter-requires t c = node_left c.loop-reader.invariant.due

pub statements-unreachable-requires : goal.statements-unreachable-requires
statements-unreachable-requires t c = no_other (105 ∷ 106 ∷ []) c.loop-reader.invariant.due c.enter.ensures refl (c.in_default.in_default-own.rest.0.1, (c.in_default.in_default-own.rest.1, tt))

pub else_branch-enter-requires : goal.else_branch-enter-requires
else_branch-enter-requires t c = node_left c.requires.due

pub else_branch-pass-requires : goal.else_branch-pass-requires
unfolding row_symbols
else_branch-pass-requires t c = token_left (taken 107 c.requires.due c.enter.ensures c.in-107.is)

pub else_branch-unreachable-requires : goal.else_branch-unreachable-requires
else_branch-unreachable-requires t c = no_other (107 ∷ 108 ∷ []) c.requires.due c.enter.ensures refl (c.in_default.in_default-own.rest.0.1, (c.in_default.in_default-own.rest.1, tt))

pub if_statement-close_if_else-requires : goal.if_statement-close_if_else-requires
if_statement-close_if_else-requires t c = two_there (else_branch c.args.e.now (c.if_head.new.reader.at + width (first_tree (trees c.if_head.new.reader))) (first_tree (later_trees (trees c.if_head.new.reader)))) c.args.done.now.items _ _ _ (grind arith) c.in_ok-statement.ensures.value_is (grind arith)

pub if_statement-close_if-requires : goal.if_statement-close_if-requires
if_statement-close_if-requires t c = one_there c.args.done.now.items _ _ _ _ c.in_ok-statement.ensures.value_is c.in_ok-with_else.ensures.read.value_is

pub case_statement-pass-requires : goal.case_statement-pass-requires
case_statement-pass-requires t c = token_left (behind c.in_ok-selector.ensures.due c.in_ok-case_parts.ensures.items)

pub case_parts-enter-requires : goal.case_parts-enter-requires
case_parts-enter-requires t c = node_left c.loop-reader.invariant.due

pub case_parts-peek-requires : goal.case_parts-peek-requires
unfolding row_symbols
case_parts-peek-requires t c = node_left (taken 109 c.loop-reader.invariant.due c.enter.ensures c.in-109.is)

pub case_parts-unreachable-requires : goal.case_parts-unreachable-requires
case_parts-unreachable-requires t c = no_other (109 ∷ 110 ∷ []) c.loop-reader.invariant.due c.enter.ensures refl (c.in_default.in_default-own.rest.0.1, (c.in_default.in_default-own.rest.1, tt))

pub case_item-enter-requires : goal.case_item-enter-requires
case_item-enter-requires t c = node_left c.requires.due

pub case_item-expression-requires-clause-due : goal.case_item-expression-requires-clause-due
unfolding row_symbols
case_item-expression-requires-clause-due t c = one_due (taken 112 c.requires.due c.enter.ensures (entered c.enter.ensures ∙ c.requires.row))

pub case_item-values_behind-requires-clause-due : goal.case_item-values_behind-requires-clause-due
unfolding row_symbols
case_item-values_behind-requires-clause-due t c = one_due (behind (taken 112 c.requires.due c.enter.ensures (entered c.enter.ensures ∙ c.requires.row)) c.in_ok-first.ensures)

pub case_item-pass-requires : goal.case_item-pass-requires
unfolding row_symbols
case_item-pass-requires t c = token_left (behind (behind (taken 112 c.requires.due c.enter.ensures (entered c.enter.ensures ∙ c.requires.row)) c.in_ok-first.ensures) c.in_ok-values.ensures)

pub case_item-close_item-requires : goal.case_item-close_item-requires
case_item-close_item-requires t c = some_done c.args.done.now.items _ _ c.in_ok-statement.ensures.value_is

pub case_default-enter-requires : goal.case_default-enter-requires
case_default-enter-requires t c = node_left c.requires.due

pub case_default-pass-at-requires : goal.case_default-pass-at-requires
unfolding row_symbols
case_default-pass-at-requires t c = token_left (taken 111 c.requires.due c.enter.ensures (entered c.enter.ensures ∙ c.requires.row))

pub case_default-colon-requires : goal.case_default-colon-requires
unfolding row_symbols
case_default-colon-requires t c = record { due = one_due (passed (taken 111 c.requires.due c.enter.ensures (entered c.enter.ensures ∙ c.requires.row)) c.pass-at.ensures) }

pub case_default-close_default-requires : goal.case_default-close_default-requires
case_default-close_default-requires t c = some_done c.args.done.now.items _ _ c.in_ok-statement.ensures.value_is

pub statement-block-requires : goal.statement-block-requires
statement-block-requires t c = (first_of (search rules, grind arith), (c.requires.expanded, (c.requires.due, sym c.peek.ensures ∙ c.in-89.is)))

pub statement-if_statement-requires : goal.statement-if_statement-requires
statement-if_statement-requires t c = (first_of (search rules, grind arith), (c.requires.expanded, (c.requires.due, sym c.peek.ensures ∙ c.in-90.is)))

pub statement-case_statement-requires : goal.statement-case_statement-requires
statement-case_statement-requires t c = (first_of (search rules, grind arith), (c.requires.expanded, (c.requires.due, sym c.peek.ensures ∙ c.in-91.is)))

pub statement-loop_or_wait-requires : goal.statement-loop_or_wait-requires
statement-loop_or_wait-requires t c = (first_of (search rules, grind arith), (c.requires.expanded, (c.requires.due, next_each (λ i. (i ≡ 89 → ⊥) → (i ≡ 90 → ⊥) → (i ≡ 91 → ⊥) → (i ≡ 96 → ⊥) → (i ≡ 97 → ⊥) → (i ≡ 98 → ⊥) → is_among turn_rows i ≡ true) (89 ∷ 90 ∷ 91 ∷ 92 ∷ 93 ∷ 94 ∷ 95 ∷ 96 ∷ 97 ∷ 98 ∷ []) c.requires.due refl ((λ p _ _ _ _ _. absurd (p refl)), ((λ _ p _ _ _ _. absurd (p refl)), ((λ _ _ p _ _ _. absurd (p refl)), ((λ _ _ _ _ _ _. refl), ((λ _ _ _ _ _ _. refl), ((λ _ _ _ _ _ _. refl), ((λ _ _ _ _ _ _. refl), ((λ _ _ _ p _ _. absurd (p refl)), ((λ _ _ _ _ p _. absurd (p refl)), ((λ _ _ _ _ _ p. absurd (p refl)), tt)))))))))) (λ h. c.in_default.in_default-own.rest.0.0.0.0.0.1 (c.peek.ensures ∙ h)) (λ h. c.in_default.in_default-own.rest.0.0.0.0.1 (c.peek.ensures ∙ h)) (λ h. c.in_default.in_default-own.rest.0.0.0.1 (c.peek.ensures ∙ h)) (λ h. c.in_default.in_default-own.rest.0.0.1 (c.peek.ensures ∙ h)) (λ h. c.in_default.in_default-own.rest.0.1 (c.peek.ensures ∙ h)) (λ h. c.in_default.in_default-own.rest.1 (c.peek.ensures ∙ h)))))

pub loop_or_wait-statement-requires : goal.loop_or_wait-statement-requires
loop_or_wait-statement-requires t c = (first_of (search rules, grind arith), (c.requires.expanded, c.in_ok-turn.ensures.due))

pub block-statements-requires : goal.block-statements-requires
unfolding row_symbols
block-statements-requires t c = (first_of (search rules, grind arith), (c.requires.expanded, one_due (behind (behind (passed (taken 89 c.requires.due c.enter.ensures (entered c.enter.ensures ∙ c.requires.row)) c.pass-at.ensures) c.in_ok-label.ensures) c.in_ok-list.ensures)))

pub else_branch-statement-requires : goal.else_branch-statement-requires
unfolding row_symbols
else_branch-statement-requires t c = (first_of (search rules, grind arith), (c.requires.expanded, one_due (passed (taken 107 c.requires.due c.enter.ensures c.in-107.is) c.pass.ensures)))

pub if_statement-statement-requires : goal.if_statement-statement-requires
if_statement-statement-requires t c = (first_of (search rules, grind arith), (c.requires.expanded, one_due c.in_ok-test.ensures.due))

pub if_statement-else_branch-requires : goal.if_statement-else_branch-requires
if_statement-else_branch-requires t c = (first_of (search rules, grind arith), (c.requires.expanded, one_due (behind c.in_ok-test.ensures.due c.in_ok-statement.ensures)))

pub case_statement-case_parts-requires : goal.case_statement-case_parts-requires
case_statement-case_parts-requires t c = (first_of (search rules, grind arith), (c.requires.expanded, one_due c.in_ok-selector.ensures.due))

pub case_parts-case_default-requires : goal.case_parts-case_default-requires
unfolding row_symbols
case_parts-case_default-requires t c = (first_of (search rules, grind arith), (c.requires.expanded, (one_due (taken 109 c.loop-reader.invariant.due c.enter.ensures c.in-109.is), sym c.peek.ensures ∙ c.in-111.is)))

pub case_parts-case_item-requires : goal.case_parts-case_item-requires
unfolding row_symbols
case_parts-case_item-requires t c = (first_of (search rules, grind arith), (c.requires.expanded, (one_due (taken 109 c.loop-reader.invariant.due c.enter.ensures c.in-109.is), next_each (λ i. (i ≡ 111 → ⊥) → i ≡ 112) (111 ∷ 112 ∷ []) (one_due (taken 109 c.loop-reader.invariant.due c.enter.ensures c.in-109.is)) refl ((λ p. absurd (p refl)), ((λ _. refl), tt)) (λ h. c.in_default-peek.in_default-peek-own.rest.1 (c.peek.ensures ∙ h)))))

pub case_item-statement-requires : goal.case_item-statement-requires
unfolding row_symbols
case_item-statement-requires t c = (first_of (search rules, grind arith), (c.requires.expanded, one_due (passed (behind (behind (taken 112 c.requires.due c.enter.ensures (entered c.enter.ensures ∙ c.requires.row)) c.in_ok-first.ensures) c.in_ok-values.ensures) c.pass.ensures)))

pub case_default-statement-requires : goal.case_default-statement-requires
unfolding row_symbols
case_default-statement-requires t c = (first_of (search rules, grind arith), (c.requires.expanded, one_due (behind (passed (taken 111 c.requires.due c.enter.ensures (entered c.enter.ensures ∙ c.requires.row)) c.pass-at.ensures) c.colon.ensures)))

pub statements-statement-requires : goal.statements-statement-requires
unfolding row_symbols
statements-statement-requires t c = (first_of (search rules, grind arith), (c.requires.expanded, one_due (taken 105 c.loop-reader.invariant.due c.enter.ensures c.in-105.is)))

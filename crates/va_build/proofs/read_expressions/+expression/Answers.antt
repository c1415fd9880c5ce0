use Rattle.std.proofs.Common.{rules, arith, ◌++◌, refl, ◌∷◌, [], sym, subst}
use Rattle.va_build.specs.Reading.{row_symbols}
use Rattle.va_build.specs.SourceExpressions.{argument, arguments, more_arguments, expression, choice, primary, called}
use Rattle.va_build.proofs.TakenRows.{read, read_end_row, reads_on_row, pushed, nothing_behind}
use Rattle.va_build.specs.Due.{IsTailDue}
use Rattle.va_build.proofs.OperandsDue.{left_alone, operand_among, operator_due, pair_due, rest_due, sign_due, tail_among, tail_due, unsigned_due}
use Rattle.va_build.proofs.DueRows.{behind, first_token, no_other, node_left, one_due, only, passed, taken, taken_only, token_left}
use Rattle.va_build.proofs.read_expressions.+expression.Goals as goal

pub argument-returns-in_ok-text-in-13 : goal.argument-returns-in_ok-text-in-13
unfolding row_symbols
argument-returns-in_ok-text-in-13 t c = read (argument c.args.e.now) _ _ _ _ 13 _ c.enter.ensures c.in-13.is (grind arith) (grind arith) (grind arith) (grind arith)

pub argument-returns-in_ok-value-in-14 : goal.argument-returns-in_ok-value-in-14
unfolding row_symbols
argument-returns-in_ok-value-in-14 t c = read (argument c.args.e.now) _ _ _ _ 14 _ c.enter.ensures c.in-14.is (grind arith) (grind arith) (grind arith) (grind arith)

pub arguments-returns-in_ok-args-in-127 : goal.arguments-returns-in_ok-args-in-127
unfolding row_symbols
arguments-returns-in_ok-args-in-127 t c = read (arguments c.args.e.now) _ _ _ _ 127 _ c.enter.ensures c.in-127.is (grind arith) (grind arith) (grind arith) (grind arith)

pub arguments-returns-in-128 : goal.arguments-returns-in-128
unfolding row_symbols
arguments-returns-in-128 t c = read (arguments c.args.e.now) _ _ _ _ 128 _ c.enter.ensures c.in-128.is (grind arith) (grind arith) (grind arith) (grind arith)

pub called-returns-in_ok-value-in-171 : goal.called-returns-in_ok-value-in-171
unfolding row_symbols
called-returns-in_ok-value-in-171 t c = read (called c.args.e.now c.args.name c.args.who) _ _ _ _ 171 _ c.enter.ensures c.in-171.is (grind arith) (grind arith) (grind arith) (grind arith)

pub called-returns-in_ok-value-in-172 : goal.called-returns-in_ok-value-in-172
unfolding row_symbols
called-returns-in_ok-value-in-172 t c = read (called c.args.e.now c.args.name c.args.who) _ _ _ _ 172 _ c.enter.ensures c.in-172.is (grind arith) (grind arith) (grind arith) (grind arith)

pub choice-returns-in_ok-value-in-132 : goal.choice-returns-in_ok-value-in-132
unfolding row_symbols
choice-returns-in_ok-value-in-132 t c = read (choice c.args.e.now c.args.first c.args.test) _ _ _ _ 132 _ c.enter.ensures c.in-132.is (grind arith) (grind arith) (grind arith) (grind arith)

pub choice-returns-in-133 : goal.choice-returns-in-133
unfolding row_symbols
choice-returns-in-133 t c = read (choice c.args.e.now c.args.first c.args.test) _ _ _ _ 133 _ c.enter.ensures c.in-133.is (grind arith) (grind arith) (grind arith) (grind arith)

pub primary-returns-in-166 : goal.primary-returns-in-166
unfolding row_symbols
primary-returns-in-166 t c = read (primary c.args.e.now) _ _ _ _ 166 _ c.enter-row.ensures c.in-166.is (grind arith) (grind arith) (grind arith) (grind arith)

pub primary-returns-in-167 : goal.primary-returns-in-167
unfolding row_symbols
primary-returns-in-167 t c = read (primary c.args.e.now) _ _ _ _ 167 _ c.enter-row.ensures c.in-167.is (grind arith) (grind arith) (grind arith) (grind arith)

pub primary-returns-in_ok-value-in-168 : goal.primary-returns-in_ok-value-in-168
unfolding row_symbols
primary-returns-in_ok-value-in-168 t c = read (primary c.args.e.now) _ _ _ _ 168 _ c.enter-row.ensures c.in-168.is (grind arith) (grind arith) (grind arith) (grind arith)

pub primary-returns-in_ok-value-in-169 : goal.primary-returns-in_ok-value-in-169
unfolding row_symbols
primary-returns-in_ok-value-in-169 t c = read (primary c.args.e.now) _ _ _ _ 169 _ c.enter-row.ensures c.in-169.is (grind arith) (grind arith) (grind arith) (grind arith)

pub primary-returns-in_ok-value-in-170 : goal.primary-returns-in_ok-value-in-170
unfolding row_symbols
primary-returns-in_ok-value-in-170 t c = read (primary c.args.e.now) _ _ _ _ 170 _ c.enter-row.ensures c.in-170.is (grind arith) (grind arith) (grind arith) (grind arith)

pub expression-returns : goal.expression-returns
unfolding row_symbols
expression-returns t c = read (expression c.args.e.now) _ _ _ _ 131 _ c.enter.ensures (only 131 c.requires.due c.enter.ensures refl) (grind arith) (grind arith) (grind arith) (grind arith)

pub more_arguments-loop-reader-preserved : goal.more_arguments-loop-reader-preserved
unfolding row_symbols
more_arguments-loop-reader-preserved t c = record { reads = reads_on_row (λ at t. c.loop-reader.args.items ++ more_arguments c.args.e.now at t) _ _ _ _ _ _ _ 129 c.loop-reader.invariant.reads c.enter.ensures c.in-129.is (pushed _ _ _ _ _ _ c.in_ok-push-in-129.ensures.items (grind arith) (grind arith)) (grind arith) (grind arith) (grind arith); due = behind (passed (taken 129 c.loop-reader.invariant.due c.enter.ensures c.in-129.is) c.pass.ensures) c.in_ok-next-in-129.ensures }

pub more_arguments-returns-in-130 : goal.more_arguments-returns-in-130
unfolding row_symbols
more_arguments-returns-in-130 t c = read_end_row (λ at t. c.loop-reader.args.items ++ more_arguments c.args.e.now at t) _ _ _ _ _ 130 _ c.loop-reader.invariant.reads c.enter.ensures c.in-130.is refl (nothing_behind _)

pub choice-enter-requires : goal.choice-enter-requires
choice-enter-requires t c = node_left c.requires.due

pub choice-pass-requires : goal.choice-pass-requires
unfolding row_symbols
choice-pass-requires t c = token_left (taken 132 c.requires.due c.enter.ensures c.in-132.is)

pub choice-pass-requires-in-132 : goal.choice-pass-requires-in-132
unfolding row_symbols
choice-pass-requires-in-132 t c = token_left (behind (passed (taken 132 c.requires.due c.enter.ensures c.in-132.is) c.pass.ensures) c.in_ok-yes-in-132.ensures)

pub choice-unreachable-requires : goal.choice-unreachable-requires
choice-unreachable-requires t c = no_other (132 ∷ 133 ∷ []) c.requires.due c.enter.ensures refl (c.in_default.in_default-own.rest.0.1, (c.in_default.in_default-own.rest.1, tt))

pub called-enter-requires : goal.called-enter-requires
called-enter-requires t c = node_left c.requires.due

pub called-pass-requires : goal.called-pass-requires
unfolding row_symbols
called-pass-requires t c = token_left (taken 171 c.requires.due c.enter.ensures c.in-171.is)

pub called-pass-requires-in-171 : goal.called-pass-requires-in-171
unfolding row_symbols
called-pass-requires-in-171 t c = token_left (behind (passed (taken 171 c.requires.due c.enter.ensures c.in-171.is) c.pass.ensures) c.in_ok-args-in-171.ensures)

pub called-unreachable-requires : goal.called-unreachable-requires
called-unreachable-requires t c = no_other (171 ∷ 172 ∷ []) c.requires.due c.enter.ensures refl (c.in_default.in_default-own.rest.0.1, (c.in_default.in_default-own.rest.1, tt))

pub arguments-enter-requires : goal.arguments-enter-requires
arguments-enter-requires t c = node_left c.requires.due

pub arguments-unreachable-requires : goal.arguments-unreachable-requires
arguments-unreachable-requires t c = no_other (127 ∷ 128 ∷ []) c.requires.due c.enter.ensures refl (c.in_default.in_default-own.rest.0.1, (c.in_default.in_default-own.rest.1, tt))

pub more_arguments-enter-requires : goal.more_arguments-enter-requires
more_arguments-enter-requires t c = node_left c.loop-reader.invariant.due

pub more_arguments-pass-requires : goal.more_arguments-pass-requires
unfolding row_symbols
more_arguments-pass-requires t c = token_left (taken 129 c.loop-reader.invariant.due c.enter.ensures c.in-129.is)

pub more_arguments-unreachable-requires : goal.more_arguments-unreachable-requires
more_arguments-unreachable-requires t c = no_other (129 ∷ 130 ∷ []) c.loop-reader.invariant.due c.enter.ensures refl (c.in_default.in_default-own.rest.0.1, (c.in_default.in_default-own.rest.1, tt))

pub argument-enter-requires : goal.argument-enter-requires
argument-enter-requires t c = node_left c.requires.due

pub argument-named-requires-clause-due : goal.argument-named-requires-clause-due
unfolding row_symbols
argument-named-requires-clause-due t c = token_left (taken 13 c.requires.due c.enter.ensures c.in-13.is)

pub argument-unreachable-requires : goal.argument-unreachable-requires
argument-unreachable-requires t c = no_other (13 ∷ 14 ∷ []) c.requires.due c.enter.ensures refl (c.in_default.in_default-own.rest.0.1, (c.in_default.in_default-own.rest.1, tt))

pub expression-enter-requires : goal.expression-enter-requires
expression-enter-requires t c = node_left c.requires.due

pub operand-enter-row-requires : goal.operand-enter-row-requires
operand-enter-row-requires t c = node_left c.requires.due.2

pub operand-operand_row-requires : goal.operand-operand_row-requires
operand-operand_row-requires t c = operand_among c.requires.due c.enter-row.ensures

pub operand-take_end-requires : goal.operand-take_end-requires
unfolding row_symbols
operand-take_end-requires t c = rest_due (pair_due c.requires.due c.enter-row.ensures c.operand_row.ensures c.in-Operands.is) c.in_ok-first-in-Operands.ensures

pub operand-pass-requires : goal.operand-pass-requires
unfolding row_symbols
operand-pass-requires t c = token_left (sign_due c.requires.due c.enter-row.ensures c.operand_row.ensures c.in-Sign.is).due

pub chain-enter-row-requires : goal.chain-enter-row-requires
chain-enter-row-requires t c = node_left c.loop-op.invariant.due.2

pub chain-tail_row-requires : goal.chain-tail_row-requires
chain-tail_row-requires t c = tail_among c.loop-op.invariant.due c.enter-row.ensures

pub chain-pass-requires : goal.chain-pass-requires
unfolding row_symbols
chain-pass-requires t c = token_left (operator_due c.loop-op.invariant.due c.enter-row.ensures c.tail_row.ensures c.in-Operator.is).due

pub primary-enter-row-requires : goal.primary-enter-row-requires
primary-enter-row-requires t c = node_left c.requires.due

pub primary-pass-at-requires : goal.primary-pass-at-requires
unfolding row_symbols
primary-pass-at-requires t c = (first_token (166 ∷ 167 ∷ 168 ∷ 169 ∷ 170 ∷ []) c.requires.due c.enter-row.ensures refl (tt, (tt, (tt, (tt, (tt, tt))))))

pub primary-pass-requires : goal.primary-pass-requires
unfolding row_symbols
primary-pass-requires t c = token_left (behind (passed (taken 168 c.requires.due c.enter-row.ensures c.in-168.is) c.pass-at.ensures) c.in_ok-inner-in-168.ensures)

pub primary-unreachable-requires : goal.primary-unreachable-requires
primary-unreachable-requires t c = no_other (166 ∷ 167 ∷ 168 ∷ 169 ∷ 170 ∷ []) c.requires.due c.enter-row.ensures refl (c.in_default.in_default-own.rest.0.0.0.0.1, (c.in_default.in_default-own.rest.0.0.0.1, (c.in_default.in_default-own.rest.0.0.1, (c.in_default.in_default-own.rest.0.1, (c.in_default.in_default-own.rest.1, tt)))))

pub chain-loop-op-preserved : goal.chain-loop-op-preserved
chain-loop-op-preserved t c = record { reads = grind arith; due = tail_due (operator_due c.loop-op.invariant.due c.enter-row.ensures c.tail_row.ensures c.in-Operator.is) c.pass.ensures c.in_ok-right-in-Operator.ensures }

pub choice-expression-requires : goal.choice-expression-requires
unfolding row_symbols
choice-expression-requires t c = (first_of (search rules, grind arith), (c.requires.expanded, one_due (passed (taken 132 c.requires.due c.enter.ensures c.in-132.is) c.pass.ensures)))

pub choice-expression-requires-in-132 : goal.choice-expression-requires-in-132
unfolding row_symbols
choice-expression-requires-in-132 t c = (first_of (search rules, grind arith), (c.requires.expanded, one_due (passed (behind (passed (taken 132 c.requires.due c.enter.ensures c.in-132.is) c.pass.ensures) c.in_ok-yes-in-132.ensures) c.pass-in-132.ensures)))

pub called-arguments-requires : goal.called-arguments-requires
unfolding row_symbols
called-arguments-requires t c = (first_of (search rules, grind arith), (c.requires.expanded, one_due (passed (taken 171 c.requires.due c.enter.ensures c.in-171.is) c.pass.ensures)))

pub arguments-argument-requires : goal.arguments-argument-requires
unfolding row_symbols
arguments-argument-requires t c = (first_of (search rules, grind arith), (c.requires.expanded, one_due (taken 127 c.requires.due c.enter.ensures c.in-127.is)))

pub arguments-more_arguments-requires : goal.arguments-more_arguments-requires
unfolding row_symbols
arguments-more_arguments-requires t c = (first_of (search rules, grind arith), (c.requires.expanded, one_due (behind (taken 127 c.requires.due c.enter.ensures c.in-127.is) c.in_ok-first-in-127.ensures)))

pub more_arguments-argument-requires : goal.more_arguments-argument-requires
unfolding row_symbols
more_arguments-argument-requires t c = (first_of (search rules, grind arith), (c.requires.expanded, one_due (passed (taken 129 c.loop-reader.invariant.due c.enter.ensures c.in-129.is) c.pass.ensures)))

pub argument-expression-requires : goal.argument-expression-requires
unfolding row_symbols
argument-expression-requires t c = (first_of (search rules, grind arith), (c.requires.expanded, one_due (taken 14 c.requires.due c.enter.ensures c.in-14.is)))

pub expression-operand-requires : goal.expression-operand-requires
unfolding row_symbols
expression-operand-requires t c = (first_of (search rules, grind arith), (c.requires.expanded, (_, refl, one_due (taken_only 131 c.requires.due c.enter.ensures refl))))

pub expression-choice-requires : goal.expression-choice-requires
unfolding row_symbols
expression-choice-requires t c = (first_of (search rules, grind arith), (c.requires.expanded, one_due (behind (taken_only 131 c.requires.due c.enter.ensures refl) c.in_ok-test.ensures)))

pub operand-operand-requires : goal.operand-operand-requires
unfolding row_symbols
operand-operand-requires t c = (first_of (search rules, grind arith), (c.requires.expanded, ((pair_due c.requires.due c.enter-row.ensures c.operand_row.ensures c.in-Operands.is).first, (pair_due c.requires.due c.enter-row.ensures c.operand_row.ensures c.in-Operands.is).first_is, one_due (pair_due c.requires.due c.enter-row.ensures c.operand_row.ensures c.in-Operands.is).due)))

pub operand-chain-requires : goal.operand-chain-requires
unfolding row_symbols
operand-chain-requires t c = (first_of (search rules, grind arith), (c.requires.expanded, subst IsTailDue (sym (left_alone _ _ _ c.take_end.ensures c.if-take_end.false)) (rest_due (pair_due c.requires.due c.enter-row.ensures c.operand_row.ensures c.in-Operands.is) c.in_ok-first-in-Operands.ensures)))

pub operand-operand-requires-in-Sign : goal.operand-operand-requires-in-Sign
unfolding row_symbols
operand-operand-requires-in-Sign t c = (first_of (search rules, grind arith), (c.requires.expanded, ((sign_due c.requires.due c.enter-row.ensures c.operand_row.ensures c.in-Sign.is).operand, (sign_due c.requires.due c.enter-row.ensures c.operand_row.ensures c.in-Sign.is).operand_is, passed (sign_due c.requires.due c.enter-row.ensures c.operand_row.ensures c.in-Sign.is).due c.pass.ensures)))

pub operand-primary-requires : goal.operand-primary-requires
unfolding row_symbols
operand-primary-requires t c = (first_of (search rules, grind arith), (c.requires.expanded, unsigned_due c.requires.due c.enter-row.ensures c.operand_row.ensures c.in-Unsigned.is))

pub chain-operand-requires : goal.chain-operand-requires
unfolding row_symbols
chain-operand-requires t c = (first_of (search rules, grind arith), (c.requires.expanded, ((operator_due c.loop-op.invariant.due c.enter-row.ensures c.tail_row.ensures c.in-Operator.is).right, (operator_due c.loop-op.invariant.due c.enter-row.ensures c.tail_row.ensures c.in-Operator.is).right_is, one_due (passed (operator_due c.loop-op.invariant.due c.enter-row.ensures c.tail_row.ensures c.in-Operator.is).due c.pass.ensures))))

pub primary-expression-requires : goal.primary-expression-requires
unfolding row_symbols
primary-expression-requires t c = (first_of (search rules, grind arith), (c.requires.expanded, one_due (passed (taken 168 c.requires.due c.enter-row.ensures c.in-168.is) c.pass-at.ensures)))

pub primary-called-requires : goal.primary-called-requires
unfolding row_symbols
primary-called-requires t c = (first_of (search rules, grind arith), (c.requires.expanded, one_due (passed (taken 169 c.requires.due c.enter-row.ensures c.in-169.is) c.pass-at.ensures)))

pub primary-called-requires-in-170 : goal.primary-called-requires-in-170
unfolding row_symbols
primary-called-requires-in-170 t c = (first_of (search rules, grind arith), (c.requires.expanded, one_due (passed (taken 170 c.requires.due c.enter-row.ensures c.in-170.is) c.pass-at.ensures)))

use Rattle.std.proofs.Common.{refl, sym}
use Rattle.std.proofs.lemmas.Result.{err_from_is_err_and}
use Rattle.va_tree.specs.Expressions.{expression_of, arguments_of}
use Rattle.va_tree.specs.ExpressionLaws.{at_group, at_unary, at_binary, at_choose, at_call}
use Rattle.first_form.proofs.Flows.{group-deep, group-unread, group-read, operator-unread, left-unread, right-unread, binary-read, call-unread, call-read, sign-unread, choice-unread}
use Rattle.first_form.proofs.sums.+sum.Goals as goal

pub returns-then-depth-eq0-clause-unread : goal.returns-then-depth-eq0-clause-unread
returns-then-depth-eq0-clause-unread t c = λ e.
    group-deep c.args.scope.now c.args.depth (expression_of c.args.e.now) c.in-Group.at (expression_of c.in-Group.inner) (at_group c.args.e.now c.in-Group.at c.in-Group.inner c.in-Group.inner c.in-Group.is refl) c.if-depth-eq0.true

pub returns-in_err-value-in-Group-clause-unread : goal.returns-in_err-value-in-Group-clause-unread
returns-in_err-value-in-Group-clause-unread t c = λ e.
    let p = err_from_is_err_and c.from_residual.result c.from_residual.ensures.1 in
    group-unread c.args.scope.now c.args.depth (expression_of c.args.e.now) c.in-Group.at (expression_of c.get.result.now) (at_group c.args.e.now c.in-Group.at c.in-Group.inner c.get.result.now c.in-Group.is (sym c.get.ensures))
    (c.in_err-value-in-Group.ensures.unread (cc (p.1, p.2, e)))

pub returns-in_default-clause-unread : goal.returns-in_default-clause-unread
returns-in_default-clause-unread t c = λ e.
    operator-unread c.args.scope.now c.args.depth (expression_of c.args.e.now) c.in-Binary.at (expression_of c.in-Binary.left) (expression_of c.in-Binary.right) c.in-Binary.op
    (at_binary c.args.e.now c.in-Binary.at c.in-Binary.left c.in-Binary.op c.in-Binary.right c.in-Binary.left c.in-Binary.right c.in-Binary.is refl refl) c.in_default.ensures

pub returns-in_err-first-in-Binary-clause-unread : goal.returns-in_err-first-in-Binary-clause-unread
returns-in_err-first-in-Binary-clause-unread t c = λ e.
    let p = err_from_is_err_and c.from_residual-in_err-first-in-Binary.result c.from_residual-in_err-first-in-Binary.ensures.1 in
    left-unread c.args.scope.now c.args.depth (expression_of c.args.e.now) c.in-Binary.at (expression_of c.get-in-Binary.result.now) (expression_of c.in-Binary.right) c.in-Binary.op
    (at_binary c.args.e.now c.in-Binary.at c.in-Binary.left c.in-Binary.op c.in-Binary.right c.get-in-Binary.result.now c.in-Binary.right c.in-Binary.is (sym c.get-in-Binary.ensures) refl) (c.in_err-first-in-Binary.ensures.unread (cc (p.1, p.2, e)))

pub returns-in_err-second-in-Binary-clause-unread : goal.returns-in_err-second-in-Binary-clause-unread
returns-in_err-second-in-Binary-clause-unread t c = λ e.
    let p = err_from_is_err_and c.from_residual-in_err-second-in-Binary.result c.from_residual-in_err-second-in-Binary.ensures.1 in
    right-unread c.args.scope.now c.args.depth (expression_of c.args.e.now) c.in-Binary.at (expression_of c.get-in-Binary.result.now) (expression_of c.get-in-Binary-2.result.now) c.in-Binary.op
    (at_binary c.args.e.now c.in-Binary.at c.in-Binary.left c.in-Binary.op c.in-Binary.right c.get-in-Binary.result.now c.get-in-Binary-2.result.now c.in-Binary.is (sym c.get-in-Binary.ensures) (sym c.get-in-Binary-2.ensures)) (c.in_err-second-in-Binary.ensures.unread (cc (p.1, p.2, e)))

pub returns-then-not-is_potential-clause-unread : goal.returns-then-not-is_potential-clause-unread
returns-then-not-is_potential-clause-unread t c = λ e.
    call-unread c.args.scope.now c.args.depth (expression_of c.args.e.now) c.in-Call.at c.in-Call.callee c.in-Call.name (arguments_of c.as_slice.result.now) c.is_potential.result
    (at_call c.args.e.now c.in-Call.at c.in-Call.callee c.in-Call.name c.in-Call.args c.as_slice.result.now c.in-Call.is (sym c.as_slice.ensures)) c.is_potential.ensures c.if-not-is_potential.true

pub returns-in_ok-value-in-Group-clause-read : goal.returns-in_ok-value-in-Group-clause-read
returns-in_ok-value-in-Group-clause-read t c =
    group-read c.args.scope.now c.args.depth (expression_of c.args.e.now) c.in-Group.at (expression_of c.get.result.now) c.args.code.now c.sum.new.code c.in_ok-value-in-Group.value
    (at_group c.args.e.now c.in-Group.at c.in-Group.inner c.get.result.now c.in-Group.is (sym c.get.ensures)) c.if-depth-eq0.false c.in_ok-value-in-Group.ensures.read

pub returns-in_ok-value-in-Binary-clause-read : goal.returns-in_ok-value-in-Binary-clause-read
returns-in_ok-value-in-Binary-clause-read t c =
    binary-read c.args.scope.now c.args.depth (expression_of c.args.e.now) c.in-Binary.at (expression_of c.get-in-Binary.result.now) (expression_of c.get-in-Binary-2.result.now) c.in-Binary.op
    c.args.code.now c.sum-in-Binary.new.code c.sum-in-Binary-2.new.code c.declare.new.self
    c.in_ok-first-in-Binary.first c.in_ok-second-in-Binary.second c.in_ok-value-in-Binary.value c.in-Some.operator
    (at_binary c.args.e.now c.in-Binary.at c.in-Binary.left c.in-Binary.op c.in-Binary.right c.get-in-Binary.result.now c.get-in-Binary-2.result.now c.in-Binary.is (sym c.get-in-Binary.ensures) (sym c.get-in-Binary-2.ensures)) c.in-Some.ensures.0 c.in-Some.ensures.1
    c.in_ok-first-in-Binary.ensures.read c.in_ok-second-in-Binary.ensures.read c.in_ok-value-in-Binary.ensures.declared

pub returns-in_ok-value-in-Call-clause-read : goal.returns-in_ok-value-in-Call-clause-read
returns-in_ok-value-in-Call-clause-read t c =
    call-read c.args.scope.now c.args.depth (expression_of c.args.e.now) c.in-Call.at c.in-Call.callee c.in-Call.name (arguments_of c.as_slice.result.now) c.is_potential.result
    c.args.code.now c.potential.new.code c.in_ok-value-in-Call.value
    (at_call c.args.e.now c.in-Call.at c.in-Call.callee c.in-Call.name c.in-Call.args c.as_slice.result.now c.in-Call.is (sym c.as_slice.ensures)) c.is_potential.ensures c.if-not-is_potential.false c.in_ok-value-in-Call.ensures.written

pub returns-in-Unary-clause-unread : goal.returns-in-Unary-clause-unread
returns-in-Unary-clause-unread t c = λ e.
    sign-unread c.args.scope.now c.args.depth (expression_of c.args.e.now) c.in-Unary.at c.in-Unary.op (expression_of c.in-Unary.operand)
    (at_unary c.args.e.now c.in-Unary.at c.in-Unary.op c.in-Unary.operand c.in-Unary.operand c.in-Unary.is refl)

pub returns-in-Choose-clause-unread : goal.returns-in-Choose-clause-unread
returns-in-Choose-clause-unread t c = λ e.
    choice-unread c.args.scope.now c.args.depth (expression_of c.args.e.now) c.in-Choose.at (expression_of c.in-Choose.test) (expression_of c.in-Choose.yes) (expression_of c.in-Choose.no)
    (at_choose c.args.e.now c.in-Choose.at c.in-Choose.test c.in-Choose.yes c.in-Choose.no c.in-Choose.test c.in-Choose.yes c.in-Choose.no
    c.in-Choose.is refl refl refl)

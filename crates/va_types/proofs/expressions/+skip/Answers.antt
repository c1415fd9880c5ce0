use Rattle.std.proofs.Common.{sym, arith}
use Rattle.va_types.proofs.Skipping.{skip_group, skip_unary, skip_binary, skip_choose, skip_call, skips_next, skips_end}
use Rattle.va_types.proofs.expressions.+skip.Goals as goal

pub skip-returns-in_ok-done-in-Group : goal.skip-returns-in_ok-done-in-Group
skip-returns-in_ok-done-in-Group t c =
    skip_group c.args.e.now c.in-Group.at c.in-Group.inner c.get.result.now _ _ _ c.in-Group.is (sym c.get.ensures) c.in_ok-add.ensures.finds c.in_ok-done-in-Group.ensures

pub skip-returns-in_ok-done-in-Unary : goal.skip-returns-in_ok-done-in-Unary
skip-returns-in_ok-done-in-Unary t c =
    skip_unary c.args.e.now c.in-Unary.at c.in-Unary.op c.in-Unary.operand c.get-in-Unary.result.now _ _ _ c.in-Unary.is (sym c.get-in-Unary.ensures) c.in_ok-add.ensures.finds c.in_ok-done-in-Unary.ensures

pub skip-returns-in_ok-done-in-Binary : goal.skip-returns-in_ok-done-in-Binary
skip-returns-in_ok-done-in-Binary t c =
    skip_binary c.args.e.now c.in-Binary.at c.in-Binary.left c.in-Binary.op c.in-Binary.right c.get-in-Binary.result.now c.get-in-Binary-2.result.now _ _ _ _ c.in-Binary.is (sym c.get-in-Binary.ensures) (sym c.get-in-Binary-2.ensures)
    c.in_ok-add.ensures.finds c.in_ok-skip-in-Binary.ensures c.in_ok-done-in-Binary.ensures

pub skip-returns-in_ok-done-in-Choose : goal.skip-returns-in_ok-done-in-Choose
skip-returns-in_ok-done-in-Choose t c =
    skip_choose c.args.e.now c.in-Choose.at c.in-Choose.test c.in-Choose.yes c.in-Choose.no c.get-in-Choose.result.now c.get-in-Choose-2.result.now c.get-in-Choose-3.result.now _ _ _ _ _ c.in-Choose.is
    (sym c.get-in-Choose.ensures) (sym c.get-in-Choose-2.ensures) (sym c.get-in-Choose-3.ensures) c.in_ok-add.ensures.finds c.in_ok-skip-in-Choose.ensures c.in_ok-skip-in-Choose-2.ensures c.in_ok-done-in-Choose.ensures

pub skip-returns-in_ok-done-in-Call : goal.skip-returns-in_ok-done-in-Call
skip-returns-in_ok-done-in-Call t c =
    skip_call c.args.e.now c.in-Call.at c.in-Call.callee c.in-Call.name c.in-Call.args c.as_slice.result.now _ _ _ c.in-Call.is (sym c.as_slice.ensures) c.in_ok-add.ensures.finds c.in_ok-done-in-Call.ensures

pub skip_args-loop-arg-preserved : goal.skip_args-loop-arg-preserved
skip_args-loop-arg-preserved t c =
    skips_next c.args.args.now c.args.found.now c.loop-arg.found c.skip_arg.new.found c.loop-arg.arg-index c.arg-item.result c.loop-arg-test.true c.arg-item.is c.in_ok-skip_arg.ensures c.loop-arg.invariant

pub skip_args-returns : goal.skip_args-returns
skip_args-returns t c = skips_end c.args.args.now c.args.found.now c.loop-arg.found c.loop-arg.arg-index (omega arith) c.loop-arg.invariant

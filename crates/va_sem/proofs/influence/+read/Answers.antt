use Rattle.std.specs.Ordering.{nat_cmp}
use Rattle.std.specs.BTreeMap as tree
use Rattle.std.proofs.Common.{sym, arith}
use Rattle.va_sem.proofs.InfluenceWalk.{read_group, read_unary, read_binary, read_choose, read_call, completes_start, completes_next, completes_end}
use Rattle.va_sem.proofs.influence.+read.Goals as goal

pub read-returns-in_ok-done-in-Group : goal.read-returns-in_ok-done-in-Group
read-returns-in_ok-done-in-Group t c =
    read_group (tree.get nat_cmp c.args.meanings.now) c.args.count c.args.target c.args.e.now c.in-Group.at c.in-Group.inner c.get.result.now _ _ c.in-Group.is (sym c.get.ensures) c.in_ok-done-in-Group.ensures

pub read-returns-in_ok-done-in-Unary : goal.read-returns-in_ok-done-in-Unary
read-returns-in_ok-done-in-Unary t c =
    read_unary (tree.get nat_cmp c.args.meanings.now) c.args.count c.args.target c.args.e.now c.in-Unary.at c.in-Unary.op c.in-Unary.operand c.get-in-Unary.result.now _ _ c.in-Unary.is (sym c.get-in-Unary.ensures) c.in_ok-done-in-Unary.ensures

pub read-returns-in_ok-done-in-Binary : goal.read-returns-in_ok-done-in-Binary
read-returns-in_ok-done-in-Binary t c =
    read_binary (tree.get nat_cmp c.args.meanings.now) c.args.count c.args.target c.args.e.now c.in-Binary.at c.in-Binary.left c.in-Binary.op c.in-Binary.right c.get-in-Binary.result.now c.get-in-Binary-2.result.now _ _ _ c.in-Binary.is (sym c.get-in-Binary.ensures) (sym c.get-in-Binary-2.ensures) c.in_ok-read-in-Binary.ensures c.in_ok-done-in-Binary.ensures

pub read-returns-in_ok-done-in-Choose : goal.read-returns-in_ok-done-in-Choose
read-returns-in_ok-done-in-Choose t c =
    read_choose (tree.get nat_cmp c.args.meanings.now) c.args.count c.args.target c.args.e.now c.in-Choose.at c.in-Choose.test c.in-Choose.yes c.in-Choose.no c.get-in-Choose.result.now c.get-in-Choose-2.result.now c.get-in-Choose-3.result.now _ _ _ _ c.in-Choose.is (sym c.get-in-Choose.ensures) (sym c.get-in-Choose-2.ensures) (sym c.get-in-Choose-3.ensures)
    c.in_ok-read-in-Choose.ensures c.in_ok-read-in-Choose-2.ensures c.in_ok-done-in-Choose.ensures

pub read-returns-in_ok-done-in-Call : goal.read-returns-in_ok-done-in-Call
read-returns-in_ok-done-in-Call t c =
    read_call (tree.get nat_cmp c.args.meanings.now) c.args.count c.args.target c.args.e.now c.in-Call.at c.in-Call.callee c.in-Call.name c.in-Call.args c.as_slice-args.result.now c.count_looked_at-first.result c.meaning_at-in-Call.result _ _ _ c.in-Call.is (sym c.as_slice-args.ensures) c.meaning_at-in-Call.ensures
    c.count_looked_at-first.ensures c.in_ok-note_name-in-Call.ensures c.in_ok-done-in-Call.ensures

pub read_args-loop-arg-init : goal.read_args-loop-arg-init
read_args-loop-arg-init t c = completes_start (tree.get nat_cmp c.args.meanings.now) c.args.count c.args.target c.args.args.now c.args.first c.args.edges.now.items

pub read_args-loop-arg-preserved : goal.read_args-loop-arg-preserved
read_args-loop-arg-preserved t c =
    completes_next (tree.get nat_cmp c.args.meanings.now) c.args.count c.args.target c.args.args.now c.args.first c.args.edges.now.items c.loop-arg.arg-index c.loop-arg.left c.saturating_sub-left.result c.loop-arg.edges.items c.read_arg.new.edges.items c.arg-item.result c.loop-arg-test.true c.arg-item.is c.saturating_sub-left.ensures
    c.in_ok-read_arg.ensures c.loop-arg.invariant

pub read_args-returns : goal.read_args-returns
read_args-returns t c =
    completes_end (tree.get nat_cmp c.args.meanings.now) c.args.count c.args.target c.args.args.now c.args.first c.args.edges.now.items c.loop-arg.arg-index c.loop-arg.left c.loop-arg.edges.items (omega arith) c.loop-arg.invariant

use Rattle.std.specs.Prelude.{[]}
use Rattle.std.proofs.Common.{sym, ap, refl, ◌∙◌}
use Rattle.va_sem.specs.Typing.{type_of_call}
use Rattle.va_sem.specs.LookedAt.{call_looks}
use Rattle.va_tree.specs.Expressions.{expression_of, literal, infinity, name}
use Rattle.va_types.proofs.Finding.{finds_none}
use Rattle.va_types.proofs.Reading.{node, read_group, read_unary, read_binary, read_choose, read_call, reads_next}
use Rattle.va_types.proofs.expressions.+read.Goals as goal

pub read-returns-in-Literal : goal.read-returns-in-Literal
read-returns-in-Literal t c =
    rw (ap expression_of c.in-Literal.is)
    (node c.args.table.now (literal c.in-Literal.at c.in-Literal.value c.in-Literal.integer) [] [] c.in_ok-place.place c.literal_type.result c.close.result _ _ _ _ refl refl c.in_ok-place.ensures.place c.in_ok-place.ensures.finds (finds_none c.open.new.self)
    c.literal_type.ensures c.close.ensures.answer c.close.ensures.types c.close.ensures.least)

pub read-returns-in-Inf : goal.read-returns-in-Inf
read-returns-in-Inf t c =
    rw (ap expression_of c.in-Inf.is)
    (node c.args.table.now (infinity c.in-Inf.at) [] [] c.in_ok-place.place _ c.close-in-Inf.result _ _ _ _ refl refl c.in_ok-place.ensures.place c.in_ok-place.ensures.finds (finds_none c.open.new.self)
    refl c.close-in-Inf.ensures.answer c.close-in-Inf.ensures.types c.close-in-Inf.ensures.least)

pub read-returns-in-Name : goal.read-returns-in-Name
read-returns-in-Name t c =
    rw (ap expression_of c.in-Name.is)
    (node c.args.table.now (name c.in-Name.at c.in-Name.name) [] [] c.in_ok-place.place c.type_of_name.result c.close-in-Name.result _ _ _ _ refl refl c.in_ok-place.ensures.place c.in_ok-place.ensures.finds (finds_none c.open.new.self)
    (rw (c.type_of_name.ensures, c.meaning.ensures) refl) c.close-in-Name.ensures.answer c.close-in-Name.ensures.types c.close-in-Name.ensures.least)

pub read-returns-in_ok-ty-in-Group : goal.read-returns-in_ok-ty-in-Group
read-returns-in_ok-ty-in-Group t c =
    read_group c.args.table.now c.args.e.now c.in-Group.at c.in-Group.inner c.get.result.now c.in_ok-place.place c.in_ok-ty-in-Group.ty c.close-in-Group.result _ _ _ _ c.in-Group.is (sym c.get.ensures) c.in_ok-place.ensures.place c.in_ok-place.ensures.finds
    c.in_ok-ty-in-Group.ensures c.close-in-Group.ensures.answer c.close-in-Group.ensures.types c.close-in-Group.ensures.least

pub read-returns-in_ok-ty-in-Unary : goal.read-returns-in_ok-ty-in-Unary
read-returns-in_ok-ty-in-Unary t c =
    read_unary c.args.table.now c.args.e.now c.in-Unary.at c.in-Unary.op c.in-Unary.operand c.get-in-Unary.result.now c.in_ok-place.place c.in_ok-ty-in-Unary.ty c.unary_type.result c.close-in-Unary.result _ _ _ _ c.in-Unary.is (sym c.get-in-Unary.ensures)
    c.in_ok-place.ensures.place c.in_ok-place.ensures.finds c.in_ok-ty-in-Unary.ensures c.unary_type.ensures c.close-in-Unary.ensures.answer c.close-in-Unary.ensures.types c.close-in-Unary.ensures.least

pub read-returns-in_ok-b-in-Binary : goal.read-returns-in_ok-b-in-Binary
read-returns-in_ok-b-in-Binary t c =
    read_binary c.args.table.now c.args.e.now c.in-Binary.at c.in-Binary.left c.in-Binary.op c.in-Binary.right c.get-in-Binary.result.now c.get-in-Binary-2.result.now c.in_ok-place.place c.in_ok-a-in-Binary.a c.in_ok-b-in-Binary.b
    c.binary_type.result c.close-in-Binary.result c.is_real_remainder.result _ _ _ _ _ _ c.in-Binary.is (sym c.get-in-Binary.ensures) (sym c.get-in-Binary-2.ensures)
    c.in_ok-place.ensures.place c.in_ok-place.ensures.finds c.in_ok-a-in-Binary.ensures c.in_ok-b-in-Binary.ensures c.is_real_remainder.ensures c.note_if.ensures c.binary_type.ensures c.close-in-Binary.ensures.answer c.close-in-Binary.ensures.types c.close-in-Binary.ensures.least

pub read-returns-in_ok-b-in-Choose : goal.read-returns-in_ok-b-in-Choose
read-returns-in_ok-b-in-Choose t c =
    read_choose c.args.table.now c.args.e.now c.in-Choose.at c.in-Choose.test c.in-Choose.yes c.in-Choose.no c.get-in-Choose.result.now c.get-in-Choose-2.result.now c.get-in-Choose-3.result.now c.in_ok-place.place
    c.in_ok-_test-in-Choose._test c.in_ok-a-in-Choose.a c.in_ok-b-in-Choose.b c.either_type.result c.close-in-Choose.result _ _ _ _ _ _ c.in-Choose.is (sym c.get-in-Choose.ensures) (sym c.get-in-Choose-2.ensures) (sym c.get-in-Choose-3.ensures)
    c.in_ok-place.ensures.place c.in_ok-place.ensures.finds c.in_ok-_test-in-Choose.ensures c.in_ok-a-in-Choose.ensures c.in_ok-b-in-Choose.ensures c.either_type.ensures c.close-in-Choose.ensures.answer c.close-in-Choose.ensures.types c.close-in-Choose.ensures.least

pub read-returns-in_ok-types-in-Call : goal.read-returns-in_ok-types-in-Call
read-returns-in_ok-types-in-Call t c =
    read_call c.args.table.now c.args.e.now c.in-Call.at c.in-Call.callee c.in-Call.name c.in-Call.args c.as_slice-args.result.now c.in_ok-place.place c.note_call-fit.result c.in_ok-types-in-Call.types.items c.call_type-ty.result c.close-in-Call.result
    _ _ _ _ _ c.in-Call.is (sym c.as_slice-args.ensures) c.in_ok-place.ensures.place c.in_ok-place.ensures.finds c.note_call-fit.ensures.answer c.note_call-fit.ensures.finds
    c.in_ok-types-in-Call.ensures (c.call_type-ty.ensures ∙ ap (type_of_call c.args.table.now c.in-Call.at c.in-Call.callee c.in-Call.name c.note_call-fit.result) c.as_slice.ensures.value) c.close-in-Call.ensures.answer c.close-in-Call.ensures.types c.close-in-Call.ensures.least

pub read_args-loop-place-preserved : goal.read_args-loop-place-preserved
read_args-loop-place-preserved t c =
    reads_next c.args.table.now (call_looks c.args.callee c.args.name.now) c.args.args.now c.args.found.now c.loop-place.found c.read_arg.new.found c.loop-place.place c.index-args-place.result c.call_looks.result c.loop-place.types.items
    c.push.new.self.items c.in_ok-ty.ty c.loop-place-test.true c.index-args-place.is c.call_looks.ensures c.in_ok-ty.ensures c.in_ok-push.ensures.items c.loop-place.invariant

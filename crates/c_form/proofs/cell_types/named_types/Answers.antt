use Rattle.std.proofs.Common.{arith, ◌∙◌}
use Rattle.c_tree.specs.Text.{field_word}
use Rattle.c_form.specs.FieldTypes.{named}
use Rattle.c_form.proofs.Naming.{field-entered}
use Rattle.c_form.proofs.cell_types.named_types.Goals as goal

pub loop-place-preserved : goal.loop-place-preserved
loop-place-preserved c = (
  λ field. c.in_ok-enter.ensures (field_word field)
      ∙ field-entered c.args.list.now c.loop-place.place _ field c.in_ok-name.name.items (named c.loop-place.table (field_word field))
      c.loop-place-test.true c.loop-place.invariant.1 c.in_ok-name.ensures (c.loop-place.invariant.0 field),
  omega arith,
)

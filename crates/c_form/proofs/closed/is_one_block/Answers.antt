use Rattle.std.proofs.Common.{◌<◌, ◌-◌, ◌∙◌, ℕ, arith}
use Rattle.c_form.proofs.Closing.{behind-few, ends-next}
use Rattle.c_form.proofs.closed.is_one_block.Goals as goal

pub loop-statement-preserved : goal.loop-statement-preserved
loop-statement-preserved c =
    let blocks : ℕ = c.loop-statement.blocks in
    let some : 0 < blocks = omega (arith, c.if-blocks-eq0.false) in
    let few = behind-few (blocks - 1) c.statement-item.result in
    record {
      rest = c.loop-statement.invariant.rest
          ∙ ends-next blocks c.open_behind-blocks.result c.args.list.now c.loop-statement.statement-index c.statement-item.result (omega arith) c.statement-item.is some
          c.open_behind-blocks.ensures;
      few = omega (arith, few, some, c.loop-statement.invariant.few, c.open_behind-blocks.ensures);
    }

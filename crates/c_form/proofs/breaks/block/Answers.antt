use Rattle.std.proofs.Common.{◌≡◌, arith, drop, []}
use Rattle.std.proofs.Math.ListN.{drop_of_length-le}
use Rattle.c_form.specs.OpenBlocks.{innermost_first}
use Rattle.c_raw.proofs.Elements.{next-is}
use Rattle.c_form.proofs.Blaming.{blames_as, blames_none}
use Rattle.c_form.proofs.Open.{breaks-body, breaks-end}
use Rattle.c_form.proofs.breaks.block.Goals as goal

pub loop-statement-preserved : goal.loop-statement-preserved
loop-statement-preserved c = λ new more.
    c.loop-statement.invariant new
    (rw (next-is c.args.list.now c.loop-statement.statement-index c.statement-item.result (omega arith) c.statement-item.is)
    (c.in_ok-step.ensures new _ more))

pub returns : goal.returns
returns c =
    let end : drop c.loop-statement.statement-index c.args.list.now ≡ [] = drop_of_length-le c.args.list.now (omega arith) in
    blames_as
    (c.loop-statement.invariant _ (rw (end, breaks-end (innermost_first c.loop-statement.blocks.items)) (blames_none _)))
    (breaks-body c.args.list.now c.requires)

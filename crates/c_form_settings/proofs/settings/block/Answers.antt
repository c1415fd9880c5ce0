use Rattle.std.proofs.Common.{arith}
use Rattle.std.proofs.Math.ListN.{drop_of_length-le}
use Rattle.c_form.proofs.Seen.{blames_like}
use Rattle.c_form_settings.proofs.Declaring.{reached-end, reached-next, reached-none}
use Rattle.c_form_settings.proofs.Flat.{settings-body}
use Rattle.c_form_settings.proofs.settings.block.Goals as goal

pub loop-statement-init : goal.loop-statement-init
loop-statement-init c = reached-none c.args.least.now c.no_locals-pass.result c.args.list.now c.no_locals-pass.ensures.holds c.no_locals-pass.ensures.none

pub loop-statement-preserved : goal.loop-statement-preserved
loop-statement-preserved c =
    reached-next c.args.least.now c.loop-statement.least c.step.new.least c.no_locals-pass.result c.loop-statement.pass c.step.new.pass c.args.list.now
    c.loop-statement.statement-index c.statement-item.result (omega arith) c.statement-item.is c.loop-statement.invariant
    (c.in_ok-step.ensures c.loop-statement.invariant.holds)

pub returns : goal.returns
returns c =
    blames_like _ _ _ _
    (reached-end c.args.least.now c.loop-statement.least c.no_locals-pass.result c.loop-statement.pass c.args.list.now _
    (drop_of_length-le c.args.list.now (omega arith)) c.no_locals-pass.ensures.none c.loop-statement.invariant)
    (settings-body c.args.list.now c.requires)

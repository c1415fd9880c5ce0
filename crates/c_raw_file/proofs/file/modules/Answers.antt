use Rattle.c_raw_file.proofs.Modules.{next_module}
use Rattle.c_raw_file.proofs.file.modules.Goals as goal

pub loop-index-preserved : goal.loop-index-preserved
loop-index-preserved c =
    next_module c.args.raw.now c.args.descriptors.now c.loop-index.index c.index-raw-index.result c.loop-index.list.items _ _ c.in_ok-numbered.field-0
    c.loop-index-test.true c.index-raw-index.is c.loop-index.invariant c.in_ok-numbered.ensures c.in_ok-push.ensures.items

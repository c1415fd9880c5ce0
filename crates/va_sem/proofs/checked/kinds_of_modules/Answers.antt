use Rattle.std.proofs.Common.{Some, map}
use Rattle.va_sem.specs.Kinds.{module_kinds, HasAllKinds}
use Rattle.va_sem.proofs.Modules.{zipped_more, listed_more, mapped_more, head_holds, rest_holds}
use Rattle.va_sem.proofs.checked.kinds_of_modules.Goals as goal

pub branch_kinds-requires : goal.branch_kinds-requires
branch_kinds-requires c =
    head_holds HasAllKinds (c.index-modules-index.result, c.index-names-index.result) _ _
    (zipped_more c.args.modules.now c.args.names.now c.loop-index.index c.index-modules-index.result c.index-names-index.result c.loop-index-test.true c.requires.named c.index-modules-index.is c.index-names-index.is)
    c.loop-index.invariant.kinds

pub loop-index-preserved : goal.loop-index-preserved
loop-index-preserved c = record {
  listed = listed_more module_kinds c.args.modules.now c.args.names.now c.loop-index.index c.index-modules-index.result c.index-names-index.result
      (map (map Some) c.loop-index.list.items) (map (map Some) c.push.new.self.items) _ c.loop-index-test.true c.requires.named c.index-modules-index.is c.index-names-index.is c.loop-index.invariant.listed
      (mapped_more (map Some) c.loop-index.list.items c.push.new.self.items c.in_ok-of_module.of_module _ c.in_ok-push.ensures.items c.in_ok-of_module.ensures);
  kinds = rest_holds HasAllKinds (c.index-modules-index.result, c.index-names-index.result) _ _
      (zipped_more c.args.modules.now c.args.names.now c.loop-index.index c.index-modules-index.result c.index-names-index.result c.loop-index-test.true c.requires.named c.index-modules-index.is c.index-names-index.is)
      c.loop-index.invariant.kinds;
}

use Rattle.std.proofs.Common.{arith}
use Rattle.std.proofs.Math.ListN.{drop_of_length-le}
use Rattle.c_tree.specs.rules.Locals.{used_locals}
use Rattle.c_raw.proofs.Elements.{next-is}
use Rattle.c_form.proofs.Walking.{reached-first, reached-next, reached-blames, reached-knows}
use Rattle.c_form.proofs.locals.walk.Goals as goal

pub loop-statement-init : goal.loop-statement-init
loop-statement-init c = reached-first used_locals _ _ c.args.list.now c.no_locals-scope.ensures

pub loop-statement-preserved : goal.loop-statement-preserved
loop-statement-preserved c =
    reached-next used_locals c.loop-statement.scope _ _ _ _ c.args.list.now _ _ c.statement-item.result
    (next-is c.args.list.now c.loop-statement.statement-index c.statement-item.result (omega arith) c.statement-item.is)
    c.in_ok-go_behind.ensures c.in_ok-visit.ensures c.loop-statement.invariant

pub returns-clause-blames : goal.returns-clause-blames
returns-clause-blames c =
    reached-blames used_locals c.loop-statement.scope _ _ c.args.list.now _
    (drop_of_length-le c.args.list.now (omega arith)) c.loop-statement.invariant

pub returns-clause-knows : goal.returns-clause-knows
returns-clause-knows c =
    reached-knows used_locals c.loop-statement.scope _ _ c.args.list.now _
    (drop_of_length-le c.args.list.now (omega arith)) c.loop-statement.invariant

use Rattle.std.proofs.Common.{ℕ, List, arith}
use Rattle.std.proofs.Math.ListN.{drop_of_length-le}
use Rattle.c_tree.specs.rules.Bodies.{Scoped}
use Rattle.c_raw.specs.Views.{module_view}
use Rattle.c_form.specs.Bodies.{body_view}
use Rattle.c_raw.proofs.Elements.{next-is}
use Rattle.c_form.proofs.Walking.{reached-first, reached-next, reached-blames, reached-knows}
use Rattle.c_form_types.specs.Places.{item_blamed}
use Rattle.c_form_types.proofs.bodies.all_statements.Goals as goal

pub loop-statement-init : goal.loop-statement-init
loop-statement-init c =
    let part : Scoped → List ℕ = item_blamed (module_view c.args.types.now.tree.now) (body_view c.args.types.now.body) in
    reached-first part _ _ c.args.list.now c.no_locals-scope.ensures

pub loop-statement-preserved : goal.loop-statement-preserved
loop-statement-preserved c =
    let part : Scoped → List ℕ = item_blamed (module_view c.args.types.now.tree.now) (body_view c.args.types.now.body) in
    reached-next part c.loop-statement.scope _ _ _ _ c.args.list.now _ _ c.statement-item.result
    (next-is c.args.list.now c.loop-statement.statement-index c.statement-item.result (omega arith) c.statement-item.is)
    c.in_ok-go_behind.ensures
    (λ known k. c.in_ok-statement_differs.ensures
    (record { tree = module_view c.args.types.now.tree.now; body = body_view c.args.types.now.body; known = known })
    (record { types_of = c.requires; locals = k }))
    c.loop-statement.invariant

pub returns-clause-blames : goal.returns-clause-blames
returns-clause-blames c =
    let part : Scoped → List ℕ = item_blamed (module_view c.args.types.now.tree.now) (body_view c.args.types.now.body) in
    reached-blames part c.loop-statement.scope _ _ c.args.list.now _
    (drop_of_length-le c.args.list.now (omega arith)) c.loop-statement.invariant

pub returns-clause-knows : goal.returns-clause-knows
returns-clause-knows c =
    let part : Scoped → List ℕ = item_blamed (module_view c.args.types.now.tree.now) (body_view c.args.types.now.body) in
    reached-knows part c.loop-statement.scope _ _ c.args.list.now _
    (drop_of_length-le c.args.list.now (omega arith)) c.loop-statement.invariant

use Rattle.std.proofs.Common.{drop}
use Rattle.c_raw.specs.Views.{module_view}
use Rattle.c_form.specs.Bodies.{body_view}
use Rattle.c_form.proofs.Walking.{Reached}
use Rattle.c_form_types.specs.Places.{item_blamed}
use Rattle.c_form_types.proofs.bodies.all_statements.Given as goal

abbrev pub invariant-loop-statement : goal.invariant-loop-statement
invariant-loop-statement l =
    Reached (item_blamed (module_view l.types.tree.now) (body_view l.types.body)) l.scope l.fn.least l.least l.list (drop l.statement-index l.list)

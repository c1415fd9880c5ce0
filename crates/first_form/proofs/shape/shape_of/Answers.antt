use Rattle.first_form.proofs.Shapes.{shape-none}
use Rattle.first_form.proofs.shape.shape_of.Goals as goal

pub returns-in_err-parameters : goal.returns-in_err-parameters
returns-in_err-parameters c =
    rw c.from_residual-in_err-parameters.ensures
    (shape-none c.args.source.now c.in_ok-module.module.now c.in_ok-first.first.now c.in_ok-first.second.now c.in_ok-module.ensures c.in_ok-first.ensures
    (rw c.as_list.ensures at c.in_err-parameters.ensures))

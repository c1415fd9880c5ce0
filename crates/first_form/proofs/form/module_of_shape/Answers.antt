use Rattle.std.proofs.Common.{refl}
use Rattle.std.proofs.lemmas.Result.{err_from_is_err_and}
use Rattle.first_form.proofs.Shapes.{flow-unread, shape-read}
use Rattle.first_form.proofs.form.module_of_shape.Goals as goal

pub returns-in_err-tree-clause-unread : goal.returns-in_err-tree-clause-unread
returns-in_err-tree-clause-unread c = λ e.
    let p = err_from_is_err_and c.from_residual-in_err-tree.result c.from_residual-in_err-tree.ensures.1 in
    flow-unread c.args.shape.now (record { first = c.args.shape.now.first; second = c.args.shape.now.second; names = c.in_ok-names.names })
    refl refl c.in_ok-names.ensures.read (c.in_err-tree.ensures.unread (cc (p.1, p.2, e)))

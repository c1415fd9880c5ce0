use Rattle.std.proofs.lemmas.Result.{err_from_is_err_and}
use Rattle.va_tree.specs.Expressions.{expression_of}
use Rattle.first_form.proofs.Shapes.{shape-keeps, source-read}
use Rattle.first_form.proofs.form.module_of_source.Goals as goal

pub returns-in_default-clause-unbuilt : goal.returns-in_default-clause-unbuilt
returns-in_default-clause-unbuilt c = λ e form is.
    c.in_default.ensures form.name form.first form.second is.parts.parameters form.flow is.parts.shape

pub returns-in_err-tree-clause-unbuilt : goal.returns-in_err-tree-clause-unbuilt
returns-in_err-tree-clause-unbuilt c = λ e form is.
    let p = err_from_is_err_and c.from_residual.result c.from_residual.ensures.1 in
    c.in_err-tree.ensures.unread (cc (p.1, p.2, e)) form.params (shape-keeps c.args.source.now c.in-Some.shape form c.in-Some.ensures is)

pub returns-clause-read : goal.returns-clause-read
returns-clause-read c = source-read c.args.source.now c.in-Some.shape c.in_ok-tree.tree c.in-Some.ensures c.in_ok-tree.ensures.read

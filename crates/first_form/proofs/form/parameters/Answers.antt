use Rattle.std.proofs.lemmas.Result.{err_from_is_err_and}
use Rattle.first_form.proofs.Params.{names-begin, names-step, names-stuck}
use Rattle.first_form.proofs.form.parameters.Goals as goal

pub loop-item-init : goal.loop-item-init
loop-item-init c = names-begin c.args.first.now c.args.second.now c.new-names.result c.new-names.ensures c.requires.apart

pub returns-in_err-add_parameter-clause-unread : goal.returns-in_err-add_parameter-clause-unread
returns-in_err-add_parameter-clause-unread c = λ e.
    let p = err_from_is_err_and c.from_residual.result c.from_residual.ensures.1 in
    names-stuck c.args.first.now c.args.second.now c.args.items.now c.loop-item.item-index c.item-item.result _ c.loop-item.names c.item-item.is
    c.loop-item-test.true c.loop-item.invariant (c.in_err-add_parameter.ensures.unread (cc (p.1, p.2, e)))

pub loop-item-preserved : goal.loop-item-preserved
loop-item-preserved c =
    names-step c.args.first.now c.args.second.now c.args.items.now c.loop-item.item-index c.item-item.result _ c.loop-item.names c.add_parameter.new.names
    c.item-item.is c.loop-item-test.true c.loop-item.invariant c.in_ok-add_parameter.ensures.added

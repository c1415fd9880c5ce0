use Rattle.first_form.proofs.Params.{name-taken}
use Rattle.first_form.proofs.form.add_parameter.Goals as goal

pub returns-clause-unread : goal.returns-clause-unread
returns-clause-unread c = λ e.
    name-taken c.args.first.now c.args.second.now c.args.item.now c.args.names.now c.in-Some.name.now c.in-Some.ensures (c.add.ensures.unbuilt e)

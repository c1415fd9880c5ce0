use Rattle.c_form.proofs.Blaming.{◌▸◌}
use Rattle.c_form.proofs.locals.one_body.Goals as goal

pub returns : goal.returns
returns c = λ m. c.in_ok-body_locals.ensures ▸ c.in_ok-body_arguments.ensures ▸ c.in_ok-locals_again.ensures ▸ c.in_ok-arguments_again.ensures

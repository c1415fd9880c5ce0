use Rattle.c_form.proofs.Blaming.{least_is}
use Rattle.c_form_settings.proofs.settings.settings_fault.Goals as goal

pub returns : goal.returns
returns c = least_is c.in_ok-in_bodies.ensures

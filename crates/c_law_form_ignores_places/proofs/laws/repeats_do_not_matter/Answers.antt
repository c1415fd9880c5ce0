use Rattle.c_law_form_ignores_places.proofs.Repeats.{repeats_do_not_matter}
use Rattle.c_law_form_ignores_places.proofs.laws.repeats_do_not_matter.Goals as goal

pub returns : goal.returns
returns c = repeats_do_not_matter

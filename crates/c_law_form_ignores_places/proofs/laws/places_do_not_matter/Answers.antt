use Rattle.c_law_form_ignores_places.proofs.Places.{places_do_not_matter}
use Rattle.c_law_form_ignores_places.proofs.laws.places_do_not_matter.Goals as goal

pub returns : goal.returns
returns c = places_do_not_matter

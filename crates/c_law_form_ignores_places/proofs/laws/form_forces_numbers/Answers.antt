use Rattle.c_law_form_ignores_places.proofs.ForcedFiles.{form_forces_numbers}
use Rattle.c_law_form_ignores_places.proofs.laws.form_forces_numbers.Goals as goal

pub returns : goal.returns
returns c = form_forces_numbers

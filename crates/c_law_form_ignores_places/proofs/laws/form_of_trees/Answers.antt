use Rattle.c_law_form_ignores_places.proofs.Files.{form_of_trees}
use Rattle.c_law_form_ignores_places.proofs.laws.form_of_trees.Goals as goal

pub returns : goal.returns
returns c = form_of_trees

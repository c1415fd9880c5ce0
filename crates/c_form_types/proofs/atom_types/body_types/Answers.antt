use Rattle.std.proofs.Common.{refl, ap, ◌∙◌}
use Rattle.c_tree.specs.rules.Types.{type_of_argument}
use Rattle.c_form_types.proofs.atom_types.body_types.Goals as goal

pub returns : goal.returns
returns c = λ k. record {
  tree = refl;
  body = refl;
  cells = k;
  arguments = λ i. c.in_ok-arguments.ensures i ∙ ap (type_of_argument i) c.arguments.ensures;
}

use Rattle.std.proofs.Common.{ap}
use Rattle.c_tree.specs.rules.Types.{differs}
use Rattle.c_form.proofs.Blaming.{blames_as}
use Rattle.c_form_types.proofs.right_sides.result_differs.Goals as goal

pub returns : goal.returns
returns c = λ p k. blames_as c.differs.ensures (ap (λ found. differs found c.args.ty c.args.at) (c.in_ok-found.ensures p k))

use Rattle.std.proofs.Common.{ap, ◌∙◌}
use Rattle.c_tree.specs.rules.Types.{joint, type_of_atom}
use Rattle.c_form_types.proofs.right_types.binary_type.Goals as goal

pub returns : goal.returns
returns c = λ p k.
    c.joint.ensures p
    ∙ ap (λ first. joint p.tree p.body p.known c.args.operator first c.in_ok-second.second) (c.in_ok-first.ensures p k)
    ∙ ap (λ second. joint p.tree p.body p.known c.args.operator (type_of_atom p.tree p.body p.known c.args.left) second) (c.in_ok-second.ensures p k)

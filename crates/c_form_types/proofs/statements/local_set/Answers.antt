use Rattle.std.proofs.Common.{ap}
use Rattle.c_raw.specs.Blocks.{at_view}
use Rattle.c_tree.specs.rules.Types.{wanted_by}
use Rattle.c_form.proofs.Blaming.{blames_as}
use Rattle.c_form_types.proofs.statements.local_set.Goals as goal

pub returns : goal.returns
returns c = λ p k.
    blames_as (c.in_ok-wanted_by.ensures p k)
    (ap (λ ty. wanted_by p.tree p.body p.known ty (at_view c.args.value)) (c.local_type-ty.ensures p.known k.locals))

use Rattle.std.proofs.Common.{ap, ◌∙◌}
use Rattle.std.specs.Prelude.{map}
use Rattle.c_raw.specs.Blocks.{at_view, simple_view}
use Rattle.c_form.proofs.Blaming.{◌▸◌, blames_as}
use Rattle.c_form.proofs.Uses.{simple-uses}
use Rattle.c_form.proofs.locals.simple_used.Goals as goal

pub returns : goal.returns
returns c = λ known k.
    blames_as (c.atoms_used.ensures known k ▸ c.set_again.ensures known k)
    (simple-uses known (simple_view c.args.statement.now) _ (ap (map at_view) c.deref.ensures.value ∙ c.in_ok-atoms.ensures))

use Rattle.c_raw.specs.Blocks.{at_view}
use Rattle.c_form.proofs.Blaming.{blames_as}
use Rattle.c_form.proofs.Uses.{test-uses}
use Rattle.c_form.proofs.locals.test_used.Goals as goal

pub returns : goal.returns
returns c = λ known k. blames_as (c.atom_used.ensures known k) (test-uses known (at_view c.args.atom))

use Rattle.c_raw.specs.declared.file.RawFunction.{RawFunction}
use Rattle.c_form.proofs.Blaming.{◌▸◌, blames_none, blames_as}
use Rattle.c_form.proofs.Uses.{value-uses}
use Rattle.c_form.proofs.locals.returned_used.Goals as goal

pub returns-in-Function : goal.returns-in-Function
returns-in-Function c = λ known k.
    rw (c.in-Function.is) (blames_as (c.atom_used.ensures known k ▸ blames_none _) (value-uses known (RawFunction.result c.in-Function.function.now) _))

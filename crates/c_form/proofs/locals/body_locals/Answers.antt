use Rattle.c_tree.specs.rules.Locals.{used_locals}
use Rattle.c_form.proofs.Blaming.{◌▸◌, blames_as}
use Rattle.c_form.proofs.Walking.{items-walked}
use Rattle.c_form.proofs.locals.body_locals.Goals as goal

pub returns : goal.returns
returns c =
    blames_as (c.in_ok-scope.ensures.blames ▸ c.returned_used.ensures _ c.in_ok-scope.ensures.knows)
    (items-walked used_locals c.args.body.now c.statements.result.now c.statements.ensures c.requires)

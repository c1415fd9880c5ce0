use Rattle.std.proofs.Common.{ap, ◌∙◌}
use Rattle.std.specs.Prelude.{nat_eq}
use Rattle.indexmap.specs.IndexMap.{get}
use Rattle.c_tree.specs.rules.Bodies.{RawBody}
use Rattle.c_tree.specs.rules.Types.{type_of_argument}
use Rattle.c_form.specs.Bodies.{body_view}
use Rattle.c_form.specs.Uses.{HasArguments}
use Rattle.c_form.proofs.Blaming.{blames_as}
use Rattle.c_form.proofs.ItemParts.{arguments-body}
use Rattle.c_form.proofs.argument_uses.body_arguments.Goals as goal

pub returns : goal.returns
returns c =
    let b : RawBody = body_view c.args.body.now in
    let types : HasArguments (get nat_eq c.in_ok-types.types) b = λ i. c.in_ok-types.ensures i ∙ ap (type_of_argument i) c.arguments.ensures in
    blames_as (c.in_ok-in_items.ensures b types) (arguments-body b)

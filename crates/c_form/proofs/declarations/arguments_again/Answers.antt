use Rattle.std.proofs.Common.{ap, ◌∙◌}
use Rattle.std.specs.Prelude.{map}
use Rattle.c_tree.specs.Raw.{RawArgument}
use Rattle.c_tree.specs.rules.Bodies.{repeated}
use Rattle.c_raw.specs.Blocks.{at_view}
use Rattle.c_form.proofs.Blaming.{blames_as}
use Rattle.c_form.proofs.declarations.arguments_again.Goals as goal

pub returns : goal.returns
returns c =
    blames_as c.in_ok-repeated.ensures
    (ap repeated (ap (map at_view) c.deref.ensures.value ∙ c.in_ok-numbers.ensures ∙ ap (map (λ argument. RawArgument.number argument)) c.arguments.ensures))

use Rattle.std.proofs.Common.{ap}
use Rattle.std.specs.Prelude.{map}
use Rattle.std.specs.List.{flat_map}
use Rattle.c_tree.specs.rules.Reach.{factor_reached}
use Rattle.c_raw.specs.Blocks.{at_view}
use Rattle.c_form.proofs.Blaming.{◌▸◌, blames_as}
use Rattle.c_form_reach.proofs.loads.load.Goals as goal

pub returns : goal.returns
returns c = λ m k.
    c.target.ensures
    ▸ (c.in_ok-factor.ensures m k
    ▸ blames_as (c.in_ok-factors.ensures m k) (ap (λ l. flat_map (factor_reached m c.args.function) (map at_view l)) c.as_list.ensures))

use Rattle.std.proofs.Common.{ap}
use Rattle.std.specs.Prelude.{map}
use Rattle.std.specs.List.{flat_map}
use Rattle.c_raw.specs.Blocks.{at_view}
use Rattle.c_raw.specs.Views.{load_view}
use Rattle.c_form.specs.CellUses.{factor_missing}
use Rattle.c_form.proofs.Blaming.{◌▸◌, blames_as}
use Rattle.c_form.proofs.Celling.{load-cells}
use Rattle.c_form.proofs.field_rows.load.Goals as goal

pub returns : goal.returns
returns c = λ m k.
    blames_as (c.in_ok-factor.ensures m k ▸ blames_as (c.in_ok-factors.ensures m k) (ap (λ l. flat_map (factor_missing m) (map at_view l)) c.as_list.ensures))
    (load-cells m (load_view c.args.found.now))

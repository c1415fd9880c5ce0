use Rattle.std.proofs.Common.{refl}
use Rattle.c_raw.specs.Views.{module_view}
use Rattle.c_form_reach.proofs.loads.module_loads.Goals as goal

pub returns : goal.returns
returns c = c.in_ok-all_loads.ensures (module_view c.args.tree.now) c.in_ok-types.ensures refl

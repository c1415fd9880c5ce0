-- The statements of load functions.
use Rattle.std.proofs.Common.{◌≡◌, refl, ap, ◌∙◌}
use Rattle.std.specs.Prelude.{map}
use Rattle.c_tree.specs.declared.load.LoadFunction.{LoadFunction}
use Rattle.c_tree.specs.declared.load.LoadFunction.TheVariants.{ResidualResist, ResidualReact, JacobianResist, JacobianReact, JacobianTran, SpiceRhsDc, SpiceRhsTran}
use Rattle.c_tree.specs.Raw.{RawModule}
use Rattle.c_tree.specs.rules.Reach.{raw_loads}
use Rattle.c_raw.specs.Views.{load_view, loads_in, loads_view}
use Rattle.c_raw.specs.declared.load.RawLoads.{RawLoads}

by_function : (all : RawLoads) (f : LoadFunction) → raw_loads (loads_view all) f ≡ map load_view (loads_in all f)
by_function all ResidualResist = refl
by_function all ResidualReact = refl
by_function all JacobianResist = refl
by_function all JacobianReact = refl
by_function all JacobianTran = refl
by_function all SpiceRhsDc = refl
by_function all SpiceRhsTran = refl

pub loads-are : (m : RawModule) (all : RawLoads) → RawModule.loads m ≡ loads_view all → (f : LoadFunction)
    → raw_loads m.loads f ≡ map load_view (loads_in all f)
loads-are m all e f = ap (λ l. raw_loads l f) e ∙ by_function all f

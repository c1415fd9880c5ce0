use Rattle.std.proofs.Common.{◌≡◌, List, ap, sym, ◌∙◌}
use Rattle.std.specs.Prelude.{map}
use Rattle.std.specs.List.{flat_map}
use Rattle.c_tree.specs.declared.load.LoadFunction.{LoadFunction}
use Rattle.c_tree.specs.declared.load.LoadFunction.TheVariants.{ResidualResist, ResidualReact, JacobianResist, JacobianReact, JacobianTran, SpiceRhsDc, SpiceRhsTran}
use Rattle.c_tree.specs.rules.Reach.{load_reached, raw_loads}
use Rattle.c_raw.specs.Views.{load_view, loads_in}
use Rattle.c_raw.specs.declared.load.RawLoad.{RawLoad}
use Rattle.c_form.proofs.Blaming.{◌▸◌, blames_as, blames_none}
use Rattle.c_form_reach.proofs.Loading.{loads-are}
use Rattle.c_form_reach.proofs.loads.all_loads.Goals as goal

pub returns : goal.returns
returns c = λ m k e.
    let here : (f : LoadFunction) (list : List RawLoad) → list ≡ loads_in c.args.all.now f
    → flat_map (load_reached m f) (map load_view list) ≡ flat_map (load_reached m f) (raw_loads m.loads f) =
    λ f list h. ap (λ l. flat_map (load_reached m f) (map load_view l)) h ∙ ap (flat_map (load_reached m f)) (sym (loads-are m c.args.all.now e f)) in
    blames_as (c.in_ok-loads.ensures m k) (here ResidualResist c.of.result.now c.of.ensures)
    ▸ (blames_as (c.in_ok-loads-2.ensures m k) (here ResidualReact c.of-2.result.now c.of-2.ensures)
    ▸ (blames_as (c.in_ok-loads-3.ensures m k) (here JacobianResist c.of-3.result.now c.of-3.ensures)
    ▸ (blames_as (c.in_ok-loads-4.ensures m k) (here JacobianReact c.of-4.result.now c.of-4.ensures)
    ▸ (blames_as (c.in_ok-loads-5.ensures m k) (here JacobianTran c.of-5.result.now c.of-5.ensures)
    ▸ (blames_as (c.in_ok-loads-6.ensures m k) (here SpiceRhsDc c.of-6.result.now c.of-6.ensures)
    ▸ (blames_as (c.in_ok-loads-7.ensures m k) (here SpiceRhsTran c.of-7.result.now c.of-7.ensures)
    ▸ blames_none _))))))

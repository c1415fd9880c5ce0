use Rattle.std.proofs.Common.{ℕ, List}
use Rattle.c_tree.specs.Raw.{RawLoad}
use Rattle.c_tree.specs.rules.Tables.{load_numbers}
use Rattle.c_raw.specs.Views.{module_view}
use Rattle.c_form.proofs.Blaming.{blames_both}
use Rattle.c_form.proofs.ranges.loads_numbers.Goals as goal

pub returns : goal.returns
returns c =
    let part : RawLoad → List ℕ = load_numbers (module_view c.args.tree.now) in
    rw (← c.as_list.ensures, ← c.as_list-2.ensures, ← c.as_list-3.ensures, ← c.as_list-4.ensures, ← c.as_list-5.ensures, ← c.as_list-6.ensures, ← c.as_list-7.ensures)
    (blames_both part _ _ _ _ _ (blames_both part _ _ _ _ _ (blames_both part _ _ _ _ _ (blames_both part _ _ _ _ _ (blames_both part _ _ _ _ _ (blames_both part _ _ _ _ _ (c.loads.ensures) c.loads-2.ensures) c.loads-3.ensures) c.loads-4.ensures) c.loads-5.ensures) c.loads-6.ensures) c.loads-7.ensures)

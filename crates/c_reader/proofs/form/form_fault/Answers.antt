use Rattle.std.proofs.Common.{ℕ, List, ◌++◌}
use Rattle.c_tree.specs.Raw.{RawFile}
use Rattle.c_tree.specs.rules.Breaks.{one_break_a_loop}
use Rattle.c_tree.specs.rules.Reach.{cells_in_reach}
use Rattle.c_tree.specs.rules.Fields.{fields_exist}
use Rattle.c_tree.specs.rules.Locals.{locals_declared}
use Rattle.c_tree.specs.rules.Numbering.{numbered_in_order}
use Rattle.c_tree.specs.rules.Settings.{set_as_declared}
use Rattle.c_tree.specs.rules.Tables.{tables_agree}
use Rattle.c_tree.specs.rules.Types.{types_agree, calls_fit}
use Rattle.c_raw.specs.Views.{file_view}
use Rattle.c_reader.proofs.form.form_fault.Goals as goal

pub returns : goal.returns
returns c =
    let raw : RawFile = file_view c.args.raw.now in
    let n : List ℕ = numbered_in_order raw in
    let f : List ℕ = fields_exist raw in
    let l : List ℕ = locals_declared raw in
    let s : List ℕ = set_as_declared raw in
    let b : List ℕ = one_break_a_loop raw in
    let t : List ℕ = types_agree raw in
    let k : List ℕ = calls_fit raw in
    let r : List ℕ = cells_in_reach raw in
    let two = c.earlier-two.ensures n f c.numbering_fault-numbering.ensures c.in_ok-fields.ensures in
    let three = c.earlier-three.ensures (n ++ f) l two c.in_ok-locals.ensures in
    let four = c.earlier-four.ensures (n ++ f ++ l) s three c.in_ok-settings.ensures in
    let five = c.earlier-five.ensures (n ++ f ++ l ++ s) b four c.in_ok-breaks.ensures in
    let six = c.earlier-six.ensures (n ++ f ++ l ++ s ++ b) t five c.in_ok-types.ensures in
    let seven = c.earlier-seven.ensures (n ++ f ++ l ++ s ++ b ++ t) k six c.in_ok-calls.ensures in
    let eight = c.earlier-eight.ensures (n ++ f ++ l ++ s ++ b ++ t ++ k) r seven c.in_ok-reach.ensures in
    c.earlier.ensures (n ++ f ++ l ++ s ++ b ++ t ++ k ++ r) (tables_agree raw) eight c.in_ok-tables.ensures

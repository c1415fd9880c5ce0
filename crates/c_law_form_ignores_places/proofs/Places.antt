-- The rules of form compare no places.
use Rattle.std.specs.Prelude.{◌++◌}
use Rattle.c_tree.specs.Form.{blamed}
use Rattle.c_tree.specs.Raw.{RawFile}
use Rattle.c_tree.specs.rules.Breaks.{one_break_a_loop}
use Rattle.c_tree.specs.rules.Reach.{cells_in_reach}
use Rattle.c_tree.specs.rules.Fields.{fields_exist}
use Rattle.c_tree.specs.rules.Locals.{locals_declared}
use Rattle.c_tree.specs.rules.Numbering.{numbered_in_order}
use Rattle.c_tree.specs.rules.Settings.{set_as_declared}
use Rattle.c_tree.specs.rules.Tables.{tables_agree}
use Rattle.c_tree.specs.rules.Types.{types_agree, calls_fit}
use Rattle.c_law_form_ignores_places.specs.Forget.{forget}
use Rattle.c_law_form_ignores_places.specs.Laws.{PlacesDoNotMatter}
use Rattle.c_law_form_ignores_places.proofs.Alike.{Alike, both, none_alike}
use Rattle.c_law_form_ignores_places.proofs.FieldRules.{field_rule_alike}
use Rattle.c_law_form_ignores_places.proofs.LocalRules.{all_three, numbering_alike, break_rule_alike, local_rule_alike, setting_rule_alike}
use Rattle.c_law_form_ignores_places.proofs.ReachRules.{reach_rule_alike}
use Rattle.c_law_form_ignores_places.proofs.TableRules.{table_rule_alike}
use Rattle.c_law_form_ignores_places.proofs.TypeRules.{type_rule_alike, call_rule_alike}

pub blamed_alike : (raw : RawFile) → Alike (blamed raw) (blamed (forget raw))
blamed_alike raw =
    let gone = forget raw in
    let a1 = numbered_in_order raw in
    let a2 = fields_exist raw in
    let a3 = locals_declared raw in
    let a4 = set_as_declared raw in
    let a5 = one_break_a_loop raw in
    let a6 = types_agree raw in
    let a7 = calls_fit raw in
    let a8 = cells_in_reach raw in
    let a9 = tables_agree raw in
    let b1 = numbered_in_order gone in
    let b2 = fields_exist gone in
    let b3 = locals_declared gone in
    let b4 = set_as_declared gone in
    let b5 = one_break_a_loop gone in
    let b6 = types_agree gone in
    let b7 = calls_fit gone in
    let b8 = cells_in_reach gone in
    let b9 = tables_agree gone in
    both (a1 ++ a2 ++ a3 ++ a4 ++ a5 ++ a6 ++ a7 ++ a8) (b1 ++ b2 ++ b3 ++ b4 ++ b5 ++ b6 ++ b7 ++ b8) a9 b9
    (both (a1 ++ a2 ++ a3 ++ a4 ++ a5 ++ a6 ++ a7) (b1 ++ b2 ++ b3 ++ b4 ++ b5 ++ b6 ++ b7) a8 b8
    (both (a1 ++ a2 ++ a3 ++ a4 ++ a5 ++ a6) (b1 ++ b2 ++ b3 ++ b4 ++ b5 ++ b6) a7 b7
    (both (a1 ++ a2 ++ a3 ++ a4 ++ a5) (b1 ++ b2 ++ b3 ++ b4 ++ b5) a6 b6
    (both (a1 ++ a2 ++ a3 ++ a4) (b1 ++ b2 ++ b3 ++ b4) a5 b5
    (both (a1 ++ a2 ++ a3) (b1 ++ b2 ++ b3) a4 b4
    (all_three a1 a2 a3 b1 b2 b3 (numbering_alike raw) (field_rule_alike raw) (local_rule_alike raw)) (setting_rule_alike raw))
    (break_rule_alike raw)) (type_rule_alike raw)) (call_rule_alike raw)) (reach_rule_alike raw)) (table_rule_alike raw)

pub places_do_not_matter : PlacesDoNotMatter
places_do_not_matter raw = none_alike (blamed raw) (blamed (forget raw)) (blamed_alike raw)

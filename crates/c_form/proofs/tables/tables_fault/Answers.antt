use Rattle.std.proofs.Common.{ap, ◌∙◌, ℕ, List}
use Rattle.std.specs.Prelude.{map}
use Rattle.std.specs.List.{flat_map, enumerate_from}
use Rattle.c_tree.specs.rules.Tables.{numbers_of_module, descriptors_agree}
use Rattle.c_raw.specs.Views.{descriptor_view, module_view}
use Rattle.c_raw.specs.declared.file.RawModule.{RawModule}
use Rattle.c_form.proofs.Blaming.{◌▸◌, blames_as, least_is}
use Rattle.c_form.proofs.tables.tables_fault.Goals as goal

pub returns : goal.returns
returns c =
    let numbered : List RawModule → List ℕ = λ l. flat_map (λ p. numbers_of_module p.0 p.1) (enumerate_from 0 (map module_view l)) in
    let first = ap (λ l. descriptors_agree (map module_view l) (map descriptor_view c.as_list-3.result.now)) c.as_list-2.ensures in
    let second = ap (λ l. descriptors_agree (map module_view c.args.raw.now.modules) (map descriptor_view l)) c.as_list-3.ensures in
    least_is (blames_as c.in_ok-modules.ensures (ap numbered c.as_list.ensures) ▸ c.counts_agree.ensures ▸ blames_as c.descriptors_agree.ensures (first ∙ second))

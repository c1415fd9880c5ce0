use Rattle.std.proofs.Common.{ap, []}
use Rattle.std.specs.Prelude.{map}
use Rattle.std.specs.List.{flat_map, enumerate_from}
use Rattle.c_tree.specs.Raw as raw
use Rattle.c_tree.specs.rules.Tables.{node_fields, pair_numbers, entry_numbers, aliases_agree, kinds_in_order}
use Rattle.c_raw.specs.Views.{access_view, entry_view, module_view, node_view, pair_view, param_view}
use Rattle.c_form.specs.Parts.{access_number}
use Rattle.c_form.proofs.Blaming.{◌▸◌, blames_as}
use Rattle.c_form.proofs.tables.one_module.Goals as goal

pub returns : goal.returns
returns c =
    let m : raw.RawModule = module_view c.args.tree.now in
    c.in_ok-bodies_numbers.ensures ▸ c.loads_numbers.ensures
    ▸ blames_as c.access.ensures (ap (λ l. flat_map (access_number m) (map access_view l)) c.as_list.ensures)
    ▸ c.sizes_agree.ensures
    ▸ blames_as c.nodes_fields.ensures (ap (λ l. flat_map node_fields (enumerate_from 0 (map node_view l))) c.as_list-2.ensures)
    ▸ blames_as c.pairs.ensures (ap (λ l. flat_map (pair_numbers m) (map pair_view l)) c.as_list-3.ensures)
    ▸ blames_as c.entries.ensures (ap (λ l. flat_map (entry_numbers m) (enumerate_from 0 (map entry_view l))) c.as_list-4.ensures)
    ▸ blames_as c.params.ensures (ap (λ l. flat_map aliases_agree (map param_view l)) c.as_list-5.ensures)
    ▸ blames_as c.kinds_in_order.ensures (ap (λ l. kinds_in_order [] (map param_view l)) c.as_list-6.ensures)

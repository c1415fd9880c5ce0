use Rattle.std.proofs.Common.{ap, sym, ◌∙◌}
use Rattle.std.specs.Prelude.{map}
use Rattle.std.specs.List.{flat_map}
use Rattle.c_tree.specs.Raw.{RawModule}
use Rattle.c_tree.specs.rules.Bodies.{bodies_of}
use Rattle.c_tree.specs.rules.Fields.{access_cells, body_cells, cell_missing, node_cells, twice}
use Rattle.c_raw.specs.Views.{access_view, field_view, module_view, node_view}
use Rattle.c_form.specs.Bodies.{body_view}
use Rattle.c_form.specs.FieldTypes.{HasTypes}
use Rattle.c_form.proofs.Blaming.{◌▸◌, blames_as}
use Rattle.c_form.proofs.Flat.{flat-flat}
use Rattle.c_form.proofs.fields.one_module.Goals as goal

pub returns : goal.returns
returns c =
    let m : RawModule = module_view c.args.tree.now in
    let k : HasTypes c.in_ok-types.types m = c.in_ok-types.ensures in
    blames_as c.in_ok-twice.ensures (ap (λ l. twice (map field_view l)) c.as_list.ensures)
    ▸ blames_as c.in_ok-twice-2.ensures (ap (λ l. twice (map field_view l)) c.as_list-2.ensures)
    ▸ blames_as (c.in_ok-all_bodies.ensures m k)
    (ap (λ l. flat_map (λ b. flat_map (cell_missing m) (body_cells b)) (map body_view l)) c.deref.ensures.value
    ∙ ap (flat_map (λ b. flat_map (cell_missing m) (body_cells b))) c.in_ok-list.ensures.are ∙ sym (flat-flat (cell_missing m) body_cells (bodies_of m)))
    ▸ blames_as (c.in_ok-access_rows.ensures m k) (ap (λ l. flat_map (access_cells m) (map access_view l)) c.as_list-3.ensures)
    ▸ c.in_ok-loads_cells.ensures m k
    ▸ blames_as (c.in_ok-nodes.ensures m k) (ap (λ l. flat_map (node_cells m) (map node_view l)) c.as_list-4.ensures)

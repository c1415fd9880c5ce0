use Rattle.std.proofs.Common.{ap, ◌∙◌}
use Rattle.std.specs.Prelude.{map}
use Rattle.c_tree.specs.Text.{is_parameter_kind, is_instance_kind, is_opvar_kind}
use Rattle.c_tree.specs.rules.Tables.{count_params}
use Rattle.c_raw.specs.Blocks.{at_view}
use Rattle.c_raw.specs.Views.{param_view}
use Rattle.c_form.proofs.Blaming.{◌▸◌, wants-as}
use Rattle.c_form.proofs.descriptors.descriptor.Goals as goal

pub returns : goal.returns
returns c =
    wants-as (at_view c.args.found.now.num_nodes) c.wants.ensures c.node_count.ensures
    ▸ c.blame_unless.ensures
    ▸ wants-as (at_view c.args.found.now.num_entries) c.wants-2.ensures c.entry_count.ensures
    ▸ wants-as (at_view c.args.found.now.num_collapsible) c.wants-3.ensures c.pair_count.ensures
    ▸ wants-as (at_view c.args.found.now.num_params) c.wants-4.ensures (c.parameter_count.ensures ∙ ap (λ l. count_params is_parameter_kind (map param_view l)) c.as_list-params.ensures)
    ▸ wants-as (at_view c.args.found.now.num_instance_params) c.wants-5.ensures (c.instance_count.ensures ∙ ap (λ l. count_params is_instance_kind (map param_view l)) c.as_list-params.ensures)
    ▸ wants-as (at_view c.args.found.now.num_opvars) c.wants-6.ensures (c.opvar_count.ensures ∙ ap (λ l. count_params is_opvar_kind (map param_view l)) c.as_list-params.ensures)

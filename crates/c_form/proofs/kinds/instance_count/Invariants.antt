use Rattle.std.proofs.Common.{◌≡◌, ◌≤◌, ◌+◌, drop}
use Rattle.std.specs.Prelude.{map}
use Rattle.c_tree.specs.Text.{is_instance_kind}
use Rattle.c_tree.specs.rules.Tables.{count_params}
use Rattle.c_raw.specs.Views.{param_view}
use Rattle.c_form.proofs.kinds.instance_count.Given as goal

abbrev pub invariant-loop-param : goal.invariant-loop-param
invariant-loop-param l = record {
  few : l.count ≤ l.param-index;
  counted : count_params is_instance_kind (map param_view l.params) ≡ l.count + count_params is_instance_kind (map param_view (drop l.param-index l.params));
}

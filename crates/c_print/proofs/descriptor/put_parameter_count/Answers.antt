use Rattle.std.proofs.Common.{◌≡◌, ◌∙◌, ap}
use Rattle.c_tree.specs.Text.{count_kinds, is_parameter_kind}
use Rattle.c_print.proofs.descriptor.put_parameter_count.Goals as goal

pub returns : goal.returns
returns c =
    let count : c.parameter_count.result ≡ count_kinds is_parameter_kind c.args.tree.now.params = c.parameter_count.ensures ∙ ap (count_kinds is_parameter_kind) c.as_list.ensures in
    rw (← count) c.in_ok-put_count.ensures

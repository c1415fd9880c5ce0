use Rattle.c_tree.specs.Text.{node_words}
use Rattle.c_print.proofs.Printing.{◌▸◌}
use Rattle.c_print.proofs.table.put_node_table.Goals as goal

pub returns : goal.returns
unfolding node_words
returns c =
    c.in_ok-put_nodes.ensures
    ▸ c.in_ok-put_template.ensures

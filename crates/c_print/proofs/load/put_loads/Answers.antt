use Rattle.c_tree.specs.Text.{loads_words}
use Rattle.c_print.proofs.Printing.{◌▸◌, prints_none}
use Rattle.c_print.proofs.load.put_loads.Goals as goal

pub returns : goal.returns
unfolding loads_words
returns c =
    rw (← c.as_list.ensures, ← c.as_list-2.ensures, ← c.as_list-3.ensures, ← c.as_list-4.ensures, ← c.as_list-5.ensures, ← c.as_list-6.ensures, ← c.as_list-7.ensures)
    (c.in_ok-put_load_function.ensures ▸ (c.in_ok-put_load_function-2.ensures ▸ (c.in_ok-put_load_function-3.ensures ▸ (c.in_ok-put_load_function-4.ensures ▸ (c.in_ok-put_load_function-5.ensures ▸ (c.in_ok-put_load_function-6.ensures ▸ (c.in_ok-put_load_function-7.ensures ▸ (prints_none _))))))))

use Rattle.c_print.proofs.function.put_module_functions.Goals as goal

pub returns : goal.returns
returns c = rw (← c.as_list.ensures) c.in_ok-put_functions.ensures

use Rattle.c_print.proofs.descriptor.put_pair_count.Goals as goal

pub returns : goal.returns
returns c = rw (← c.as_list.ensures) c.in_ok-put_count.ensures

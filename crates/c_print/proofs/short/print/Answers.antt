use Rattle.c_print.proofs.Printing.{prints_all}
use Rattle.c_print.proofs.short.print.Goals as goal

pub returns : goal.returns
returns c =
    prints_all _ _ _ c.args.file.now.modules c.new-text.ensures.items c.in_ok-put_includes.ensures
    (rw (← c.as_list.ensures) c.in_ok-put_modules.ensures)

use Rattle.c_print.proofs.Printing.{◌▸◌}
use Rattle.c_print.proofs.simple.put_report.Goals as goal

pub returns : goal.returns
returns c =
    c.in_ok-put_template.ensures
    ▸ c.in_ok-put_unsigned.ensures
    ▸ c.in_ok-put_template-2.ensures

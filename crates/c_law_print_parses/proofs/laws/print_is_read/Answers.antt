use Rattle.c_law_print_parses.proofs.Printed.{print_is_read}
use Rattle.c_law_print_parses.proofs.laws.print_is_read.Goals as goal

pub returns : goal.returns
returns c = print_is_read

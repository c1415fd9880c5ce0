use Rattle.c_law_print_parses.proofs.Standing.{print_stands_for}
use Rattle.c_law_print_parses.proofs.laws.print_stands_for.Goals as goal

pub returns : goal.returns
returns c = print_stands_for

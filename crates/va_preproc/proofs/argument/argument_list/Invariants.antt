use Rattle.std.proofs.Common.{◌≡◌, drop}
use Rattle.va_preproc.specs.Uses.{list_form}
use Rattle.va_preproc.specs.Values.{lexemes_in}
use Rattle.va_preproc.proofs.Lists.{more}
use Rattle.va_preproc.proofs.argument.argument_list.Given as goal

-- so many line ends were read
abbrev pub invariant-loop-at : goal.invariant-loop-at
invariant-loop-at l = list_form (lexemes_in l.fn.files l.fn.tokens) ≡ more l.at (list_form (lexemes_in l.fn.files (drop l.at l.fn.tokens)))

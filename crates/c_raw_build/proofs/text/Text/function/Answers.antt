use Rattle.std.proofs.Common.{subst, sym}
use Rattle.c_raw_build.proofs.TokenValues.{FunctionFits, function_fits}
use Rattle.c_raw_build.proofs.text.Text.function.Goals as goal

pub second_number-requires-clause-name : goal.second_number-requires-clause-name
second_number-requires-clause-name c =
    let fits = subst FunctionFits (sym c.word-word.ensures) (function_fits c.requires) in fits.long

pub second_number-requires-clause-fits : goal.second_number-requires-clause-fits
second_number-requires-clause-fits c =
    let fits = subst FunctionFits (sym c.word-word.ensures) (function_fits c.requires) in fits.second

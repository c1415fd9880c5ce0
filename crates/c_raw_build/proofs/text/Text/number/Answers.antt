use Rattle.std.proofs.Common.{◌<◌, ◌^◌, subst, sym}
use Rattle.va_base.specs.Numerals.{number_of}
use Rattle.c_raw_build.proofs.TokenValues.{number_fits}
use Rattle.c_raw_build.proofs.text.Text.number.Goals as goal

pub number-requires : goal.number-requires
number-requires c = subst (λ w. number_of w < 2 ^ 32) (sym c.word-word.ensures) (number_fits c.requires)

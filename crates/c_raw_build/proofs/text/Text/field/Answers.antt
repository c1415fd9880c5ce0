use Rattle.std.proofs.Common.{◌<◌, ◌^◌, subst, sym}
use Rattle.va_base.specs.Numerals.{number_of}
use Rattle.c_raw_build.proofs.TokenValues.{field_fits}
use Rattle.c_raw_build.proofs.text.Text.field.Goals as goal

pub number-number-requires : goal.number-number-requires
number-number-requires c = subst (λ w. number_of w < 2 ^ 32) (sym c.word-word.ensures) (field_fits c.requires)

use Rattle.std.proofs.Common.{ap, sym, ◌∙◌}
use Rattle.va_base.specs.Numerals.{decimal_of}
use Rattle.c_raw_build.proofs.TokenValues.{real_fits}
use Rattle.c_raw_build.proofs.text.Text.real.Goals as goal

pub unreachable-requires : goal.unreachable-requires
unreachable-requires c = real_fits c.requires (sym (ap decimal_of c.word-word.ensures) ∙ sym c.decimal.ensures ∙ c.in-None.is)

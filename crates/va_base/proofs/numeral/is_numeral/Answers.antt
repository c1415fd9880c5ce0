use Rattle.std.proofs.Common.{◌∙◌}
use Rattle.va_base.proofs.Decimals.{numeral-test}
use Rattle.va_base.proofs.numeral.is_numeral.Goals as goal

pub returns : goal.returns
returns c = c.eq.ensures ∙ numeral-test c.args.bytes.now c.numeral_len.result c.numeral_len.ensures.longest

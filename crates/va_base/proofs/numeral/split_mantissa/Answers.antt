use Rattle.std.proofs.Common.{take, drop, ap, ◌∙◌}
use Rattle.va_base.proofs.numeral.split_mantissa.Goals as goal

pub returns-clause-mantissa : goal.returns-clause-mantissa
returns-clause-mantissa c = c.split_at.ensures.front ∙ ap (λ n. take n c.args.bytes.now) c.mantissa_len.ensures.length

pub returns-clause-tail : goal.returns-clause-tail
returns-clause-tail c = c.split_at.ensures.back ∙ ap (λ n. drop n c.args.bytes.now) c.mantissa_len.ensures.length

use Rattle.std.proofs.Common.{length, ap, ◌∙◌}
use Rattle.std.specs.Prelude.{nat_eq}
use Rattle.va_base.specs.Spelling.{is_digit}
use Rattle.c_syntax.proofs.Numbers.{all-pass}
use Rattle.c_syntax.proofs.number.are_digits.Goals as goal

pub returns : goal.returns
returns c = ap (λ n. nat_eq n (length c.args.bytes.now)) c.front_len.ensures.count ∙ all-pass is_digit c.args.bytes.now

use Rattle.std.proofs.Common.{◌≡◌, ◌++◌, length, arith, append_assoc, codes, decimal, ◌∙◌, rules}
use Rattle.std.specs.Fmt.{signed_decimal}
use Rattle.c_tree.specs.Words.{power_digits}
use Rattle.c_print.proofs.Printing.{power_text}
use Rattle.c_print.proofs.Printing.{ends_word}
use Rattle.c_print.proofs.words.put_real.Goals as goal

pub returns : goal.returns
returns c =
    let start : c.len-start.result ≡ length c.args.out.now.items = omega arith in
    let power : c.as_bytes-2.result.now ≡ power_digits c.args.value.power =
    c.as_bytes-2.ensures.value ∙ (let text : c.format-2.result.now ≡ signed_decimal c.args.value.power = search rules in text)
    ∙ power_text c.args.value.power in
    let is : c.extend_from_slice-2.new.self.items ≡ c.args.out.now.items ++ (decimal c.args.value.mantissa ++ codes "e" ++ power_digits c.args.value.power) =
    rw (
      c.in_ok-extend_from_slice-2.ensures.items,
      power,
      c.in_ok-push.ensures.items,
      c.in_ok-extend_from_slice.ensures.items,
      c.as_bytes.ensures.value,
      c.format.ensures.text,
    ) (simp append_assoc) in
    ends_word _ _ _ _ _ is start c.in_ok-end_word.ensures

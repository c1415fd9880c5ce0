use Rattle.std.proofs.Common.{◌≡◌, ◌++◌, length, arith, append_assoc, codes, decimal}
use Rattle.c_print.proofs.Printing.{ends_word}
use Rattle.c_print.proofs.words.put_count.Goals as goal

pub returns : goal.returns
returns c =
    let start : c.len-start.result ≡ length c.args.out.now.items = omega arith in
    let is : c.push.new.self.items ≡ c.args.out.now.items ++ (decimal c.args.count ++ codes "u") =
    rw (
      c.in_ok-push.ensures.items,
      c.in_ok-extend_from_slice.ensures.items,
      c.as_bytes.ensures.value,
      c.format.ensures.text,
    ) (simp append_assoc) in
    ends_word _ _ _ _ _ is start c.in_ok-end_word.ensures

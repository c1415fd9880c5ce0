use Rattle.std.proofs.Common.{◌≡◌, ◌++◌, length, arith, append_assoc, decimal}
use Rattle.c_print.proofs.Printing.{ends_word}
use Rattle.c_print.proofs.words.put_indexed.Goals as goal

pub returns : goal.returns
returns c =
    let start : c.len-start.result ≡ length c.args.out.now.items = omega arith in
    let is : c.extend_from_slice-2.new.self.items ≡ c.args.out.now.items ++ (c.args.name.now ++ decimal c.args.index) =
    rw (
      c.in_ok-extend_from_slice-2.ensures.items,
      c.in_ok-extend_from_slice.ensures.items,
      c.as_bytes.ensures.value,
      c.as_bytes-2.ensures.value,
      c.format.ensures.text,
    ) (simp append_assoc) in
    ends_word _ _ _ _ _ is start c.in_ok-end_word.ensures

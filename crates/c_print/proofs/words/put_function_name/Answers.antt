use Rattle.std.proofs.Common.{◌≡◌, ◌++◌, length, arith, append_assoc, codes, decimal}
use Rattle.c_print.proofs.Printing.{ends_word}
use Rattle.c_print.proofs.words.put_function_name.Goals as goal

pub returns : goal.returns
returns c =
    let start : c.len-start.result ≡ length c.args.out.now.items = omega arith in
    let is : c.extend_from_slice-3.new.self.items
    ≡ c.args.out.now.items ++ ((codes "fn_" ++ decimal c.args.number) ++ (codes "_" ++ decimal c.args.index)) =
    rw (
      c.in_ok-extend_from_slice-3.ensures.items,
      c.as_bytes-2.ensures.value,
      c.format-2.ensures.text,
      c.in_ok-push.ensures.items,
      c.in_ok-extend_from_slice-2.ensures.items,
      c.as_bytes.ensures.value,
      c.format.ensures.text,
      c.in_ok-extend_from_slice.ensures.items,
    ) (simp append_assoc) in
    ends_word _ _ _ _ _ is start c.in_ok-end_word.ensures

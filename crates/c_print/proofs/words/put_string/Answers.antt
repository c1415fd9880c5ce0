use Rattle.std.proofs.Common.{◌≡◌, ◌++◌, length, arith, append_assoc, codes}
use Rattle.std.specs.List.{flat_map}
use Rattle.c_tree.specs.Words.{string_byte, string_word}
use Rattle.c_print.proofs.Printing.{ends_word}
use Rattle.c_print.proofs.words.put_string.Goals as goal

pub returns : goal.returns
unfolding string_word
returns c =
    let start : c.len-start.result ≡ length c.args.out.now.items = omega arith in
    let is : c.push-2.new.self.items ≡ c.args.out.now.items ++ (codes "\"" ++ flat_map string_byte c.args.name.now ++ codes "\"") =
    rw (
      c.in_ok-push-2.ensures.items,
      c.in_ok-push_string_bytes.ensures,
      c.as_bytes.ensures,
      c.in_ok-push.ensures.items,
    ) (simp append_assoc) in
    ends_word _ _ _ _ _ is start c.in_ok-end_word.ensures

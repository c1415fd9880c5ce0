use Rattle.std.proofs.Common.{◌≡◌, length, arith}
use Rattle.c_print.proofs.Printing.{ends_word}
use Rattle.c_print.proofs.words.put_word.Goals as goal

pub returns : goal.returns
returns c =
    let start : c.len-start.result ≡ length c.args.out.now.items = omega arith in
    ends_word _ _ _ _ _ c.in_ok-extend_from_slice.ensures.items start c.in_ok-end_word.ensures

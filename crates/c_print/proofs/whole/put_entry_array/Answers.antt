use Rattle.std.proofs.Common.{◌≡◌, ◌∙◌, ap, length, max}
use Rattle.c_tree.specs.Words.{array_length}
use Rattle.c_print.proofs.whole.put_entry_array.Goals as goal

pub returns : goal.returns
returns c =
    let count : c.max.result ≡ array_length (length c.args.tree.now.entries) =
    c.max.ensures ∙ ap (λ list. max (length list) 1) c.as_list.ensures in
    rw (← count) c.in_ok-put_count.ensures

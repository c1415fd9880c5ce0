use Rattle.std.proofs.Common.{◌≤◌, ◌-◌, ℕ, arith, ◌∙◌}
use Rattle.va_preproc.proofs.Folders.{folder_less, folder_ends}
use Rattle.va_preproc.proofs.files.folder_len.Goals as goal

one_less : (len n : ℕ) → len ≤ n → len - 1 ≤ n
one_less len n h = omega arith

pub folder-preserved : goal.folder-preserved
folder-preserved c = record {
  same = c.folder.invariant.same ∙ folder_less c.args.name.now c.folder.len c.folder-test.true c.folder.invariant.within c.if-name-len-ne47.true;
  within = one_less c.folder.len _ c.folder.invariant.within;
}

pub returns-else-name-len-ne47-clause-folder : goal.returns-else-name-len-ne47-clause-folder
returns-else-name-len-ne47-clause-folder c =
    c.folder.invariant.same ∙ folder_ends c.args.name.now c.folder.len c.folder-test.true c.folder.invariant.within c.if-name-len-ne47.false

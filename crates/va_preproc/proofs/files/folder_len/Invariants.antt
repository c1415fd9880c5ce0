use Rattle.std.proofs.Common.{◌≡◌, ◌≤◌, take, length}
use Rattle.va_preproc.specs.Expansion.{folder}
use Rattle.va_preproc.proofs.files.folder_len.Given as goal

-- no `/` stands after
abbrev pub invariant-folder : goal.invariant-folder
invariant-folder l = record {
  same : folder l.fn.name ≡ folder (take l.len l.fn.name);
  within : l.len ≤ length l.fn.name;
}

abbrev pub decreases-folder : goal.decreases-folder
decreases-folder l = l.len

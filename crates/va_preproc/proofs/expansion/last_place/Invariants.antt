use Rattle.std.proofs.Common.{◌≡◌, ◌≤◌, ◌+◌, take}
use Rattle.std.specs.Prelude.{not, ◌==◌, reverse, count_by}
use Rattle.std.specs.List.{prefix_len}
use Rattle.va_preproc.proofs.expansion.last_place.Given as goal

-- the place after the bytes so far
abbrev pub invariant-loop-byte : goal.invariant-loop-byte
invariant-loop-byte l = record {
  line : l.line ≡ 1 + count_by (λ byte. byte == 10) (take l.byte-index l.fn.bytes);
  col : l.col ≡ 1 + prefix_len (λ byte. not (byte == 10)) (reverse (take l.byte-index l.fn.bytes));
  lines : l.line ≤ 1 + l.byte-index;
  cols : l.col ≤ 1 + l.byte-index;
}

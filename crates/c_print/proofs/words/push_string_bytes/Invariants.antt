use Rattle.std.proofs.Common.{◌≡◌, ◌++◌, take}
use Rattle.std.specs.List.{flat_map}
use Rattle.c_tree.specs.Words.{string_byte}
use Rattle.c_print.proofs.words.push_string_bytes.Given as goal

abbrev pub invariant-loop-byte : goal.invariant-loop-byte
invariant-loop-byte l = l.out.items ≡ l.fn.out.items ++ flat_map string_byte (take l.byte-index l.bytes)

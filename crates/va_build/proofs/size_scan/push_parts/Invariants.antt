use Rattle.std.specs.Prelude.{◌≡◌, ◌++◌, reverse, drop}
use Rattle.va_build.specs.SizeScan.{due_parts}
use Rattle.va_build.proofs.size_scan.push_parts.Given as goal

abbrev pub invariant-loop-i : goal.invariant-loop-i
invariant-loop-i l = reverse l.due.items ≡ due_parts l.depth (drop l.i l.parts) ++ reverse l.fn.due.items

use Rattle.std.specs.Prelude.{reverse, length}
use Rattle.va_build.specs.SizeScan.{SameDue}
use Rattle.va_build.proofs.size_scan.Ahead.next.Given as goal

-- only tokens were passed
abbrev pub invariant-loop-due : goal.invariant-loop-due
invariant-loop-due l = SameDue (reverse l.fn.self.due.items) l.fn.self.at (reverse l.self.due.items) l.self.at

abbrev pub decreases-loop-due : goal.decreases-loop-due
decreases-loop-due l = length l.self.due.items

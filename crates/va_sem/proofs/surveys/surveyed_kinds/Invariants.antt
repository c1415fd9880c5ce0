use Rattle.std.proofs.Common.{◌≡◌, Some}
use Rattle.std.specs.Prelude.{map}
use Rattle.std.specs.List.{range_with_len}
use Rattle.va_sem.specs.Declarations.{analog_bodies}
use Rattle.va_sem.specs.rules.Biased.{analysis_of}
use Rattle.va_sem.specs.rules.BranchKinds.{kind_of}
use Rattle.va_sem.proofs.surveys.surveyed_kinds.Given as goal

abbrev pub invariant-loop-branch : goal.invariant-loop-branch
invariant-loop-branch l = map Some l.kinds.items ≡ map (kind_of (analysis_of l.names (analog_bodies l.m))) (range_with_len 0 l.branch)

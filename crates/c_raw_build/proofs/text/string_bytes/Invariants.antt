use Rattle.std.specs.Prelude.{◌≡◌, ◌++◌, length}
use Rattle.c_raw_build.specs.Words.{string_bytes}
use Rattle.c_raw_build.proofs.text.string_bytes.Given as goal

abbrev pub invariant-loop-rest : goal.invariant-loop-rest
invariant-loop-rest l = l.bytes.items ++ string_bytes l.rest ≡ string_bytes l.quoted

abbrev pub decreases-loop-rest : goal.decreases-loop-rest
decreases-loop-rest l = length l.rest

use Rattle.std.specs.Prelude.{drop, reverse}
use Rattle.c_raw_file.specs.Walked.{IsWalked}
use Rattle.c_raw_file.proofs.bodies.body_of.Given as goal

-- the statements behind were met
abbrev pub invariant-loop-i : goal.invariant-loop-i
invariant-loop-i l = IsWalked (reverse l.blocks.items) (reverse l.body.items) (drop l.i l.list)

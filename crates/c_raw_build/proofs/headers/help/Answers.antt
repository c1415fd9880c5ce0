use Rattle.std.proofs.Common.{arith, refl}
use Rattle.c_raw_build.specs.Reading.{row_symbols}
use Rattle.c_raw_build.proofs.TakenRows.{read}
use Rattle.c_raw_build.proofs.DueRows.{node_left, only, room, taken}
use Rattle.c_raw_build.proofs.headers.help.Goals as goal

pub returns : goal.returns
unfolding row_symbols
returns c = read {X = Unit {0}} (λ p. tt {0}) _ _ _ _ 1 _ c.take.ensures refl refl (grind arith) (grind arith) (grind arith)

pub take-requires-clause-there : goal.take-requires-clause-there
take-requires-clause-there c = node_left c.requires

pub take-requires-clause-row : goal.take-requires-clause-row
unfolding row_symbols
take-requires-clause-row c = only 1 c.requires refl

pub pass-requires : goal.pass-requires
unfolding row_symbols
pass-requires c = room 97 (taken 1 c.requires c.take.ensures refl) refl

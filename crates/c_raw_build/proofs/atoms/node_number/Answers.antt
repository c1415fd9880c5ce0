use Rattle.std.proofs.Common.{arith, refl}
use Rattle.c_raw_build.specs.Reading.{row_symbols}
use Rattle.c_raw_build.specs.RawAtoms.{node_number}
use Rattle.c_raw_build.proofs.TakenRows.{read}
use Rattle.c_raw_build.proofs.DueRows.{node_left, only, room}
use Rattle.c_raw_build.proofs.DueTokens.{ahead, behind, due, passed, taken}
use Rattle.c_raw_build.proofs.atoms.node_number.Goals as goal

pub returns : goal.returns
unfolding row_symbols node_number
returns c = read (node_number c.args.text.now) _ _ _ _ 81 _ c.take.ensures refl (grind arith) (grind arith) (grind arith) (grind arith)

pub take-requires-clause-there : goal.take-requires-clause-there
take-requires-clause-there c = node_left (ahead c.requires)

pub take-requires-clause-row : goal.take-requires-clause-row
unfolding row_symbols
take-requires-clause-row c = only 81 (ahead c.requires) refl

pub pass-requires : goal.pass-requires
unfolding row_symbols
pass-requires c = room 4 (taken 81 c.requires c.take.ensures refl).due refl

pub number-value-requires : goal.number-value-requires
unfolding row_symbols
number-value-requires c = due (passed 4 (taken 81 c.requires c.take.ensures refl) c.pass.ensures refl) refl

pub pass-requires-2 : goal.pass-requires-2
unfolding row_symbols
pass-requires-2 c = room 1 (behind (passed 4 (taken 81 c.requires c.take.ensures refl) c.pass.ensures refl) c.number-value.ensures refl).due refl

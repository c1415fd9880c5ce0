use Rattle.std.proofs.Common.{arith, refl}
use Rattle.c_raw_build.specs.Reading.{row_symbols}
use Rattle.c_raw_build.specs.RawTables.{pair}
use Rattle.c_raw_build.proofs.TakenRows.{read}
use Rattle.c_raw_build.proofs.DueRows.{node_left, only, room}
use Rattle.c_raw_build.proofs.DueTokens.{ahead, behind, due, passed, taken}
use Rattle.c_raw_build.proofs.tables.pair.Goals as goal

pub returns : goal.returns
unfolding row_symbols pair
returns c = read (pair c.args.text.now) _ _ _ _ 118 _ c.take.ensures refl (grind arith) (grind arith) (grind arith) (grind arith)

pub take-requires-clause-there : goal.take-requires-clause-there
take-requires-clause-there c = node_left (ahead c.requires)

pub take-requires-clause-row : goal.take-requires-clause-row
unfolding row_symbols
take-requires-clause-row c = only 118 (ahead c.requires) refl

pub pass-requires : goal.pass-requires
unfolding row_symbols
pass-requires c = room 2 (taken 118 c.requires c.take.ensures refl).due refl

pub placed_number-first-requires : goal.placed_number-first-requires
unfolding row_symbols
placed_number-first-requires c = due (passed 2 (taken 118 c.requires c.take.ensures refl) c.pass.ensures refl) refl

pub pass-requires-2 : goal.pass-requires-2
unfolding row_symbols
pass-requires-2 c = room 3 (behind (passed 2 (taken 118 c.requires c.take.ensures refl) c.pass.ensures refl) c.placed_number-first.ensures refl).due refl

pub second_node-value-requires : goal.second_node-value-requires
unfolding row_symbols
second_node-value-requires c = due (passed 3 (behind (passed 2 (taken 118 c.requires c.take.ensures refl) c.pass.ensures refl) c.placed_number-first.ensures refl) c.pass-2.ensures refl) refl

use Rattle.std.proofs.Common.{arith, refl}
use Rattle.c_raw_build.specs.Reading.{row_symbols}
use Rattle.c_raw_build.specs.RawFiles.{access_row}
use Rattle.c_raw_build.proofs.TakenRows.{element}
use Rattle.c_raw_build.proofs.DueRows.{room}
use Rattle.c_raw_build.proofs.DueTokens.{behind, due, passed}
use Rattle.c_raw_build.proofs.DueRows as rows
use Rattle.c_raw_build.proofs.structs.access_row.Goals as goal

pub returns-clause-read : goal.returns-clause-read
unfolding row_symbols access_row
returns-clause-read c = element (access_row c.args.text.now) 17 _ _ _ (grind arith) (grind arith) (grind arith) (grind arith) (grind arith) (grind arith)

pub returns-clause-due : goal.returns-clause-due
unfolding row_symbols
returns-clause-due c = due (passed 2 (behind (passed 2 (behind (passed 2 (behind (behind (passed 4 c.requires c.pass.ensures refl) c.placed_number-id.ensures refl) c.instance_test-instance.ensures refl) c.pass-2.ensures refl) c.flag-flag.ensures refl) c.pass-3.ensures refl) c.placed_cell-cell.ensures refl) c.pass-4.ensures refl) refl

pub pass-requires : goal.pass-requires
unfolding row_symbols
pass-requires c = room 4 c.requires.due refl

pub placed_number-id-requires : goal.placed_number-id-requires
unfolding row_symbols
placed_number-id-requires c = due (passed 4 c.requires c.pass.ensures refl) refl

pub instance_test-instance-requires : goal.instance_test-instance-requires
unfolding row_symbols
instance_test-instance-requires c = rows.due (behind (passed 4 c.requires c.pass.ensures refl) c.placed_number-id.ensures refl).due refl

pub pass-requires-2 : goal.pass-requires-2
unfolding row_symbols
pass-requires-2 c = room 2 (behind (behind (passed 4 c.requires c.pass.ensures refl) c.placed_number-id.ensures refl) c.instance_test-instance.ensures refl).due refl

pub flag-flag-requires : goal.flag-flag-requires
unfolding row_symbols
flag-flag-requires c = due (passed 2 (behind (behind (passed 4 c.requires c.pass.ensures refl) c.placed_number-id.ensures refl) c.instance_test-instance.ensures refl) c.pass-2.ensures refl) refl

pub pass-requires-3 : goal.pass-requires-3
unfolding row_symbols
pass-requires-3 c = room 2 (behind (passed 2 (behind (behind (passed 4 c.requires c.pass.ensures refl) c.placed_number-id.ensures refl) c.instance_test-instance.ensures refl) c.pass-2.ensures refl) c.flag-flag.ensures refl).due refl

pub placed_cell-cell-requires : goal.placed_cell-cell-requires
unfolding row_symbols
placed_cell-cell-requires c = due (passed 2 (behind (passed 2 (behind (behind (passed 4 c.requires c.pass.ensures refl) c.placed_number-id.ensures refl) c.instance_test-instance.ensures refl) c.pass-2.ensures refl) c.flag-flag.ensures refl) c.pass-3.ensures refl) refl

pub pass-requires-4 : goal.pass-requires-4
unfolding row_symbols
pass-requires-4 c = room 2 (behind (passed 2 (behind (passed 2 (behind (behind (passed 4 c.requires c.pass.ensures refl) c.placed_number-id.ensures refl) c.instance_test-instance.ensures refl) c.pass-2.ensures refl) c.flag-flag.ensures refl) c.pass-3.ensures refl) c.placed_cell-cell.ensures refl).due refl

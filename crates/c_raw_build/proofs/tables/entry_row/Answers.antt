use Rattle.std.proofs.Common.{arith, refl}
use Rattle.c_raw_build.specs.Reading.{row_symbols}
use Rattle.c_raw_build.specs.RawTables.{entry_row}
use Rattle.c_raw_build.proofs.TakenRows.{element}
use Rattle.c_raw_build.proofs.DueRows.{room}
use Rattle.c_raw_build.proofs.DueTokens.{behind, due, passed}
use Rattle.c_raw_build.proofs.DueRows as rows
use Rattle.c_raw_build.proofs.tables.entry_row.Goals as goal

pub returns-clause-read : goal.returns-clause-read
unfolding row_symbols entry_row
returns-clause-read c = element (entry_row c.args.text.now) 116 _ _ _ (grind arith) (grind arith) (grind arith) (grind arith) (grind arith) (grind arith)

pub returns-clause-due : goal.returns-clause-due
unfolding row_symbols
returns-clause-due c = due (passed 2 (behind (passed 3 (behind (passed 4 (behind (passed 3 c.requires c.pass.ensures refl) c.pair-pair.ensures refl) c.pass-2.ensures refl) c.react_pointer-value.ensures refl) c.pass-3.ensures refl) c.parts-parts.ensures refl) c.pass-4.ensures refl) refl

pub pass-requires : goal.pass-requires
unfolding row_symbols
pass-requires c = room 3 c.requires.due refl

pub pair-pair-requires : goal.pair-pair-requires
unfolding row_symbols
pair-pair-requires c = due (passed 3 c.requires c.pass.ensures refl) refl

pub pass-requires-2 : goal.pass-requires-2
unfolding row_symbols
pass-requires-2 c = room 4 (behind (passed 3 c.requires c.pass.ensures refl) c.pair-pair.ensures refl).due refl

pub react_pointer-value-requires : goal.react_pointer-value-requires
unfolding row_symbols
react_pointer-value-requires c = due (passed 4 (behind (passed 3 c.requires c.pass.ensures refl) c.pair-pair.ensures refl) c.pass-2.ensures refl) refl

pub pass-requires-3 : goal.pass-requires-3
unfolding row_symbols
pass-requires-3 c = room 3 (behind (passed 4 (behind (passed 3 c.requires c.pass.ensures refl) c.pair-pair.ensures refl) c.pass-2.ensures refl) c.react_pointer-value.ensures refl).due refl

pub parts-parts-requires : goal.parts-parts-requires
unfolding row_symbols
parts-parts-requires c = rows.due (passed 3 (behind (passed 4 (behind (passed 3 c.requires c.pass.ensures refl) c.pair-pair.ensures refl) c.pass-2.ensures refl) c.react_pointer-value.ensures refl) c.pass-3.ensures refl).due refl

pub pass-requires-4 : goal.pass-requires-4
unfolding row_symbols
pass-requires-4 c = room 2 (behind (passed 3 (behind (passed 4 (behind (passed 3 c.requires c.pass.ensures refl) c.pair-pair.ensures refl) c.pass-2.ensures refl) c.react_pointer-value.ensures refl) c.pass-3.ensures refl) c.parts-parts.ensures refl).due refl

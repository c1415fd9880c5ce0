use Rattle.std.proofs.Common.{arith, refl}
use Rattle.c_raw_build.specs.Reading.{row_symbols}
use Rattle.c_raw_build.specs.RawBodies.{simple_of}
use Rattle.c_raw_build.proofs.Statements.{alone_read}
use Rattle.c_raw_build.proofs.DueRows.{node_left, room}
use Rattle.c_raw_build.proofs.DueTokens.{ahead, behind, due, passed, taken}
use Rattle.c_raw_build.proofs.simple.set_model.Goals as goal

pub returns : goal.returns
unfolding row_symbols simple_of
returns c = alone_read c.args.text.now _ _ _ _ 40 _ c.take.ensures refl (grind arith) (grind arith) (grind arith) (grind arith) (λ text at more. refl)

pub take-requires-clause-there : goal.take-requires-clause-there
take-requires-clause-there c = node_left (ahead c.requires.due)

pub take-requires-clause-row : goal.take-requires-clause-row
take-requires-clause-row c = c.requires.row

pub pass-requires : goal.pass-requires
unfolding row_symbols
pass-requires c = room 2 (taken 40 c.requires.due c.take.ensures refl).due refl

pub field-field-requires : goal.field-field-requires
unfolding row_symbols
field-field-requires c = due (passed 2 (taken 40 c.requires.due c.take.ensures refl) c.pass.ensures refl) refl

pub pass-requires-2 : goal.pass-requires-2
unfolding row_symbols
pass-requires-2 c = room 1 (behind (passed 2 (taken 40 c.requires.due c.take.ensures refl) c.pass.ensures refl) c.field-field.ensures refl).due refl

pub placed_atom-value-requires : goal.placed_atom-value-requires
unfolding row_symbols
placed_atom-value-requires c = due (passed 1 (behind (passed 2 (taken 40 c.requires.due c.take.ensures refl) c.pass.ensures refl) c.field-field.ensures refl) c.pass-2.ensures refl) refl

pub pass-requires-3 : goal.pass-requires-3
unfolding row_symbols
pass-requires-3 c = room 1 (behind (passed 1 (behind (passed 2 (taken 40 c.requires.due c.take.ensures refl) c.pass.ensures refl) c.field-field.ensures refl) c.pass-2.ensures refl) c.placed_atom-value.ensures refl).due refl

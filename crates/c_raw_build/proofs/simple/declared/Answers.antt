use Rattle.std.proofs.Common.{arith, refl}
use Rattle.c_raw_build.specs.Reading.{row_symbols}
use Rattle.c_raw_build.specs.RawBodies.{simple_of}
use Rattle.c_raw_build.proofs.Statements.{alone_read}
use Rattle.c_raw_build.proofs.DueRows.{node_left, room}
use Rattle.c_raw_build.proofs.DueTokens.{ahead, behind, due, passed, taken, token_due}
use Rattle.c_raw_build.proofs.DueRows as rows
use Rattle.c_raw_build.proofs.simple.declared.Goals as goal

pub returns : goal.returns
unfolding row_symbols simple_of
returns c = alone_read c.args.text.now _ _ _ _ 36 _ c.take.ensures refl (grind arith) (grind arith) (grind arith) (grind arith) (λ text at more. refl)

pub take-requires-clause-there : goal.take-requires-clause-there
take-requires-clause-there c = node_left (ahead c.requires.due)

pub take-requires-clause-row : goal.take-requires-clause-row
take-requires-clause-row c = c.requires.row

pub ty-ty-requires : goal.ty-ty-requires
unfolding row_symbols
ty-ty-requires c = rows.due (taken 36 c.requires.due c.take.ensures refl).due refl

pub local-local-requires : goal.local-local-requires
unfolding row_symbols
local-local-requires c = token_due (behind (taken 36 c.requires.due c.take.ensures refl) c.ty-ty.ensures refl) c.at.ensures refl

pub pass-requires : goal.pass-requires
unfolding row_symbols
pass-requires c = room 1 (behind (taken 36 c.requires.due c.take.ensures refl) c.ty-ty.ensures refl).due refl

pub first_value-value-requires : goal.first_value-value-requires
unfolding row_symbols
first_value-value-requires c = due (passed 1 (behind (taken 36 c.requires.due c.take.ensures refl) c.ty-ty.ensures refl) c.pass.ensures refl) refl

pub pass-requires-2 : goal.pass-requires-2
unfolding row_symbols
pass-requires-2 c = room 1 (behind (passed 1 (behind (taken 36 c.requires.due c.take.ensures refl) c.ty-ty.ensures refl) c.pass.ensures refl) c.first_value-value.ensures refl).due refl

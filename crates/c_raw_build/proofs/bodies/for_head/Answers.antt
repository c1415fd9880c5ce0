use Rattle.std.proofs.Common.{refl}
use Rattle.c_raw_build.specs.Reading.{row_symbols}
use Rattle.c_raw_build.proofs.BodyDue.{taken_before}
use Rattle.c_raw_build.proofs.DueRows.{node_left, room, taken}
use Rattle.c_raw_build.proofs.DueTokens.{passed}
use Rattle.c_raw_build.proofs.Statements.{for_head}
use Rattle.c_raw_build.proofs.bodies.for_head.Goals as goal

pub returns-clause-read : goal.returns-clause-read
returns-clause-read c text = for_head text _ _ _ c.take.ensures c.pass.ensures

pub returns-clause-due : goal.returns-clause-due
unfolding row_symbols
returns-clause-due c text = λ open_blocks d. passed 6 (taken_before 23 39 d c.take.ensures refl) c.pass.ensures refl

pub take-requires-clause-there : goal.take-requires-clause-there
take-requires-clause-there c = node_left c.requires.due

pub take-requires-clause-row : goal.take-requires-clause-row
take-requires-clause-row c = c.requires.row

pub pass-requires : goal.pass-requires
unfolding row_symbols
pass-requires c = room 6 (taken 39 c.requires.due c.take.ensures refl) refl

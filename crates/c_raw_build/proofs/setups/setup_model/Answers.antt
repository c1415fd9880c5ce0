use Rattle.std.proofs.Common.{arith, refl}
use Rattle.c_raw_build.specs.Reading.{row_symbols}
use Rattle.c_raw_build.specs.RawFiles.{setup_model}
use Rattle.c_raw_build.proofs.TakenRows.{read}
use Rattle.c_raw_build.proofs.DueRows.{node_left, only, room}
use Rattle.c_raw_build.proofs.DueTokens.{ahead, behind, due, passed, taken}
use Rattle.c_raw_build.proofs.DueRows as rows
use Rattle.c_raw_build.proofs.setups.setup_model.Goals as goal

pub returns-clause-read : goal.returns-clause-read
unfolding row_symbols setup_model
returns-clause-read c =
    let here = c.in_ok-body.ensures.block c.args.text.now _ c.in_ok-list.ensures.value_is in
    read (setup_model c.args.text.now) _ _ _ _ 30 _ c.take.ensures refl (grind arith) (grind arith) (grind arith) (grind arith)

pub returns-clause-body : goal.returns-clause-body
returns-clause-body c = c.in_ok-body.ensures.body c.args.text.now _ c.in_ok-list.ensures.value_is

pub take-requires-clause-there : goal.take-requires-clause-there
take-requires-clause-there c = node_left (ahead c.requires)

pub take-requires-clause-row : goal.take-requires-clause-row
unfolding row_symbols
take-requires-clause-row c = only 30 (ahead c.requires) refl

pub pass-requires : goal.pass-requires
unfolding row_symbols
pass-requires c = room 21 (taken 30 c.requires c.take.ensures refl).due refl

pub model-requires : goal.model-requires
unfolding row_symbols
model-requires c = rows.due (passed 21 (taken 30 c.requires c.take.ensures refl) c.pass.ensures refl).due refl

pub reset-requires : goal.reset-requires
unfolding row_symbols
reset-requires c = rows.due (behind (passed 21 (taken 30 c.requires c.take.ensures refl) c.pass.ensures refl) c.model.ensures refl).due refl

pub statements-requires : goal.statements-requires
unfolding row_symbols
statements-requires c = due (behind (behind (passed 21 (taken 30 c.requires c.take.ensures refl) c.pass.ensures refl) c.model.ensures refl) c.reset.ensures refl) refl

pub pass-requires-2 : goal.pass-requires-2
unfolding row_symbols
pass-requires-2 c = room 1 (behind (behind (behind (passed 21 (taken 30 c.requires c.take.ensures refl) c.pass.ensures refl) c.model.ensures refl) c.reset.ensures refl) c.in_ok-list.ensures refl).due refl

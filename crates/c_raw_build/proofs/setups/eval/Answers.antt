use Rattle.std.proofs.Common.{arith, refl}
use Rattle.c_raw_build.specs.Reading.{row_symbols}
use Rattle.c_raw_build.specs.RawFiles.{eval}
use Rattle.c_raw_build.proofs.TakenRows.{read}
use Rattle.c_raw_build.proofs.DueRows.{node_left, only, room}
use Rattle.c_raw_build.proofs.DueTokens.{ahead, behind, due, passed, taken}
use Rattle.c_raw_build.proofs.DueRows as rows
use Rattle.c_raw_build.proofs.setups.eval.Goals as goal

pub returns-clause-read : goal.returns-clause-read
unfolding row_symbols eval
returns-clause-read c =
    let here = c.in_ok-body.ensures.block c.args.text.now _ c.in_ok-list.ensures.value_is in
    read (eval c.args.text.now) _ _ _ _ 32 _ c.take.ensures refl (grind arith) (grind arith) (grind arith) (grind arith)

pub returns-clause-body : goal.returns-clause-body
returns-clause-body c = c.in_ok-body.ensures.body c.args.text.now _ c.in_ok-list.ensures.value_is

pub take-requires-clause-there : goal.take-requires-clause-there
take-requires-clause-there c = node_left (ahead c.requires)

pub take-requires-clause-row : goal.take-requires-clause-row
unfolding row_symbols
take-requires-clause-row c = only 32 (ahead c.requires) refl

pub pass-requires : goal.pass-requires
unfolding row_symbols
pass-requires c = room 21 (taken 32 c.requires c.take.ensures refl).due refl

pub instance-requires : goal.instance-requires
unfolding row_symbols
instance-requires c = rows.due (passed 21 (taken 32 c.requires c.take.ensures refl) c.pass.ensures refl).due refl

pub model-requires : goal.model-requires
unfolding row_symbols
model-requires c = rows.due (behind (passed 21 (taken 32 c.requires c.take.ensures refl) c.pass.ensures refl) c.instance.ensures refl).due refl

pub pass-requires-2 : goal.pass-requires-2
unfolding row_symbols
pass-requires-2 c = room 9 (behind (behind (passed 21 (taken 32 c.requires c.take.ensures refl) c.pass.ensures refl) c.instance.ensures refl) c.model.ensures refl).due refl

pub statements-requires : goal.statements-requires
unfolding row_symbols
statements-requires c = due (passed 9 (behind (behind (passed 21 (taken 32 c.requires c.take.ensures refl) c.pass.ensures refl) c.instance.ensures refl) c.model.ensures refl) c.pass-2.ensures refl) refl

pub pass-requires-3 : goal.pass-requires-3
unfolding row_symbols
pass-requires-3 c = room 3 (behind (passed 9 (behind (behind (passed 21 (taken 32 c.requires c.take.ensures refl) c.pass.ensures refl) c.instance.ensures refl) c.model.ensures refl) c.pass-2.ensures refl) c.in_ok-list.ensures refl).due refl

pub pass-requires-4 : goal.pass-requires-4
unfolding row_symbols
pass-requires-4 c = room 1 (passed 3 (behind (passed 9 (behind (behind (passed 21 (taken 32 c.requires c.take.ensures refl) c.pass.ensures refl) c.instance.ensures refl) c.model.ensures refl) c.pass-2.ensures refl) c.in_ok-list.ensures refl) c.pass-3.ensures refl).due refl

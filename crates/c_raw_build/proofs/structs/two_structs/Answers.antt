use Rattle.std.proofs.Common.{arith, refl}
use Rattle.c_raw_build.specs.Reading.{row_symbols}
use Rattle.c_raw_build.specs.RawFiles.{sizes}
use Rattle.c_raw_build.specs.StructParts.{structs_of}
use Rattle.c_raw_build.proofs.TakenRows.{read}
use Rattle.c_raw_build.proofs.DueRows.{node_left, only, room}
use Rattle.c_raw_build.proofs.DueTokens.{ahead, behind, due, passed, taken}
use Rattle.c_raw_build.proofs.structs.two_structs.Goals as goal

pub returns : goal.returns
unfolding row_symbols structs_of sizes
returns c = read (structs_of c.args.text.now) _ _ _ _ 5 _ c.take.ensures refl (grind arith) (grind arith) (grind arith) (grind arith)

pub take-requires-clause-there : goal.take-requires-clause-there
take-requires-clause-there c = node_left (ahead c.requires)

pub take-requires-clause-row : goal.take-requires-clause-row
unfolding row_symbols
take-requires-clause-row c = only 5 (ahead c.requires) refl

pub pass-requires : goal.pass-requires
unfolding row_symbols
pass-requires c = room 6 (taken 5 c.requires c.take.ensures refl).due refl

pub fields-requires : goal.fields-requires
unfolding row_symbols
fields-requires c = due (passed 6 (taken 5 c.requires c.take.ensures refl) c.pass.ensures refl) refl

pub pass-requires-2 : goal.pass-requires-2
unfolding row_symbols
pass-requires-2 c = room 9 (behind (passed 6 (taken 5 c.requires c.take.ensures refl) c.pass.ensures refl) c.in_ok-model_fields.ensures refl).due refl

pub placed_number-node-requires : goal.placed_number-node-requires
unfolding row_symbols
placed_number-node-requires c = due (passed 9 (behind (passed 6 (taken 5 c.requires c.take.ensures refl) c.pass.ensures refl) c.in_ok-model_fields.ensures refl) c.pass-2.ensures refl) refl

pub pass-requires-3 : goal.pass-requires-3
unfolding row_symbols
pass-requires-3 c = room 6 (behind (passed 9 (behind (passed 6 (taken 5 c.requires c.take.ensures refl) c.pass.ensures refl) c.in_ok-model_fields.ensures refl) c.pass-2.ensures refl) c.placed_number-node.ensures refl).due refl

pub placed_number-jr-requires : goal.placed_number-jr-requires
unfolding row_symbols
placed_number-jr-requires c = due (passed 6 (behind (passed 9 (behind (passed 6 (taken 5 c.requires c.take.ensures refl) c.pass.ensures refl) c.in_ok-model_fields.ensures refl) c.pass-2.ensures refl) c.placed_number-node.ensures refl) c.pass-3.ensures refl) refl

pub pass-requires-4 : goal.pass-requires-4
unfolding row_symbols
pass-requires-4 c = room 6 (behind (passed 6 (behind (passed 9 (behind (passed 6 (taken 5 c.requires c.take.ensures refl) c.pass.ensures refl) c.in_ok-model_fields.ensures refl) c.pass-2.ensures refl) c.placed_number-node.ensures refl) c.pass-3.ensures refl) c.placed_number-jr.ensures refl).due refl

pub placed_number-jq-requires : goal.placed_number-jq-requires
unfolding row_symbols
placed_number-jq-requires c = due (passed 6 (behind (passed 6 (behind (passed 9 (behind (passed 6 (taken 5 c.requires c.take.ensures refl) c.pass.ensures refl) c.in_ok-model_fields.ensures refl) c.pass-2.ensures refl) c.placed_number-node.ensures refl) c.pass-3.ensures refl) c.placed_number-jr.ensures refl) c.pass-4.ensures refl) refl

pub pass-requires-5 : goal.pass-requires-5
unfolding row_symbols
pass-requires-5 c = room 5 (behind (passed 6 (behind (passed 6 (behind (passed 9 (behind (passed 6 (taken 5 c.requires c.take.ensures refl) c.pass.ensures refl) c.in_ok-model_fields.ensures refl) c.pass-2.ensures refl) c.placed_number-node.ensures refl) c.pass-3.ensures refl) c.placed_number-jr.ensures refl) c.pass-4.ensures refl) c.placed_number-jq.ensures refl).due refl

pub placed_number-col-requires : goal.placed_number-col-requires
unfolding row_symbols
placed_number-col-requires c = due (passed 5 (behind (passed 6 (behind (passed 6 (behind (passed 9 (behind (passed 6 (taken 5 c.requires c.take.ensures refl) c.pass.ensures refl) c.in_ok-model_fields.ensures refl) c.pass-2.ensures refl) c.placed_number-node.ensures refl) c.pass-3.ensures refl) c.placed_number-jr.ensures refl) c.pass-4.ensures refl) c.placed_number-jq.ensures refl) c.pass-5.ensures refl) refl

pub pass-requires-6 : goal.pass-requires-6
unfolding row_symbols
pass-requires-6 c = room 5 (behind (passed 5 (behind (passed 6 (behind (passed 6 (behind (passed 9 (behind (passed 6 (taken 5 c.requires c.take.ensures refl) c.pass.ensures refl) c.in_ok-model_fields.ensures refl) c.pass-2.ensures refl) c.placed_number-node.ensures refl) c.pass-3.ensures refl) c.placed_number-jr.ensures refl) c.pass-4.ensures refl) c.placed_number-jq.ensures refl) c.pass-5.ensures refl) c.placed_number-col.ensures refl).due refl

pub fields-requires-2 : goal.fields-requires-2
unfolding row_symbols
fields-requires-2 c = due (passed 5 (behind (passed 5 (behind (passed 6 (behind (passed 6 (behind (passed 9 (behind (passed 6 (taken 5 c.requires c.take.ensures refl) c.pass.ensures refl) c.in_ok-model_fields.ensures refl) c.pass-2.ensures refl) c.placed_number-node.ensures refl) c.pass-3.ensures refl) c.placed_number-jr.ensures refl) c.pass-4.ensures refl) c.placed_number-jq.ensures refl) c.pass-5.ensures refl) c.placed_number-col.ensures refl) c.pass-6.ensures refl) refl

pub pass-requires-7 : goal.pass-requires-7
unfolding row_symbols
pass-requires-7 c = room 3 (behind (passed 5 (behind (passed 5 (behind (passed 6 (behind (passed 6 (behind (passed 9 (behind (passed 6 (taken 5 c.requires c.take.ensures refl) c.pass.ensures refl) c.in_ok-model_fields.ensures refl) c.pass-2.ensures refl) c.placed_number-node.ensures refl) c.pass-3.ensures refl) c.placed_number-jr.ensures refl) c.pass-4.ensures refl) c.placed_number-jq.ensures refl) c.pass-5.ensures refl) c.placed_number-col.ensures refl) c.pass-6.ensures refl) c.in_ok-inst_fields.ensures refl).due refl

use Rattle.std.proofs.Common.{arith, refl}
use Rattle.c_raw_build.specs.Reading.{row_symbols}
use Rattle.c_raw_build.specs.FileParts.{exports_of}
use Rattle.c_raw_build.proofs.TakenRows.{read}
use Rattle.c_raw_build.proofs.DueRows.{node_left, only, room}
use Rattle.c_raw_build.proofs.DueTokens.{ahead, behind, due, passed, taken}
use Rattle.c_raw_build.proofs.modules.exported.Goals as goal

pub returns : goal.returns
unfolding row_symbols exports_of
returns c = read (exports_of c.args.text.now) _ _ _ _ 140 _ c.take.ensures refl (grind arith) (grind arith) (grind arith) (grind arith)

pub take-requires-clause-there : goal.take-requires-clause-there
take-requires-clause-there c = node_left (ahead c.requires)

pub take-requires-clause-row : goal.take-requires-clause-row
unfolding row_symbols
take-requires-clause-row c = only 140 (ahead c.requires) refl

pub pass-requires : goal.pass-requires
unfolding row_symbols
pass-requires c = room 16 (taken 140 c.requires c.take.ensures refl).due refl

pub placed_number-num_descriptors-requires : goal.placed_number-num_descriptors-requires
unfolding row_symbols
placed_number-num_descriptors-requires c = due (passed 16 (taken 140 c.requires c.take.ensures refl) c.pass.ensures refl) refl

pub pass-requires-2 : goal.pass-requires-2
unfolding row_symbols
pass-requires-2 c = room 8 (behind (passed 16 (taken 140 c.requires c.take.ensures refl) c.pass.ensures refl) c.placed_number-num_descriptors.ensures refl).due refl

pub descriptors-requires : goal.descriptors-requires
unfolding row_symbols
descriptors-requires c = due (passed 8 (behind (passed 16 (taken 140 c.requires c.take.ensures refl) c.pass.ensures refl) c.placed_number-num_descriptors.ensures refl) c.pass-2.ensures refl) refl

pub pass-requires-3 : goal.pass-requires-3
unfolding row_symbols
pass-requires-3 c = room 2 (behind (passed 8 (behind (passed 16 (taken 140 c.requires c.take.ensures refl) c.pass.ensures refl) c.placed_number-num_descriptors.ensures refl) c.pass-2.ensures refl) c.in_ok-descriptors.ensures refl).due refl

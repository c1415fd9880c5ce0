use Rattle.std.proofs.Common.{arith, refl, [], ◌∷◌}
use Rattle.c_raw_build.specs.Reading.{row_symbols}
use Rattle.c_raw_build.specs.RawBodies.{instance_target}
use Rattle.c_raw_build.proofs.TakenRows.{read}
use Rattle.c_raw_build.proofs.DueRows.{no_other, node_left, room}
use Rattle.c_raw_build.proofs.DueTokens.{ahead, behind, due, passed, taken}
use Rattle.c_raw_build.proofs.simple.instance_target.Goals as goal

pub returns-in-47 : goal.returns-in-47
unfolding row_symbols instance_target
returns-in-47 c = read (instance_target c.args.text.now) _ _ _ _ 47 _ c.row.ensures c.in-47.is (grind arith) (grind arith) (grind arith) (grind arith)

pub returns-in-48 : goal.returns-in-48
unfolding row_symbols instance_target
returns-in-48 c = read (instance_target c.args.text.now) _ _ _ _ 48 _ c.row.ensures c.in-48.is (grind arith) (grind arith) (grind arith) (grind arith)

pub row-requires : goal.row-requires
row-requires c = node_left (ahead c.requires)

pub field-field-requires : goal.field-field-requires
unfolding row_symbols
field-field-requires c = due (taken 47 c.requires c.row.ensures c.in-47.is) refl

pub pass-requires : goal.pass-requires
unfolding row_symbols
pass-requires c = room 2 (taken 48 c.requires c.row.ensures c.in-48.is).due refl

pub number-pair-requires : goal.number-pair-requires
unfolding row_symbols
number-pair-requires c = due (passed 2 (taken 48 c.requires c.row.ensures c.in-48.is) c.pass.ensures refl) refl

pub pass-requires-in-48 : goal.pass-requires-in-48
unfolding row_symbols
pass-requires-in-48 c = room 1 (behind (passed 2 (taken 48 c.requires c.row.ensures c.in-48.is) c.pass.ensures refl) c.number-pair.ensures refl).due refl

pub unreachable-requires : goal.unreachable-requires
unfolding row_symbols
unreachable-requires c = no_other (47 ∷ 48 ∷ []) (ahead c.requires) c.row.ensures refl (c.in_default.in_default-own.rest.0.1, (c.in_default.in_default-own.rest.1, tt))

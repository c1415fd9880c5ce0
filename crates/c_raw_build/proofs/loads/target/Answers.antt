use Rattle.std.proofs.Common.{arith, refl, [], ◌∷◌}
use Rattle.c_raw_build.specs.Reading.{row_symbols}
use Rattle.c_raw_build.specs.RawTables.{target_of}
use Rattle.c_raw_build.proofs.TakenRows.{read}
use Rattle.c_raw_build.proofs.DueRows.{no_other, node_left, room}
use Rattle.c_raw_build.proofs.DueTokens.{ahead, behind, due, passed, taken}
use Rattle.c_raw_build.proofs.loads.target.Goals as goal

pub returns-in-99 : goal.returns-in-99
unfolding row_symbols target_of
returns-in-99 c = read (target_of c.args.text.now) _ _ _ _ 99 _ c.row.ensures c.in-99.is (grind arith) (grind arith) (grind arith) (grind arith)

pub returns-in-100 : goal.returns-in-100
unfolding row_symbols target_of
returns-in-100 c = read (target_of c.args.text.now) _ _ _ _ 100 _ c.row.ensures c.in-100.is (grind arith) (grind arith) (grind arith) (grind arith)

pub row-requires : goal.row-requires
row-requires c = node_left (ahead c.requires)

pub pass-requires : goal.pass-requires
unfolding row_symbols
pass-requires c = room 2 (taken 99 c.requires c.row.ensures c.in-99.is).due refl

pub node_number-node-requires : goal.node_number-node-requires
unfolding row_symbols
node_number-node-requires c = due (passed 2 (taken 99 c.requires c.row.ensures c.in-99.is) c.pass.ensures refl) refl

pub pass-requires-in-99 : goal.pass-requires-in-99
unfolding row_symbols
pass-requires-in-99 c = room 1 (behind (passed 2 (taken 99 c.requires c.row.ensures c.in-99.is) c.pass.ensures refl) c.node_number-node.ensures refl).due refl

pub pass-requires-in-100 : goal.pass-requires-in-100
unfolding row_symbols
pass-requires-in-100 c = room 3 (taken 100 c.requires c.row.ensures c.in-100.is).due refl

pub matrix_target-requires : goal.matrix_target-requires
unfolding row_symbols
matrix_target-requires c = due (passed 3 (taken 100 c.requires c.row.ensures c.in-100.is) c.pass-in-100.ensures refl) refl

pub unreachable-requires : goal.unreachable-requires
unfolding row_symbols
unreachable-requires c = no_other (99 ∷ 100 ∷ []) (ahead c.requires) c.row.ensures refl (c.in_default.in_default-own.rest.0.1, (c.in_default.in_default-own.rest.1, tt))

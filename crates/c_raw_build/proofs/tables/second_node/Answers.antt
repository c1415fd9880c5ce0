use Rattle.std.proofs.Common.{arith, refl, [], ◌∷◌}
use Rattle.c_raw_build.specs.Reading.{row_symbols}
use Rattle.c_raw_build.specs.RawTables.{second_node}
use Rattle.c_raw_build.proofs.TakenRows.{read}
use Rattle.c_raw_build.proofs.DueRows.{no_other, node_left, room}
use Rattle.c_raw_build.proofs.DueTokens.{ahead, due, taken}
use Rattle.c_raw_build.proofs.tables.second_node.Goals as goal

pub returns-in-119 : goal.returns-in-119
unfolding row_symbols second_node
returns-in-119 c = read (second_node c.args.text.now) _ _ _ _ 119 _ c.row.ensures c.in-119.is (grind arith) (grind arith) (grind arith) (grind arith)

pub returns-in-120 : goal.returns-in-120
unfolding row_symbols second_node
returns-in-120 c = read (second_node c.args.text.now) _ _ _ _ 120 _ c.row.ensures c.in-120.is (grind arith) (grind arith) (grind arith) (grind arith)

pub row-requires : goal.row-requires
row-requires c = node_left (ahead c.requires)

pub number-node-requires : goal.number-node-requires
unfolding row_symbols
number-node-requires c = due (taken 119 c.requires c.row.ensures c.in-119.is) refl

pub pass-requires : goal.pass-requires
unfolding row_symbols
pass-requires c = room 1 (taken 120 c.requires c.row.ensures c.in-120.is).due refl

pub unreachable-requires : goal.unreachable-requires
unfolding row_symbols
unreachable-requires c = no_other (119 ∷ 120 ∷ []) (ahead c.requires) c.row.ensures refl (c.in_default.in_default-own.rest.0.1, (c.in_default.in_default-own.rest.1, tt))

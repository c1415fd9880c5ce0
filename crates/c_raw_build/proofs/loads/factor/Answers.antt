use Rattle.std.proofs.Common.{arith, refl, [], ◌∷◌}
use Rattle.c_raw_build.specs.Reading.{row_symbols}
use Rattle.c_raw_build.specs.RawTables.{factor_of}
use Rattle.c_raw_build.proofs.TakenRows.{read}
use Rattle.c_raw_build.proofs.DueRows.{no_other, node_left, room}
use Rattle.c_raw_build.proofs.DueTokens.{ahead, behind, due, passed, taken}
use Rattle.c_raw_build.proofs.loads.factor.Goals as goal

pub returns-in-106 : goal.returns-in-106
unfolding row_symbols factor_of
returns-in-106 c = read (factor_of c.args.text.now) _ _ _ _ 106 _ c.row.ensures c.in-106.is (grind arith) (grind arith) (grind arith) (grind arith)

pub returns-in-107 : goal.returns-in-107
unfolding row_symbols factor_of
returns-in-107 c = read (factor_of c.args.text.now) _ _ _ _ 107 _ c.row.ensures c.in-107.is (grind arith) (grind arith) (grind arith) (grind arith)

pub returns-in-108 : goal.returns-in-108
unfolding row_symbols factor_of
returns-in-108 c = read (factor_of c.args.text.now) _ _ _ _ 108 _ c.row.ensures c.in-108.is (grind arith) (grind arith) (grind arith) (grind arith)

pub row-requires : goal.row-requires
row-requires c = node_left (ahead c.requires)

pub pass-requires : goal.pass-requires
unfolding row_symbols
pass-requires c = room 1 (taken 106 c.requires c.row.ensures c.in-106.is).due refl

pub pass-requires-in-107 : goal.pass-requires-in-107
unfolding row_symbols
pass-requires-in-107 c = room 2 (taken 107 c.requires c.row.ensures c.in-107.is).due refl

pub field-field-requires : goal.field-field-requires
unfolding row_symbols
field-field-requires c = due (passed 2 (taken 107 c.requires c.row.ensures c.in-107.is) c.pass-in-107.ensures refl) refl

pub pass-requires-in-108 : goal.pass-requires-in-108
unfolding row_symbols
pass-requires-in-108 c = room 2 (taken 108 c.requires c.row.ensures c.in-108.is).due refl

pub node_number-node-requires : goal.node_number-node-requires
unfolding row_symbols
node_number-node-requires c = due (passed 2 (taken 108 c.requires c.row.ensures c.in-108.is) c.pass-in-108.ensures refl) refl

pub pass-requires-in-108-2 : goal.pass-requires-in-108-2
unfolding row_symbols
pass-requires-in-108-2 c = room 1 (behind (passed 2 (taken 108 c.requires c.row.ensures c.in-108.is) c.pass-in-108.ensures refl) c.node_number-node.ensures refl).due refl

pub unreachable-requires : goal.unreachable-requires
unfolding row_symbols
unreachable-requires c = no_other (106 ∷ 107 ∷ 108 ∷ []) (ahead c.requires) c.row.ensures refl (c.in_default.in_default-own.rest.0.0.1, (c.in_default.in_default-own.rest.0.1, (c.in_default.in_default-own.rest.1, tt)))

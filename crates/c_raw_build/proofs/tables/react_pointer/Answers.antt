use Rattle.std.proofs.Common.{arith, refl, [], ◌∷◌}
use Rattle.c_raw_build.specs.Reading.{row_symbols}
use Rattle.c_raw_build.specs.RawTables.{react_pointer}
use Rattle.c_raw_build.proofs.TakenRows.{read}
use Rattle.c_raw_build.proofs.DueRows.{no_other, node_left, room}
use Rattle.c_raw_build.proofs.DueTokens.{ahead, behind, due, passed, taken}
use Rattle.c_raw_build.proofs.tables.react_pointer.Goals as goal

pub returns-in-121 : goal.returns-in-121
unfolding row_symbols react_pointer
returns-in-121 c = read (react_pointer c.args.text.now) _ _ _ _ 121 _ c.row.ensures c.in-121.is (grind arith) (grind arith) (grind arith) (grind arith)

pub returns-in-122 : goal.returns-in-122
unfolding row_symbols react_pointer
returns-in-122 c = read (react_pointer c.args.text.now) _ _ _ _ 122 _ c.row.ensures c.in-122.is (grind arith) (grind arith) (grind arith) (grind arith)

pub row-requires : goal.row-requires
row-requires c = node_left (ahead c.requires)

pub pass-requires : goal.pass-requires
unfolding row_symbols
pass-requires c = room 6 (taken 121 c.requires c.row.ensures c.in-121.is).due refl

pub number-entry-requires : goal.number-entry-requires
unfolding row_symbols
number-entry-requires c = due (passed 6 (taken 121 c.requires c.row.ensures c.in-121.is) c.pass.ensures refl) refl

pub pass-requires-in-121 : goal.pass-requires-in-121
unfolding row_symbols
pass-requires-in-121 c = room 2 (behind (passed 6 (taken 121 c.requires c.row.ensures c.in-121.is) c.pass.ensures refl) c.number-entry.ensures refl).due refl

pub pass-requires-in-122 : goal.pass-requires-in-122
unfolding row_symbols
pass-requires-in-122 c = room 1 (taken 122 c.requires c.row.ensures c.in-122.is).due refl

pub unreachable-requires : goal.unreachable-requires
unfolding row_symbols
unreachable-requires c = no_other (121 ∷ 122 ∷ []) (ahead c.requires) c.row.ensures refl (c.in_default.in_default-own.rest.0.1, (c.in_default.in_default-own.rest.1, tt))

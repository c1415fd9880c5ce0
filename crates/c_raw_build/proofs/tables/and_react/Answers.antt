use Rattle.std.proofs.Common.{arith, refl, [], ◌∷◌}
use Rattle.c_raw_build.specs.Reading.{row_symbols}
use Rattle.c_raw_build.specs.TableParts.{has_and_react}
use Rattle.c_raw_build.proofs.TakenRows.{read}
use Rattle.c_raw_build.proofs.DueRows.{no_other, node_left, room, taken}
use Rattle.c_raw_build.proofs.tables.and_react.Goals as goal

pub returns-in-125 : goal.returns-in-125
unfolding row_symbols
returns-in-125 c = read has_and_react _ _ _ _ 125 _ c.row.ensures c.in-125.is (grind arith) (grind arith) (grind arith) (grind arith)

pub returns-in-126 : goal.returns-in-126
unfolding row_symbols
returns-in-126 c = read has_and_react _ _ _ _ 126 _ c.row.ensures c.in-126.is (grind arith) (grind arith) (grind arith) (grind arith)

pub row-requires : goal.row-requires
row-requires c = node_left c.requires

pub pass-requires : goal.pass-requires
unfolding row_symbols
pass-requires c = room 2 (taken 125 c.requires c.row.ensures c.in-125.is) refl

pub unreachable-requires : goal.unreachable-requires
unfolding row_symbols
unreachable-requires c = no_other (125 ∷ 126 ∷ []) c.requires c.row.ensures refl (c.in_default.in_default-own.rest.0.1, (c.in_default.in_default-own.rest.1, tt))

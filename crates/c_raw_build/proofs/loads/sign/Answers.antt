use Rattle.std.proofs.Common.{arith, refl, [], ◌∷◌}
use Rattle.c_raw_build.specs.Reading.{row_symbols}
use Rattle.c_raw_build.specs.RawTables.{sign_of}
use Rattle.c_raw_build.proofs.TakenRows.{read}
use Rattle.c_raw_build.proofs.DueRows.{by_row, no_other, node_left, room, taken}
use Rattle.c_raw_build.proofs.loads.sign.Goals as goal

pub returns-in-103 : goal.returns-in-103
unfolding row_symbols sign_of
returns-in-103 c = read sign_of _ _ _ _ 103 _ c.row-row.ensures c.in-103.is (grind arith) (grind arith) (grind arith) (grind arith)

pub returns-in-104 : goal.returns-in-104
unfolding row_symbols sign_of
returns-in-104 c = read sign_of _ _ _ _ 104 _ c.row-row.ensures c.in-104.is (grind arith) (grind arith) (grind arith) (grind arith)

pub returns-in-105 : goal.returns-in-105
unfolding row_symbols sign_of
returns-in-105 c = read sign_of _ _ _ _ 105 _ c.row-row.ensures c.in-105.is (grind arith) (grind arith) (grind arith) (grind arith)

pub row-row-requires : goal.row-row-requires
row-row-requires c = node_left c.requires

pub pass-requires : goal.pass-requires
unfolding row_symbols
pass-requires c = by_row (103 ∷ 104 ∷ 105 ∷ []) c.requires c.row-row.ensures refl (λ is. room 1 (taken 103 c.requires c.row-row.ensures is) refl, (λ is. room 1 (taken 104 c.requires c.row-row.ensures is) refl, (λ is. room 1 (taken 105 c.requires c.row-row.ensures is) refl, tt)))

pub unreachable-requires : goal.unreachable-requires
unfolding row_symbols
unreachable-requires c = no_other (103 ∷ 104 ∷ 105 ∷ []) c.requires c.row-row.ensures refl (c.in_default.in_default-own.rest.0.0.1, (c.in_default.in_default-own.rest.0.1, (c.in_default.in_default-own.rest.1, tt)))

use Rattle.std.proofs.Common.{arith, refl, [], ◌∷◌}
use Rattle.c_raw_build.specs.Reading.{row_symbols}
use Rattle.c_raw_build.specs.RawTables.{param_kind}
use Rattle.c_raw_build.proofs.TakenRows.{read}
use Rattle.c_raw_build.proofs.DueRows.{by_row, no_other, node_left, room, taken}
use Rattle.c_raw_build.proofs.tables.param_kind.Goals as goal

pub returns-in-137 : goal.returns-in-137
unfolding row_symbols param_kind
returns-in-137 c = read param_kind _ _ _ _ 137 _ c.row-row.ensures c.in-137.is (grind arith) (grind arith) (grind arith) (grind arith)

pub returns-in-138 : goal.returns-in-138
unfolding row_symbols param_kind
returns-in-138 c = read param_kind _ _ _ _ 138 _ c.row-row.ensures c.in-138.is (grind arith) (grind arith) (grind arith) (grind arith)

pub returns-in-139 : goal.returns-in-139
unfolding row_symbols param_kind
returns-in-139 c = read param_kind _ _ _ _ 139 _ c.row-row.ensures c.in-139.is (grind arith) (grind arith) (grind arith) (grind arith)

pub row-row-requires : goal.row-row-requires
row-row-requires c = node_left c.requires

pub pass-requires : goal.pass-requires
unfolding row_symbols
pass-requires c = by_row (137 ∷ 138 ∷ 139 ∷ []) c.requires c.row-row.ensures refl (λ is. room 1 (taken 137 c.requires c.row-row.ensures is) refl, (λ is. room 1 (taken 138 c.requires c.row-row.ensures is) refl, (λ is. room 1 (taken 139 c.requires c.row-row.ensures is) refl, tt)))

pub unreachable-requires : goal.unreachable-requires
unfolding row_symbols
unreachable-requires c = no_other (137 ∷ 138 ∷ 139 ∷ []) c.requires c.row-row.ensures refl (c.in_default.in_default-own.rest.0.0.1, (c.in_default.in_default-own.rest.0.1, (c.in_default.in_default-own.rest.1, tt)))

use Rattle.std.proofs.Common.{arith, refl, [], ◌∷◌}
use Rattle.c_raw_build.specs.Reading.{row_symbols}
use Rattle.c_raw_build.specs.RawTables.{is_integer_param}
use Rattle.c_raw_build.proofs.TakenRows.{read}
use Rattle.c_raw_build.proofs.DueRows.{by_row, no_other, node_left, room, taken}
use Rattle.c_raw_build.proofs.tables.is_integer_param.Goals as goal

pub returns-in-135 : goal.returns-in-135
unfolding row_symbols is_integer_param
returns-in-135 c = read is_integer_param _ _ _ _ 135 _ c.row-row.ensures c.in-135.is (grind arith) (grind arith) (grind arith) (grind arith)

pub returns-in-136 : goal.returns-in-136
unfolding row_symbols is_integer_param
returns-in-136 c = read is_integer_param _ _ _ _ 136 _ c.row-row.ensures c.in-136.is (grind arith) (grind arith) (grind arith) (grind arith)

pub row-row-requires : goal.row-row-requires
row-row-requires c = node_left c.requires

pub pass-requires : goal.pass-requires
unfolding row_symbols
pass-requires c = by_row (135 ∷ 136 ∷ []) c.requires c.row-row.ensures refl (λ is. room 1 (taken 135 c.requires c.row-row.ensures is) refl, (λ is. room 1 (taken 136 c.requires c.row-row.ensures is) refl, tt))

pub unreachable-requires : goal.unreachable-requires
unfolding row_symbols
unreachable-requires c = no_other (135 ∷ 136 ∷ []) c.requires c.row-row.ensures refl (c.in_default.in_default-own.rest.0.1, (c.in_default.in_default-own.rest.1, tt))

use Rattle.std.proofs.Common.{arith, refl, [], ◌∷◌}
use Rattle.c_raw_build.specs.Reading.{row_symbols}
use Rattle.c_raw_build.specs.RawAtoms.{operator_of}
use Rattle.c_raw_build.proofs.TakenRows.{read}
use Rattle.c_raw_build.proofs.DueRows.{by_row, no_other, node_left, room, taken}
use Rattle.c_raw_build.proofs.atoms.operator.Goals as goal

pub returns-in-64 : goal.returns-in-64
unfolding row_symbols operator_of
returns-in-64 c = read operator_of _ _ _ _ 64 _ c.row-row.ensures c.in-64.is (grind arith) (grind arith) (grind arith) (grind arith)

pub returns-in-65 : goal.returns-in-65
unfolding row_symbols operator_of
returns-in-65 c = read operator_of _ _ _ _ 65 _ c.row-row.ensures c.in-65.is (grind arith) (grind arith) (grind arith) (grind arith)

pub returns-in-66 : goal.returns-in-66
unfolding row_symbols operator_of
returns-in-66 c = read operator_of _ _ _ _ 66 _ c.row-row.ensures c.in-66.is (grind arith) (grind arith) (grind arith) (grind arith)

pub returns-in-67 : goal.returns-in-67
unfolding row_symbols operator_of
returns-in-67 c = read operator_of _ _ _ _ 67 _ c.row-row.ensures c.in-67.is (grind arith) (grind arith) (grind arith) (grind arith)

pub returns-in-68 : goal.returns-in-68
unfolding row_symbols operator_of
returns-in-68 c = read operator_of _ _ _ _ 68 _ c.row-row.ensures c.in-68.is (grind arith) (grind arith) (grind arith) (grind arith)

pub returns-in-69 : goal.returns-in-69
unfolding row_symbols operator_of
returns-in-69 c = read operator_of _ _ _ _ 69 _ c.row-row.ensures c.in-69.is (grind arith) (grind arith) (grind arith) (grind arith)

pub returns-in-70 : goal.returns-in-70
unfolding row_symbols operator_of
returns-in-70 c = read operator_of _ _ _ _ 70 _ c.row-row.ensures c.in-70.is (grind arith) (grind arith) (grind arith) (grind arith)

pub returns-in-71 : goal.returns-in-71
unfolding row_symbols operator_of
returns-in-71 c = read operator_of _ _ _ _ 71 _ c.row-row.ensures c.in-71.is (grind arith) (grind arith) (grind arith) (grind arith)

pub returns-in-72 : goal.returns-in-72
unfolding row_symbols operator_of
returns-in-72 c = read operator_of _ _ _ _ 72 _ c.row-row.ensures c.in-72.is (grind arith) (grind arith) (grind arith) (grind arith)

pub returns-in-73 : goal.returns-in-73
unfolding row_symbols operator_of
returns-in-73 c = read operator_of _ _ _ _ 73 _ c.row-row.ensures c.in-73.is (grind arith) (grind arith) (grind arith) (grind arith)

pub returns-in-74 : goal.returns-in-74
unfolding row_symbols operator_of
returns-in-74 c = read operator_of _ _ _ _ 74 _ c.row-row.ensures c.in-74.is (grind arith) (grind arith) (grind arith) (grind arith)

pub row-row-requires : goal.row-row-requires
row-row-requires c = node_left c.requires

pub pass-requires : goal.pass-requires
unfolding row_symbols
pass-requires c = by_row (64 ∷ 65 ∷ 66 ∷ 67 ∷ 68 ∷ 69 ∷ 70 ∷ 71 ∷ 72 ∷ 73 ∷ 74 ∷ []) c.requires c.row-row.ensures refl (λ is. room 1 (taken 64 c.requires c.row-row.ensures is) refl, (λ is. room 1 (taken 65 c.requires c.row-row.ensures is) refl, (λ is. room 1 (taken 66 c.requires c.row-row.ensures is) refl, (λ is. room 1 (taken 67 c.requires c.row-row.ensures is) refl, (λ is. room 1 (taken 68 c.requires c.row-row.ensures is) refl, (λ is. room 1 (taken 69 c.requires c.row-row.ensures is) refl, (λ is. room 1 (taken 70 c.requires c.row-row.ensures is) refl, (λ is. room 1 (taken 71 c.requires c.row-row.ensures is) refl, (λ is. room 1 (taken 72 c.requires c.row-row.ensures is) refl, (λ is. room 1 (taken 73 c.requires c.row-row.ensures is) refl, (λ is. room 1 (taken 74 c.requires c.row-row.ensures is) refl, tt)))))))))))

pub unreachable-requires : goal.unreachable-requires
unfolding row_symbols
unreachable-requires c = no_other (64 ∷ 65 ∷ 66 ∷ 67 ∷ 68 ∷ 69 ∷ 70 ∷ 71 ∷ 72 ∷ 73 ∷ 74 ∷ []) c.requires c.row-row.ensures refl (c.in_default.in_default-own.rest.0.0.0.0.0.0.0.0.0.0.1, (c.in_default.in_default-own.rest.0.0.0.0.0.0.0.0.0.1, (c.in_default.in_default-own.rest.0.0.0.0.0.0.0.0.1, (c.in_default.in_default-own.rest.0.0.0.0.0.0.0.1, (c.in_default.in_default-own.rest.0.0.0.0.0.0.1, (c.in_default.in_default-own.rest.0.0.0.0.0.1, (c.in_default.in_default-own.rest.0.0.0.0.1, (c.in_default.in_default-own.rest.0.0.0.1, (c.in_default.in_default-own.rest.0.0.1, (c.in_default.in_default-own.rest.0.1, (c.in_default.in_default-own.rest.1, tt)))))))))))

use Rattle.std.proofs.Common.{arith, refl, [], ◌∷◌}
use Rattle.c_raw_build.specs.Reading.{row_symbols}
use Rattle.c_raw_build.specs.RawAtoms.{ty_of}
use Rattle.c_raw_build.proofs.TakenRows.{read}
use Rattle.c_raw_build.proofs.DueRows.{by_row, no_other, node_left, room, taken}
use Rattle.c_raw_build.proofs.atoms.ty.Goals as goal

pub returns-in-8 : goal.returns-in-8
unfolding row_symbols ty_of
returns-in-8 c = read (ty_of) _ _ _ _ 8 _ c.row-row.ensures c.in-8.is (grind arith) (grind arith) (grind arith) (grind arith)

pub returns-in-9 : goal.returns-in-9
unfolding row_symbols ty_of
returns-in-9 c = read (ty_of) _ _ _ _ 9 _ c.row-row.ensures c.in-9.is (grind arith) (grind arith) (grind arith) (grind arith)

pub row-row-requires : goal.row-row-requires
row-row-requires c = node_left c.requires

pub pass-requires : goal.pass-requires
unfolding row_symbols
pass-requires c = by_row (8 ∷ 9 ∷ []) c.requires c.row-row.ensures refl (λ is. room 1 (taken 8 c.requires c.row-row.ensures is) refl, (λ is. room 1 (taken 9 c.requires c.row-row.ensures is) refl, tt))

pub unreachable-requires : goal.unreachable-requires
unfolding row_symbols
unreachable-requires c = no_other (8 ∷ 9 ∷ []) c.requires c.row-row.ensures refl (c.in_default.in_default-own.rest.0.1, (c.in_default.in_default-own.rest.1, tt))

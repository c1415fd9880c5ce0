use Rattle.std.proofs.Common.{arith, refl, [], ◌∷◌}
use Rattle.c_raw_build.specs.Reading.{row_symbols}
use Rattle.c_raw_build.specs.RawTables.{has_resist, has_react}
use Rattle.c_raw_build.specs.TableParts.{entry_parts}
use Rattle.c_raw_build.proofs.TakenRows.{read}
use Rattle.c_raw_build.proofs.DueRows.{by_row, due, no_other, node_left, passed, room, taken}
use Rattle.c_raw_build.proofs.tables.parts.Goals as goal

pub returns-in-123 : goal.returns-in-123
unfolding row_symbols has_resist has_react
returns-in-123 c = read entry_parts _ _ _ _ 123 _ c.row-row.ensures c.in-123.is (grind arith) (grind arith) (grind arith) (grind arith)

pub returns-in-124 : goal.returns-in-124
unfolding row_symbols has_resist has_react
returns-in-124 c = read entry_parts _ _ _ _ 124 _ c.row-row.ensures c.in-124.is (grind arith) (grind arith) (grind arith) (grind arith)

pub row-row-requires : goal.row-row-requires
row-row-requires c = node_left c.requires

pub and_react-react-requires : goal.and_react-react-requires
unfolding row_symbols
and_react-react-requires c = due (passed 1 (taken 123 c.requires c.row-row.ensures c.in-123.is) c.pass.ensures refl) refl

pub pass-requires : goal.pass-requires
unfolding row_symbols
pass-requires c = by_row (123 ∷ 124 ∷ []) c.requires c.row-row.ensures refl (λ is. room 1 (taken 123 c.requires c.row-row.ensures is) refl, (λ is. room 1 (taken 124 c.requires c.row-row.ensures is) refl, tt))

pub unreachable-requires : goal.unreachable-requires
unfolding row_symbols
unreachable-requires c = no_other (123 ∷ 124 ∷ []) c.requires c.row-row.ensures refl (c.in_default.in_default-own.rest.0.1, (c.in_default.in_default-own.rest.1, tt))

use Rattle.std.proofs.Common.{arith, refl, [], ◌∷◌}
use Rattle.c_raw_build.specs.Reading.{row_symbols}
use Rattle.c_raw_build.specs.RawAtoms.{cell}
use Rattle.c_raw_build.proofs.TakenRows.{read}
use Rattle.c_raw_build.proofs.DueRows.{by_row, no_other, node_left, room}
use Rattle.c_raw_build.proofs.DueTokens.{ahead, due, passed, taken}
use Rattle.c_raw_build.proofs.atoms.cell.Goals as goal

pub returns-in-23 : goal.returns-in-23
unfolding row_symbols cell
returns-in-23 c = read (cell c.args.text.now) _ _ _ _ 23 _ c.row-row.ensures c.in-23.is (grind arith) (grind arith) (grind arith) (grind arith)

pub returns-in-24 : goal.returns-in-24
unfolding row_symbols cell
returns-in-24 c = read (cell c.args.text.now) _ _ _ _ 24 _ c.row-row.ensures c.in-24.is (grind arith) (grind arith) (grind arith) (grind arith)

pub row-row-requires : goal.row-row-requires
row-row-requires c = node_left (ahead c.requires)

pub pass-requires : goal.pass-requires
unfolding row_symbols
pass-requires c = by_row (23 ∷ 24 ∷ []) (ahead c.requires) c.row-row.ensures refl (λ is. room 2 (taken 23 c.requires c.row-row.ensures is).due refl, (λ is. room 2 (taken 24 c.requires c.row-row.ensures is).due refl, tt))

pub field-field-requires : goal.field-field-requires
unfolding row_symbols
field-field-requires c = by_row (23 ∷ 24 ∷ []) (ahead c.requires) c.row-row.ensures refl (λ is. due (passed 2 (taken 23 c.requires c.row-row.ensures is) c.pass.ensures refl) refl, (λ is. due (passed 2 (taken 24 c.requires c.row-row.ensures is) c.pass.ensures refl) refl, tt))

pub unreachable-requires : goal.unreachable-requires
unfolding row_symbols
unreachable-requires c = no_other (23 ∷ 24 ∷ []) (ahead c.requires) c.row-row.ensures refl (c.in_default.in_default-own.rest.0.1, (c.in_default.in_default-own.rest.1, tt))

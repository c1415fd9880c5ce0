use Rattle.std.proofs.Common.{arith, refl, [], ◌∷◌}
use Rattle.c_raw_build.specs.Reading.{row_symbols}
use Rattle.c_raw_build.specs.RawTables.{matrix_target}
use Rattle.c_raw_build.proofs.TakenRows.{read}
use Rattle.c_raw_build.proofs.DueRows.{by_row, no_other, node_left, room}
use Rattle.c_raw_build.proofs.DueTokens.{ahead, behind, due, passed, taken}
use Rattle.c_raw_build.proofs.loads.matrix_target.Goals as goal

pub returns-in-101 : goal.returns-in-101
unfolding row_symbols matrix_target
returns-in-101 c = read (matrix_target c.args.text.now) _ _ _ _ 101 _ c.row-row.ensures c.in-101.is (grind arith) (grind arith) (grind arith) (grind arith)

pub returns-in-102 : goal.returns-in-102
unfolding row_symbols matrix_target
returns-in-102 c = read (matrix_target c.args.text.now) _ _ _ _ 102 _ c.row-row.ensures c.in-102.is (grind arith) (grind arith) (grind arith) (grind arith)

pub row-row-requires : goal.row-row-requires
row-row-requires c = node_left (ahead c.requires)

pub pass-requires : goal.pass-requires
unfolding row_symbols
pass-requires c = by_row (101 ∷ 102 ∷ []) (ahead c.requires) c.row-row.ensures refl (λ is. room 2 (taken 101 c.requires c.row-row.ensures is).due refl, (λ is. room 2 (taken 102 c.requires c.row-row.ensures is).due refl, tt))

pub number-entry-requires : goal.number-entry-requires
unfolding row_symbols
number-entry-requires c = by_row (101 ∷ 102 ∷ []) (ahead c.requires) c.row-row.ensures refl (λ is. due (passed 2 (taken 101 c.requires c.row-row.ensures is) c.pass.ensures refl) refl, (λ is. due (passed 2 (taken 102 c.requires c.row-row.ensures is) c.pass.ensures refl) refl, tt))

pub pass-requires-2 : goal.pass-requires-2
unfolding row_symbols
pass-requires-2 c = by_row (101 ∷ 102 ∷ []) (ahead c.requires) c.row-row.ensures refl (λ is. room 1 (behind (passed 2 (taken 101 c.requires c.row-row.ensures is) c.pass.ensures refl) c.number-entry.ensures refl).due refl, (λ is. room 1 (behind (passed 2 (taken 102 c.requires c.row-row.ensures is) c.pass.ensures refl) c.number-entry.ensures refl).due refl, tt))

pub unreachable-requires : goal.unreachable-requires
unfolding row_symbols
unreachable-requires c = no_other (101 ∷ 102 ∷ []) (ahead c.requires) c.row-row.ensures refl (c.in_default.in_default-own.rest.0.1, (c.in_default.in_default-own.rest.1, tt))

use Rattle.std.proofs.Common.{arith, refl, [], ◌∷◌}
use Rattle.c_raw_build.specs.Reading.{row_symbols}
use Rattle.c_raw_build.specs.RawAtoms.{callee_of}
use Rattle.c_raw_build.proofs.TakenRows.{read}
use Rattle.c_raw_build.proofs.DueRows.{by_row, no_other, node_left, room}
use Rattle.c_raw_build.proofs.DueTokens.{ahead, taken, token_due}
use Rattle.c_raw_build.proofs.atoms.callee.Goals as goal

pub returns-in-56 : goal.returns-in-56
unfolding row_symbols callee_of
returns-in-56 c = read (callee_of c.args.text.now) _ _ _ _ 56 _ c.row-row.ensures c.in-56.is (grind arith) (grind arith) (grind arith) (grind arith)

pub returns-in-57 : goal.returns-in-57
unfolding row_symbols callee_of
returns-in-57 c = read (callee_of c.args.text.now) _ _ _ _ 57 _ c.row-row.ensures c.in-57.is (grind arith) (grind arith) (grind arith) (grind arith)

pub row-row-requires : goal.row-row-requires
row-row-requires c = node_left (ahead c.requires)

pub library_function-requires : goal.library_function-requires
unfolding row_symbols
library_function-requires c = token_due (taken 56 c.requires c.row-row.ensures c.in-56.is) c.at-at.ensures refl

pub function-number-requires : goal.function-number-requires
unfolding row_symbols
function-number-requires c = token_due (taken 57 c.requires c.row-row.ensures c.in-57.is) c.at-at.ensures refl

pub pass-requires : goal.pass-requires
unfolding row_symbols
pass-requires c = by_row (56 ∷ 57 ∷ []) (ahead c.requires) c.row-row.ensures refl (λ is. room 1 (taken 56 c.requires c.row-row.ensures is).due refl, (λ is. room 1 (taken 57 c.requires c.row-row.ensures is).due refl, tt))

pub unreachable-requires : goal.unreachable-requires
unfolding row_symbols
unreachable-requires c = no_other (56 ∷ 57 ∷ []) (ahead c.requires) c.row-row.ensures refl (c.in_default.in_default-own.rest.0.1, (c.in_default.in_default-own.rest.1, tt))

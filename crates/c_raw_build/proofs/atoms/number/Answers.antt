use Rattle.std.proofs.Common.{arith, refl, [], ◌∷◌}
use Rattle.c_raw_build.specs.Reading.{row_symbols}
use Rattle.c_raw_build.specs.RawAtoms.{number_of_tree}
use Rattle.c_raw_build.proofs.TakenRows.{read}
use Rattle.c_raw_build.proofs.DueRows.{by_row, no_other, node_left, room}
use Rattle.c_raw_build.proofs.DueTokens.{ahead, taken, token_due}
use Rattle.c_raw_build.proofs.atoms.number.Goals as goal

pub returns-in-85 : goal.returns-in-85
unfolding row_symbols
returns-in-85 c = read (number_of_tree c.args.text.now) _ _ _ _ 85 _ c.row-row.ensures c.in-85.is (grind arith) (grind arith) (grind arith) (grind arith)

pub returns-in-86 : goal.returns-in-86
unfolding row_symbols
returns-in-86 c = read (number_of_tree c.args.text.now) _ _ _ _ 86 _ c.row-row.ensures c.in-86.is (grind arith) (grind arith) (grind arith) (grind arith)

pub returns-in-87 : goal.returns-in-87
unfolding row_symbols
returns-in-87 c = read (number_of_tree c.args.text.now) _ _ _ _ 87 _ c.row-row.ensures c.in-87.is (grind arith) (grind arith) (grind arith) (grind arith)

pub returns-in-88 : goal.returns-in-88
unfolding row_symbols
returns-in-88 c = read (number_of_tree c.args.text.now) _ _ _ _ 88 _ c.row-row.ensures c.in-88.is (grind arith) (grind arith) (grind arith) (grind arith)

pub returns-in-82 : goal.returns-in-82
unfolding row_symbols
returns-in-82 c = read (number_of_tree c.args.text.now) _ _ _ _ 82 _ c.row-row.ensures c.in-82.is (grind arith) (grind arith) (grind arith) (grind arith)

pub returns-in-83 : goal.returns-in-83
unfolding row_symbols
returns-in-83 c = read (number_of_tree c.args.text.now) _ _ _ _ 83 _ c.row-row.ensures c.in-83.is (grind arith) (grind arith) (grind arith) (grind arith)

pub returns-in-84 : goal.returns-in-84
unfolding row_symbols
returns-in-84 c = read (number_of_tree c.args.text.now) _ _ _ _ 84 _ c.row-row.ensures c.in-84.is (grind arith) (grind arith) (grind arith) (grind arith)

pub row-row-requires : goal.row-row-requires
row-row-requires c = node_left (ahead c.requires)

pub number-value-requires : goal.number-value-requires
unfolding row_symbols
number-value-requires c = by_row (85 ∷ 86 ∷ 87 ∷ 88 ∷ 82 ∷ 83 ∷ 84 ∷ []) (ahead c.requires) c.row-row.ensures refl (λ is. token_due (taken 85 c.requires c.row-row.ensures is) c.at.ensures refl, (λ is. token_due (taken 86 c.requires c.row-row.ensures is) c.at.ensures refl, (λ is. token_due (taken 87 c.requires c.row-row.ensures is) c.at.ensures refl, (λ is. token_due (taken 88 c.requires c.row-row.ensures is) c.at.ensures refl, (λ is. token_due (taken 82 c.requires c.row-row.ensures is) c.at.ensures refl, (λ is. token_due (taken 83 c.requires c.row-row.ensures is) c.at.ensures refl, (λ is. token_due (taken 84 c.requires c.row-row.ensures is) c.at.ensures refl, tt)))))))

pub pass-requires : goal.pass-requires
unfolding row_symbols
pass-requires c = by_row (85 ∷ 86 ∷ 87 ∷ 88 ∷ 82 ∷ 83 ∷ 84 ∷ []) (ahead c.requires) c.row-row.ensures refl (λ is. room 1 (taken 85 c.requires c.row-row.ensures is).due refl, (λ is. room 1 (taken 86 c.requires c.row-row.ensures is).due refl, (λ is. room 1 (taken 87 c.requires c.row-row.ensures is).due refl, (λ is. room 1 (taken 88 c.requires c.row-row.ensures is).due refl, (λ is. room 1 (taken 82 c.requires c.row-row.ensures is).due refl, (λ is. room 1 (taken 83 c.requires c.row-row.ensures is).due refl, (λ is. room 1 (taken 84 c.requires c.row-row.ensures is).due refl, tt)))))))

pub unreachable-requires : goal.unreachable-requires
unfolding row_symbols
unreachable-requires c = no_other (85 ∷ 86 ∷ 87 ∷ 88 ∷ 82 ∷ 83 ∷ 84 ∷ []) (ahead c.requires) c.row-row.ensures refl (c.in_default.in_default-own.rest.0.0.0.0.0.0.1, (c.in_default.in_default-own.rest.0.0.0.0.0.1, (c.in_default.in_default-own.rest.0.0.0.0.1, (c.in_default.in_default-own.rest.0.0.0.1, (c.in_default.in_default-own.rest.0.0.1, (c.in_default.in_default-own.rest.0.1, (c.in_default.in_default-own.rest.1, tt)))))))

use Rattle.std.proofs.Common.{arith, refl, [], ◌∷◌}
use Rattle.c_raw_build.specs.Reading.{row_symbols}
use Rattle.c_raw_build.specs.RawAtoms.{field}
use Rattle.c_raw_build.proofs.TakenRows.{read}
use Rattle.c_raw_build.proofs.DueRows.{by_row, no_other, node_left, room}
use Rattle.c_raw_build.proofs.DueTokens.{ahead, taken, token_due}
use Rattle.c_raw_build.proofs.atoms.field.Goals as goal

pub returns-in-25 : goal.returns-in-25
unfolding row_symbols
returns-in-25 c = read (field c.args.text.now) _ _ _ _ 25 _ c.row-row.ensures c.in-25.is (grind arith) (grind arith) (grind arith) (grind arith)

pub returns-in-26 : goal.returns-in-26
unfolding row_symbols
returns-in-26 c = read (field c.args.text.now) _ _ _ _ 26 _ c.row-row.ensures c.in-26.is (grind arith) (grind arith) (grind arith) (grind arith)

pub row-row-requires : goal.row-row-requires
row-row-requires c = node_left (ahead c.requires)

pub field-value-requires : goal.field-value-requires
unfolding row_symbols
field-value-requires c = by_row (25 ∷ 26 ∷ []) (ahead c.requires) c.row-row.ensures refl (λ is. token_due (taken 25 c.requires c.row-row.ensures is) c.at.ensures refl, (λ is. token_due (taken 26 c.requires c.row-row.ensures is) c.at.ensures refl, tt))

pub pass-requires : goal.pass-requires
unfolding row_symbols
pass-requires c = by_row (25 ∷ 26 ∷ []) (ahead c.requires) c.row-row.ensures refl (λ is. room 1 (taken 25 c.requires c.row-row.ensures is).due refl, (λ is. room 1 (taken 26 c.requires c.row-row.ensures is).due refl, tt))

pub unreachable-requires : goal.unreachable-requires
unfolding row_symbols
unreachable-requires c = no_other (25 ∷ 26 ∷ []) (ahead c.requires) c.row-row.ensures refl (c.in_default.in_default-own.rest.0.1, (c.in_default.in_default-own.rest.1, tt))

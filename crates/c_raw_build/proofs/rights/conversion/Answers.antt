use Rattle.std.proofs.Common.{arith, refl, [], ◌∷◌}
use Rattle.c_raw_build.specs.Reading.{row_symbols}
use Rattle.c_raw_build.specs.RawAtoms.{conversion}
use Rattle.c_raw_build.proofs.TakenRows.{read}
use Rattle.c_raw_build.proofs.DueRows.{no_other, node_left, room}
use Rattle.c_raw_build.proofs.DueTokens.{ahead, behind, due, passed, taken}
use Rattle.c_raw_build.proofs.rights.conversion.Goals as goal

pub returns-in-54 : goal.returns-in-54
unfolding row_symbols conversion
returns-in-54 c = read (conversion c.args.text.now) _ _ _ _ 54 _ c.row.ensures c.in-54.is (grind arith) (grind arith) (grind arith) (grind arith)

pub returns-in-55 : goal.returns-in-55
unfolding row_symbols conversion
returns-in-55 c = read (conversion c.args.text.now) _ _ _ _ 55 _ c.row.ensures c.in-55.is (grind arith) (grind arith) (grind arith) (grind arith)

pub row-requires : goal.row-requires
row-requires c = node_left (ahead c.requires)

pub pass-requires : goal.pass-requires
unfolding row_symbols
pass-requires c = room 2 (taken 54 c.requires c.row.ensures c.in-54.is).due refl

pub placed_atom-value-requires : goal.placed_atom-value-requires
unfolding row_symbols
placed_atom-value-requires c = due (passed 2 (taken 54 c.requires c.row.ensures c.in-54.is) c.pass.ensures refl) refl

pub pass-requires-in-55 : goal.pass-requires-in-55
unfolding row_symbols
pass-requires-in-55 c = room 4 (taken 55 c.requires c.row.ensures c.in-55.is).due refl

pub placed_atom-value-requires-in-55 : goal.placed_atom-value-requires-in-55
unfolding row_symbols
placed_atom-value-requires-in-55 c = due (passed 4 (taken 55 c.requires c.row.ensures c.in-55.is) c.pass-in-55.ensures refl) refl

pub pass-requires-in-55-2 : goal.pass-requires-in-55-2
unfolding row_symbols
pass-requires-in-55-2 c = room 1 (behind (passed 4 (taken 55 c.requires c.row.ensures c.in-55.is) c.pass-in-55.ensures refl) c.placed_atom-value-in-55.ensures refl).due refl

pub unreachable-requires : goal.unreachable-requires
unfolding row_symbols
unreachable-requires c = no_other (54 ∷ 55 ∷ []) (ahead c.requires) c.row.ensures refl (c.in_default.in_default-own.rest.0.1, (c.in_default.in_default-own.rest.1, tt))

use Rattle.std.proofs.Common.{arith, refl, [], ◌∷◌}
use Rattle.c_raw_build.specs.Reading.{row_symbols}
use Rattle.c_raw.specs.Blocks.{at_view}
use Rattle.c_raw_build.specs.RawBodies.{declared}
use Rattle.c_raw_build.proofs.TakenRows.{read}
use Rattle.c_raw_build.proofs.DueRows.{no_other, node_left, room}
use Rattle.c_raw_build.proofs.DueTokens.{ahead, due, passed, taken}
use Rattle.c_raw_build.proofs.simple.first_value.Goals as goal

pub returns-in-43 : goal.returns-in-43
unfolding row_symbols declared
returns-in-43 c = read (declared c.args.text.now c.args.ty (at_view c.args.local)) _ _ _ _ 43 _ c.row.ensures c.in-43.is (grind arith) (grind arith) (grind arith) (grind arith)

pub returns-in-44 : goal.returns-in-44
unfolding row_symbols declared
returns-in-44 c = read (declared c.args.text.now c.args.ty (at_view c.args.local)) _ _ _ _ 44 _ c.row.ensures c.in-44.is (grind arith) (grind arith) (grind arith) (grind arith)

pub row-requires : goal.row-requires
row-requires c = node_left (ahead c.requires)

pub pass-requires : goal.pass-requires
unfolding row_symbols
pass-requires c = room 1 (taken 43 c.requires c.row.ensures c.in-43.is).due refl

pub placed_atom-first-requires : goal.placed_atom-first-requires
unfolding row_symbols
placed_atom-first-requires c = due (passed 1 (taken 43 c.requires c.row.ensures c.in-43.is) c.pass.ensures refl) refl

pub unreachable-requires : goal.unreachable-requires
unfolding row_symbols
unreachable-requires c = no_other (43 ∷ 44 ∷ []) (ahead c.requires) c.row.ensures refl (c.in_default.in_default-own.rest.0.1, (c.in_default.in_default-own.rest.1, tt))

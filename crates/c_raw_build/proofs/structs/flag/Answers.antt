use Rattle.std.proofs.Common.{arith, refl, [], ◌∷◌}
use Rattle.c_raw_build.specs.Reading.{row_symbols}
use Rattle.c_raw_build.specs.RawFiles.{flag}
use Rattle.c_raw_build.proofs.TakenRows.{read}
use Rattle.c_raw_build.proofs.DueRows.{no_other, node_left, room}
use Rattle.c_raw_build.proofs.DueTokens.{ahead, behind, due, passed, taken}
use Rattle.c_raw_build.proofs.structs.flag.Goals as goal

pub returns-in-21 : goal.returns-in-21
unfolding row_symbols flag
returns-in-21 c = read (flag c.args.text.now) _ _ _ _ 21 _ c.row.ensures c.in-21.is (grind arith) (grind arith) (grind arith) (grind arith)

pub returns-in-22 : goal.returns-in-22
unfolding row_symbols flag
returns-in-22 c = read (flag c.args.text.now) _ _ _ _ 22 _ c.row.ensures c.in-22.is (grind arith) (grind arith) (grind arith) (grind arith)

pub row-requires : goal.row-requires
row-requires c = node_left (ahead c.requires)

pub pass-requires : goal.pass-requires
unfolding row_symbols
pass-requires c = room 7 (taken 21 c.requires c.row.ensures c.in-21.is).due refl

pub placed_cell-cell-requires : goal.placed_cell-cell-requires
unfolding row_symbols
placed_cell-cell-requires c = due (passed 7 (taken 21 c.requires c.row.ensures c.in-21.is) c.pass.ensures refl) refl

pub pass-requires-in-21 : goal.pass-requires-in-21
unfolding row_symbols
pass-requires-in-21 c = room 4 (behind (passed 7 (taken 21 c.requires c.row.ensures c.in-21.is) c.pass.ensures refl) c.placed_cell-cell.ensures refl).due refl

pub unreachable-requires : goal.unreachable-requires
unfolding row_symbols
unreachable-requires c = no_other (21 ∷ 22 ∷ []) (ahead c.requires) c.row.ensures refl (c.in_default.in_default-own.rest.0.1, (c.in_default.in_default-own.rest.1, tt))

use Rattle.std.proofs.Common.{arith, refl, [], ◌∷◌}
use Rattle.c_raw_build.specs.Reading.{row_symbols}
use Rattle.c_raw_build.specs.RawAtoms.{right_of}
use Rattle.c_raw_build.proofs.TakenRows.{read}
use Rattle.c_raw_build.proofs.DueRows.{no_other, node_left, room}
use Rattle.c_raw_build.proofs.DueTokens.{ahead, behind, due, passed, taken}
use Rattle.c_raw_build.proofs.rights.right.Goals as goal

pub returns-in-49 : goal.returns-in-49
unfolding row_symbols right_of
returns-in-49 c = read (right_of c.args.text.now) _ _ _ _ 49 _ c.row.ensures c.in-49.is (grind arith) (grind arith) (grind arith) (grind arith)

pub returns-in-50 : goal.returns-in-50
unfolding row_symbols right_of
returns-in-50 c = read (right_of c.args.text.now) _ _ _ _ 50 _ c.row.ensures c.in-50.is (grind arith) (grind arith) (grind arith) (grind arith)

pub returns-in-51 : goal.returns-in-51
unfolding row_symbols right_of
returns-in-51 c = read (right_of c.args.text.now) _ _ _ _ 51 _ c.row.ensures c.in-51.is (grind arith) (grind arith) (grind arith) (grind arith)

pub returns-in_ok-args-in-52 : goal.returns-in_ok-args-in-52
unfolding row_symbols right_of
returns-in_ok-args-in-52 c = read (right_of c.args.text.now) _ _ _ _ 52 _ c.row.ensures c.in-52.is (grind arith) (grind arith) (grind arith) (grind arith)

pub returns-in-53 : goal.returns-in-53
unfolding row_symbols right_of
returns-in-53 c = read (right_of c.args.text.now) _ _ _ _ 53 _ c.row.ensures c.in-53.is (grind arith) (grind arith) (grind arith) (grind arith)

pub row-requires : goal.row-requires
row-requires c = node_left (ahead c.requires)

pub pass-requires : goal.pass-requires
unfolding row_symbols
pass-requires c = room 1 (taken 49 c.requires c.row.ensures c.in-49.is).due refl

pub placed_atom-value-requires : goal.placed_atom-value-requires
unfolding row_symbols
placed_atom-value-requires c = due (passed 1 (taken 49 c.requires c.row.ensures c.in-49.is) c.pass.ensures refl) refl

pub pass-requires-in-50 : goal.pass-requires-in-50
unfolding row_symbols
pass-requires-in-50 c = room 1 (taken 50 c.requires c.row.ensures c.in-50.is).due refl

pub placed_atom-value-requires-in-50 : goal.placed_atom-value-requires-in-50
unfolding row_symbols
placed_atom-value-requires-in-50 c = due (passed 1 (taken 50 c.requires c.row.ensures c.in-50.is) c.pass-in-50.ensures refl) refl

pub pass-requires-in-51 : goal.pass-requires-in-51
unfolding row_symbols
pass-requires-in-51 c = room 1 (taken 51 c.requires c.row.ensures c.in-51.is).due refl

pub conversion-value-requires : goal.conversion-value-requires
unfolding row_symbols
conversion-value-requires c = due (passed 1 (taken 51 c.requires c.row.ensures c.in-51.is) c.pass-in-51.ensures refl) refl

pub callee-callee-requires : goal.callee-callee-requires
unfolding row_symbols
callee-callee-requires c = due (taken 52 c.requires c.row.ensures c.in-52.is) refl

pub pass-requires-in-52 : goal.pass-requires-in-52
unfolding row_symbols
pass-requires-in-52 c = room 1 (behind (taken 52 c.requires c.row.ensures c.in-52.is) c.callee-callee.ensures refl).due refl

pub values-requires : goal.values-requires
unfolding row_symbols
values-requires c = due (passed 1 (behind (taken 52 c.requires c.row.ensures c.in-52.is) c.callee-callee.ensures refl) c.pass-in-52.ensures refl) refl

pub pass-requires-in-52-2 : goal.pass-requires-in-52-2
unfolding row_symbols
pass-requires-in-52-2 c = room 1 (behind (passed 1 (behind (taken 52 c.requires c.row.ensures c.in-52.is) c.callee-callee.ensures refl) c.pass-in-52.ensures refl) c.in_ok-args-in-52.ensures refl).due refl

pub placed_atom-left-requires : goal.placed_atom-left-requires
unfolding row_symbols
placed_atom-left-requires c = due (taken 53 c.requires c.row.ensures c.in-53.is) refl

pub operation-value-requires : goal.operation-value-requires
unfolding row_symbols
operation-value-requires c = due (behind (taken 53 c.requires c.row.ensures c.in-53.is) c.placed_atom-left.ensures refl) refl

pub unreachable-requires : goal.unreachable-requires
unfolding row_symbols
unreachable-requires c = no_other (49 ∷ 50 ∷ 51 ∷ 52 ∷ 53 ∷ []) (ahead c.requires) c.row.ensures refl (c.in_default.in_default-own.rest.0.0.0.0.1, (c.in_default.in_default-own.rest.0.0.0.1, (c.in_default.in_default-own.rest.0.0.1, (c.in_default.in_default-own.rest.0.1, (c.in_default.in_default-own.rest.1, tt)))))

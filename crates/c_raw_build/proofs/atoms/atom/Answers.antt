use Rattle.std.proofs.Common.{arith, refl, [], ◌∷◌}
use Rattle.c_raw_build.specs.Reading.{row_symbols}
use Rattle.c_raw_build.specs.RawAtoms.{atom_of}
use Rattle.c_raw_build.proofs.TakenRows.{read}
use Rattle.c_raw_build.proofs.DueRows.{no_other, node_left, room}
use Rattle.c_raw_build.proofs.DueTokens.{ahead, behind, due, passed, taken, token_due}
use Rattle.c_raw_build.proofs.atoms.atom.Goals as goal

pub returns-in-75 : goal.returns-in-75
unfolding row_symbols atom_of
returns-in-75 c = read (atom_of c.args.text.now) _ _ _ _ 75 _ c.row-row.ensures c.in-75.is (grind arith) (grind arith) (grind arith) (grind arith)

pub returns-in-76 : goal.returns-in-76
unfolding row_symbols atom_of
returns-in-76 c = read (atom_of c.args.text.now) _ _ _ _ 76 _ c.row-row.ensures c.in-76.is (grind arith) (grind arith) (grind arith) (grind arith)

pub returns-in-77 : goal.returns-in-77
unfolding row_symbols atom_of
returns-in-77 c = read (atom_of c.args.text.now) _ _ _ _ 77 _ c.row-row.ensures c.in-77.is (grind arith) (grind arith) (grind arith) (grind arith)

pub returns-in-78 : goal.returns-in-78
unfolding row_symbols atom_of
returns-in-78 c = read (atom_of c.args.text.now) _ _ _ _ 78 _ c.row-row.ensures c.in-78.is (grind arith) (grind arith) (grind arith) (grind arith)

pub returns-in-79 : goal.returns-in-79
unfolding row_symbols atom_of
returns-in-79 c = read (atom_of c.args.text.now) _ _ _ _ 79 _ c.row-row.ensures c.in-79.is (grind arith) (grind arith) (grind arith) (grind arith)

pub returns-in-80 : goal.returns-in-80
unfolding row_symbols atom_of
returns-in-80 c = read (atom_of c.args.text.now) _ _ _ _ 80 _ c.row-row.ensures c.in-80.is (grind arith) (grind arith) (grind arith) (grind arith)

pub row-row-requires : goal.row-row-requires
row-row-requires c = node_left (ahead c.requires)

pub number-local-requires : goal.number-local-requires
unfolding row_symbols
number-local-requires c = token_due (taken 75 c.requires c.row-row.ensures c.in-75.is) c.at-at.ensures refl

pub pass-requires : goal.pass-requires
unfolding row_symbols
pass-requires c = room 1 (taken 75 c.requires c.row-row.ensures c.in-75.is).due refl

pub number-argument-requires : goal.number-argument-requires
unfolding row_symbols
number-argument-requires c = token_due (taken 76 c.requires c.row-row.ensures c.in-76.is) c.at-at.ensures refl

pub pass-requires-in-76 : goal.pass-requires-in-76
unfolding row_symbols
pass-requires-in-76 c = room 1 (taken 76 c.requires c.row-row.ensures c.in-76.is).due refl

pub number-integer-requires : goal.number-integer-requires
unfolding row_symbols
number-integer-requires c = due (taken 77 c.requires c.row-row.ensures c.in-77.is) refl

pub real-real-requires : goal.real-real-requires
unfolding row_symbols
real-real-requires c = token_due (taken 78 c.requires c.row-row.ensures c.in-78.is) c.at-at.ensures refl

pub pass-requires-in-78 : goal.pass-requires-in-78
unfolding row_symbols
pass-requires-in-78 c = room 1 (taken 78 c.requires c.row-row.ensures c.in-78.is).due refl

pub cell-cell-requires : goal.cell-cell-requires
unfolding row_symbols
cell-cell-requires c = due (taken 79 c.requires c.row-row.ensures c.in-79.is) refl

pub pass-requires-in-80 : goal.pass-requires-in-80
unfolding row_symbols
pass-requires-in-80 c = room 2 (taken 80 c.requires c.row-row.ensures c.in-80.is).due refl

pub node_number-unknown-requires : goal.node_number-unknown-requires
unfolding row_symbols
node_number-unknown-requires c = due (passed 2 (taken 80 c.requires c.row-row.ensures c.in-80.is) c.pass-in-80.ensures refl) refl

pub pass-requires-in-80-2 : goal.pass-requires-in-80-2
unfolding row_symbols
pass-requires-in-80-2 c = room 1 (behind (passed 2 (taken 80 c.requires c.row-row.ensures c.in-80.is) c.pass-in-80.ensures refl) c.node_number-unknown.ensures refl).due refl

pub unreachable-requires : goal.unreachable-requires
unfolding row_symbols
unreachable-requires c = no_other (75 ∷ 76 ∷ 77 ∷ 78 ∷ 79 ∷ 80 ∷ []) (ahead c.requires) c.row-row.ensures refl (c.in_default.in_default-own.rest.0.0.0.0.0.1, (c.in_default.in_default-own.rest.0.0.0.0.1, (c.in_default.in_default-own.rest.0.0.0.1, (c.in_default.in_default-own.rest.0.0.1, (c.in_default.in_default-own.rest.0.1, (c.in_default.in_default-own.rest.1, tt))))))

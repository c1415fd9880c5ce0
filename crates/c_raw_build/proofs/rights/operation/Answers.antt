use Rattle.std.proofs.Common.{arith, refl, [], ◌∷◌}
use Rattle.c_raw_build.specs.Reading.{row_symbols}
use Rattle.c_raw.specs.Blocks.{at_view}
use Rattle.c_raw_build.specs.RawAtoms.{operation}
use Rattle.c_raw_build.proofs.TakenRows.{read}
use Rattle.c_raw_build.proofs.DueRows.{no_other, node_left}
use Rattle.c_raw_build.proofs.DueTokens.{ahead, behind, due, taken}
use Rattle.c_raw_build.proofs.DueRows as rows
use Rattle.c_raw_build.proofs.rights.operation.Goals as goal

pub returns-in-62 : goal.returns-in-62
unfolding row_symbols operation
returns-in-62 c = read (operation c.args.text.now (at_view c.args.left)) _ _ _ _ 62 _ c.row.ensures c.in-62.is (grind arith) (grind arith) (grind arith) (grind arith)

pub returns-in-63 : goal.returns-in-63
unfolding row_symbols operation
returns-in-63 c = read (operation c.args.text.now (at_view c.args.left)) _ _ _ _ 63 _ c.row.ensures c.in-63.is (grind arith) (grind arith) (grind arith) (grind arith)

pub row-requires : goal.row-requires
row-requires c = node_left (ahead c.requires)

pub operator-operator-requires : goal.operator-operator-requires
unfolding row_symbols
operator-operator-requires c = rows.due (taken 62 c.requires c.row.ensures c.in-62.is).due refl

pub placed_atom-right-requires : goal.placed_atom-right-requires
unfolding row_symbols
placed_atom-right-requires c = due (behind (taken 62 c.requires c.row.ensures c.in-62.is) c.operator-operator.ensures refl) refl

pub unreachable-requires : goal.unreachable-requires
unfolding row_symbols
unreachable-requires c = no_other (62 ∷ 63 ∷ []) (ahead c.requires) c.row.ensures refl (c.in_default.in_default-own.rest.0.1, (c.in_default.in_default-own.rest.1, tt))

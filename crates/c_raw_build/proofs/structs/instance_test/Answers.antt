use Rattle.std.proofs.Common.{arith, refl, [], ◌∷◌}
use Rattle.c_raw_build.specs.Reading.{row_symbols}
use Rattle.c_raw_build.specs.StructParts.{has_instance_test}
use Rattle.c_raw_build.proofs.TakenRows.{read}
use Rattle.c_raw_build.proofs.DueRows.{no_other, node_left, room, taken}
use Rattle.c_raw_build.proofs.structs.instance_test.Goals as goal

pub returns-in-19 : goal.returns-in-19
unfolding row_symbols
returns-in-19 c = read has_instance_test _ _ _ _ 19 _ c.row.ensures c.in-19.is (grind arith) (grind arith) (grind arith) (grind arith)

pub returns-in-20 : goal.returns-in-20
unfolding row_symbols
returns-in-20 c = read has_instance_test _ _ _ _ 20 _ c.row.ensures c.in-20.is (grind arith) (grind arith) (grind arith) (grind arith)

pub row-requires : goal.row-requires
row-requires c = node_left c.requires

pub pass-requires : goal.pass-requires
unfolding row_symbols
pass-requires c = room 6 (taken 19 c.requires c.row.ensures c.in-19.is) refl

pub unreachable-requires : goal.unreachable-requires
unfolding row_symbols
unreachable-requires c = no_other (19 ∷ 20 ∷ []) c.requires c.row.ensures refl (c.in_default.in_default-own.rest.0.1, (c.in_default.in_default-own.rest.1, tt))

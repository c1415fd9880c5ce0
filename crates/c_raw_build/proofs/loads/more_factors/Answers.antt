use Rattle.std.proofs.Common.{arith, refl, [], ◌∷◌}
use Rattle.c_raw.specs.Blocks.{at_view}
use Rattle.c_raw_build.specs.RawTables.{more_factors}
use Rattle.c_raw_build.specs.Reading.{row_symbols}
use Rattle.c_raw_build.proofs.TakenRows.{ends, goes_on}
use Rattle.c_raw_build.proofs.DueRows.{no_other, node_left, room}
use Rattle.c_raw_build.proofs.DueTokens.{ahead, behind, due, passed, taken}
use Rattle.c_raw_build.proofs.loads.more_factors.Goals as goal

pub loop-reader-preserved : goal.loop-reader-preserved
unfolding row_symbols more_factors
loop-reader-preserved c = record {
  read = goes_on at_view (more_factors c.args.text.now) _ _ _ _ _ _ _ _ _ 109 c.loop-reader.invariant.read c.row.ensures c.in-109.is refl c.in_ok-push-in-109.ensures.items (grind arith) (grind arith) (grind arith) (grind arith) (grind arith) (grind arith);
  due = due (behind (passed 1 (taken 109 c.loop-reader.invariant.due c.row.ensures c.in-109.is) c.pass.ensures refl) c.placed_factor-next.ensures refl) refl;
}

pub returns-in-110 : goal.returns-in-110
unfolding row_symbols more_factors
returns-in-110 c = ends (more_factors c.args.text.now) _ _ _ _ _ _ 110 c.loop-reader.invariant.read c.row.ensures c.in-110.is refl (grind arith) (grind arith) (grind arith)

pub row-requires : goal.row-requires
row-requires c = node_left (ahead c.loop-reader.invariant.due)

pub pass-requires : goal.pass-requires
unfolding row_symbols
pass-requires c = room 1 (taken 109 c.loop-reader.invariant.due c.row.ensures c.in-109.is).due refl

pub placed_factor-next-requires : goal.placed_factor-next-requires
unfolding row_symbols
placed_factor-next-requires c = due (passed 1 (taken 109 c.loop-reader.invariant.due c.row.ensures c.in-109.is) c.pass.ensures refl) refl

pub unreachable-requires : goal.unreachable-requires
unfolding row_symbols
unreachable-requires c = no_other (109 ∷ 110 ∷ []) (ahead c.loop-reader.invariant.due) c.row.ensures refl (c.in_default.in_default-own.rest.0.1, (c.in_default.in_default-own.rest.1, tt))

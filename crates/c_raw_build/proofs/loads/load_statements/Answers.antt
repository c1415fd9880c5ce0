use Rattle.std.proofs.Common.{arith, refl, [], ◌∷◌}
use Rattle.c_raw_build.specs.RawTables.{load, load_statements}
use Rattle.c_raw.specs.Views.{load_view}
use Rattle.c_raw_build.specs.Reading.{row_symbols}
use Rattle.c_raw_build.proofs.TakenRows.{ends, goes_on}
use Rattle.c_raw_build.proofs.DueRows.{no_other, node_left, room}
use Rattle.c_raw_build.proofs.DueTokens.{ahead, behind, due, passed, taken}
use Rattle.c_raw_build.proofs.DueRows as rows
use Rattle.c_raw_build.proofs.loads.load_statements.Goals as goal

pub loop-reader-preserved : goal.loop-reader-preserved
unfolding row_symbols load_statements load
loop-reader-preserved c = record {
  read = goes_on load_view (load_statements c.args.text.now) _ _ _ _ _ _ _ _ _ 97 c.loop-reader.invariant.read c.row.ensures c.in-97.is refl c.in_ok-push-in-97.ensures.items (grind arith) (grind arith) (grind arith) (grind arith) (grind arith) (grind arith);
  due = due (passed 1 (behind (behind (behind (behind (taken 97 c.loop-reader.invariant.due c.row.ensures c.in-97.is) c.target-target.ensures refl) c.sign-sign.ensures refl) c.placed_factor-first.ensures refl) c.in_ok-more-in-97.ensures refl) c.pass.ensures refl) refl;
}

pub returns-in-98 : goal.returns-in-98
unfolding row_symbols load_statements
returns-in-98 c = ends (load_statements c.args.text.now) _ _ _ _ _ _ 98 c.loop-reader.invariant.read c.row.ensures c.in-98.is refl (grind arith) (grind arith) (grind arith)

pub row-requires : goal.row-requires
row-requires c = node_left (ahead c.loop-reader.invariant.due)

pub target-target-requires : goal.target-target-requires
unfolding row_symbols
target-target-requires c = due (taken 97 c.loop-reader.invariant.due c.row.ensures c.in-97.is) refl

pub sign-sign-requires : goal.sign-sign-requires
unfolding row_symbols
sign-sign-requires c = rows.due (behind (taken 97 c.loop-reader.invariant.due c.row.ensures c.in-97.is) c.target-target.ensures refl).due refl

pub placed_factor-first-requires : goal.placed_factor-first-requires
unfolding row_symbols
placed_factor-first-requires c = due (behind (behind (taken 97 c.loop-reader.invariant.due c.row.ensures c.in-97.is) c.target-target.ensures refl) c.sign-sign.ensures refl) refl

pub more_factors-requires : goal.more_factors-requires
unfolding row_symbols
more_factors-requires c = due (behind (behind (behind (taken 97 c.loop-reader.invariant.due c.row.ensures c.in-97.is) c.target-target.ensures refl) c.sign-sign.ensures refl) c.placed_factor-first.ensures refl) refl

pub pass-requires : goal.pass-requires
unfolding row_symbols
pass-requires c = room 1 (behind (behind (behind (behind (taken 97 c.loop-reader.invariant.due c.row.ensures c.in-97.is) c.target-target.ensures refl) c.sign-sign.ensures refl) c.placed_factor-first.ensures refl) c.in_ok-more-in-97.ensures refl).due refl

pub unreachable-requires : goal.unreachable-requires
unfolding row_symbols
unreachable-requires c = no_other (97 ∷ 98 ∷ []) (ahead c.loop-reader.invariant.due) c.row.ensures refl (c.in_default.in_default-own.rest.0.1, (c.in_default.in_default-own.rest.1, tt))

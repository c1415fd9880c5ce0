use Rattle.std.proofs.Common.{arith, refl, rules, [], ◌∷◌}
use Rattle.c_raw.specs.Blocks.{at_view}
use Rattle.c_raw_build.specs.Reading.{row_symbols}
use Rattle.c_raw_build.specs.RawAtoms.{values}
use Rattle.c_raw_build.proofs.TakenRows.{goes_on, ends}
use Rattle.c_raw_build.proofs.DueRows.{no_other, node_left, room}
use Rattle.c_raw_build.proofs.DueTokens.{ahead, behind, due, passed, taken, wider}
use Rattle.c_raw_build.proofs.rights.values.Goals as goal

pub loop-reader-init : goal.loop-reader-init
loop-reader-init c = record { read = search rules; due = wider c.requires refl }

pub loop-reader-preserved-in-Continue-1 : goal.loop-reader-preserved-in-Continue-1
unfolding row_symbols values
loop-reader-preserved-in-Continue-1 c = record {
  read = goes_on at_view (values c.args.text.now) _ _ _ _ _ _ _ _ _ 58 c.loop-reader.invariant.read c.row.ensures c.in-58.is refl c.in_ok-push-in-58.ensures.items (grind arith) (grind arith) (grind arith) (grind arith) (grind arith) (grind arith);
  due = due (behind (taken 58 c.loop-reader.invariant.due c.row.ensures c.in-58.is) c.placed_atom-first.ensures refl) refl;
}

pub loop-reader-preserved : goal.loop-reader-preserved
unfolding row_symbols values
loop-reader-preserved c = record {
  read = goes_on at_view (values c.args.text.now) _ _ _ _ _ _ _ _ _ 60 c.loop-reader.invariant.read c.row.ensures c.in-60.is refl c.in_ok-push-in-60.ensures.items (grind arith) (grind arith) (grind arith) (grind arith) (grind arith) (grind arith);
  due = due (behind (passed 1 (taken 60 c.loop-reader.invariant.due c.row.ensures c.in-60.is) c.pass.ensures refl) c.placed_atom-next.ensures refl) refl;
}

pub returns-in-59 : goal.returns-in-59
unfolding row_symbols values
returns-in-59 c = ends (values c.args.text.now) _ _ _ _ _ _ 59 c.loop-reader.invariant.read c.row.ensures c.in-59.is refl (grind arith) (grind arith) (grind arith)

pub returns-in-61 : goal.returns-in-61
unfolding row_symbols values
returns-in-61 c = ends (values c.args.text.now) _ _ _ _ _ _ 61 c.loop-reader.invariant.read c.row.ensures c.in-61.is refl (grind arith) (grind arith) (grind arith)

pub row-requires : goal.row-requires
row-requires c = node_left (ahead c.loop-reader.invariant.due)

pub placed_atom-first-requires : goal.placed_atom-first-requires
unfolding row_symbols
placed_atom-first-requires c = due (taken 58 c.loop-reader.invariant.due c.row.ensures c.in-58.is) refl

pub pass-requires : goal.pass-requires
unfolding row_symbols
pass-requires c = room 1 (taken 60 c.loop-reader.invariant.due c.row.ensures c.in-60.is).due refl

pub placed_atom-next-requires : goal.placed_atom-next-requires
unfolding row_symbols
placed_atom-next-requires c = due (passed 1 (taken 60 c.loop-reader.invariant.due c.row.ensures c.in-60.is) c.pass.ensures refl) refl

pub unreachable-requires : goal.unreachable-requires
unfolding row_symbols
unreachable-requires c = no_other (58 ∷ 60 ∷ 59 ∷ 61 ∷ []) (ahead c.loop-reader.invariant.due) c.row.ensures refl (c.in_default.in_default-own.rest.0.0.0.1, (c.in_default.in_default-own.rest.0.0.1, (c.in_default.in_default-own.rest.0.1, (c.in_default.in_default-own.rest.1, tt))))

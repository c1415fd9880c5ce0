use Rattle.std.proofs.Common.{arith, refl, rules, [], ◌∷◌}
use Rattle.c_raw_build.specs.RawTables.{pair_rows}
use Rattle.c_raw.specs.Views.{pair_view}
use Rattle.c_raw_build.specs.Reading.{row_symbols}
use Rattle.c_raw_build.proofs.TakenRows.{ends, goes_on, goes_past}
use Rattle.c_raw_build.proofs.DueRows.{no_other, node_left, room}
use Rattle.c_raw_build.proofs.DueTokens.{ahead, behind, due, passed, taken, wider}
use Rattle.c_raw_build.proofs.tables.pair_rows.Goals as goal

pub loop-reader-init : goal.loop-reader-init
loop-reader-init c = record { read = search rules; due = wider c.requires refl }

pub loop-reader-preserved-in-127 : goal.loop-reader-preserved-in-127
unfolding row_symbols pair_rows
loop-reader-preserved-in-127 c = record {
  read = goes_past (pair_rows c.args.text.now) _ _ _ _ _ _ 127 c.loop-reader.invariant.read c.row.ensures c.in-127.is refl (grind arith) (grind arith) (grind arith) (grind arith) (grind arith);
  due = due (passed 1 (taken 127 c.loop-reader.invariant.due c.row.ensures c.in-127.is) c.pass.ensures refl) refl;
}

pub loop-reader-preserved : goal.loop-reader-preserved
unfolding row_symbols pair_rows
loop-reader-preserved c = record {
  read = goes_on pair_view (pair_rows c.args.text.now) _ _ _ _ _ _ _ _ _ 128 c.loop-reader.invariant.read c.row.ensures c.in-128.is refl c.in_ok-push-in-128.ensures.items (grind arith) (grind arith) (grind arith) (grind arith) (grind arith) (grind arith);
  due = due (passed 2 (behind (taken 128 c.loop-reader.invariant.due c.row.ensures c.in-128.is) c.pair-next.ensures refl) c.pass-in-128.ensures refl) refl;
}

pub returns-in-129 : goal.returns-in-129
unfolding row_symbols pair_rows
returns-in-129 c = ends (pair_rows c.args.text.now) _ _ _ _ _ _ 129 c.loop-reader.invariant.read c.row.ensures c.in-129.is refl (grind arith) (grind arith) (grind arith)

pub row-requires : goal.row-requires
row-requires c = node_left (ahead c.loop-reader.invariant.due)

pub pass-requires : goal.pass-requires
unfolding row_symbols
pass-requires c = room 1 (taken 127 c.loop-reader.invariant.due c.row.ensures c.in-127.is).due refl

pub pair-next-requires : goal.pair-next-requires
unfolding row_symbols
pair-next-requires c = due (taken 128 c.loop-reader.invariant.due c.row.ensures c.in-128.is) refl

pub pass-requires-in-128 : goal.pass-requires-in-128
unfolding row_symbols
pass-requires-in-128 c = room 2 (behind (taken 128 c.loop-reader.invariant.due c.row.ensures c.in-128.is) c.pair-next.ensures refl).due refl

pub pass-requires-in-129 : goal.pass-requires-in-129
unfolding row_symbols
pass-requires-in-129 c = room 2 (taken 129 c.loop-reader.invariant.due c.row.ensures c.in-129.is).due refl

pub unreachable-requires : goal.unreachable-requires
unfolding row_symbols
unreachable-requires c = no_other (127 ∷ 128 ∷ 129 ∷ []) (ahead c.loop-reader.invariant.due) c.row.ensures refl (c.in_default.in_default-own.rest.0.0.1, (c.in_default.in_default-own.rest.0.1, (c.in_default.in_default-own.rest.1, tt)))

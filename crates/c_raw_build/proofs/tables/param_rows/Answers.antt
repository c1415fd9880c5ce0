use Rattle.std.proofs.Common.{arith, refl, rules, [], ◌∷◌}
use Rattle.c_raw_build.specs.RawTables.{param_row, param_rows}
use Rattle.c_raw.specs.Views.{param_view}
use Rattle.c_raw_build.specs.Reading.{row_symbols}
use Rattle.c_raw_build.proofs.TakenRows.{element_read, ends, goes_past}
use Rattle.c_raw_build.proofs.DueRows.{no_other, node_left, room}
use Rattle.c_raw_build.proofs.DueTokens.{ahead, due, passed, taken, wider}
use Rattle.c_raw_build.proofs.tables.param_rows.Goals as goal

pub loop-reader-init : goal.loop-reader-init
loop-reader-init c = record { read = search rules; due = wider c.requires refl }

pub loop-reader-preserved-in-130 : goal.loop-reader-preserved-in-130
unfolding row_symbols param_rows
loop-reader-preserved-in-130 c = record {
  read = goes_past (param_rows c.args.text.now) _ _ _ _ _ _ 130 c.loop-reader.invariant.read c.row.ensures c.in-130.is refl (grind arith) (grind arith) (grind arith) (grind arith) (grind arith);
  due = due (passed 1 (taken 130 c.loop-reader.invariant.due c.row.ensures c.in-130.is) c.pass.ensures refl) refl;
}

pub loop-reader-preserved : goal.loop-reader-preserved
unfolding row_symbols param_rows
loop-reader-preserved c = record {
  read = element_read param_view (param_rows c.args.text.now) (param_row c.args.text.now) _ _ _ _ _ _ _ _ 131 c.loop-reader.invariant.read c.row.ensures c.in-131.is refl c.in_ok-push-in-131.ensures.items c.in_ok-param-in-131.ensures.read;
  due = wider c.in_ok-param-in-131.ensures.due refl;
}

pub returns-in-132 : goal.returns-in-132
unfolding row_symbols param_rows
returns-in-132 c = ends (param_rows c.args.text.now) _ _ _ _ _ _ 132 c.loop-reader.invariant.read c.row.ensures c.in-132.is refl (grind arith) (grind arith) (grind arith)

pub row-requires : goal.row-requires
row-requires c = node_left (ahead c.loop-reader.invariant.due)

pub pass-requires : goal.pass-requires
unfolding row_symbols
pass-requires c = room 1 (taken 130 c.loop-reader.invariant.due c.row.ensures c.in-130.is).due refl

pub param_row-requires : goal.param_row-requires
unfolding row_symbols
param_row-requires c = taken 131 c.loop-reader.invariant.due c.row.ensures c.in-131.is

pub pass-requires-in-132 : goal.pass-requires-in-132
unfolding row_symbols
pass-requires-in-132 c = room 2 (taken 132 c.loop-reader.invariant.due c.row.ensures c.in-132.is).due refl

pub unreachable-requires : goal.unreachable-requires
unfolding row_symbols
unreachable-requires c = no_other (130 ∷ 131 ∷ 132 ∷ []) (ahead c.loop-reader.invariant.due) c.row.ensures refl (c.in_default.in_default-own.rest.0.0.1, (c.in_default.in_default-own.rest.0.1, (c.in_default.in_default-own.rest.1, tt)))

use Rattle.std.proofs.Common.{arith, refl, rules, [], ◌∷◌}
use Rattle.c_raw_build.specs.RawTables.{node_row, node_rows}
use Rattle.c_raw.specs.Views.{node_view}
use Rattle.c_raw_build.specs.Reading.{row_symbols}
use Rattle.c_raw_build.proofs.TakenRows.{element_read, ends, goes_past}
use Rattle.c_raw_build.proofs.DueRows.{no_other, node_left, room}
use Rattle.c_raw_build.proofs.DueTokens.{ahead, due, passed, taken, wider}
use Rattle.c_raw_build.proofs.tables.node_rows.Goals as goal

pub loop-reader-init : goal.loop-reader-init
loop-reader-init c = record { read = search rules; due = wider c.requires refl }

pub loop-reader-preserved-in-112 : goal.loop-reader-preserved-in-112
unfolding row_symbols node_rows
loop-reader-preserved-in-112 c = record {
  read = goes_past (node_rows c.args.text.now) _ _ _ _ _ _ 112 c.loop-reader.invariant.read c.row.ensures c.in-112.is refl (grind arith) (grind arith) (grind arith) (grind arith) (grind arith);
  due = due (passed 1 (taken 112 c.loop-reader.invariant.due c.row.ensures c.in-112.is) c.pass.ensures refl) refl;
}

pub loop-reader-preserved : goal.loop-reader-preserved
unfolding row_symbols node_rows
loop-reader-preserved c = record {
  read = element_read node_view (node_rows c.args.text.now) (node_row c.args.text.now) _ _ _ _ _ _ _ _ 113 c.loop-reader.invariant.read c.row.ensures c.in-113.is refl c.in_ok-push-in-113.ensures.items c.in_ok-node-in-113.ensures.read;
  due = wider c.in_ok-node-in-113.ensures.due refl;
}

pub returns-in-114 : goal.returns-in-114
unfolding row_symbols node_rows
returns-in-114 c = ends (node_rows c.args.text.now) _ _ _ _ _ _ 114 c.loop-reader.invariant.read c.row.ensures c.in-114.is refl (grind arith) (grind arith) (grind arith)

pub row-requires : goal.row-requires
row-requires c = node_left (ahead c.loop-reader.invariant.due)

pub pass-requires : goal.pass-requires
unfolding row_symbols
pass-requires c = room 1 (taken 112 c.loop-reader.invariant.due c.row.ensures c.in-112.is).due refl

pub node_row-requires : goal.node_row-requires
unfolding row_symbols
node_row-requires c = taken 113 c.loop-reader.invariant.due c.row.ensures c.in-113.is

pub pass-requires-in-114 : goal.pass-requires-in-114
unfolding row_symbols
pass-requires-in-114 c = room 2 (taken 114 c.loop-reader.invariant.due c.row.ensures c.in-114.is).due refl

pub unreachable-requires : goal.unreachable-requires
unfolding row_symbols
unreachable-requires c = no_other (112 ∷ 113 ∷ 114 ∷ []) (ahead c.loop-reader.invariant.due) c.row.ensures refl (c.in_default.in_default-own.rest.0.0.1, (c.in_default.in_default-own.rest.0.1, (c.in_default.in_default-own.rest.1, tt)))

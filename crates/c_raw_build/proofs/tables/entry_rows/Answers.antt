use Rattle.std.proofs.Common.{arith, refl, rules, [], ◌∷◌}
use Rattle.c_raw_build.specs.RawTables.{entry_row, entry_rows}
use Rattle.c_raw.specs.Views.{entry_view}
use Rattle.c_raw_build.specs.Reading.{row_symbols}
use Rattle.c_raw_build.proofs.TakenRows.{element_read, ends, goes_past}
use Rattle.c_raw_build.proofs.DueRows.{no_other, node_left, room}
use Rattle.c_raw_build.proofs.DueTokens.{ahead, due, passed, taken, wider}
use Rattle.c_raw_build.proofs.tables.entry_rows.Goals as goal

pub loop-reader-init : goal.loop-reader-init
loop-reader-init c = record { read = search rules; due = wider c.requires refl }

pub loop-reader-preserved-in-115 : goal.loop-reader-preserved-in-115
unfolding row_symbols entry_rows
loop-reader-preserved-in-115 c = record {
  read = goes_past (entry_rows c.args.text.now) _ _ _ _ _ _ 115 c.loop-reader.invariant.read c.row.ensures c.in-115.is refl (grind arith) (grind arith) (grind arith) (grind arith) (grind arith);
  due = due (passed 1 (taken 115 c.loop-reader.invariant.due c.row.ensures c.in-115.is) c.pass.ensures refl) refl;
}

pub loop-reader-preserved : goal.loop-reader-preserved
unfolding row_symbols entry_rows
loop-reader-preserved c = record {
  read = element_read entry_view (entry_rows c.args.text.now) (entry_row c.args.text.now) _ _ _ _ _ _ _ _ 116 c.loop-reader.invariant.read c.row.ensures c.in-116.is refl c.in_ok-push-in-116.ensures.items c.entry_row-entry.ensures.read;
  due = wider c.entry_row-entry.ensures.due refl;
}

pub returns-in-117 : goal.returns-in-117
unfolding row_symbols entry_rows
returns-in-117 c = ends (entry_rows c.args.text.now) _ _ _ _ _ _ 117 c.loop-reader.invariant.read c.row.ensures c.in-117.is refl (grind arith) (grind arith) (grind arith)

pub row-requires : goal.row-requires
row-requires c = node_left (ahead c.loop-reader.invariant.due)

pub pass-requires : goal.pass-requires
unfolding row_symbols
pass-requires c = room 1 (taken 115 c.loop-reader.invariant.due c.row.ensures c.in-115.is).due refl

pub entry_row-entry-requires : goal.entry_row-entry-requires
unfolding row_symbols
entry_row-entry-requires c = taken 116 c.loop-reader.invariant.due c.row.ensures c.in-116.is

pub pass-requires-in-117 : goal.pass-requires-in-117
unfolding row_symbols
pass-requires-in-117 c = room 2 (taken 117 c.loop-reader.invariant.due c.row.ensures c.in-117.is).due refl

pub unreachable-requires : goal.unreachable-requires
unfolding row_symbols
unreachable-requires c = no_other (115 ∷ 116 ∷ 117 ∷ []) (ahead c.loop-reader.invariant.due) c.row.ensures refl (c.in_default.in_default-own.rest.0.0.1, (c.in_default.in_default-own.rest.0.1, (c.in_default.in_default-own.rest.1, tt)))

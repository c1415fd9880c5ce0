use Rattle.std.proofs.Common.{arith, refl, rules, [], ◌∷◌}
use Rattle.c_raw_build.specs.RawTables.{descriptor, descriptors}
use Rattle.c_raw.specs.Views.{descriptor_view}
use Rattle.c_raw_build.specs.Reading.{row_symbols}
use Rattle.c_raw_build.proofs.TakenRows.{element_read, ends, goes_past}
use Rattle.c_raw_build.proofs.DueRows.{no_other, node_left, room}
use Rattle.c_raw_build.proofs.DueTokens.{ahead, due, passed, taken, wider}
use Rattle.c_raw_build.proofs.descriptors.descriptors.Goals as goal

pub loop-reader-init : goal.loop-reader-init
loop-reader-init c = record { read = search rules; due = wider c.requires refl }

pub loop-reader-preserved-in-141 : goal.loop-reader-preserved-in-141
unfolding row_symbols descriptors
loop-reader-preserved-in-141 c = record {
  read = goes_past (descriptors c.args.text.now) _ _ _ _ _ _ 141 c.loop-reader.invariant.read c.row.ensures c.in-141.is refl (grind arith) (grind arith) (grind arith) (grind arith) (grind arith);
  due = due (passed 1 (taken 141 c.loop-reader.invariant.due c.row.ensures c.in-141.is) c.pass.ensures refl) refl;
}

pub loop-reader-preserved : goal.loop-reader-preserved
unfolding row_symbols descriptors
loop-reader-preserved c = record {
  read = element_read descriptor_view (descriptors c.args.text.now) (descriptor c.args.text.now) _ _ _ _ _ _ _ _ 142 c.loop-reader.invariant.read c.row.ensures c.in-142.is refl c.in_ok-push-in-142.ensures.items c.in_ok-next-in-142.ensures.read;
  due = wider c.in_ok-next-in-142.ensures.due refl;
}

pub returns-in-143 : goal.returns-in-143
unfolding row_symbols descriptors
returns-in-143 c = ends (descriptors c.args.text.now) _ _ _ _ _ _ 143 c.loop-reader.invariant.read c.row.ensures c.in-143.is refl (grind arith) (grind arith) (grind arith)

pub row-requires : goal.row-requires
row-requires c = node_left (ahead c.loop-reader.invariant.due)

pub pass-requires : goal.pass-requires
unfolding row_symbols
pass-requires c = room 1 (taken 141 c.loop-reader.invariant.due c.row.ensures c.in-141.is).due refl

pub descriptor-requires : goal.descriptor-requires
unfolding row_symbols
descriptor-requires c = taken 142 c.loop-reader.invariant.due c.row.ensures c.in-142.is

pub pass-requires-in-143 : goal.pass-requires-in-143
unfolding row_symbols
pass-requires-in-143 c = room 2 (taken 143 c.loop-reader.invariant.due c.row.ensures c.in-143.is).due refl

pub unreachable-requires : goal.unreachable-requires
unfolding row_symbols
unreachable-requires c = no_other (141 ∷ 142 ∷ 143 ∷ []) (ahead c.loop-reader.invariant.due) c.row.ensures refl (c.in_default.in_default-own.rest.0.0.1, (c.in_default.in_default-own.rest.0.1, (c.in_default.in_default-own.rest.1, tt)))

use Rattle.std.proofs.Common.{arith, refl, rules, [], ◌∷◌}
use Rattle.c_raw_build.specs.RawFiles.{argument, arguments}
use Rattle.c_raw.specs.Views.{argument_view}
use Rattle.c_raw_build.specs.Reading.{row_symbols}
use Rattle.c_raw_build.proofs.TakenRows.{ends, goes_on}
use Rattle.c_raw_build.proofs.DueRows.{no_other, node_left, room}
use Rattle.c_raw_build.proofs.DueTokens.{ahead, behind, due, passed, taken, token_due, wider}
use Rattle.c_raw_build.proofs.DueRows as rows
use Rattle.c_raw_build.proofs.structs.arguments.Goals as goal

pub loop-reader-init : goal.loop-reader-init
loop-reader-init c = record { read = search rules; due = wider c.requires refl }

pub loop-reader-preserved-in-Continue-1 : goal.loop-reader-preserved-in-Continue-1
unfolding row_symbols arguments argument
loop-reader-preserved-in-Continue-1 c = record {
  read = goes_on argument_view (arguments c.args.text.now) _ _ _ _ _ _ _ _ _ 13 c.loop-reader.invariant.read c.row.ensures c.in-13.is refl c.in_ok-push-in-13.ensures.items (grind arith) (grind arith) (grind arith) (grind arith) (grind arith) (grind arith);
  due = due (passed 1 (behind (taken 13 c.loop-reader.invariant.due c.row.ensures c.in-13.is) c.ty-ty.ensures refl) c.pass.ensures refl) refl;
}

pub loop-reader-preserved : goal.loop-reader-preserved
unfolding row_symbols arguments argument
loop-reader-preserved c = record {
  read = goes_on argument_view (arguments c.args.text.now) _ _ _ _ _ _ _ _ _ 15 c.loop-reader.invariant.read c.row.ensures c.in-15.is refl c.in_ok-push-in-15.ensures.items (grind arith) (grind arith) (grind arith) (grind arith) (grind arith) (grind arith);
  due = due (passed 1 (behind (passed 1 (taken 15 c.loop-reader.invariant.due c.row.ensures c.in-15.is) c.pass-in-15.ensures refl) c.ty-ty-in-15.ensures refl) c.pass-in-15-2.ensures refl) refl;
}

pub returns-in-14 : goal.returns-in-14
unfolding row_symbols arguments
returns-in-14 c = ends (arguments c.args.text.now) _ _ _ _ _ _ 14 c.loop-reader.invariant.read c.row.ensures c.in-14.is refl (grind arith) (grind arith) (grind arith)

pub returns-in-16 : goal.returns-in-16
unfolding row_symbols arguments
returns-in-16 c = ends (arguments c.args.text.now) _ _ _ _ _ _ 16 c.loop-reader.invariant.read c.row.ensures c.in-16.is refl (grind arith) (grind arith) (grind arith)

pub row-requires : goal.row-requires
row-requires c = node_left (ahead c.loop-reader.invariant.due)

pub ty-ty-requires : goal.ty-ty-requires
unfolding row_symbols
ty-ty-requires c = rows.due (taken 13 c.loop-reader.invariant.due c.row.ensures c.in-13.is).due refl

pub number-value-requires : goal.number-value-requires
unfolding row_symbols
number-value-requires c = token_due (behind (taken 13 c.loop-reader.invariant.due c.row.ensures c.in-13.is) c.ty-ty.ensures refl) c.at-at.ensures refl

pub pass-requires : goal.pass-requires
unfolding row_symbols
pass-requires c = room 1 (behind (taken 13 c.loop-reader.invariant.due c.row.ensures c.in-13.is) c.ty-ty.ensures refl).due refl

pub pass-requires-in-15 : goal.pass-requires-in-15
unfolding row_symbols
pass-requires-in-15 c = room 1 (taken 15 c.loop-reader.invariant.due c.row.ensures c.in-15.is).due refl

pub ty-ty-requires-in-15 : goal.ty-ty-requires-in-15
unfolding row_symbols
ty-ty-requires-in-15 c = rows.due (passed 1 (taken 15 c.loop-reader.invariant.due c.row.ensures c.in-15.is) c.pass-in-15.ensures refl).due refl

pub number-value-requires-in-15 : goal.number-value-requires-in-15
unfolding row_symbols
number-value-requires-in-15 c = token_due (behind (passed 1 (taken 15 c.loop-reader.invariant.due c.row.ensures c.in-15.is) c.pass-in-15.ensures refl) c.ty-ty-in-15.ensures refl) c.at-at-in-15.ensures refl

pub pass-requires-in-15-2 : goal.pass-requires-in-15-2
unfolding row_symbols
pass-requires-in-15-2 c = room 1 (behind (passed 1 (taken 15 c.loop-reader.invariant.due c.row.ensures c.in-15.is) c.pass-in-15.ensures refl) c.ty-ty-in-15.ensures refl).due refl

pub unreachable-requires : goal.unreachable-requires
unfolding row_symbols
unreachable-requires c = no_other (13 ∷ 15 ∷ 14 ∷ 16 ∷ []) (ahead c.loop-reader.invariant.due) c.row.ensures refl (c.in_default.in_default-own.rest.0.0.0.1, (c.in_default.in_default-own.rest.0.0.1, (c.in_default.in_default-own.rest.0.1, (c.in_default.in_default-own.rest.1, tt))))

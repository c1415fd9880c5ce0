use Rattle.std.proofs.Common.{arith, refl, [], ◌∷◌}
use Rattle.c_raw_build.specs.RawFiles.{raw_field, fields}
use Rattle.c_raw.specs.Views.{field_view}
use Rattle.c_raw_build.specs.Reading.{row_symbols}
use Rattle.c_raw_build.proofs.TakenRows.{ends, goes_on}
use Rattle.c_raw_build.proofs.DueRows.{no_other, node_left, room}
use Rattle.c_raw_build.proofs.DueTokens.{ahead, behind, due, passed, taken, token_due}
use Rattle.c_raw_build.proofs.DueRows as rows
use Rattle.c_raw_build.proofs.structs.fields.Goals as goal

pub loop-reader-preserved : goal.loop-reader-preserved
unfolding row_symbols fields raw_field
loop-reader-preserved c = record {
  read = goes_on field_view (fields c.args.text.now) _ _ _ _ _ _ _ _ _ 6 c.loop-reader.invariant.read c.row.ensures c.in-6.is refl c.in_ok-push-in-6.ensures.items (grind arith) (grind arith) (grind arith) (grind arith) (grind arith) (grind arith);
  due = due (passed 2 (behind (taken 6 c.loop-reader.invariant.due c.row.ensures c.in-6.is) c.ty-ty.ensures refl) c.pass.ensures refl) refl;
}

pub returns-in-7 : goal.returns-in-7
unfolding row_symbols fields
returns-in-7 c = ends (fields c.args.text.now) _ _ _ _ _ _ 7 c.loop-reader.invariant.read c.row.ensures c.in-7.is refl (grind arith) (grind arith) (grind arith)

pub row-requires : goal.row-requires
row-requires c = node_left (ahead c.loop-reader.invariant.due)

pub ty-ty-requires : goal.ty-ty-requires
unfolding row_symbols
ty-ty-requires c = rows.due (taken 6 c.loop-reader.invariant.due c.row.ensures c.in-6.is).due refl

pub field-value-requires : goal.field-value-requires
unfolding row_symbols
field-value-requires c = token_due (behind (taken 6 c.loop-reader.invariant.due c.row.ensures c.in-6.is) c.ty-ty.ensures refl) c.at-at.ensures refl

pub pass-requires : goal.pass-requires
unfolding row_symbols
pass-requires c = room 2 (behind (taken 6 c.loop-reader.invariant.due c.row.ensures c.in-6.is) c.ty-ty.ensures refl).due refl

pub unreachable-requires : goal.unreachable-requires
unfolding row_symbols
unreachable-requires c = no_other (6 ∷ 7 ∷ []) (ahead c.loop-reader.invariant.due) c.row.ensures refl (c.in_default.in_default-own.rest.0.1, (c.in_default.in_default-own.rest.1, tt))

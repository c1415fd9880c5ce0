use Rattle.std.proofs.Common.{arith, refl, [], ◌∷◌}
use Rattle.c_raw_build.specs.RawFiles.{access_row, access}
use Rattle.c_raw.specs.Views.{access_view}
use Rattle.c_raw_build.specs.Reading.{row_symbols}
use Rattle.c_raw_build.proofs.TakenRows.{element_read, ends}
use Rattle.c_raw_build.proofs.DueRows.{no_other, node_left}
use Rattle.c_raw_build.proofs.DueTokens.{ahead, due, taken, wider}
use Rattle.c_raw_build.proofs.structs.access_rows.Goals as goal

pub loop-reader-preserved : goal.loop-reader-preserved
unfolding row_symbols access
loop-reader-preserved c = record {
  read = element_read access_view (access c.args.text.now) (access_row c.args.text.now) _ _ _ _ _ _ _ _ 17 c.loop-reader.invariant.read c.row.ensures c.in-17.is refl c.in_ok-push-in-17.ensures.items c.access_row-access.ensures.read;
  due = wider c.access_row-access.ensures.due refl;
}

pub returns-in-18 : goal.returns-in-18
unfolding row_symbols access
returns-in-18 c = ends (access c.args.text.now) _ _ _ _ _ _ 18 c.loop-reader.invariant.read c.row.ensures c.in-18.is refl (grind arith) (grind arith) (grind arith)

pub row-requires : goal.row-requires
row-requires c = node_left (ahead c.loop-reader.invariant.due)

pub access_row-access-requires : goal.access_row-access-requires
unfolding row_symbols
access_row-access-requires c = taken 17 c.loop-reader.invariant.due c.row.ensures c.in-17.is

pub unreachable-requires : goal.unreachable-requires
unfolding row_symbols
unreachable-requires c = no_other (17 ∷ 18 ∷ []) (ahead c.loop-reader.invariant.due) c.row.ensures refl (c.in_default.in_default-own.rest.0.1, (c.in_default.in_default-own.rest.1, tt))

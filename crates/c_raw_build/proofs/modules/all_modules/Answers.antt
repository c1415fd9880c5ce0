use Rattle.std.proofs.Common.{arith, refl, [], ◌∷◌}
use Rattle.c_raw.specs.Views.{module_view, module_has_bodies}
use Rattle.c_raw_build.specs.Reading.{row_symbols}
use Rattle.c_raw_build.specs.RawFiles.{modules}
use Rattle.c_raw_build.proofs.TakenRows.{goes_on, ends, all_pass}
use Rattle.c_raw_build.proofs.DueRows.{no_other, node_left}
use Rattle.c_raw_build.proofs.DueTokens.{ahead, behind, due, taken}
use Rattle.c_raw_build.proofs.modules.all_modules.Goals as goal

pub loop-reader-preserved : goal.loop-reader-preserved
unfolding row_symbols modules
loop-reader-preserved c = record {
  due = due (behind (taken 2 c.loop-reader.invariant.due c.row.ensures c.in-2.is) c.in_ok-next-in-2.ensures.read refl) refl;
  read = goes_on module_view (modules c.args.text.now) _ _ _ _ _ _ _ _ _ 2 c.loop-reader.invariant.read c.row.ensures c.in-2.is refl c.in_ok-push-in-2.ensures.items (grind arith) (grind arith) (grind arith) (grind arith) (grind arith) (grind arith);
  bodies = all_pass module_has_bodies _ _ c.in_ok-next-in-2.next c.in_ok-push-in-2.ensures.items c.loop-reader.invariant.bodies c.in_ok-next-in-2.ensures.bodies;
}

pub returns-in-3-clause-read : goal.returns-in-3-clause-read
unfolding row_symbols modules
returns-in-3-clause-read c = ends (modules c.args.text.now) _ _ _ _ _ _ 3 c.loop-reader.invariant.read c.row.ensures c.in-3.is refl (grind arith) (grind arith) (grind arith)

pub row-requires : goal.row-requires
row-requires c = node_left (ahead c.loop-reader.invariant.due)

pub module-requires : goal.module-requires
unfolding row_symbols
module-requires c = due (taken 2 c.loop-reader.invariant.due c.row.ensures c.in-2.is) refl

pub unreachable-requires : goal.unreachable-requires
unfolding row_symbols
unreachable-requires c = no_other (2 ∷ 3 ∷ []) (ahead c.loop-reader.invariant.due) c.row.ensures refl (c.in_default.in_default-own.rest.0.1, (c.in_default.in_default-own.rest.1, tt))

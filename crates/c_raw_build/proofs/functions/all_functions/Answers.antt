use Rattle.std.proofs.Common.{arith, refl, ◌∙◌, rules, [], ◌∷◌}
use Rattle.c_raw.specs.Blocks.{is_body}
use Rattle.c_raw.specs.Views.{function_view}
use Rattle.c_raw.specs.declared.file.RawFunction.{RawFunction}
use Rattle.c_raw_build.specs.Reading.{row_symbols}
use Rattle.c_raw_build.specs.RawFiles.{function, functions, access}
use Rattle.c_raw_build.proofs.TakenRows.{goes_past, element_read, ends, same_behind, same_behind_element, all_pass}
use Rattle.c_raw_build.proofs.DueRows.{no_other, node_left, room}
use Rattle.c_raw_build.proofs.DueTokens.{ahead, behind, due, passed, taken, wider}
use Rattle.c_raw_build.proofs.DueRows as rows
use Rattle.c_raw_build.proofs.functions.all_functions.Goals as goal

pub loop-reader-init : goal.loop-reader-init
loop-reader-init c = record { read = search rules; due = wider c.requires refl; access = search rules; bodies = search rules }

pub loop-reader-preserved-in-10 : goal.loop-reader-preserved-in-10
unfolding row_symbols functions access
loop-reader-preserved-in-10 c = record {
  due = due (passed 1 (taken 10 c.loop-reader.invariant.due c.row.ensures c.in-10.is) c.pass.ensures refl) refl;
  read = goes_past (functions c.args.text.now) _ _ _ _ _ _ 10 c.loop-reader.invariant.read c.row.ensures c.in-10.is refl (grind arith) (grind arith) (grind arith) (grind arith) (grind arith);
  access = same_behind (access c.args.text.now) _ _ c.pass.new.self _ 10 c.row.ensures c.in-10.is refl (grind arith) (grind arith) ∙ c.loop-reader.invariant.access;
  bodies = c.loop-reader.invariant.bodies;
}

pub loop-reader-preserved : goal.loop-reader-preserved
unfolding row_symbols functions access
loop-reader-preserved c = record {
  due = wider c.in_ok-next-in-11.ensures.due refl;
  read = element_read function_view (functions c.args.text.now) (function c.args.text.now) _ _ _ _ _ _ _ _ 11 c.loop-reader.invariant.read c.row.ensures c.in-11.is refl c.in_ok-push-in-11.ensures.items c.in_ok-next-in-11.ensures.read;
  access = same_behind_element (access c.args.text.now) (function c.args.text.now) _ _ _ _ 11 _ c.row.ensures c.in-11.is refl c.in_ok-next-in-11.ensures.read ∙ c.loop-reader.invariant.access;
  bodies = all_pass (λ f. is_body (RawFunction.body f)) _ _ c.in_ok-next-in-11.next c.in_ok-push-in-11.ensures.items c.loop-reader.invariant.bodies c.in_ok-next-in-11.ensures.body;
}

pub returns-in-12-clause-read : goal.returns-in-12-clause-read
unfolding row_symbols functions
returns-in-12-clause-read c = ends (functions c.args.text.now) _ _ _ _ _ _ 12 c.loop-reader.invariant.read c.row.ensures c.in-12.is refl (grind arith) (grind arith) (grind arith)

pub returns-in-12-clause-access : goal.returns-in-12-clause-access
unfolding row_symbols access
returns-in-12-clause-access c =
    c.in_ok-access-in-12.ensures.value_is ∙ same_behind (access c.args.text.now) _ _ c.model.new.reader _ 12 c.row.ensures c.in-12.is refl (grind arith) (grind arith) ∙ c.loop-reader.invariant.access

pub row-requires : goal.row-requires
row-requires c = node_left (ahead c.loop-reader.invariant.due)

pub pass-requires : goal.pass-requires
unfolding row_symbols
pass-requires c = room 1 (taken 10 c.loop-reader.invariant.due c.row.ensures c.in-10.is).due refl

pub function-requires : goal.function-requires
unfolding row_symbols
function-requires c = taken 11 c.loop-reader.invariant.due c.row.ensures c.in-11.is

pub pass-requires-in-12 : goal.pass-requires-in-12
unfolding row_symbols
pass-requires-in-12 c = room 19 (taken 12 c.loop-reader.invariant.due c.row.ensures c.in-12.is).due refl

pub instance-requires : goal.instance-requires
unfolding row_symbols
instance-requires c = rows.due (passed 19 (taken 12 c.loop-reader.invariant.due c.row.ensures c.in-12.is) c.pass-in-12.ensures refl).due refl

pub model-requires : goal.model-requires
unfolding row_symbols
model-requires c = rows.due (behind (passed 19 (taken 12 c.loop-reader.invariant.due c.row.ensures c.in-12.is) c.pass-in-12.ensures refl) c.instance.ensures refl).due refl

pub access_rows-requires : goal.access_rows-requires
unfolding row_symbols
access_rows-requires c = due (behind (behind (passed 19 (taken 12 c.loop-reader.invariant.due c.row.ensures c.in-12.is) c.pass-in-12.ensures refl) c.instance.ensures refl) c.model.ensures refl) refl

pub pass-requires-in-12-2 : goal.pass-requires-in-12-2
unfolding row_symbols
pass-requires-in-12-2 c = room 4 (behind (behind (behind (passed 19 (taken 12 c.loop-reader.invariant.due c.row.ensures c.in-12.is) c.pass-in-12.ensures refl) c.instance.ensures refl) c.model.ensures refl) c.in_ok-access-in-12.ensures refl).due refl

pub unreachable-requires : goal.unreachable-requires
unfolding row_symbols
unreachable-requires c = no_other (10 ∷ 11 ∷ 12 ∷ []) (ahead c.loop-reader.invariant.due) c.row.ensures refl (c.in_default.in_default-own.rest.0.0.1, (c.in_default.in_default-own.rest.0.1, (c.in_default.in_default-own.rest.1, tt)))

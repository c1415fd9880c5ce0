use Rattle.std.proofs.Common.{arith, ap, ◌∙◌, refl}
use Rattle.c_raw.specs.Blocks.{is_body}
use Rattle.c_raw_build.specs.Reading.{row_symbols}
use Rattle.c_raw_build.specs.RawFiles.{function}
use Rattle.c_raw_build.proofs.TakenRows.{element}
use Rattle.c_raw_build.proofs.DueRows.{room}
use Rattle.c_raw_build.proofs.DueTokens.{behind, due, passed, token_due}
use Rattle.c_raw_build.proofs.DueRows as rows
use Rattle.c_raw_build.proofs.functions.function.Goals as goal

pub returns-clause-read : goal.returns-clause-read
unfolding row_symbols function
returns-clause-read c =
    let here = c.in_ok-body.ensures.block c.args.text.now _ c.in_ok-list.ensures.value_is in
    element (function c.args.text.now) 11 _ _ _ (grind arith) (grind arith) (grind arith) (grind arith) (grind arith) (grind arith)

pub returns-clause-body : goal.returns-clause-body
returns-clause-body c = ap is_body c.new-2.ensures ∙ c.in_ok-body.ensures.body c.args.text.now _ c.in_ok-list.ensures.value_is

pub returns-clause-due : goal.returns-clause-due
unfolding row_symbols
returns-clause-due c = due (passed 1 (passed 1 (behind (passed 1 (behind (passed 2 (behind (passed 2 (behind c.requires c.ty-result.ensures refl) c.pass.ensures refl) c.in_ok-arguments.ensures refl) c.pass-2.ensures refl) c.in_ok-list.ensures refl) c.pass-3.ensures refl) c.placed_atom-returned.ensures refl) c.pass-4.ensures refl) c.pass-5.ensures refl) refl

pub ty-result-requires : goal.ty-result-requires
unfolding row_symbols
ty-result-requires c = rows.due c.requires.due refl

pub function-value-requires : goal.function-value-requires
unfolding row_symbols
function-value-requires c = token_due (behind c.requires c.ty-result.ensures refl) c.at-at.ensures refl

pub pass-requires : goal.pass-requires
unfolding row_symbols
pass-requires c = room 2 (behind c.requires c.ty-result.ensures refl).due refl

pub arguments-requires : goal.arguments-requires
unfolding row_symbols
arguments-requires c = due (passed 2 (behind c.requires c.ty-result.ensures refl) c.pass.ensures refl) refl

pub pass-requires-2 : goal.pass-requires-2
unfolding row_symbols
pass-requires-2 c = room 2 (behind (passed 2 (behind c.requires c.ty-result.ensures refl) c.pass.ensures refl) c.in_ok-arguments.ensures refl).due refl

pub statements-requires : goal.statements-requires
unfolding row_symbols
statements-requires c = due (passed 2 (behind (passed 2 (behind c.requires c.ty-result.ensures refl) c.pass.ensures refl) c.in_ok-arguments.ensures refl) c.pass-2.ensures refl) refl

pub pass-requires-3 : goal.pass-requires-3
unfolding row_symbols
pass-requires-3 c = room 1 (behind (passed 2 (behind (passed 2 (behind c.requires c.ty-result.ensures refl) c.pass.ensures refl) c.in_ok-arguments.ensures refl) c.pass-2.ensures refl) c.in_ok-list.ensures refl).due refl

pub placed_atom-returned-requires : goal.placed_atom-returned-requires
unfolding row_symbols
placed_atom-returned-requires c = due (passed 1 (behind (passed 2 (behind (passed 2 (behind c.requires c.ty-result.ensures refl) c.pass.ensures refl) c.in_ok-arguments.ensures refl) c.pass-2.ensures refl) c.in_ok-list.ensures refl) c.pass-3.ensures refl) refl

pub pass-requires-4 : goal.pass-requires-4
unfolding row_symbols
pass-requires-4 c = room 1 (behind (passed 1 (behind (passed 2 (behind (passed 2 (behind c.requires c.ty-result.ensures refl) c.pass.ensures refl) c.in_ok-arguments.ensures refl) c.pass-2.ensures refl) c.in_ok-list.ensures refl) c.pass-3.ensures refl) c.placed_atom-returned.ensures refl).due refl

pub pass-requires-5 : goal.pass-requires-5
unfolding row_symbols
pass-requires-5 c = room 1 (passed 1 (behind (passed 1 (behind (passed 2 (behind (passed 2 (behind c.requires c.ty-result.ensures refl) c.pass.ensures refl) c.in_ok-arguments.ensures refl) c.pass-2.ensures refl) c.in_ok-list.ensures refl) c.pass-3.ensures refl) c.placed_atom-returned.ensures refl) c.pass-4.ensures refl).due refl

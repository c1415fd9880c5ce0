use Rattle.std.proofs.Common.{arith, refl}
use Rattle.c_raw_build.specs.Reading.{row_symbols}
use Rattle.c_raw_build.specs.RawTables.{param_row}
use Rattle.c_raw_build.proofs.TakenRows.{element}
use Rattle.c_raw_build.proofs.DueRows.{room}
use Rattle.c_raw_build.proofs.DueTokens.{behind, due, passed, token_due}
use Rattle.c_raw_build.proofs.DueRows as rows
use Rattle.c_raw_build.proofs.tables.param_row.Goals as goal

pub returns-clause-read : goal.returns-clause-read
unfolding row_symbols param_row
returns-clause-read c = element (param_row c.args.text.now) 131 _ _ _ (grind arith) (grind arith) (grind arith) (grind arith) (grind arith) (grind arith)

pub returns-clause-due : goal.returns-clause-due
unfolding row_symbols
returns-clause-due c = due (passed 6 (behind (passed 1 (behind (passed 4 (passed 4 (passed 3 (behind (passed 4 (behind (passed 1 (passed 9 c.requires c.pass.ensures refl) c.pass-2.ensures refl) c.in_ok-names.ensures refl) c.pass-3.ensures refl) c.placed_number-num_alias.ensures refl) c.pass-4.ensures refl) c.pass-5.ensures refl) c.pass-6.ensures refl) c.is_integer_param-integer.ensures refl) c.pass-7.ensures refl) c.param_kind-kind.ensures refl) c.pass-8.ensures refl) refl

pub pass-requires : goal.pass-requires
unfolding row_symbols
pass-requires c = room 9 c.requires.due refl

pub pass-requires-2 : goal.pass-requires-2
unfolding row_symbols
pass-requires-2 c = room 1 (passed 9 c.requires c.pass.ensures refl).due refl

pub names-requires-clause-due : goal.names-requires-clause-due
unfolding row_symbols
names-requires-clause-due c = due (passed 1 (passed 9 c.requires c.pass.ensures refl) c.pass-2.ensures refl) refl

pub names-requires-clause-own : goal.names-requires-clause-own
unfolding row_symbols
names-requires-clause-own c = token_due (passed 9 c.requires c.pass.ensures refl) c.at-first.ensures refl

pub pass-requires-3 : goal.pass-requires-3
unfolding row_symbols
pass-requires-3 c = room 4 (behind (passed 1 (passed 9 c.requires c.pass.ensures refl) c.pass-2.ensures refl) c.in_ok-names.ensures refl).due refl

pub placed_number-num_alias-requires : goal.placed_number-num_alias-requires
unfolding row_symbols
placed_number-num_alias-requires c = due (passed 4 (behind (passed 1 (passed 9 c.requires c.pass.ensures refl) c.pass-2.ensures refl) c.in_ok-names.ensures refl) c.pass-3.ensures refl) refl

pub pass-requires-4 : goal.pass-requires-4
unfolding row_symbols
pass-requires-4 c = room 3 (behind (passed 4 (behind (passed 1 (passed 9 c.requires c.pass.ensures refl) c.pass-2.ensures refl) c.in_ok-names.ensures refl) c.pass-3.ensures refl) c.placed_number-num_alias.ensures refl).due refl

pub string-requires : goal.string-requires
unfolding row_symbols
string-requires c = token_due (passed 3 (behind (passed 4 (behind (passed 1 (passed 9 c.requires c.pass.ensures refl) c.pass-2.ensures refl) c.in_ok-names.ensures refl) c.pass-3.ensures refl) c.placed_number-num_alias.ensures refl) c.pass-4.ensures refl) c.at.ensures refl

pub pass-requires-5 : goal.pass-requires-5
unfolding row_symbols
pass-requires-5 c = room 4 (passed 3 (behind (passed 4 (behind (passed 1 (passed 9 c.requires c.pass.ensures refl) c.pass-2.ensures refl) c.in_ok-names.ensures refl) c.pass-3.ensures refl) c.placed_number-num_alias.ensures refl) c.pass-4.ensures refl).due refl

pub string-requires-2 : goal.string-requires-2
unfolding row_symbols
string-requires-2 c = token_due (passed 4 (passed 3 (behind (passed 4 (behind (passed 1 (passed 9 c.requires c.pass.ensures refl) c.pass-2.ensures refl) c.in_ok-names.ensures refl) c.pass-3.ensures refl) c.placed_number-num_alias.ensures refl) c.pass-4.ensures refl) c.pass-5.ensures refl) c.at-2.ensures refl

pub pass-requires-6 : goal.pass-requires-6
unfolding row_symbols
pass-requires-6 c = room 4 (passed 4 (passed 3 (behind (passed 4 (behind (passed 1 (passed 9 c.requires c.pass.ensures refl) c.pass-2.ensures refl) c.in_ok-names.ensures refl) c.pass-3.ensures refl) c.placed_number-num_alias.ensures refl) c.pass-4.ensures refl) c.pass-5.ensures refl).due refl

pub is_integer_param-integer-requires : goal.is_integer_param-integer-requires
unfolding row_symbols
is_integer_param-integer-requires c = rows.due (passed 4 (passed 4 (passed 3 (behind (passed 4 (behind (passed 1 (passed 9 c.requires c.pass.ensures refl) c.pass-2.ensures refl) c.in_ok-names.ensures refl) c.pass-3.ensures refl) c.placed_number-num_alias.ensures refl) c.pass-4.ensures refl) c.pass-5.ensures refl) c.pass-6.ensures refl).due refl

pub pass-requires-7 : goal.pass-requires-7
unfolding row_symbols
pass-requires-7 c = room 1 (behind (passed 4 (passed 4 (passed 3 (behind (passed 4 (behind (passed 1 (passed 9 c.requires c.pass.ensures refl) c.pass-2.ensures refl) c.in_ok-names.ensures refl) c.pass-3.ensures refl) c.placed_number-num_alias.ensures refl) c.pass-4.ensures refl) c.pass-5.ensures refl) c.pass-6.ensures refl) c.is_integer_param-integer.ensures refl).due refl

pub param_kind-kind-requires : goal.param_kind-kind-requires
unfolding row_symbols
param_kind-kind-requires c = rows.due (passed 1 (behind (passed 4 (passed 4 (passed 3 (behind (passed 4 (behind (passed 1 (passed 9 c.requires c.pass.ensures refl) c.pass-2.ensures refl) c.in_ok-names.ensures refl) c.pass-3.ensures refl) c.placed_number-num_alias.ensures refl) c.pass-4.ensures refl) c.pass-5.ensures refl) c.pass-6.ensures refl) c.is_integer_param-integer.ensures refl) c.pass-7.ensures refl).due refl

pub pass-requires-8 : goal.pass-requires-8
unfolding row_symbols
pass-requires-8 c = room 6 (behind (passed 1 (behind (passed 4 (passed 4 (passed 3 (behind (passed 4 (behind (passed 1 (passed 9 c.requires c.pass.ensures refl) c.pass-2.ensures refl) c.in_ok-names.ensures refl) c.pass-3.ensures refl) c.placed_number-num_alias.ensures refl) c.pass-4.ensures refl) c.pass-5.ensures refl) c.pass-6.ensures refl) c.is_integer_param-integer.ensures refl) c.pass-7.ensures refl) c.param_kind-kind.ensures refl).due refl

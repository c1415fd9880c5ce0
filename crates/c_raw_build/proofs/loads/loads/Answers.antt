use Rattle.std.proofs.Common.{arith, refl}
use Rattle.c_raw_build.specs.Reading.{row_symbols}
use Rattle.c_raw_build.specs.RawTables.{loads}
use Rattle.c_raw_build.proofs.TakenRows.{read}
use Rattle.c_raw_build.proofs.DueRows.{node_left, only}
use Rattle.c_raw_build.proofs.DueTokens.{ahead, behind, due, taken}
use Rattle.c_raw_build.proofs.loads.loads.Goals as goal

pub returns : goal.returns
unfolding row_symbols loads
returns c = read (loads c.args.text.now) _ _ _ _ 89 _ c.take.ensures refl (grind arith) (grind arith) (grind arith) (grind arith)

pub take-requires-clause-there : goal.take-requires-clause-there
take-requires-clause-there c = node_left (ahead c.requires)

pub take-requires-clause-row : goal.take-requires-clause-row
unfolding row_symbols
take-requires-clause-row c = only 89 (ahead c.requires) refl

pub load_function-requires : goal.load_function-requires
unfolding row_symbols
load_function-requires c = due (taken 89 c.requires c.take.ensures refl) refl

pub load_function-requires-2 : goal.load_function-requires-2
unfolding row_symbols
load_function-requires-2 c = due (behind (taken 89 c.requires c.take.ensures refl) c.in_ok-residual_resist.ensures refl) refl

pub load_function-requires-3 : goal.load_function-requires-3
unfolding row_symbols
load_function-requires-3 c = due (behind (behind (taken 89 c.requires c.take.ensures refl) c.in_ok-residual_resist.ensures refl) c.in_ok-residual_react.ensures refl) refl

pub load_function-requires-4 : goal.load_function-requires-4
unfolding row_symbols
load_function-requires-4 c = due (behind (behind (behind (taken 89 c.requires c.take.ensures refl) c.in_ok-residual_resist.ensures refl) c.in_ok-residual_react.ensures refl) c.in_ok-jacobian_resist.ensures refl) refl

pub load_function-requires-5 : goal.load_function-requires-5
unfolding row_symbols
load_function-requires-5 c = due (behind (behind (behind (behind (taken 89 c.requires c.take.ensures refl) c.in_ok-residual_resist.ensures refl) c.in_ok-residual_react.ensures refl) c.in_ok-jacobian_resist.ensures refl) c.in_ok-jacobian_react.ensures refl) refl

pub load_function-requires-6 : goal.load_function-requires-6
unfolding row_symbols
load_function-requires-6 c = due (behind (behind (behind (behind (behind (taken 89 c.requires c.take.ensures refl) c.in_ok-residual_resist.ensures refl) c.in_ok-residual_react.ensures refl) c.in_ok-jacobian_resist.ensures refl) c.in_ok-jacobian_react.ensures refl) c.in_ok-jacobian_tran.ensures refl) refl

pub load_function-requires-7 : goal.load_function-requires-7
unfolding row_symbols
load_function-requires-7 c = due (behind (behind (behind (behind (behind (behind (taken 89 c.requires c.take.ensures refl) c.in_ok-residual_resist.ensures refl) c.in_ok-residual_react.ensures refl) c.in_ok-jacobian_resist.ensures refl) c.in_ok-jacobian_react.ensures refl) c.in_ok-jacobian_tran.ensures refl) c.in_ok-spice_rhs_dc.ensures refl) refl

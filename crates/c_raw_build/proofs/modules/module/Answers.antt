use Rattle.std.proofs.Common.{arith, refl}
use Rattle.c_raw_build.specs.Reading.{row_symbols}
use Rattle.c_raw_build.specs.RawFiles.{raw_module}
use Rattle.c_raw_build.specs.StructParts.{structs_of}
use Rattle.c_raw_build.specs.TableParts.{tables_of}
use Rattle.c_raw_build.proofs.TakenRows.{read}
use Rattle.c_raw_build.proofs.DueRows.{node_left, only}
use Rattle.c_raw_build.proofs.DueTokens.{ahead, all_there, behind, due, taken}
use Rattle.c_raw_build.proofs.modules.module.Goals as goal

pub returns-clause-read : goal.returns-clause-read
unfolding row_symbols raw_module structs_of tables_of
returns-clause-read c = read (raw_module c.args.text.now) _ _ _ _ 4 _ c.take.ensures refl (grind arith) (grind arith) (grind arith) (grind arith)

pub returns-clause-bodies : goal.returns-clause-bodies
returns-clause-bodies c = grind arith

pub take-requires-clause-there : goal.take-requires-clause-there
take-requires-clause-there c = node_left (ahead c.requires)

pub take-requires-clause-row : goal.take-requires-clause-row
unfolding row_symbols
take-requires-clause-row c = only 4 (ahead c.requires) refl

pub two_structs-requires : goal.two_structs-requires
unfolding row_symbols
two_structs-requires c = due (taken 4 c.requires c.take.ensures refl) refl

pub all_functions-requires : goal.all_functions-requires
unfolding row_symbols
all_functions-requires c = due (behind (taken 4 c.requires c.take.ensures refl) c.in_ok-structs.ensures refl) refl

pub setup_model-requires : goal.setup_model-requires
unfolding row_symbols
setup_model-requires c = due (behind (behind (taken 4 c.requires c.take.ensures refl) c.in_ok-structs.ensures refl) c.in_ok-callable.ensures.read refl) refl

pub setup_instance-requires : goal.setup_instance-requires
unfolding row_symbols
setup_instance-requires c = due (behind (behind (behind (taken 4 c.requires c.take.ensures refl) c.in_ok-structs.ensures refl) c.in_ok-callable.ensures.read refl) c.in_ok-setup_model.ensures.read refl) refl

pub eval-requires : goal.eval-requires
unfolding row_symbols
eval-requires c = due (behind (behind (behind (behind (taken 4 c.requires c.take.ensures refl) c.in_ok-structs.ensures refl) c.in_ok-callable.ensures.read refl) c.in_ok-setup_model.ensures.read refl) c.in_ok-setup_instance.ensures.read refl) refl

pub loads-requires : goal.loads-requires
unfolding row_symbols
loads-requires c = due (behind (behind (behind (behind (behind (taken 4 c.requires c.take.ensures refl) c.in_ok-structs.ensures refl) c.in_ok-callable.ensures.read refl) c.in_ok-setup_model.ensures.read refl) c.in_ok-setup_instance.ensures.read refl) c.in_ok-eval.ensures.read refl) refl

pub four_tables-requires : goal.four_tables-requires
unfolding row_symbols
four_tables-requires c = due (behind (behind (behind (behind (behind (behind (taken 4 c.requires c.take.ensures refl) c.in_ok-structs.ensures refl) c.in_ok-callable.ensures.read refl) c.in_ok-setup_model.ensures.read refl) c.in_ok-setup_instance.ensures.read refl) c.in_ok-eval.ensures.read refl) c.in_ok-loads.ensures refl) refl

pub module_numbers-requires : goal.module_numbers-requires
unfolding row_symbols
module_numbers-requires c = all_there c.at-first.result c.at.result (taken 4 c.requires c.take.ensures refl) c.at-first.ensures (grind arith)

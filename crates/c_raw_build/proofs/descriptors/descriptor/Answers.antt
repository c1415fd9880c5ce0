use Rattle.std.proofs.Common.{arith, refl}
use Rattle.c_raw_build.specs.Reading.{row_symbols}
use Rattle.c_raw_build.specs.RawTables.{descriptor}
use Rattle.c_raw_build.proofs.TakenRows.{element}
use Rattle.c_raw_build.proofs.DueRows.{room}
use Rattle.c_raw_build.proofs.DueTokens.{behind, due, front_there, passed, token_due}
use Rattle.c_raw_build.proofs.descriptors.descriptor.Goals as goal

pub returns-clause-read : goal.returns-clause-read
unfolding row_symbols descriptor
returns-clause-read c = element (descriptor c.args.text.now) 142 _ _ _ (grind arith) (grind arith) (grind arith) (grind arith) (grind arith) (grind arith)

pub returns-clause-due : goal.returns-clause-due
unfolding row_symbols
returns-clause-due c = due (passed 106 (behind (passed 3 (behind (passed 3 (behind (passed 24 (behind (passed 7 (behind (passed 7 (behind (passed 3 (behind (passed 4 (passed 2 c.requires c.pass.ensures refl) c.pass-2.ensures refl) c.placed_number-num_nodes.ensures refl) c.pass-3.ensures refl) c.placed_number-num_terminals.ensures refl) c.pass-4.ensures refl) c.placed_number-num_entries.ensures refl) c.pass-5.ensures refl) c.placed_number-num_collapsible.ensures refl) c.pass-6.ensures refl) c.placed_number-num_params.ensures refl) c.pass-7.ensures refl) c.placed_number-num_instance_params.ensures refl) c.pass-8.ensures refl) c.placed_number-num_opvars.ensures refl) c.pass-9.ensures refl) refl

pub pass-requires : goal.pass-requires
unfolding row_symbols
pass-requires c = room 2 c.requires.due refl

pub string-requires : goal.string-requires
unfolding row_symbols
string-requires c = token_due (passed 2 c.requires c.pass.ensures refl) c.at.ensures refl

pub pass-requires-2 : goal.pass-requires-2
unfolding row_symbols
pass-requires-2 c = room 4 (passed 2 c.requires c.pass.ensures refl).due refl

pub placed_number-num_nodes-requires : goal.placed_number-num_nodes-requires
unfolding row_symbols
placed_number-num_nodes-requires c = due (passed 4 (passed 2 c.requires c.pass.ensures refl) c.pass-2.ensures refl) refl

pub pass-requires-3 : goal.pass-requires-3
unfolding row_symbols
pass-requires-3 c = room 3 (behind (passed 4 (passed 2 c.requires c.pass.ensures refl) c.pass-2.ensures refl) c.placed_number-num_nodes.ensures refl).due refl

pub placed_number-num_terminals-requires : goal.placed_number-num_terminals-requires
unfolding row_symbols
placed_number-num_terminals-requires c = due (passed 3 (behind (passed 4 (passed 2 c.requires c.pass.ensures refl) c.pass-2.ensures refl) c.placed_number-num_nodes.ensures refl) c.pass-3.ensures refl) refl

pub pass-requires-4 : goal.pass-requires-4
unfolding row_symbols
pass-requires-4 c = room 7 (behind (passed 3 (behind (passed 4 (passed 2 c.requires c.pass.ensures refl) c.pass-2.ensures refl) c.placed_number-num_nodes.ensures refl) c.pass-3.ensures refl) c.placed_number-num_terminals.ensures refl).due refl

pub placed_number-num_entries-requires : goal.placed_number-num_entries-requires
unfolding row_symbols
placed_number-num_entries-requires c = due (passed 7 (behind (passed 3 (behind (passed 4 (passed 2 c.requires c.pass.ensures refl) c.pass-2.ensures refl) c.placed_number-num_nodes.ensures refl) c.pass-3.ensures refl) c.placed_number-num_terminals.ensures refl) c.pass-4.ensures refl) refl

pub pass-requires-5 : goal.pass-requires-5
unfolding row_symbols
pass-requires-5 c = room 7 (behind (passed 7 (behind (passed 3 (behind (passed 4 (passed 2 c.requires c.pass.ensures refl) c.pass-2.ensures refl) c.placed_number-num_nodes.ensures refl) c.pass-3.ensures refl) c.placed_number-num_terminals.ensures refl) c.pass-4.ensures refl) c.placed_number-num_entries.ensures refl).due refl

pub placed_number-num_collapsible-requires : goal.placed_number-num_collapsible-requires
unfolding row_symbols
placed_number-num_collapsible-requires c = due (passed 7 (behind (passed 7 (behind (passed 3 (behind (passed 4 (passed 2 c.requires c.pass.ensures refl) c.pass-2.ensures refl) c.placed_number-num_nodes.ensures refl) c.pass-3.ensures refl) c.placed_number-num_terminals.ensures refl) c.pass-4.ensures refl) c.placed_number-num_entries.ensures refl) c.pass-5.ensures refl) refl

pub pass-requires-6 : goal.pass-requires-6
unfolding row_symbols
pass-requires-6 c = room 24 (behind (passed 7 (behind (passed 7 (behind (passed 3 (behind (passed 4 (passed 2 c.requires c.pass.ensures refl) c.pass-2.ensures refl) c.placed_number-num_nodes.ensures refl) c.pass-3.ensures refl) c.placed_number-num_terminals.ensures refl) c.pass-4.ensures refl) c.placed_number-num_entries.ensures refl) c.pass-5.ensures refl) c.placed_number-num_collapsible.ensures refl).due refl

pub placed_number-num_params-requires : goal.placed_number-num_params-requires
unfolding row_symbols
placed_number-num_params-requires c = due (passed 24 (behind (passed 7 (behind (passed 7 (behind (passed 3 (behind (passed 4 (passed 2 c.requires c.pass.ensures refl) c.pass-2.ensures refl) c.placed_number-num_nodes.ensures refl) c.pass-3.ensures refl) c.placed_number-num_terminals.ensures refl) c.pass-4.ensures refl) c.placed_number-num_entries.ensures refl) c.pass-5.ensures refl) c.placed_number-num_collapsible.ensures refl) c.pass-6.ensures refl) refl

pub pass-requires-7 : goal.pass-requires-7
unfolding row_symbols
pass-requires-7 c = room 3 (behind (passed 24 (behind (passed 7 (behind (passed 7 (behind (passed 3 (behind (passed 4 (passed 2 c.requires c.pass.ensures refl) c.pass-2.ensures refl) c.placed_number-num_nodes.ensures refl) c.pass-3.ensures refl) c.placed_number-num_terminals.ensures refl) c.pass-4.ensures refl) c.placed_number-num_entries.ensures refl) c.pass-5.ensures refl) c.placed_number-num_collapsible.ensures refl) c.pass-6.ensures refl) c.placed_number-num_params.ensures refl).due refl

pub placed_number-num_instance_params-requires : goal.placed_number-num_instance_params-requires
unfolding row_symbols
placed_number-num_instance_params-requires c = due (passed 3 (behind (passed 24 (behind (passed 7 (behind (passed 7 (behind (passed 3 (behind (passed 4 (passed 2 c.requires c.pass.ensures refl) c.pass-2.ensures refl) c.placed_number-num_nodes.ensures refl) c.pass-3.ensures refl) c.placed_number-num_terminals.ensures refl) c.pass-4.ensures refl) c.placed_number-num_entries.ensures refl) c.pass-5.ensures refl) c.placed_number-num_collapsible.ensures refl) c.pass-6.ensures refl) c.placed_number-num_params.ensures refl) c.pass-7.ensures refl) refl

pub pass-requires-8 : goal.pass-requires-8
unfolding row_symbols
pass-requires-8 c = room 3 (behind (passed 3 (behind (passed 24 (behind (passed 7 (behind (passed 7 (behind (passed 3 (behind (passed 4 (passed 2 c.requires c.pass.ensures refl) c.pass-2.ensures refl) c.placed_number-num_nodes.ensures refl) c.pass-3.ensures refl) c.placed_number-num_terminals.ensures refl) c.pass-4.ensures refl) c.placed_number-num_entries.ensures refl) c.pass-5.ensures refl) c.placed_number-num_collapsible.ensures refl) c.pass-6.ensures refl) c.placed_number-num_params.ensures refl) c.pass-7.ensures refl) c.placed_number-num_instance_params.ensures refl).due refl

pub placed_number-num_opvars-requires : goal.placed_number-num_opvars-requires
unfolding row_symbols
placed_number-num_opvars-requires c = due (passed 3 (behind (passed 3 (behind (passed 24 (behind (passed 7 (behind (passed 7 (behind (passed 3 (behind (passed 4 (passed 2 c.requires c.pass.ensures refl) c.pass-2.ensures refl) c.placed_number-num_nodes.ensures refl) c.pass-3.ensures refl) c.placed_number-num_terminals.ensures refl) c.pass-4.ensures refl) c.placed_number-num_entries.ensures refl) c.pass-5.ensures refl) c.placed_number-num_collapsible.ensures refl) c.pass-6.ensures refl) c.placed_number-num_params.ensures refl) c.pass-7.ensures refl) c.placed_number-num_instance_params.ensures refl) c.pass-8.ensures refl) refl

pub pass-requires-9 : goal.pass-requires-9
unfolding row_symbols
pass-requires-9 c = room 106 (behind (passed 3 (behind (passed 3 (behind (passed 24 (behind (passed 7 (behind (passed 7 (behind (passed 3 (behind (passed 4 (passed 2 c.requires c.pass.ensures refl) c.pass-2.ensures refl) c.placed_number-num_nodes.ensures refl) c.pass-3.ensures refl) c.placed_number-num_terminals.ensures refl) c.pass-4.ensures refl) c.placed_number-num_entries.ensures refl) c.pass-5.ensures refl) c.placed_number-num_collapsible.ensures refl) c.pass-6.ensures refl) c.placed_number-num_params.ensures refl) c.pass-7.ensures refl) c.placed_number-num_instance_params.ensures refl) c.pass-8.ensures refl) c.placed_number-num_opvars.ensures refl).due refl

pub module_numbers-requires : goal.module_numbers-requires
unfolding row_symbols
module_numbers-requires c = front_there c.at-first.result c.at-2.result c.requires c.at-first.ensures (grind arith)

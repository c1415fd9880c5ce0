use Rattle.std.proofs.Common.{arith, refl}
use Rattle.c_raw_build.specs.Reading.{row_symbols}
use Rattle.c_raw_build.specs.TableParts.{tables_of}
use Rattle.c_raw_build.proofs.TakenRows.{read}
use Rattle.c_raw_build.proofs.DueRows.{node_left, only, room}
use Rattle.c_raw_build.proofs.DueTokens.{ahead, behind, due, passed, taken}
use Rattle.c_raw_build.proofs.tables.four_tables.Goals as goal

pub returns : goal.returns
unfolding row_symbols tables_of
returns c = read (tables_of c.args.text.now) _ _ _ _ 111 _ c.take.ensures refl (grind arith) (grind arith) (grind arith) (grind arith)

pub take-requires-clause-there : goal.take-requires-clause-there
take-requires-clause-there c = node_left (ahead c.requires)

pub take-requires-clause-row : goal.take-requires-clause-row
unfolding row_symbols
take-requires-clause-row c = only 111 (ahead c.requires) refl

pub pass-requires : goal.pass-requires
unfolding row_symbols
pass-requires c = room 6 (taken 111 c.requires c.take.ensures refl).due refl

pub node_rows-requires : goal.node_rows-requires
unfolding row_symbols
node_rows-requires c = due (passed 6 (taken 111 c.requires c.take.ensures refl) c.pass.ensures refl) refl

pub pass-requires-2 : goal.pass-requires-2
unfolding row_symbols
pass-requires-2 c = room 8 (behind (passed 6 (taken 111 c.requires c.take.ensures refl) c.pass.ensures refl) c.in_ok-nodes.ensures refl).due refl

pub entry_rows-requires : goal.entry_rows-requires
unfolding row_symbols
entry_rows-requires c = due (passed 8 (behind (passed 6 (taken 111 c.requires c.take.ensures refl) c.pass.ensures refl) c.in_ok-nodes.ensures refl) c.pass-2.ensures refl) refl

pub pass-requires-3 : goal.pass-requires-3
unfolding row_symbols
pass-requires-3 c = room 8 (behind (passed 8 (behind (passed 6 (taken 111 c.requires c.take.ensures refl) c.pass.ensures refl) c.in_ok-nodes.ensures refl) c.pass-2.ensures refl) c.in_ok-entries.ensures refl).due refl

pub pair_rows-requires : goal.pair_rows-requires
unfolding row_symbols
pair_rows-requires c = due (passed 8 (behind (passed 8 (behind (passed 6 (taken 111 c.requires c.take.ensures refl) c.pass.ensures refl) c.in_ok-nodes.ensures refl) c.pass-2.ensures refl) c.in_ok-entries.ensures refl) c.pass-3.ensures refl) refl

pub pass-requires-4 : goal.pass-requires-4
unfolding row_symbols
pass-requires-4 c = room 8 (behind (passed 8 (behind (passed 8 (behind (passed 6 (taken 111 c.requires c.take.ensures refl) c.pass.ensures refl) c.in_ok-nodes.ensures refl) c.pass-2.ensures refl) c.in_ok-entries.ensures refl) c.pass-3.ensures refl) c.in_ok-collapse.ensures refl).due refl

pub param_rows-requires : goal.param_rows-requires
unfolding row_symbols
param_rows-requires c = due (passed 8 (behind (passed 8 (behind (passed 8 (behind (passed 6 (taken 111 c.requires c.take.ensures refl) c.pass.ensures refl) c.in_ok-nodes.ensures refl) c.pass-2.ensures refl) c.in_ok-entries.ensures refl) c.pass-3.ensures refl) c.in_ok-collapse.ensures refl) c.pass-4.ensures refl) refl

pub pass-requires-5 : goal.pass-requires-5
unfolding row_symbols
pass-requires-5 c = room 2 (behind (passed 8 (behind (passed 8 (behind (passed 8 (behind (passed 6 (taken 111 c.requires c.take.ensures refl) c.pass.ensures refl) c.in_ok-nodes.ensures refl) c.pass-2.ensures refl) c.in_ok-entries.ensures refl) c.pass-3.ensures refl) c.in_ok-collapse.ensures refl) c.pass-4.ensures refl) c.in_ok-params.ensures refl).due refl

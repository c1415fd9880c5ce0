use Rattle.std.proofs.Common.{arith, refl}
use Rattle.c_raw_build.specs.Reading.{row_symbols}
use Rattle.c_raw_build.specs.RawTables.{node_row}
use Rattle.c_raw_build.proofs.TakenRows.{element}
use Rattle.c_raw_build.proofs.DueRows.{room}
use Rattle.c_raw_build.proofs.DueTokens.{behind, due, passed, token_due}
use Rattle.c_raw_build.proofs.tables.node_row.Goals as goal

pub returns-clause-read : goal.returns-clause-read
unfolding row_symbols node_row
returns-clause-read c = element (node_row c.args.text.now) 113 _ _ _ (grind arith) (grind arith) (grind arith) (grind arith) (grind arith) (grind arith)

pub returns-clause-due : goal.returns-clause-due
unfolding row_symbols
returns-clause-due c = due (passed 2 (behind (passed 12 (behind (passed 8 (behind (passed 8 (passed 4 (passed 4 (passed 2 c.requires c.pass.ensures refl) c.pass-2.ensures refl) c.pass-3.ensures refl) c.pass-4.ensures refl) c.named_field-resist.ensures refl) c.pass-5.ensures refl) c.named_field-react.ensures refl) c.pass-6.ensures refl) c.number-is_flow.ensures refl) c.pass-7.ensures refl) refl

pub pass-requires : goal.pass-requires
unfolding row_symbols
pass-requires c = room 2 c.requires.due refl

pub string-requires : goal.string-requires
unfolding row_symbols
string-requires c = token_due (passed 2 c.requires c.pass.ensures refl) c.at.ensures refl

pub pass-requires-2 : goal.pass-requires-2
unfolding row_symbols
pass-requires-2 c = room 4 (passed 2 c.requires c.pass.ensures refl).due refl

pub string-requires-2 : goal.string-requires-2
unfolding row_symbols
string-requires-2 c = token_due (passed 4 (passed 2 c.requires c.pass.ensures refl) c.pass-2.ensures refl) c.at-2.ensures refl

pub pass-requires-3 : goal.pass-requires-3
unfolding row_symbols
pass-requires-3 c = room 4 (passed 4 (passed 2 c.requires c.pass.ensures refl) c.pass-2.ensures refl).due refl

pub string-requires-3 : goal.string-requires-3
unfolding row_symbols
string-requires-3 c = token_due (passed 4 (passed 4 (passed 2 c.requires c.pass.ensures refl) c.pass-2.ensures refl) c.pass-3.ensures refl) c.at-3.ensures refl

pub pass-requires-4 : goal.pass-requires-4
unfolding row_symbols
pass-requires-4 c = room 8 (passed 4 (passed 4 (passed 2 c.requires c.pass.ensures refl) c.pass-2.ensures refl) c.pass-3.ensures refl).due refl

pub named_field-resist-requires : goal.named_field-resist-requires
unfolding row_symbols
named_field-resist-requires c = due (passed 8 (passed 4 (passed 4 (passed 2 c.requires c.pass.ensures refl) c.pass-2.ensures refl) c.pass-3.ensures refl) c.pass-4.ensures refl) refl

pub pass-requires-5 : goal.pass-requires-5
unfolding row_symbols
pass-requires-5 c = room 8 (behind (passed 8 (passed 4 (passed 4 (passed 2 c.requires c.pass.ensures refl) c.pass-2.ensures refl) c.pass-3.ensures refl) c.pass-4.ensures refl) c.named_field-resist.ensures refl).due refl

pub named_field-react-requires : goal.named_field-react-requires
unfolding row_symbols
named_field-react-requires c = due (passed 8 (behind (passed 8 (passed 4 (passed 4 (passed 2 c.requires c.pass.ensures refl) c.pass-2.ensures refl) c.pass-3.ensures refl) c.pass-4.ensures refl) c.named_field-resist.ensures refl) c.pass-5.ensures refl) refl

pub pass-requires-6 : goal.pass-requires-6
unfolding row_symbols
pass-requires-6 c = room 12 (behind (passed 8 (behind (passed 8 (passed 4 (passed 4 (passed 2 c.requires c.pass.ensures refl) c.pass-2.ensures refl) c.pass-3.ensures refl) c.pass-4.ensures refl) c.named_field-resist.ensures refl) c.pass-5.ensures refl) c.named_field-react.ensures refl).due refl

pub number-is_flow-requires : goal.number-is_flow-requires
unfolding row_symbols
number-is_flow-requires c = due (passed 12 (behind (passed 8 (behind (passed 8 (passed 4 (passed 4 (passed 2 c.requires c.pass.ensures refl) c.pass-2.ensures refl) c.pass-3.ensures refl) c.pass-4.ensures refl) c.named_field-resist.ensures refl) c.pass-5.ensures refl) c.named_field-react.ensures refl) c.pass-6.ensures refl) refl

pub pass-requires-7 : goal.pass-requires-7
unfolding row_symbols
pass-requires-7 c = room 2 (behind (passed 12 (behind (passed 8 (behind (passed 8 (passed 4 (passed 4 (passed 2 c.requires c.pass.ensures refl) c.pass-2.ensures refl) c.pass-3.ensures refl) c.pass-4.ensures refl) c.named_field-resist.ensures refl) c.pass-5.ensures refl) c.named_field-react.ensures refl) c.pass-6.ensures refl) c.number-is_flow.ensures refl).due refl

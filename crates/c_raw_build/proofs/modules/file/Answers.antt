use Rattle.std.proofs.Common.{arith, refl}
use Rattle.c_raw_build.specs.Reading.{row_symbols}
use Rattle.c_raw_build.specs.RawFiles.{file}
use Rattle.c_raw_build.specs.FileParts.{exports_of}
use Rattle.c_raw_build.proofs.TakenRows.{read}
use Rattle.c_raw_build.proofs.DueRows.{node_left, only, room}
use Rattle.c_raw_build.proofs.DueTokens.{ahead, behind, due, passed, taken}
use Rattle.c_raw_build.proofs.DueRows as rows
use Rattle.c_raw_build.proofs.modules.file.Goals as goal

pub returns-clause-read : goal.returns-clause-read
unfolding row_symbols file exports_of
returns-clause-read c = read (file c.args.text.now) _ _ _ _ 0 _ c.take.ensures refl (grind arith) (grind arith) (grind arith) (grind arith)

pub take-requires-clause-there : goal.take-requires-clause-there
take-requires-clause-there c = node_left (ahead c.requires)

pub take-requires-clause-row : goal.take-requires-clause-row
unfolding row_symbols
take-requires-clause-row c = only 0 (ahead c.requires) refl

pub pass-requires : goal.pass-requires
unfolding row_symbols
pass-requires c = room 5 (taken 0 c.requires c.take.ensures refl).due refl

pub help-requires : goal.help-requires
unfolding row_symbols
help-requires c = rows.due (passed 5 (taken 0 c.requires c.take.ensures refl) c.pass.ensures refl).due refl

pub all_modules-requires : goal.all_modules-requires
unfolding row_symbols
all_modules-requires c = due (behind (passed 5 (taken 0 c.requires c.take.ensures refl) c.pass.ensures refl) c.help.ensures refl) refl

pub exported-requires : goal.exported-requires
unfolding row_symbols
exported-requires c = due (behind (behind (passed 5 (taken 0 c.requires c.take.ensures refl) c.pass.ensures refl) c.help.ensures refl) c.in_ok-modules.ensures.read refl) refl

use Rattle.std.proofs.Common.{refl}
use Rattle.c_raw_build.specs.Reading.{row_symbols}
use Rattle.c_raw_build.proofs.DueRows.{room}
use Rattle.c_raw_build.proofs.DueTokens.{behind, due}
use Rattle.c_raw_build.proofs.DueRows as rows
use Rattle.c_raw_build.proofs.loads.load_body.Goals as goal

pub instance-requires : goal.instance-requires
unfolding row_symbols
instance-requires c = rows.due c.requires.due refl

pub load_statements-requires : goal.load_statements-requires
unfolding row_symbols
load_statements-requires c = due (behind c.requires c.instance.ensures refl) refl

pub pass-requires : goal.pass-requires
unfolding row_symbols
pass-requires c = room 1 (behind (behind c.requires c.instance.ensures refl) c.in_ok-list.ensures refl).due refl

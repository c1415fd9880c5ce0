use Rattle.std.proofs.Common.{refl}
use Rattle.c_raw_build.proofs.Statements.{simple_head}
use Rattle.c_raw_build.proofs.DueTokens.{behind}
use Rattle.c_raw_build.proofs.bodies.simple_head.Goals as goal

pub returns-clause-read : goal.returns-clause-read
returns-clause-read c = simple_head _ _ _ _ c.in_ok-statement.ensures

pub returns-clause-due : goal.returns-clause-due
returns-clause-due c = λ open_blocks d. behind d c.in_ok-statement.ensures.reads refl

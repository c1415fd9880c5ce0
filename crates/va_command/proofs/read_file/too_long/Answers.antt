use Rattle.std.proofs.Common.{refl}
use Rattle.va_command.proofs.CFiles.{long_refused}
use Rattle.va_command.proofs.read_file.too_long.Goals as goal

pub returns-clause-fault : goal.returns-clause-fault
returns-clause-fault c = λ fault e. long_refused c.args.bytes.now fault _ _ c.requires refl refl e

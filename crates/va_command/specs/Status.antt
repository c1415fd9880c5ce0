-- The numbers with which the program ends.
use Rattle.std.specs.Prelude.{ℕ}
use Rattle.va_command.specs.declared.status.Status.{Status}
use Rattle.va_command.specs.declared.status.Status.TheVariants.{Done, Refused, Usage, NoFile, ReadFault, WriteFault, NoMemory}

-- 6 is kept for an evaluation that is undefined
abbrev pub number_of : Status → ℕ
number_of Done = 0
number_of Refused = 1
number_of Usage = 2
number_of NoFile = 3
number_of ReadFault = 4
number_of WriteFault = 5
number_of NoMemory = 7

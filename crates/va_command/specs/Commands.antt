-- The request of a command.
use Rattle.va_command.specs.declared.request.Command.{Command}
use Rattle.va_command.specs.declared.request.Command.TheVariants.{Compile, Read}
use Rattle.va_command.specs.Requests.{Request, compile, read}

abbrev pub request_of : Command → Request
request_of (Compile file) = compile file.now
request_of (Read file) = read file.now

-- What the table of a module's types is.
use Rattle.va_sem.specs.Typing.{Signature}
use Rattle.va_types.specs.declared.table.Signature.{Signature as Kept}

abbrev pub signature_in : Kept → Signature
signature_in s = record { arguments = s.arguments; result = s.result }

-- What a list of files holds.
use Rattle.std.specs.Prelude.{List, map}
use Rattle.va_base.specs.declared.file.FileText.{FileText}
use Rattle.va_io.specs.Outside.{Holdings}

-- the bytes under each name, in the order of the list
abbrev pub holdings : List FileText → Holdings
holdings = map (λ file. (file.name, file.bytes))

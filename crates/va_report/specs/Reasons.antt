-- The lines that tell why a command has no output. Each ends with a line end.
use Rattle.std.specs.Prelude.{ℕ, List, ◌++◌, codes, decimal}
use Rattle.va_base.specs.declared.fault.Fault.{Fault}
use Rattle.va_base.specs.Faults.{spelling_of_code}

-- where the words are no command
abbrev pub usage_line : List ℕ
usage_line = codes "usage: vaosdi compile|check|tables|read FILE, or eval FILE POINT, or make|work N\n"

-- a fault: the name of its file, its line and column, and its code
abbrev pub fault_line : List ℕ → Fault → List ℕ
fault_line name fault =
    name ++ codes ":" ++ decimal fault.place.line ++ codes ":" ++ decimal fault.place.col ++ codes ": " ++ spelling_of_code fault.code
    ++ codes "\n"

-- a file of this name is not there
abbrev pub no_such_file_line : List ℕ → List ℕ
no_such_file_line name = name ++ codes ": no such file\n"

-- a read of a file of this name failed
abbrev pub read_fault_line : List ℕ → List ℕ
read_fault_line name = name ++ codes ": read fault\n"

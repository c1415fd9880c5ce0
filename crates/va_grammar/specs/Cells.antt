-- The cells of the table of rows.
use Rattle.std.specs.Prelude.{ℕ, ◌+◌, ◌-◌, if◌then◌else◌, Option, Some, None}
use Rattle.va_base.specs.Spelling.{is_digit}

-- The row that a cell tells, if any: a digit is a row's place behind the first row of its nonterminal.
abbrev pub row_of : ℕ → ℕ → Option ℕ
row_of first_row cell = if is_digit cell then Some (first_row + (cell - 48)) else None

use Rattle.std.proofs.Common.{rules}
use Rattle.va_build.proofs.SizeParts.{parts_of_row, no_parts_of_row}
use Rattle.va_build.proofs.size_rules.row_parts.Goals as goal

pub returns-then-i-lt173 : goal.returns-then-i-lt173
returns-then-i-lt173 c = search (rules, parts_of_row, c.if-i-lt173.true)

pub returns-else-i-lt173 : goal.returns-else-i-lt173
returns-else-i-lt173 c = no_parts_of_row c.args.row c.if-i-lt173.false

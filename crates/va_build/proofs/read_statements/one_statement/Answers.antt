use Rattle.va_build.proofs.DoneStatements.{some_done}
use Rattle.va_build.proofs.read_statements.one_statement.Goals as goal

pub last-value-requires : goal.last-value-requires
last-value-requires c = some_done _ _ _ c.in_ok-statement.ensures.value_is

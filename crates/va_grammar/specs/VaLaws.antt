-- The rows of Verilog-A keep the laws.
use Rattle.std.specs.Prelude.{◌≡◌, refl, true}
use Rattle.predict.specs.Laws.{NoLeftRecursion, NoDeadEnd}
use Rattle.predict.specs.Table.{keeps_laws, table_open}
use Rattle.predict.specs.TableLaws.{table_no_left_recursion, table_no_dead_end}
use Rattle.va_grammar.specs.Sets.{va_table, va_rules}
use Rattle.va_grammar.specs.Evidence.{va_evidence}

va_keeps_laws : keeps_laws va_table va_evidence ≡ true
va_keeps_laws = refl

pub va_no_left_recursion : NoLeftRecursion va_rules va_evidence.rank va_evidence.empty
unfolding va_rules
va_no_left_recursion = table_no_left_recursion va_table va_evidence va_keeps_laws

pub va_no_dead_end : NoDeadEnd va_rules (table_open va_table va_evidence)
unfolding va_rules
va_no_dead_end = table_no_dead_end va_table va_evidence va_keeps_laws

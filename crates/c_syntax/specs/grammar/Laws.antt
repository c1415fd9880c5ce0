-- The rows of C files keep the laws of a grammar that can be parsed by the next token.
use Rattle.std.specs.Prelude.{◌≡◌, refl, true}
use Rattle.predict.specs.Laws.{NoLeftRecursion, NoDeadEnd}
use Rattle.predict.specs.Table.{keeps_laws, table_open}
use Rattle.predict.specs.TableLaws.{table_no_left_recursion, table_no_dead_end}
use Rattle.c_tree.specs.Words.{template}
use Rattle.c_syntax.specs.grammar.Names.{class_names, number_names, mark_names, word_names, field_names, kind_names, nonterminal_names}
use Rattle.c_syntax.specs.grammar.Rows.{row_texts, written_rows}
use Rattle.c_syntax.specs.grammar.Sets.{c_table, c_rules}
use Rattle.c_syntax.specs.grammar.Evidence.{c_evidence}

c_keeps_laws : keeps_laws c_table c_evidence ≡ true
unfolding template class_names number_names mark_names word_names field_names kind_names nonterminal_names row_texts written_rows
c_keeps_laws = refl

pub c_no_left_recursion : NoLeftRecursion c_rules c_evidence.rank c_evidence.empty
unfolding c_rules
c_no_left_recursion = table_no_left_recursion c_table c_evidence c_keeps_laws

pub c_no_dead_end : NoDeadEnd c_rules (table_open c_table c_evidence)
unfolding c_rules
c_no_dead_end = table_no_dead_end c_table c_evidence c_keeps_laws

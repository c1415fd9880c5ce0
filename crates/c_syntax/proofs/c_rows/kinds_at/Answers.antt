use Rattle.std.proofs.Common.{rules}
use Rattle.c_tree.specs.Words.{template}
use Rattle.c_syntax.specs.grammar.Names.{class_names, number_names, mark_names, word_names, field_names, kind_names, nonterminal_names}
use Rattle.c_syntax.specs.grammar.Rows.{row_texts, written_rows}
use Rattle.c_syntax.proofs.Tables.{kinds_listed}
use Rattle.c_syntax.proofs.c_rows.kinds_at.Goals as goal

pub returns : goal.returns
unfolding template class_names number_names mark_names word_names field_names kind_names nonterminal_names row_texts written_rows
returns c = search (rules, kinds_listed, c.requires)

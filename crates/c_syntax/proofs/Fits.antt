-- What the tests of the rows show: a row that is chosen is the first that fits.
use Rattle.std.specs.Prelude.{ℕ, ◌≡◌, true, None, Some, refl}
use Rattle.predict.specs.Table.{chosen}
use Rattle.predict.specs.FirstFit.{IsFirstFit, NoneFits}
use Rattle.predict.proofs.Complete.{all_closed}
use Rattle.predict.proofs.Sound.{Facts, all_known}
use Rattle.predict.proofs.Chosen.{table_first_fit, table_none_fits}
use Rattle.c_tree.specs.Words.{template}
use Rattle.c_syntax.specs.grammar.Names.{class_names, number_names, mark_names, word_names, field_names, kind_names, nonterminal_names}
use Rattle.c_syntax.specs.grammar.Rows.{row_texts, written_rows}
use Rattle.c_syntax.specs.grammar.Sets.{c_grammar, c_sets, c_table}
use Rattle.c_syntax.proofs.Facts.{empty_facts, begin_facts, follow_facts}

abbrev c_facts : Facts
c_facts = record { empties = empty_facts; begins = begin_facts; follows = follow_facts }

c_closed : all_closed c_grammar c_sets ≡ true
unfolding template class_names number_names mark_names word_names field_names kind_names nonterminal_names row_texts written_rows
c_closed = refl

c_known : all_known c_grammar c_sets c_facts ≡ true
unfolding template class_names number_names mark_names word_names field_names kind_names nonterminal_names row_texts written_rows
c_known = refl

pub first_fit : (left k i : ℕ) → chosen c_table.rows left k ≡ Some i → IsFirstFit c_grammar left k i
first_fit left k i h = table_first_fit c_grammar c_sets c_facts c_closed c_known left k i h

pub none_fits : (left k : ℕ) → chosen c_table.rows left k ≡ None → NoneFits c_grammar left k
none_fits left k h = table_none_fits c_grammar c_sets c_closed left k h

-- What the tests of the rows of Verilog-A show.
use Rattle.std.specs.Prelude.{ℕ, ◌≡◌, true, None, Some, refl}
use Rattle.predict.specs.Table.{chosen}
use Rattle.predict.specs.FirstFit.{IsFirstFit, NoneFits}
use Rattle.va_grammar.specs.Sets.{va_grammar, va_sets, va_table}
use Rattle.predict.proofs.Complete.{all_closed}
use Rattle.predict.proofs.Sound.{Facts, all_known}
use Rattle.va_grammar.proofs.Facts.{empty_facts, begin_facts, follow_facts}
use Rattle.predict.proofs.Chosen.{table_first_fit, table_none_fits}

-- the facts of Verilog-A
abbrev va_facts : Facts
va_facts = record { empties = empty_facts; begins = begin_facts; follows = follow_facts }

va_closed : all_closed va_grammar va_sets ≡ true
va_closed = refl

va_known : all_known va_grammar va_sets va_facts ≡ true
va_known = refl

pub va_first_fit : (left k i : ℕ) → chosen va_table.rows left k ≡ Some i → IsFirstFit va_grammar left k i
va_first_fit left k i h = table_first_fit va_grammar va_sets va_facts va_closed va_known left k i h

pub va_none_fits : (left k : ℕ) → chosen va_table.rows left k ≡ None → NoneFits va_grammar left k
va_none_fits left k h = table_none_fits va_grammar va_sets va_closed left k h

use Rattle.std.proofs.Common.{◌≡◌, ◌≤◌, ◌-◌, ◌+◌, ℕ, length, drop, Some}
use Rattle.std.specs.Prelude.{false}
use Rattle.va_base.specs.Spelling.{begins}
use Rattle.va_base.specs.Longest.{longest}
use Rattle.c_tree.specs.tokens.Spelling.{is_word_byte, is_in_name}
use Rattle.c_syntax.proofs.front.name_len.Given as goal

abbrev pub invariant-names : goal.invariant-names
invariant-names l = record {
  within : l.at ≤ length l.text;
  ends : begins is_word_byte (drop l.at l.text) ≡ false;
  whole : (n : ℕ) → longest is_in_name (drop l.at l.text) ≡ Some n → longest is_in_name l.text ≡ Some (l.at + n);
}

abbrev pub decreases-names : goal.decreases-names
decreases-names l = length l.text - l.at

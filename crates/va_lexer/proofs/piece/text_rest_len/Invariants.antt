use Rattle.std.proofs.Common.{◌≡◌, ◌≤◌, ◌-◌, ◌<◌, ◌+◌, ℕ, length, drop, cond, Some, None}
use Rattle.std.specs.Prelude.{◌==◌}
use Rattle.va_base.specs.Longest.{longest}
use Rattle.va_base.specs.Spelling.{is_text_rest, begins}
use Rattle.va_lexer.specs.Pieces.{shifted}
use Rattle.va_lexer.proofs.piece.text_rest_len.Given as goal

abbrev pub invariant-units : goal.invariant-units
invariant-units l = record {
  within : l.at + l.unit ≤ length l.rest;
  whole : longest is_text_rest l.rest ≡ shifted l.at (longest is_text_rest (drop l.at l.rest));
  unit : 0 < l.unit
      → longest is_text_rest (drop l.at l.rest) ≡ shifted l.unit (longest is_text_rest (drop l.unit (drop l.at l.rest)));
  none : l.unit ≡ 0
      → longest is_text_rest (drop l.at l.rest) ≡ cond (begins (λ first. first == 34) (drop l.at l.rest)) (Some 1) None;
}

abbrev pub decreases-units : goal.decreases-units
decreases-units l = length l.rest - l.at

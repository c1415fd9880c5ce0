use Rattle.std.proofs.Common.{◌≡◌, ◌≤◌, ◌-◌, ◌<◌, ◌+◌, length, drop, cond, Some, None}
use Rattle.std.specs.Prelude.{◌==◌}
use Rattle.va_base.specs.Spelling.{begins}
use Rattle.va_base.specs.Longest.{longest}
use Rattle.c_tree.specs.tokens.Spelling.{is_string_rest}
use Rattle.c_syntax.specs.Fronts.{shifted}
use Rattle.c_syntax.proofs.front.string_rest_len.Given as goal

abbrev pub invariant-units : goal.invariant-units
invariant-units l = record {
  within : l.at + l.unit ≤ length l.rest;
  whole : longest is_string_rest l.rest ≡ shifted l.at (longest is_string_rest (drop l.at l.rest));
  unit : 0 < l.unit
      → longest is_string_rest (drop l.at l.rest) ≡ shifted l.unit (longest is_string_rest (drop l.unit (drop l.at l.rest)));
  none : l.unit ≡ 0
      → longest is_string_rest (drop l.at l.rest) ≡ cond (begins (λ first. first == 34) (drop l.at l.rest)) (Some 1) None;
}

abbrev pub decreases-units : goal.decreases-units
decreases-units l = length l.rest - l.at

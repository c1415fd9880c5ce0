use Rattle.std.proofs.Common.{◌≡◌, ◌≤◌, ◌-◌, length, drop}
use Rattle.va_base.specs.Longest.{longest}
use Rattle.va_lexer.specs.Separators.{is_comment_rest}
use Rattle.va_lexer.specs.Pieces.{shifted}
use Rattle.va_lexer.proofs.piece.comment_rest_len.Given as goal

abbrev pub invariant-bytes : goal.invariant-bytes
invariant-bytes l = record {
  within : l.at ≤ length l.rest;
  whole : longest is_comment_rest l.rest ≡ shifted l.at (longest is_comment_rest (drop l.at l.rest));
}

abbrev pub decreases-bytes : goal.decreases-bytes
decreases-bytes l = length l.rest - l.at

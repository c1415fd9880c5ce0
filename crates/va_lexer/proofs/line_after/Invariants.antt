use Rattle.std.proofs.Common.{◌≡◌, ◌≤◌, ◌+◌, ℕ, take}
use Rattle.va_lexer.specs.Tokens.{place_in, places_after}
use Rattle.va_lexer.proofs.line_after.Given as goal

abbrev pub invariant-loop-offset : goal.invariant-loop-offset
invariant-loop-offset l = record {
  place : (file : ℕ)
      → place_in file l.line (l.fn.at + l.offset) ≡ places_after (place_in file l.fn.line l.fn.at) (take l.offset l.bytes);
  begun : l.line.start ≤ l.fn.at + l.offset;
  numbered : l.line.number ≤ l.line.start + 1;
}

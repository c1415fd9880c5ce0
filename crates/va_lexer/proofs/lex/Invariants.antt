use Rattle.std.proofs.Common.{◌≡◌, ◌≤◌, ◌+◌, ◌-◌, ◌++◌, length, drop}
use Rattle.va_lexer.specs.Tokens.{tokens_from, tokens_of, place_in}
use Rattle.va_lexer.proofs.lex.Given as goal

abbrev pub invariant-pieces : goal.invariant-pieces
invariant-pieces l = record {
  within : l.at ≤ length l.bytes;
  begun : l.line.start ≤ l.at;
  numbered : l.line.number ≤ l.line.start + 1;
  tokens : l.tokens.items ++ tokens_from l.at (place_in l.file l.line l.at) 0 (drop l.at l.bytes) ≡ tokens_of l.file l.bytes;
}

abbrev pub decreases-pieces : goal.decreases-pieces
decreases-pieces l = length l.bytes - l.at

use Rattle.std.proofs.Common.{◌≡◌, ◌≤◌, ◌-◌, length, drop}
use Rattle.c_tree.specs.tokens.Tokens.{tokens_from}
use Rattle.c_syntax.specs.Places.{token_start}
use Rattle.c_syntax.proofs.Lists.{start_among}
use Rattle.c_syntax.proofs.fault_place.token_start.Given as goal

abbrev pub invariant-bytes : goal.invariant-bytes
invariant-bytes l = record {
  within : l.at ≤ length l.bytes;
  start : token_start l.bytes l.number ≡ start_among (length l.bytes) (tokens_from l.at 0 (drop l.at l.bytes)).tokens l.left;
}

abbrev pub decreases-bytes : goal.decreases-bytes
decreases-bytes l = length l.bytes - l.at

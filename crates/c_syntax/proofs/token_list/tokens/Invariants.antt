use Rattle.std.proofs.Common.{◌≡◌, ◌≤◌, ◌-◌, length, drop}
use Rattle.c_tree.specs.tokens.Tokens.{tokens_from, c_tokens_of}
use Rattle.std.specs.List.{All}
use Rattle.c_syntax.specs.Fronts.{IsWithin}
use Rattle.c_syntax.proofs.Lists.{tokens_before}
use Rattle.c_syntax.proofs.token_list.tokens.Given as goal

abbrev pub invariant-bytes : goal.invariant-bytes
invariant-bytes l = record {
  within : l.at ≤ length l.bytes;
  fit : All (IsWithin l.bytes) l.tokens.items;
  tokens : c_tokens_of l.bytes ≡ tokens_before l.tokens.items (tokens_from l.at 0 (drop l.at l.bytes));
}

abbrev pub decreases-bytes : goal.decreases-bytes
decreases-bytes l = length l.bytes - l.at

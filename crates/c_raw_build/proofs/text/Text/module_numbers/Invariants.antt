use Rattle.std.specs.Prelude.{◌≡◌, ◌≤◌, ◌++◌, ◌-◌, map}
use Rattle.c_raw.specs.Blocks.{at_view}
use Rattle.c_raw_build.specs.Words.{module_numbers}
use Rattle.c_raw_build.proofs.text.Text.module_numbers.Given as goal

abbrev pub invariant-tokens : goal.invariant-tokens
invariant-tokens l = record {
  numbers : map at_view l.numbers.items ++ module_numbers l.self l.at (l.end - l.at) ≡ module_numbers l.self l.first (l.end - l.first);
  from : l.first ≤ l.at;
}

abbrev pub decreases-tokens : goal.decreases-tokens
decreases-tokens l = l.end - l.at

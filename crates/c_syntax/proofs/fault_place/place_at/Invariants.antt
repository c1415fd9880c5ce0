use Rattle.std.proofs.Common.{◌≡◌, ◌≤◌, ◌+◌}
use Rattle.c_syntax.specs.Places.{place_at}
use Rattle.c_syntax.proofs.fault_place.place_at.Given as goal

abbrev pub invariant-loop-at : goal.invariant-loop-at
invariant-loop-at l = record {
  before : l.at ≤ l.index;
  few_lines : l.place.line ≤ l.at + 1;
  few_columns : l.place.col ≤ l.at + 1;
  place : l.place ≡ place_at l.bytes l.at;
}

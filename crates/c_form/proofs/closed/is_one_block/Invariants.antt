use Rattle.std.proofs.Common.{◌≡◌, ◌≤◌, ◌+◌, ◌*◌, drop}
use Rattle.c_raw.specs.Blocks.{ends}
use Rattle.c_form.proofs.closed.is_one_block.Given as goal

abbrev pub invariant-loop-statement : goal.invariant-loop-statement
invariant-loop-statement l = record {
  rest : ends 1 l.list ≡ ends l.blocks (drop l.statement-index l.list);
  few : l.blocks ≤ 2 * l.statement-index + 1;
}

use Rattle.std.proofs.Common.{◌≡◌, ◌≤◌, ◌+◌, drop}
use Rattle.c_tree.specs.Text.{count_kinds, is_opvar_kind}
use Rattle.c_print.proofs.descriptor.opvar_count.Given as goal

abbrev pub invariant-loop-row : goal.invariant-loop-row
invariant-loop-row l = record {
  few : l.count ≤ l.row-index;
  counted : count_kinds is_opvar_kind l.rows ≡ l.count + count_kinds is_opvar_kind (drop l.row-index l.rows);
}

use Rattle.std.proofs.Common.{◌≡◌, ◌≤◌, ◌*◌, ◌++◌, drop}
use Rattle.std.specs.Prelude.{map}
use Rattle.c_tree.specs.rules.Bodies.{set_cells}
use Rattle.c_raw.specs.Blocks.{at_view}
use Rattle.c_form_reach.specs.Placed.{nothing, walked}
use Rattle.c_form_reach.proofs.twice.top_cells.Given as goal

-- what was found so far and what is left is it all
abbrev pub invariant-loop-statement : goal.invariant-loop-statement
invariant-loop-statement l = record {
  found : map at_view l.cells.items ++ walked set_cells nothing l.around (drop l.statement-index l.list) ≡ walked set_cells nothing 0 l.list;
  few : l.around ≤ 2 * l.statement-index;
}

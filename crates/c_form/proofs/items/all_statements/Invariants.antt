use Rattle.std.proofs.Common.{ℕ, drop}
use Rattle.std.specs.Prelude.{Option}
use Rattle.std.specs.List.{flat_map}
use Rattle.c_form.specs.Blames.{Blames}
use Rattle.c_form.specs.Bodies.{in_statement}
use Rattle.c_form.specs.Items.{in_item}
use Rattle.c_form.proofs.items.all_statements.Given as goal

-- whatever blames what is left blames it all
abbrev pub invariant-loop-statement : goal.invariant-loop-statement
invariant-loop-statement g l =
    (p : g.R.ItemRule.subject) → g.R.ItemRule.knows l.rule p → (new : Option ℕ)
    → Blames l.least new
    (flat_map (in_statement (in_item (g.R.ItemRule.in_atom p) (g.R.ItemRule.in_simple p))) (drop l.statement-index l.list))
    → Blames l.fn.least new (flat_map (in_statement (in_item (g.R.ItemRule.in_atom p) (g.R.ItemRule.in_simple p))) l.list)

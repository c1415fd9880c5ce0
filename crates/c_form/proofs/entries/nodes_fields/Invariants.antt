use Rattle.std.proofs.Common.{ℕ, drop}
use Rattle.std.specs.Prelude.{Option}
use Rattle.c_raw.specs.Views.{node_view}
use Rattle.c_tree.specs.rules.Tables.{node_fields}
use Rattle.c_form.specs.Blames.{Blames}
use Rattle.c_form.proofs.Blaming.{numbered_parts}
use Rattle.c_form.proofs.entries.nodes_fields.Given as goal

-- whatever blames what is left blames it all
abbrev pub invariant-loop-index : goal.invariant-loop-index
invariant-loop-index l =
    (new : Option ℕ) → Blames l.least new (numbered_parts node_view (node_fields) l.index (drop l.index l.list))
    → Blames l.fn.least new (numbered_parts node_view (node_fields) 0 l.list)

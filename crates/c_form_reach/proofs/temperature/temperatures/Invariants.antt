use Rattle.std.proofs.Common.{ℕ, drop}
use Rattle.std.specs.Prelude.{Option}
use Rattle.std.specs.List.{flat_map}
use Rattle.c_tree.specs.rules.Bodies.{of_statement}
use Rattle.c_form.specs.Blames.{Blames}
use Rattle.c_form.specs.Bodies.{in_statement}
use Rattle.c_form_reach.specs.Reach.{temperature_of}
use Rattle.c_form_reach.proofs.temperature.temperatures.Given as goal

-- whatever blames what is left blames it all
abbrev pub invariant-loop-statement : goal.invariant-loop-statement
invariant-loop-statement l =
    (new : Option ℕ) → Blames l.least new (flat_map (in_statement (of_statement temperature_of)) (drop l.statement-index l.list))
    → Blames l.fn.least new (flat_map (in_statement (of_statement temperature_of)) l.list)

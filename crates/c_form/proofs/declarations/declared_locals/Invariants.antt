use Rattle.std.proofs.Common.{◌≡◌, take}
use Rattle.std.specs.Prelude.{map}
use Rattle.std.specs.List.{flat_map}
use Rattle.c_tree.specs.rules.Bodies.{of_statement}
use Rattle.c_tree.specs.rules.Locals.{declared}
use Rattle.c_raw.specs.Blocks.{at_view}
use Rattle.c_form.specs.Bodies.{in_statement}
use Rattle.c_form.proofs.declarations.declared_locals.Given as goal

abbrev pub invariant-loop-statement : goal.invariant-loop-statement
invariant-loop-statement l = map at_view l.numbers.items ≡ flat_map (in_statement (of_statement declared)) (take l.statement-index l.list)

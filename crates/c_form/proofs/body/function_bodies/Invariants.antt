use Rattle.std.proofs.Common.{◌≡◌, ◌++◌, drop}
use Rattle.std.specs.Prelude.{map, true}
use Rattle.std.specs.List.{list_all, enumerate_from}
use Rattle.c_tree.specs.rules.Bodies.{function_body}
use Rattle.c_raw.specs.Views.{function_view}
use Rattle.c_form.specs.Bodies.{body_view, is_one_block}
use Rattle.c_form.proofs.body.function_bodies.Given as goal

abbrev pub invariant-loop-index : goal.invariant-loop-index
invariant-loop-index l =
    (map body_view l.bodies.items ++ map function_body (enumerate_from l.index (map function_view (drop l.index l.list)))
    ≡ map function_body (enumerate_from 0 (map function_view l.list)))
    × (list_all is_one_block l.bodies.items ≡ true)

use Rattle.std.proofs.Common.{ℕ, drop}
use Rattle.std.specs.Prelude.{map, Option}
use Rattle.c_tree.specs.rules.Types.{arguments_differ}
use Rattle.c_raw.specs.Blocks.{at_view}
use Rattle.c_form.specs.Blames.{Blames}
use Rattle.c_form_types.specs.Places.{Place, IsAt}
use Rattle.c_form_types.proofs.right_sides.arguments_differ.Given as goal

-- whatever blames what is left blames it all
abbrev pub invariant-loop-index : goal.invariant-loop-index
invariant-loop-index l =
    (p : Place) → IsAt l.walk p
    → (new : Option ℕ) → Blames l.least new (arguments_differ p.tree p.body p.known (drop l.index l.all_wanted) (map at_view (drop l.index l.args)))
    → Blames l.fn.least new (arguments_differ p.tree p.body p.known l.all_wanted (map at_view l.args))

use Rattle.std.proofs.Common.{ℕ, drop}
use Rattle.std.specs.Prelude.{map, Option}
use Rattle.c_tree.specs.rules.Tables.{descriptors_agree}
use Rattle.c_raw.specs.Views.{descriptor_view, module_view}
use Rattle.c_form.specs.Blames.{Blames}
use Rattle.c_form.proofs.descriptors.descriptors_agree.Given as goal

-- whatever blames what is left blames it all
abbrev pub invariant-loop-index : goal.invariant-loop-index
invariant-loop-index l =
    (new : Option ℕ)
    → Blames l.least new (descriptors_agree (map module_view (drop l.index l.modules)) (map descriptor_view (drop l.index l.descriptors)))
    → Blames l.fn.least new (descriptors_agree (map module_view l.modules) (map descriptor_view l.descriptors))

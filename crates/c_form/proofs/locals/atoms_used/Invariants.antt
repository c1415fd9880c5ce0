use Rattle.std.proofs.Common.{ℕ, List, drop}
use Rattle.std.specs.Prelude.{Option, nat_eq}
use Rattle.indexmap.specs.IndexMap.{get}
use Rattle.c_tree.specs.rules.Bodies.{Declared}
use Rattle.c_raw.specs.Blocks.{at_view}
use Rattle.c_form.specs.Blames.{Blames}
use Rattle.c_form.specs.Scopes.{IsKnown}
use Rattle.c_form.specs.Uses.{local_used}
use Rattle.c_form.proofs.Blaming.{parts_of}
use Rattle.c_form.proofs.locals.atoms_used.Given as goal

-- whatever blames what is left blames it all
abbrev pub invariant-loop-atom : goal.invariant-loop-atom
invariant-loop-atom l =
    (known : List Declared) → IsKnown (get nat_eq l.scope.types) known
    → (new : Option ℕ) → Blames l.least new (parts_of at_view (local_used known) (drop l.atom-index l.atoms))
    → Blames l.fn.least new (parts_of at_view (local_used known) l.atoms)

use Rattle.std.proofs.Common.{ℕ, drop}
use Rattle.std.specs.Prelude.{map, Option, false, nat_eq}
use Rattle.std.specs.Option.{is_some}
use Rattle.indexmap.specs.IndexMap.{get}
use Rattle.c_raw.specs.Blocks.{at_view}
use Rattle.c_form.specs.Blames.{Blames}
use Rattle.c_form.proofs.Seen.{numbers_by}
use Rattle.c_form.proofs.again.repeated.Given as goal

-- whatever blames what is left blames it all
abbrev pub invariant-loop-number : goal.invariant-loop-number
invariant-loop-number l =
    (new : Option ℕ) → Blames l.least new (numbers_by (λ i. is_some (get nat_eq l.seen i)) (map at_view (drop l.number-index l.list)))
    → Blames l.fn.least new (numbers_by (λ i. false) (map at_view l.list))

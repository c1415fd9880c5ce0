use Rattle.std.proofs.Common.{ℕ, drop}
use Rattle.std.specs.Prelude.{map, nat_eq, Option, false, ◌==◌}
use Rattle.indexmap.specs.IndexSet.{contains}
use Rattle.c_raw.specs.Blocks.{at_view}
use Rattle.c_form.specs.Blames.{Blames}
use Rattle.c_form.proofs.Seen.{again_by}
use Rattle.c_form_reach.proofs.Setting.{flag_key, flag_token}
use Rattle.c_form_reach.proofs.twice.flags_twice.Given as goal

-- whatever blames what is left blames it all
abbrev pub invariant-loop-flag : goal.invariant-loop-flag
invariant-loop-flag l =
    (new : Option ℕ) → Blames l.least new (again_by flag_token flag_key (λ a b. a == b) (contains nat_eq l.seen) (map at_view (drop l.flag-index l.flags)))
    → Blames l.fn.least new (again_by flag_token flag_key (λ a b. a == b) (λ i. false) (map at_view l.flags))

use Rattle.std.proofs.Common.{ℕ, drop}
use Rattle.std.specs.Prelude.{Option}
use Rattle.c_raw.specs.Views.{param_view}
use Rattle.c_tree.specs.rules.Tables.{aliases_agree}
use Rattle.c_form.specs.Blames.{Blames}
use Rattle.c_form.proofs.Blaming.{parts_of}
use Rattle.c_form.proofs.entries.params.Given as goal

-- whatever blames what is left blames it all
abbrev pub invariant-loop-param : goal.invariant-loop-param
invariant-loop-param l =
    (new : Option ℕ) → Blames l.least new (parts_of param_view (aliases_agree) (drop l.param-index l.list))
    → Blames l.fn.least new (parts_of param_view (aliases_agree) l.list)

use Rattle.std.proofs.Common.{◌≤◌, ◌*◌, ℕ, drop}
use Rattle.std.specs.Prelude.{Option}
use Rattle.c_form.specs.Blames.{Blames}
use Rattle.c_form_reach.specs.Placed.{nothing, walked}
use Rattle.c_form_reach.specs.Settings.{words_set}
use Rattle.c_form_reach.proofs.deeper.deeper.Given as goal

-- whatever blames what is left blames it all
abbrev pub invariant-loop-statement : goal.invariant-loop-statement
invariant-loop-statement l = record {
  blames : (new : Option ℕ) → Blames l.least new (walked nothing words_set l.around (drop l.statement-index l.list)) → Blames l.fn.least new (walked nothing words_set 0 l.list);
  few : l.around ≤ 2 * l.statement-index;
}

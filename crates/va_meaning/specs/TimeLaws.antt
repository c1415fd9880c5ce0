-- Where time derivatives stand in every module of a text without faults (Time derivative operator).
use Rattle.std.specs.Prelude.{◌≡◌, ℕ, Some}
use Rattle.std.specs.List.{slice_get}
use Rattle.va_sem.specs.Declarations.{analog_bodies}
use Rattle.va_sem.specs.Faults.{KeepsRules}
use Rattle.va_sem.specs.Meanings.{names_of_module}
use Rattle.va_sem.specs.rules.Biased.{analysis_of}
use Rattle.va_tree.specs.declared.module.Module.{Module}
use Rattle.va_tree.specs.declared.source.Source.{Source}
use Rattle.va_meaning.specs.Elaboration.{module_seen}
use Rattle.va_meaning.specs.Timed.{KeepsToTime, HasLinearTime}

-- The module of a number, in a text that keeps all rules.
pub record IsOfSoundText (s : Source) (number : ℕ) (m : Module) : Type 0 where
  pub stands : slice_get s.modules number ≡ Some m
  pub keeps : KeepsRules s

-- Such a module keeps to the timed variables that are found by the rules, and its time derivatives stand at linear places alone.
pub record TimeLaws : Type 0 where
  pub keeps : (s : Source) (number : ℕ) (m : Module) → IsOfSoundText s number m
      → KeepsToTime (module_seen s number m) (analysis_of (names_of_module s number m) (analog_bodies m)).timed
  pub linear : (s : Source) (number : ℕ) (m : Module) → IsOfSoundText s number m
      → let a = analysis_of (names_of_module s number m) (analog_bodies m) in HasLinearTime (module_seen s number m) a.biased a.timed

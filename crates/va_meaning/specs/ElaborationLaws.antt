-- What holds of every module of a text as evaluation sees it.
use Rattle.std.specs.Prelude.{◌≡◌, ℕ, get_or}
use Rattle.std.specs.List.{slice_get}
use Rattle.alg_laws.specs.declared.number.Ty.TheVariants.{Real}
use Rattle.va_sem.specs.declared.names.ModuleNames.{ModuleNames}
use Rattle.va_sem.specs.Declarations.{analog_bodies}
use Rattle.va_sem.specs.Meanings.{names_of_module}
use Rattle.va_sem.specs.Typing.{typing_of}
use Rattle.va_sem.specs.rules.Biased.{analysis_of}
use Rattle.va_tree.specs.declared.module.Module.{Module}
use Rattle.va_tree.specs.declared.source.Source.{Source}
use Rattle.va_meaning.specs.Bias.{KeepsToBias}
use Rattle.va_meaning.specs.Elaboration.{elaborated, module_seen}
use Rattle.va_meaning.specs.SetUpLaws.{parameter_type}
use Rattle.va_meaning.specs.Types.{HasTyping}

pub record ElaborationLaws : Type 0 where
  -- A module has the types that are found for its names, and so have its parameters.
  pub typing : (names : ModuleNames) (m : Module) → HasTyping (elaborated names m) (typing_of names.uses m)
  pub parameters : (names : ModuleNames) (m : Module) (p : ℕ)
      → parameter_type (slice_get (elaborated names m).parameters p) ≡ get_or (typing_of names.uses m).parameters p Real
  -- A module of a text keeps to the biased variables that are found by the rules: these are closed under its assignments, and no potential
  -- is contributed to a collapsing branch under a biased condition.
  pub bias : (s : Source) (number : ℕ) (m : Module)
      → KeepsToBias (module_seen s number m) (analysis_of (names_of_module s number m) (analog_bodies m)).biased

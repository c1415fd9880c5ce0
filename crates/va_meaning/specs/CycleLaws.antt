-- Where no function of a module leads back to itself, functions are seen deep enough (User-defined analog functions).
use Rattle.std.specs.Prelude.{◌≡◌, ℕ, ◌≤◌, ◌<◌, List, [], Some, length}
use Rattle.std.specs.List.{slice_get}
use Rattle.alg_laws.specs.declared.number.Reason.{Reason}
use Rattle.alg_laws.specs.Operations.{Operations}
use Rattle.va_sem.specs.NamesFaults.{names_faults}
use Rattle.va_sem.specs.OwnTokens.{HasOwnTokens}
use Rattle.va_tree.specs.declared.module.Module.{Module}
use Rattle.va_tree.specs.declared.source.Source.{Source}
use Rattle.va_tree.specs.OwnTokens.{EachNameHasItsToken}
use Rattle.va_meaning.specs.Elaboration.{module_seen}
use Rattle.va_meaning.specs.Evaluation.{functions, functions_to, evaluated, evaluated_to}
use Rattle.va_meaning.specs.Nesting.{IsWithoutCycle}
use Rattle.va_meaning.specs.Points.{Point, Result, Answers, over, without_unknowns}

-- The module of a number, in a text whose names have no fault.
pub record IsOfSoundNames (s : Source) (number : ℕ) (m : Module) : Type 0 where
  pub stands : slice_get s.modules number ≡ Some m
  pub names : names_faults s ≡ []
  pub tokens : HasOwnTokens s m

-- In such a module calls are never nested deeper than there are functions. Each module of a text is such a one where the names of
-- the text have no fault and each of them has its token, as in every tree that is built.
pub record CycleLaws : Type 0 where
  pub nested : (s : Source) (number : ℕ) (m : Module) → IsOfSoundNames s number m → IsWithoutCycle (module_seen s number m)
  pub in_texts : (s : Source) (number : ℕ) (m : Module) → slice_get s.modules number ≡ Some m → names_faults s ≡ []
      → EachNameHasItsToken s → IsOfSoundNames s number m

-- So its functions mean the same however much deeper they are seen, and so does every evaluation.
pub record DepthsInModules (E V : Type 0) (o : Operations V) (valid : V → Type 0) : Type 0 where
  pub deeper : (s : Source) (number : ℕ) (m : Module) → IsOfSoundNames s number m → let M = module_seen s number m in
      (x : V) (P : Point V) (n : ℕ) (stops : Reason → E) (answers : Answers E V) (depth : ℕ) → length M.functions ≤ depth → (f : ℕ) → f < length M.functions
      → (outs : List (Result E V)) → functions_to M (without_unknowns (over o x P n stops answers)) depth f outs ≡ functions M (over o x P n stops answers) f outs
  pub evaluation : (s : Source) (number : ℕ) (m : Module) → IsOfSoundNames s number m → let M = module_seen s number m in
      (x : V) (P : Point V) (n : ℕ) (stops : Reason → E) (answers : Answers E V) (depth : ℕ) → length M.functions ≤ depth
      → evaluated_to M (over o x P n stops answers) depth ≡ evaluated M (over o x P n stops answers)

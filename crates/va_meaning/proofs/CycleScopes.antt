-- The functions that are seen in a scope are functions of the module.
use Rattle.std.specs.Prelude.{ℕ, List, map}
use Rattle.std.specs.List.{AllByRecursion}
use Rattle.va_tree.specs.declared.module.Module.{Module}
use Rattle.va_tree.specs.Statements.{Statement}
use Rattle.va_sem.specs.Declarations.{VariableEntry, FunctionEntry, own_variables, block_variables, functions_of}
use Rattle.va_sem.specs.Scopes.{Thing, Declared, function, module_scope, block_scope, function_scope}
use Rattle.va_sem.proofs.Contained.{Has, all_of_has, has_map}
use Rattle.va_sem.proofs.ScopesKept.{HoldsOfOthers, AreKept, IsKeptVariable, block_kept, function_kept, module_kept}

-- a function stands at one of these tokens
abbrev pub StandsAmong : List ℕ → Thing → ℕ → Type 0
StandsAmong tokens function at = Has tokens at
StandsAmong tokens other at = Unit {0}

others_stand : (tokens : List ℕ) → HoldsOfOthers (StandsAmong tokens)
others_stand tokens = record {
  of_node = λ at. tt;
  of_branch = λ at. tt;
  of_parameter = λ at. tt;
  of_label = λ at. tt;
  of_alias = λ target at. tt;
  of_nothing = λ at. tt;
}

abbrev pub AreNumbered : List ℕ → List Declared → Type 0
AreNumbered tokens = AreKept (StandsAmong tokens)

module _ (tokens : List ℕ) where
  all_variables : (vs : List VariableEntry) → AllByRecursion (IsKeptVariable (StandsAmong tokens)) vs
  all_variables vs = all_of_has (IsKeptVariable (StandsAmong tokens)) vs (λ v h. tt)

  pub block_numbered : (outer : List Declared) (s : Statement) → AreNumbered tokens outer → AreNumbered tokens (block_scope outer s)
  block_numbered outer s h = block_kept (StandsAmong tokens) outer s (all_variables (block_variables s)) h

  pub function_numbered : (outer : List Declared) (f : FunctionEntry) → AreNumbered tokens outer → AreNumbered tokens (function_scope outer f)
  function_numbered outer f h = function_kept (StandsAmong tokens) outer f (all_variables (own_variables f)) h

-- the tokens of the functions of a module
abbrev pub function_tokens : Module → List ℕ
function_tokens m = map (λ (f : FunctionEntry). f.name.at) (functions_of m)

pub module_numbered : (m : Module) → AreNumbered (function_tokens m) (module_scope m)
module_numbered m =
    let tokens = function_tokens m in
    module_kept (StandsAmong tokens) (others_stand tokens) m (λ f h. has_map (λ (f : FunctionEntry). f.name.at) (functions_of m) f h) (λ v h. tt)

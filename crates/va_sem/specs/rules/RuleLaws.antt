-- What biased, timed and dependent variables are: the least sets that are closed under the rules.
use Rattle.std.specs.Prelude.{ℕ, Bool, List, length}
use Rattle.alg_laws.specs.Least.{Within, IsMonotone}
use Rattle.va_tree.specs.declared.module.Module.{Module}
use Rattle.va_tree.specs.declared.source.Source.{Source}
use Rattle.va_tree.specs.Statements.{Statement}
use Rattle.va_sem.specs.declared.branch.Unknown.{Unknown}
use Rattle.va_sem.specs.declared.names.ModuleNames.{ModuleNames}
use Rattle.va_sem.specs.Meanings.{names_of_module}
use Rattle.va_sem.specs.Typing.{Typing}
use Rattle.va_sem.specs.rules.Biased.{biased_by, timed_by, analysis_of}
use Rattle.va_sem.specs.rules.Dependence.{resistive_by, reactive_by, resistive_variables, reactive_variables}

-- a set of a module's variables is the least one that has each variable that follows from it
pub record IsLeast (names : ModuleNames) (follows : (ℕ → Bool) → ℕ → Bool) (set : ℕ → Bool) : Type 0 where
  pub closed : Within (length names.vars) (follows set) set
  pub within_closed : (other : ℕ → Bool) → Within (length names.vars) (follows other) other → Within (length names.vars) set other

-- Of each module of a text, by what its names mean, and for whatever statements.
pub record RulesGiveLeastSets : Type 0 where
  pub biased : (s : Source) (number : ℕ) (m : Module) (blocks : List Statement)
      → let names = names_of_module s number m in
      let a = analysis_of names blocks in IsLeast names (biased_by a.meaning a.values) a.biased
  pub timed : (s : Source) (number : ℕ) (m : Module) (blocks : List Statement)
      → let names = names_of_module s number m in
      let a = analysis_of names blocks in IsLeast names (timed_by a.meaning a.values) a.timed
  pub resistive : (types : Typing) (s : Source) (number : ℕ) (m : Module) (blocks : List Statement) (u : Unknown)
      → let names = names_of_module s number m in
      let a = analysis_of names blocks in IsLeast names (resistive_by types names a u) (resistive_variables types names a u)
  pub reactive : (types : Typing) (s : Source) (number : ℕ) (m : Module) (blocks : List Statement) (u : Unknown)
      → let names = names_of_module s number m in
      let a = analysis_of names blocks in
      IsLeast names (reactive_by types names a u (resistive_variables types names a u)) (reactive_variables types names a u)

-- The rules are monotone: from a larger set of variables at least as many follow.
pub record RulesAreMonotone : Type 0 where
  pub biased : (s : Source) (number : ℕ) (m : Module) (blocks : List Statement)
      → let names = names_of_module s number m in
      let a = analysis_of names blocks in IsMonotone (length names.vars) (biased_by a.meaning a.values)
  pub timed : (s : Source) (number : ℕ) (m : Module) (blocks : List Statement)
      → let names = names_of_module s number m in
      let a = analysis_of names blocks in IsMonotone (length names.vars) (timed_by a.meaning a.values)
  pub resistive : (types : Typing) (s : Source) (number : ℕ) (m : Module) (blocks : List Statement) (u : Unknown)
      → let names = names_of_module s number m in
      let a = analysis_of names blocks in IsMonotone (length names.vars) (resistive_by types names a u)
  pub reactive : (types : Typing) (s : Source) (number : ℕ) (m : Module) (blocks : List Statement) (u : Unknown) (resistive : ℕ → Bool)
      → let names = names_of_module s number m in
      let a = analysis_of names blocks in IsMonotone (length names.vars) (reactive_by types names a u resistive)

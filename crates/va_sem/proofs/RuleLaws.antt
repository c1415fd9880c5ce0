-- The rules are monotone, so the sets that grow by them are least.
use Rattle.std.specs.Prelude.{◌≡◌, ℕ, ◌<◌, ◌&&◌, ◌||◌, Bool, true, false, not, List, [], ◌∷◌, Option, Some, None, length, get_or}
use Rattle.std.specs.List.{list_any}
use Rattle.std.proofs.Common.{refl}
use Rattle.alg_laws.specs.Least.{least, Within, IsMonotone}
use Rattle.alg_laws.proofs.Least.{least_closed, least_within}
use Rattle.va_tree.specs.Expressions.{Expression, literal, infinity, name, group, unary, binary, choose, call}
use Rattle.va_sem.specs.declared.branch.Unknown.{Unknown}
use Rattle.va_sem.specs.declared.names.Meaning.{Meaning}
use Rattle.va_sem.specs.declared.names.Meaning.TheVariants as means
use Rattle.va_sem.specs.declared.names.ModuleNames.{ModuleNames}
use Rattle.va_sem.specs.LookedAt.{looked_at}
use Rattle.va_sem.specs.Meanings.{names_of_module}
use Rattle.va_sem.specs.rules.Uses.{meaning_of, is_access, is_ddt, is_variable_in, is_integer}
use Rattle.va_sem.specs.Typing.{Typing, meaning_at}
use Rattle.alg_laws.specs.declared.number.Ty.TheVariants.{Real}
use Rattle.va_sem.specs.rules.Values.{Value, values_of}
use Rattle.va_sem.specs.rules.Biased.{Analysis, is_biased, is_timed, is_assigned_to, biased_by, timed_by, analysis_of}
use Rattle.va_sem.specs.rules.Dependence.{carriers, carriers_under_ddt, carries, is_resistive, is_reactive, resistive_by, reactive_by, resistive_variables, reactive_variables}
use Rattle.va_tree.specs.declared.module.Module.{Module}
use Rattle.va_tree.specs.declared.source.Source.{Source}
use Rattle.va_tree.specs.Statements.{Statement}
use Rattle.va_sem.specs.MeaningsLaws.{AreNumbered}
use Rattle.va_sem.specs.rules.RuleLaws.{IsLeast, RulesGiveLeastSets, RulesAreMonotone}
use Rattle.va_sem.proofs.NumberedNames.{names_are_numbered}

-- from one answer follows the other
abbrev Gives : Bool → Bool → Type 0
Gives a b = a ≡ true → b ≡ true

or_gives : (a b c d : Bool) → Gives a c → Gives b d → Gives (a || b) (c || d)
or_gives true b c d f g h = (let e : c ≡ true = f refl in rw e)
or_gives false b true d f g h = refl
or_gives false b false d f g h = g h

and_gives : (a b c d : Bool) → Gives a c → Gives b d → Gives (a && b) (c && d)
and_gives true b c d f g h = (let e : c ≡ true = f refl in rw e (g h))
and_gives false b c d f g h = (let e : false ≡ true = h in cc)

any_gives : {T : Type 0} (f g : T → Bool) → ((t : T) → Gives (f t) (g t)) → (list : List T) → Gives (list_any f list) (list_any g list)
any_gives f g h [] e = e
any_gives f g h (t ∷ list) e = or_gives (f t) (list_any f list) (g t) (list_any g list) (h t) (any_gives f g h list) e

module _ (names : ModuleNames) (numbered : AreNumbered names) where
  abbrev Below : Option Meaning → Type 0
  Below m = (variable : ℕ) → m ≡ Some (means.Var variable) → variable < length names.vars

  none_below : Below None
  none_below variable e = absurd (cc)

  meaning_below : (e : Expression) → Below (meaning_of (meaning_at names.uses) e)
  meaning_below (literal at value integer) = none_below
  meaning_below (infinity at) = none_below
  meaning_below (name at bytes) = numbered at
  meaning_below (group at inner) = none_below
  meaning_below (unary at op operand) = none_below
  meaning_below (binary at left op right) = none_below
  meaning_below (choose at test first second) = none_below
  meaning_below (call at callee bytes args) = numbered at

  module _ (a b : ℕ → Bool) (w : Within (length names.vars) a b) where
    variable_gives : (m : Option Meaning) → Below m → Gives (is_variable_in a m) (is_variable_in b m)
    variable_gives None below e = e
    variable_gives (Some (means.Var variable)) below e = w variable (below variable refl) e
    variable_gives (Some (means.Node number)) below e = e
    variable_gives (Some (means.Branch number)) below e = e
    variable_gives (Some (means.Param number)) below e = e
    variable_gives (Some (means.Function number)) below e = e
    variable_gives (Some (means.Discipline number)) below e = e
    variable_gives (Some (means.Nature number)) below e = e
    variable_gives (Some (means.Module number)) below e = e
    variable_gives (Some (means.Builtin number)) below e = e
    variable_gives (Some (means.Access branch turned flow)) below e = e

    biased_gives : (e : Expression) → Gives (is_biased (meaning_at names.uses) a e) (is_biased (meaning_at names.uses) b e)
    biased_gives e =
        any_gives (λ part. is_access (meaning_of (meaning_at names.uses) part) || is_variable_in a (meaning_of (meaning_at names.uses) part))
        (λ part. is_access (meaning_of (meaning_at names.uses) part) || is_variable_in b (meaning_of (meaning_at names.uses) part))
        (λ part. or_gives (is_access (meaning_of (meaning_at names.uses) part)) (is_variable_in a (meaning_of (meaning_at names.uses) part)) (is_access (meaning_of (meaning_at names.uses) part)) (is_variable_in b (meaning_of (meaning_at names.uses) part)) (λ h. h) (variable_gives (meaning_of (meaning_at names.uses) part) (meaning_below part)))
        (looked_at e)

    timed_gives : (e : Expression) → Gives (is_timed (meaning_at names.uses) a e) (is_timed (meaning_at names.uses) b e)
    timed_gives e =
        any_gives (λ part. is_ddt (meaning_of (meaning_at names.uses) part) || is_variable_in a (meaning_of (meaning_at names.uses) part))
        (λ part. is_ddt (meaning_of (meaning_at names.uses) part) || is_variable_in b (meaning_of (meaning_at names.uses) part))
        (λ part. or_gives (is_ddt (meaning_of (meaning_at names.uses) part)) (is_variable_in a (meaning_of (meaning_at names.uses) part)) (is_ddt (meaning_of (meaning_at names.uses) part)) (is_variable_in b (meaning_of (meaning_at names.uses) part)) (λ h. h) (variable_gives (meaning_of (meaning_at names.uses) part) (meaning_below part)))
        (looked_at e)

    module _ (types : Typing) (blocks : List Statement) (u : Unknown) where
      carries_gives : (m : Option Meaning) → Below m → Gives (carries types names (analysis_of names blocks) u a m) (carries types names (analysis_of names blocks) u b m)
      carries_gives None below e = e
      carries_gives (Some (means.Var variable)) below e = w variable (below variable refl) e
      carries_gives (Some (means.Node number)) below e = e
      carries_gives (Some (means.Branch number)) below e = e
      carries_gives (Some (means.Param number)) below e = e
      carries_gives (Some (means.Function number)) below e = e
      carries_gives (Some (means.Discipline number)) below e = e
      carries_gives (Some (means.Nature number)) below e = e
      carries_gives (Some (means.Module number)) below e = e
      carries_gives (Some (means.Builtin number)) below e = e
      carries_gives (Some (means.Access branch turned flow)) below e = e

      resistive_gives : (e : Expression) → Gives (is_resistive types names (analysis_of names blocks) u a e) (is_resistive types names (analysis_of names blocks) u b e)
      resistive_gives e =
          any_gives (λ part. carries types names (analysis_of names blocks) u a (meaning_of (meaning_at names.uses) part))
          (λ part. carries types names (analysis_of names blocks) u b (meaning_of (meaning_at names.uses) part))
          (λ part. carries_gives (meaning_of (meaning_at names.uses) part) (meaning_below part))
          (carriers types (meaning_at names.uses) e)

      reactive_gives : (set : ℕ → Bool) (e : Expression) → Gives (is_reactive types names (analysis_of names blocks) u set a e) (is_reactive types names (analysis_of names blocks) u set b e)
      reactive_gives set e =
          any_gives (λ part. is_variable_in a (meaning_of (meaning_at names.uses) part) || list_any (λ inner. carries types names (analysis_of names blocks) u set (meaning_of (meaning_at names.uses) inner)) (carriers_under_ddt types (meaning_at names.uses) part))
          (λ part. is_variable_in b (meaning_of (meaning_at names.uses) part) || list_any (λ inner. carries types names (analysis_of names blocks) u set (meaning_of (meaning_at names.uses) inner)) (carriers_under_ddt types (meaning_at names.uses) part))
          (λ part. or_gives (is_variable_in a (meaning_of (meaning_at names.uses) part)) (list_any (λ inner. carries types names (analysis_of names blocks) u set (meaning_of (meaning_at names.uses) inner)) (carriers_under_ddt types (meaning_at names.uses) part)) (is_variable_in b (meaning_of (meaning_at names.uses) part)) (list_any (λ inner. carries types names (analysis_of names blocks) u set (meaning_of (meaning_at names.uses) inner)) (carriers_under_ddt types (meaning_at names.uses) part)) (variable_gives (meaning_of (meaning_at names.uses) part) (meaning_below part)) (λ h. h))
          (carriers types (meaning_at names.uses) e)

  pub biased_monotone : (values : List Value) → IsMonotone (length names.vars) (biased_by (meaning_at names.uses) values)
  biased_monotone values a b w x below =
      any_gives (λ (v : Value). is_assigned_to (meaning_at names.uses) x v.purpose && list_any (is_biased (meaning_at names.uses) a) (v.expression ∷ v.around.conditions))
      (λ (v : Value). is_assigned_to (meaning_at names.uses) x v.purpose && list_any (is_biased (meaning_at names.uses) b) (v.expression ∷ v.around.conditions))
      (λ (v : Value). and_gives (is_assigned_to (meaning_at names.uses) x v.purpose) (list_any (is_biased (meaning_at names.uses) a) (v.expression ∷ v.around.conditions)) (is_assigned_to (meaning_at names.uses) x v.purpose) (list_any (is_biased (meaning_at names.uses) b) (v.expression ∷ v.around.conditions)) (λ h. h) (any_gives (is_biased (meaning_at names.uses) a) (is_biased (meaning_at names.uses) b) (biased_gives a b w) (v.expression ∷ v.around.conditions)))
      values

  pub timed_monotone : (values : List Value) → IsMonotone (length names.vars) (timed_by (meaning_at names.uses) values)
  timed_monotone values a b w x below =
      any_gives (λ (v : Value). is_assigned_to (meaning_at names.uses) x v.purpose && is_timed (meaning_at names.uses) a v.expression)
      (λ (v : Value). is_assigned_to (meaning_at names.uses) x v.purpose && is_timed (meaning_at names.uses) b v.expression)
      (λ (v : Value). and_gives (is_assigned_to (meaning_at names.uses) x v.purpose) (is_timed (meaning_at names.uses) a v.expression) (is_assigned_to (meaning_at names.uses) x v.purpose) (is_timed (meaning_at names.uses) b v.expression) (λ h. h) (timed_gives a b w v.expression))
      values

  module _ (types : Typing) (blocks : List Statement) (u : Unknown) where
    pub resistive_monotone : IsMonotone (length names.vars) (resistive_by types names (analysis_of names blocks) u)
    resistive_monotone a b w x below =
        and_gives (not (is_integer (get_or types.variables x Real)))
        (list_any (λ (v : Value). is_assigned_to (meaning_at names.uses) x v.purpose && is_resistive types names (analysis_of names blocks) u a v.expression) (values_of blocks))
        (not (is_integer (get_or types.variables x Real)))
        (list_any (λ (v : Value). is_assigned_to (meaning_at names.uses) x v.purpose && is_resistive types names (analysis_of names blocks) u b v.expression) (values_of blocks))
        (λ h. h)
        (any_gives (λ (v : Value). is_assigned_to (meaning_at names.uses) x v.purpose && is_resistive types names (analysis_of names blocks) u a v.expression)
        (λ (v : Value). is_assigned_to (meaning_at names.uses) x v.purpose && is_resistive types names (analysis_of names blocks) u b v.expression)
        (λ (v : Value). and_gives (is_assigned_to (meaning_at names.uses) x v.purpose) (is_resistive types names (analysis_of names blocks) u a v.expression) (is_assigned_to (meaning_at names.uses) x v.purpose) (is_resistive types names (analysis_of names blocks) u b v.expression) (λ h. h) (resistive_gives a b w types blocks u v.expression))
        (values_of blocks))

    pub reactive_monotone : (set : ℕ → Bool) → IsMonotone (length names.vars) (reactive_by types names (analysis_of names blocks) u set)
    reactive_monotone set a b w x below =
        and_gives (not (is_integer (get_or types.variables x Real)))
        (list_any (λ (v : Value). is_assigned_to (meaning_at names.uses) x v.purpose && is_reactive types names (analysis_of names blocks) u set a v.expression) (values_of blocks))
        (not (is_integer (get_or types.variables x Real)))
        (list_any (λ (v : Value). is_assigned_to (meaning_at names.uses) x v.purpose && is_reactive types names (analysis_of names blocks) u set b v.expression) (values_of blocks))
        (λ h. h)
        (any_gives (λ (v : Value). is_assigned_to (meaning_at names.uses) x v.purpose && is_reactive types names (analysis_of names blocks) u set a v.expression)
        (λ (v : Value). is_assigned_to (meaning_at names.uses) x v.purpose && is_reactive types names (analysis_of names blocks) u set b v.expression)
        (λ (v : Value). and_gives (is_assigned_to (meaning_at names.uses) x v.purpose) (is_reactive types names (analysis_of names blocks) u set a v.expression) (is_assigned_to (meaning_at names.uses) x v.purpose) (is_reactive types names (analysis_of names blocks) u set b v.expression) (λ h. h) (reactive_gives a b w types blocks u set v.expression))
        (values_of blocks))

  is_least : (follows : (ℕ → Bool) → ℕ → Bool) → IsMonotone (length names.vars) follows → IsLeast names follows (least (length names.vars) follows)
  is_least follows monotone = record {
    closed = least_closed (length names.vars) follows monotone;
    within_closed = least_within (length names.vars) follows monotone;
  }

  pub biased_least : (blocks : List Statement) → let a = analysis_of names blocks in IsLeast names (biased_by a.meaning a.values) a.biased
  biased_least blocks = is_least (biased_by (meaning_at names.uses) (values_of blocks)) (biased_monotone (values_of blocks))

  timed_least : (blocks : List Statement) → let a = analysis_of names blocks in IsLeast names (timed_by a.meaning a.values) a.timed
  timed_least blocks = is_least (timed_by (meaning_at names.uses) (values_of blocks)) (timed_monotone (values_of blocks))

  resistive_least : (types : Typing) (blocks : List Statement) (u : Unknown)
      → let a = analysis_of names blocks in IsLeast names (resistive_by types names a u) (resistive_variables types names a u)
  resistive_least types blocks u =
      let a : Analysis = analysis_of names blocks in
      is_least (resistive_by types names a u) (resistive_monotone types blocks u)

  reactive_least : (types : Typing) (blocks : List Statement) (u : Unknown)
      → let a = analysis_of names blocks in
      IsLeast names (reactive_by types names a u (resistive_variables types names a u)) (reactive_variables types names a u)
  reactive_least types blocks u =
      let a : Analysis = analysis_of names blocks in
      is_least (reactive_by types names a u (resistive_variables types names a u)) (reactive_monotone types blocks u (resistive_variables types names a u))

abbrev numbers_of : (s : Source) (number : ℕ) (m : Module) → AreNumbered (names_of_module s number m)
numbers_of s number m = names_are_numbered.variables s number m

pub rules_give_least_sets : RulesGiveLeastSets
rules_give_least_sets = record {
  biased = λ s number m blocks. biased_least (names_of_module s number m) (numbers_of s number m) blocks;
  timed = λ s number m blocks. timed_least (names_of_module s number m) (numbers_of s number m) blocks;
  resistive = λ types s number m blocks u. resistive_least (names_of_module s number m) (numbers_of s number m) types blocks u;
  reactive = λ types s number m blocks u. reactive_least (names_of_module s number m) (numbers_of s number m) types blocks u;
}

pub rules_are_monotone : RulesAreMonotone
rules_are_monotone = record {
  biased = λ s number m blocks. biased_monotone (names_of_module s number m) (numbers_of s number m) (values_of blocks);
  timed = λ s number m blocks. timed_monotone (names_of_module s number m) (numbers_of s number m) (values_of blocks);
  resistive = λ types s number m blocks u. resistive_monotone (names_of_module s number m) (numbers_of s number m) types blocks u;
  reactive = λ types s number m blocks u set. reactive_monotone (names_of_module s number m) (numbers_of s number m) types blocks u set;
}

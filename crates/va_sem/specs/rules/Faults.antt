-- The faults of the rules: which code stands at which token (Time derivative operator, Contribution statements, Switch branches).
-- That switch branches other than collapsing ones are refused, and the flow of a branch without potential, is the profile's own.
use Rattle.std.specs.Prelude.{ℕ, ◌==◌, Bool, true, false, not, List, [], ◌∷◌, ◌++◌, Option, Some, map, filter, flat_map, is_none}
use Rattle.std.specs.List.{list_all}
use Rattle.va_base.specs.declared.fault.FaultCode.TheVariants as code
use Rattle.va_tree.specs.Expressions.{at_of}
use Rattle.va_sem.specs.declared.names.Meaning.{Meaning}
use Rattle.va_sem.specs.declared.names.Meaning.TheVariants as means
use Rattle.va_sem.specs.declared.names.ModuleNames.{ModuleNames}
use Rattle.va_sem.specs.rules.Uses.{meaning_of}
use Rattle.va_sem.specs.rules.Values.{evaluated}
use Rattle.va_sem.specs.Typing.{Typing}
use Rattle.va_sem.specs.NamesFaults.{FaultAt, all_at}
use Rattle.va_sem.specs.rules.ModuleBody.{ModuleBody}
use Rattle.va_sem.specs.rules.Biased.{Analysis, analysis_of}
use Rattle.va_sem.specs.rules.TimeDerivatives.{ddt_nonlinear, ddt_under_bias, ddt_in_loop, ddt_in_function, ddt_twice}
use Rattle.va_sem.specs.rules.BranchKinds.{Contribution, contributions, potentials_to, may_collapse, kind_of, is_empty}
use Rattle.va_sem.specs.rules.Unknowns.{contributed_to}
use Rattle.va_sem.specs.rules.Limits.{Limits, unknowns_many, parameters_many, nodes_many}

abbrev pub token_of_first : List Contribution → List ℕ
token_of_first [] = []
token_of_first (c ∷ rest) = c.at ∷ []

module _ (a : Analysis) where
  -- the branches to which something is contributed and that have no kind
  abbrev pub without_kind : List ℕ
  without_kind = filter (λ branch. is_none (kind_of a branch)) (contributed_to a)

  -- the token of the first contribution to a branch
  abbrev pub first_contribution : ℕ → List ℕ
  first_contribution branch = token_of_first (filter (λ c. c.branch == branch) (contributions a))

  abbrev pub only_collapses : ℕ → Bool
  only_collapses branch = list_all (may_collapse a) (potentials_to a branch)

  -- A branch without a kind. Where each of its potentials may collapse it, its flow is read; the code then is CollapseProbed.
  abbrev pub collapse_probed : List ℕ
  collapse_probed = flat_map first_contribution (filter only_collapses without_kind)

  abbrev pub switch_branch : List ℕ
  switch_branch = flat_map first_contribution (filter (λ branch. not (only_collapses branch)) without_kind)

  abbrev is_free_flow : Option Meaning → Bool
  is_free_flow (Some (means.Access branch turned true)) = is_empty (potentials_to a branch)
  is_free_flow _ = false

  -- a flow is read to whose branch no potential is contributed
  abbrev pub flow_probe : List ℕ
  flow_probe = map at_of (filter (λ e. is_free_flow (meaning_of a.meaning e)) (evaluated a.values))

-- the tokens of a module at which a rule is broken, each with the rule's code
abbrev pub broken_rules : Limits → Typing → ModuleNames → ModuleBody → List FaultAt
broken_rules most types names m =
    let a = analysis_of names m.blocks in
    all_at code.DdtNonLinear (ddt_nonlinear types a)
    ++ all_at code.DdtUnderBias (ddt_under_bias types a)
    ++ all_at code.DdtInLoop (ddt_in_loop types a)
    ++ all_at code.DdtInFunction (ddt_in_function types a m.functions)
    ++ all_at code.DdtTwice (ddt_twice types a)
    ++ all_at code.SwitchBranch (switch_branch a)
    ++ all_at code.FlowProbe (flow_probe a)
    ++ all_at code.CollapseProbed (collapse_probed a)
    ++ all_at code.UnknownsMany (unknowns_many most names a m)
    ++ all_at code.ParamsMany (parameters_many most names a m)
    ++ all_at code.NodesMany (nodes_many most names a m)

-- Where no rule is broken, each branch of each module has a kind.
use Rattle.std.specs.Prelude.{◌≡◌, ◌<◌, ◌==◌, ◌&&◌, ◌⊎◌, ℕ, zero, suc, Bool, true, false, not, cond, List, [], ◌∷◌, ◌++◌, map, filter, flat_map, length, get_or, All, Option, Some, None, IsSome, if◌then◌else◌}
use Rattle.std.specs.Option.{is_none}
use Rattle.std.specs.List.{list_any, list_all}
use Rattle.std.proofs.Common.{refl, ap, sym, ◌∙◌, arith, inl, inr}
use Rattle.std.proofs.lemmas.Bool.{eqb-true, eq-eqb, false≢true}
use Rattle.va_base.specs.declared.fault.FaultCode.{FaultCode}
use Rattle.va_base.specs.declared.fault.FaultCode.TheVariants as code
use Rattle.va_tree.specs.declared.source.Source.{Source}
use Rattle.va_tree.specs.declared.module.Module.{Module}
use Rattle.va_sem.specs.declared.branch.BranchKind.{BranchKind}
use Rattle.va_sem.specs.declared.branch.BranchKind.TheVariants.{Flow, Collapsing, Potential}
use Rattle.va_sem.specs.declared.names.ModuleNames.{ModuleNames}
use Rattle.va_sem.specs.Declarations.{analog_bodies}
use Rattle.va_sem.specs.Meanings.{names_of}
use Rattle.va_sem.specs.NamesFaults.{all_at}
use Rattle.va_sem.specs.Typing.{Typing, typing_of, modules_with}
use Rattle.va_sem.specs.Faults.{module_rules_faults, KeepsRules}
use Rattle.va_sem.specs.Kinds.{HasAllKinds}
use Rattle.va_sem.specs.rules.Biased.{Analysis, analysis_of}
use Rattle.va_sem.specs.rules.BranchKinds.{Contribution, contributions, flows_to, potentials_to, may_collapse, is_flow_read, always_contributes, kind_of, is_empty}
use Rattle.va_sem.specs.rules.Unknowns.{first_of_each, contributed_to}
use Rattle.va_sem.specs.rules.ModuleBody.{ModuleBody, body_of}
use Rattle.va_sem.specs.rules.Limits.{limits, unknowns_many, parameters_many, nodes_many}
use Rattle.va_sem.specs.rules.TimeDerivatives.{ddt_nonlinear, ddt_under_bias, ddt_in_loop, ddt_in_function, ddt_twice}
use Rattle.va_sem.specs.rules.Faults.{token_of_first, without_kind, first_contribution, only_collapses, collapse_probed, switch_branch, flow_probe}

-- a number is in a list
abbrev IsIn : List ℕ → ℕ → Type 0
IsIn [] b = ⊥
IsIn (x ∷ xs) b = (x ≡ b) ⊎ IsIn xs b

in_rest : (t : Bool) (x : ℕ) (xs : List ℕ) (b : ℕ) → IsIn xs b → IsIn (cond t (x ∷ xs) xs) b
in_rest true x xs b h = inr h
in_rest false x xs b h = h

in_first : (t : Bool) (x : ℕ) (xs : List ℕ) (b : ℕ) → t ≡ true → x ≡ b → IsIn (cond t (x ∷ xs) xs) b
in_first true x xs b q e = inl e
in_first false x xs b q e = absurd (false≢true q)

in_filter : (p : ℕ → Bool) (xs : List ℕ) (b : ℕ) → p b ≡ true → IsIn xs b → IsIn (filter p xs) b
in_filter p [] b q h = h
in_filter p (x ∷ xs) b q (inl e) = in_first (p x) x (filter p xs) b (ap p e ∙ q) e
in_filter p (x ∷ xs) b q (inr h) = in_rest (p x) x (filter p xs) b (in_filter p xs b q h)

later : (n b : ℕ) (xs : List ℕ) (t : Bool) → (b == n) ≡ t → IsIn xs b → IsIn (n ∷ filter (λ m. not (m == n)) xs) b
later n b xs true q h = inl (sym (eqb-true b n q))
later n b xs false q h = inr (in_filter (λ m. not (m == n)) xs b (ap not q) h)

in_first_of_each : (xs : List ℕ) (b : ℕ) → IsIn xs b → IsIn (first_of_each xs) b
in_first_of_each [] b h = h
in_first_of_each (n ∷ rest) b (inl e) = inl e
in_first_of_each (n ∷ rest) b (inr h) = later n b (first_of_each rest) (b == n) refl (in_first_of_each rest b h)

left_nil : {X : Type 0} (xs ys : List X) → xs ++ ys ≡ [] → xs ≡ []
left_nil [] ys h = refl
left_nil (x ∷ xs) ys h = cc

right_nil : {X : Type 0} (xs ys : List X) → xs ++ ys ≡ [] → ys ≡ []
right_nil [] ys h = h
right_nil (x ∷ xs) ys h = cc

tokens_nil : (c : FaultCode) (tokens : List ℕ) → all_at c tokens ≡ [] → tokens ≡ []
tokens_nil c [] h = refl
tokens_nil c (x ∷ xs) h = cc

flat_map_nil : (f : ℕ → List ℕ) (xs : List ℕ) (b : ℕ) → IsIn xs b → flat_map f xs ≡ [] → f b ≡ []
flat_map_nil f [] b h q = absurd h
flat_map_nil f (x ∷ xs) b (inl e) q = ap f (sym e) ∙ left_nil (f x) (flat_map f xs) q
flat_map_nil f (x ∷ xs) b (inr h) q = flat_map_nil f xs b h (right_nil (f x) (flat_map f xs) q)

-- a contribution that passes a test that only those to one branch pass
passing : (p : Contribution → Bool) (c : Contribution) (cs : List Contribution) (b : ℕ) (t : Bool) → p c ≡ t → (p c ≡ true → c.branch ≡ b) → (is_empty (filter p cs) ≡ false → IsIn (map (λ (d : Contribution). d.branch) cs) b) → is_empty (cond t (c ∷ filter p cs) (filter p cs)) ≡ false → (c.branch ≡ b) ⊎ IsIn (map (λ (d : Contribution). d.branch) cs) b
passing p c cs b true q law rest h = inl (law q)
passing p c cs b false q law rest h = inr (rest h)

in_branches : (p : Contribution → Bool) (cs : List Contribution) (b : ℕ) → ((c : Contribution) → p c ≡ true → c.branch ≡ b) → is_empty (filter p cs) ≡ false → IsIn (map (λ (c : Contribution). c.branch) cs) b
in_branches p [] b law h = absurd (false≢true (sym h))
in_branches p (c ∷ cs) b law h = passing p c cs b (p c) refl (law c) (in_branches p cs b law) h

first_there : (t : Bool) (c : Contribution) (cs : List Contribution) → t ≡ true → token_of_first (cond t (c ∷ cs) cs) ≡ [] → ⊥
first_there true c cs q h = cc
first_there false c cs q h = false≢true q

later_there : (t : Bool) (c : Contribution) (cs : List Contribution) → (token_of_first cs ≡ [] → ⊥) → token_of_first (cond t (c ∷ cs) cs) ≡ [] → ⊥
later_there true c cs rest h = cc
later_there false c cs rest h = rest h

-- the first contribution to a branch to which something is contributed
is_there : (cs : List Contribution) (b : ℕ) → IsIn (map (λ (c : Contribution). c.branch) cs) b → token_of_first (filter (λ c. c.branch == b) cs) ≡ [] → ⊥
is_there [] b k h = k
is_there (c ∷ cs) b (inl e) h = first_there (c.branch == b) c (filter (λ d. d.branch == b) cs) (eq-eqb c.branch b e) h
is_there (c ∷ cs) b (inr k) h = later_there (c.branch == b) c (filter (λ d. d.branch == b) cs) (is_there cs b k) h

else_none : {X : Type 0} (t : Bool) (x : X) (rest : Option X) → (if t then Some x else rest) ≡ None → t ≡ false
else_none true x rest h = cc
else_none false x rest h = refl

left_true : (s t : Bool) → (s && t) ≡ true → s ≡ true
left_true true t h = refl
left_true false t h = h

module _ (a : Analysis) (b : ℕ) (no_probed : collapse_probed a ≡ []) (no_switch : switch_branch a ≡ []) where
  is_contributed : kind_of a b ≡ None → IsIn (map (λ (c : Contribution). c.branch) (contributions a)) b
  is_contributed e =
      in_branches (λ c. c.branch == b && not c.is_flow) (contributions a) b
      (λ c q. eqb-true c.branch b (left_true (c.branch == b) (not c.is_flow) q))
      (else_none (is_empty (potentials_to a b)) Flow
      (if list_all (may_collapse a) (potentials_to a b) && not (is_flow_read a b) then Some Collapsing
      else (if is_empty (flows_to a b) && list_any (always_contributes a.meaning b) a.blocks then Some Potential
      else None))
      e)

  lacks_kind : kind_of a b ≡ None → IsIn (without_kind a) b
  lacks_kind e =
      in_filter (λ branch. is_none (kind_of a branch)) (contributed_to a) b (ap is_none e)
      (in_first_of_each (map (λ (c : Contribution). c.branch) (contributions a)) b (is_contributed e))

  no_first : kind_of a b ≡ None → (t : Bool) → only_collapses a b ≡ t → first_contribution a b ≡ []
  no_first e true q =
      flat_map_nil (first_contribution a) (filter (only_collapses a) (without_kind a)) b
      (in_filter (only_collapses a) (without_kind a) b q (lacks_kind e)) no_probed
  no_first e false q =
      flat_map_nil (first_contribution a) (filter (λ branch. not (only_collapses a branch)) (without_kind a)) b
      (in_filter (λ branch. not (only_collapses a branch)) (without_kind a) b (ap not q) (lacks_kind e)) no_switch

  some_kind : (kind : Option BranchKind) → kind_of a b ≡ kind → IsSome kind
  some_kind (Some kind) e = refl
  some_kind None e = absurd (is_there (contributions a) b (is_contributed e) (no_first e (only_collapses a b) refl))

  pub has_kind : IsSome (kind_of a b)
  has_kind = some_kind (kind_of a b) refl

-- of eleven lists that are empty together the sixth and the eighth
sixth_and_eighth : {X : Type 0} (a b c d e f g h i j k : List X) → a ++ b ++ c ++ d ++ e ++ f ++ g ++ h ++ i ++ j ++ k ≡ [] → (f ≡ []) × (h ≡ [])
sixth_and_eighth a b c d e f g h i j k is =
    let to_h : a ++ b ++ c ++ d ++ e ++ f ++ g ++ h ≡ [] =
    left_nil (a ++ b ++ c ++ d ++ e ++ f ++ g ++ h) i (left_nil (a ++ b ++ c ++ d ++ e ++ f ++ g ++ h ++ i) j (left_nil (a ++ b ++ c ++ d ++ e ++ f ++ g ++ h ++ i ++ j) k is)) in
    let to_f : a ++ b ++ c ++ d ++ e ++ f ≡ [] =
    left_nil (a ++ b ++ c ++ d ++ e ++ f) g (left_nil (a ++ b ++ c ++ d ++ e ++ f ++ g) h to_h) in
    (right_nil (a ++ b ++ c ++ d ++ e) f to_f, right_nil (a ++ b ++ c ++ d ++ e ++ f ++ g) h to_h)

-- a module of which no rule is broken
module_has_kinds : (e : Module × ModuleNames) → module_rules_faults limits e ≡ [] → HasAllKinds e
module_has_kinds e is branch =
    let types : Typing = typing_of e.1.uses e.0 in
    let m : ModuleBody = body_of e.0 in
    let a : Analysis = analysis_of e.1 (analog_bodies e.0) in
    let both : (all_at code.SwitchBranch (switch_branch a) ≡ []) × (all_at code.CollapseProbed (collapse_probed a) ≡ []) =
    sixth_and_eighth
    (all_at code.DdtNonLinear (ddt_nonlinear types a))
    (all_at code.DdtUnderBias (ddt_under_bias types a))
    (all_at code.DdtInLoop (ddt_in_loop types a))
    (all_at code.DdtInFunction (ddt_in_function types a m.functions))
    (all_at code.DdtTwice (ddt_twice types a))
    (all_at code.SwitchBranch (switch_branch a))
    (all_at code.FlowProbe (flow_probe a))
    (all_at code.CollapseProbed (collapse_probed a))
    (all_at code.UnknownsMany (unknowns_many limits e.1 a m))
    (all_at code.ParamsMany (parameters_many limits e.1 a m))
    (all_at code.NodesMany (nodes_many limits e.1 a m))
    is in
    has_kind a branch (tokens_nil code.CollapseProbed (collapse_probed a) both.1) (tokens_nil code.SwitchBranch (switch_branch a) both.0)

all_nil : {X Y : Type 0} (f : X → List Y) (xs : List X) → flat_map f xs ≡ [] → (k : ℕ) (d : X) → k < length xs → f (get_or xs k d) ≡ []
all_nil f [] q k d within = absurd (omega (arith, within))
all_nil f (x ∷ xs) q zero d within = left_nil (f x) (flat_map f xs) q
all_nil f (x ∷ xs) q (suc k) d within = all_nil f xs (right_nil (f x) (flat_map f xs) q) k d (omega (arith, within))

pub modules_have_kinds : (s : Source) → KeepsRules s → All HasAllKinds (modules_with s (names_of s))
modules_have_kinds s keeps = λ k d within. module_has_kinds (get_or (modules_with s (names_of s)) k d) (all_nil (module_rules_faults limits) (modules_with s (names_of s)) keeps.rules k d within)

-- What findings tell of branches, one by one, and that the kinds follow.
use Rattle.std.specs.Prelude.{◌≡◌, ℕ, ◌+◌, ◌<◌, ◌==◌, ◌||◌, ◌&&◌, not, if◌then◌else◌, cond, nat_eq, Bool, true, false, List, [], ◌∷◌, ◌++◌, Option, Some, None, flat_map, take, length, get_or}
use Rattle.std.specs.List.{list_any, list_all}
use Rattle.std.specs.HashSet as bag
use Rattle.std.specs.Ordering.{nat_cmp}
use Rattle.std.specs.BTreeMap as tree
use Rattle.std.proofs.Common.{refl, sym, ◌∙◌, ap}
use Rattle.std.proofs.lemmas.List.{take_more}
use Rattle.std.proofs.lemmas.List.Folds.{list_any-append}
use Rattle.va_tree.specs.declared.module.Item.{Item}
use Rattle.va_tree.specs.declared.module.Module.{Module}
use Rattle.va_sem.specs.declared.contributions.BranchFacts.{BranchFacts}
use Rattle.va_sem.specs.declared.contributions.Evidence.{Evidence}
use Rattle.va_sem.specs.declared.contributions.Evidence.TheVariants.{Potential, Firm, Flow, Read}
use Rattle.va_sem.specs.declared.findings.Finding.{Finding}
use Rattle.va_sem.specs.declared.findings.Finding.TheVariants.{Biased, FlowRead, Given}
use Rattle.va_sem.specs.declared.findings.Given.{Given as GivenRecord}
use Rattle.va_sem.specs.declared.names.ModuleNames.{ModuleNames}
use Rattle.va_sem.specs.declared.surveys.Survey.{Survey}
use Rattle.va_sem.specs.Declarations.{analog_bodies}
use Rattle.va_sem.specs.rules.Biased.{analysis_of}
use Rattle.va_sem.specs.rules.BranchKinds.{always_contributes, kind_of}
use Rattle.va_sem.specs.rules.Findings.{given_in, flow_to, potential_to, collapses_if_to, reads_flow_of, kind_by, blocks_of, IsSurvey}
use Rattle.va_sem.specs.rules.BranchFacts.{told, tells, is_this, AreFacts, kind_told, TellKinds}
use Rattle.va_sem.proofs.BranchSets.{or_false, or_true, and_true, and_false, cond_or}
use Rattle.va_sem.proofs.KindsFound.{kind_found}

pub none_told : (b : ℕ) (o : Option ℕ) (old : Bool) → o ≡ None → old ≡ (old || is_this b o)
none_told b o old e = sym (or_false old) ∙ ap (λ (p : Option ℕ). old || is_this b p) (sym e)

pub one_told : (b k : ℕ) (o : Option ℕ) (old new : Bool) → o ≡ Some k → new ≡ cond (k == b) true old → new ≡ (old || is_this b o)
one_told b k o old new e n = n ∙ cond_or (k == b) old ∙ ap (λ (p : Option ℕ). old || is_this b p) (sym e)

pub told_more : (evidence : Evidence) (b : ℕ) (findings : List Finding) (i : ℕ) (d : Finding) (old new : Bool) (t : Option ℕ) → i < length findings → t ≡ told evidence (get_or findings i d)
    → old ≡ list_any (tells evidence b) (take i findings) → new ≡ (old || is_this b t) → new ≡ list_any (tells evidence b) (take (i + 1) findings)
told_more evidence b findings i d old new t l q o n =
    n ∙ (λ j. o j || is_this b (q j))
    ∙ ap (λ v. list_any (tells evidence b) (take i findings) || v) (sym (or_false (tells evidence b (get_or findings i d))))
    ∙ sym (ap (list_any (tells evidence b)) (take_more findings i d l) ∙ list_any-append (tells evidence b) (take i findings) (get_or findings i d ∷ []))

potential_case : (k b : ℕ) (f : Bool) → is_this b (if not f then Some k else None) ≡ ((k == b) && not f)
potential_case k b true = sym (and_false (k == b))
potential_case k b false = sym (and_true (k == b))

flow_case : (k b : ℕ) (f : Bool) → is_this b (if f then Some k else None) ≡ ((k == b) && f)
flow_case k b true = sym (and_true (k == b))
flow_case k b false = sym (and_false (k == b))

firm_case : (k b : ℕ) (f c : Bool) → not (is_this b (if not f && not c then Some k else None)) ≡ (not ((k == b) && not f) || c)
firm_case k b true c = sym (ap (λ v. not v || c) (and_false (k == b)))
firm_case k b false true = sym (or_true (not ((k == b) && true)))
firm_case k b false false = sym (or_false (not ((k == b) && true)) ∙ ap not (and_true (k == b)))

not_or : (a b : Bool) → not (a || b) ≡ (not a && not b)
not_or true b = refl
not_or false b = refl

module _ (b : ℕ) where
  potentials_told : (findings : List Finding) → list_any (tells Potential b) findings ≡ list_any (potential_to b) (flat_map given_in findings)
  potentials_told [] = refl
  potentials_told (Biased variable ∷ rest) = potentials_told rest
  potentials_told (FlowRead branch ∷ rest) = potentials_told rest
  potentials_told (Given g ∷ rest) = (λ j. potential_case g.branch b g.is_flow j || potentials_told rest j)

  flows_told : (findings : List Finding) → list_any (tells Flow b) findings ≡ list_any (flow_to b) (flat_map given_in findings)
  flows_told [] = refl
  flows_told (Biased variable ∷ rest) = flows_told rest
  flows_told (FlowRead branch ∷ rest) = flows_told rest
  flows_told (Given g ∷ rest) = (λ j. flow_case g.branch b g.is_flow j || flows_told rest j)

  firm_told : (findings : List Finding) → not (list_any (tells Firm b) findings) ≡ list_all (collapses_if_to b) (flat_map given_in findings)
  firm_told [] = refl
  firm_told (Biased variable ∷ rest) = firm_told rest
  firm_told (FlowRead branch ∷ rest) = firm_told rest
  firm_told (Given g ∷ rest) = not_or (tells Firm b (Given g)) (list_any (tells Firm b) rest) ∙ (λ j. firm_case g.branch b g.is_flow g.may_collapse j && firm_told rest j)

  reads_told : (findings : List Finding) → list_any (tells Read b) findings ≡ list_any (reads_flow_of b) findings
  reads_told [] = refl
  reads_told (Biased variable ∷ rest) = reads_told rest
  reads_told (FlowRead branch ∷ rest) = ap (λ v. (branch == b) || v) (reads_told rest)
  reads_told (Given g ∷ rest) = reads_told rest

pub kinds_follow : (names : ModuleNames) (m : Module) (s : Survey) (items : List Item) (F : List Finding) (facts : BranchFacts) → items ≡ m.items → F ≡ s.findings.items → IsSurvey names m s
    → AreFacts (tree.get nat_cmp s.meanings) (blocks_of items) F facts → TellKinds names m facts
kinds_follow names m s items F facts i f survey are b =
    let givens : flat_map given_in F ≡ s.givens.items = ap (flat_map given_in) f ∙ sym survey.givens in
    let potential : bag.contains nat_eq facts.potentials b ≡ list_any (potential_to b) s.givens.items = are.potentials b ∙ potentials_told b F ∙ ap (list_any (potential_to b)) givens in
    let collapse : not (bag.contains nat_eq facts.firm b) ≡ list_all (collapses_if_to b) s.givens.items = ap not (are.firm b) ∙ firm_told b F ∙ ap (list_all (collapses_if_to b)) givens in
    let flow : bag.contains nat_eq facts.flows b ≡ list_any (flow_to b) s.givens.items = are.flows b ∙ flows_told b F ∙ ap (list_any (flow_to b)) givens in
    let read : bag.contains nat_eq facts.reads b ≡ list_any (reads_flow_of b) s.findings.items = are.reads b ∙ reads_told b F ∙ ap (list_any (reads_flow_of b)) f in
    (λ j. kind_by (potential j) (collapse j) (read j) (flow j) (are.covered b j))
    ∙ (λ j. kind_by (list_any (potential_to b) s.givens.items) (list_all (collapses_if_to b) s.givens.items) (list_any (reads_flow_of b) s.findings.items) (list_any (flow_to b) s.givens.items) (list_any (always_contributes (λ at. survey.meanings at j) b) (blocks_of (i j))))
    ∙ kind_found (analysis_of names (analog_bodies m)) b s.findings.items s.givens.items survey.findings survey.givens

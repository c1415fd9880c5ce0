-- What findings tell of branches, as sets, and the kinds that follow. No public contract names it: it serves proofs inside this crate.
use Rattle.std.specs.Prelude.{◌≡◌, ℕ, ◌==◌, ◌&&◌, ◌||◌, not, Bool, false, true, List, [], ◌∷◌, ◌++◌, Option, Some, None, if◌then◌else◌, nat_eq}
use Rattle.std.specs.HashSet as bag
use Rattle.std.specs.HashSet.{HashSet}
use Rattle.std.specs.List.{list_any}
use Rattle.va_tree.specs.Statements.{Statement}
use Rattle.va_sem.specs.declared.branch.BranchKind.{BranchKind}
use Rattle.va_sem.specs.declared.contributions.BranchFacts.{BranchFacts}
use Rattle.va_sem.specs.declared.contributions.Evidence.{Evidence}
use Rattle.va_sem.specs.declared.contributions.Evidence.TheVariants.{Potential, Firm, Flow, Read}
use Rattle.va_sem.specs.declared.findings.Finding.{Finding}
use Rattle.va_sem.specs.declared.findings.Finding.TheVariants.{Biased, FlowRead, Given}
use Rattle.va_sem.specs.declared.findings.Given.{Given as GivenRecord}
use Rattle.va_sem.specs.declared.names.Meaning.{Meaning}
use Rattle.va_tree.specs.declared.module.Module.{Module}
use Rattle.va_sem.specs.declared.names.ModuleNames.{ModuleNames}
use Rattle.va_sem.specs.Declarations.{analog_bodies}
use Rattle.va_sem.specs.rules.Biased.{analysis_of}
use Rattle.va_sem.specs.rules.BranchKinds.{always_contributes, kind_of}
use Rattle.va_sem.specs.rules.Findings.{kind_by, is_among}

-- the branch of which a contribution tells something
abbrev pub given_tells : Evidence → GivenRecord → Bool
given_tells Potential g = not g.is_flow
given_tells Firm g = not g.is_flow && not g.may_collapse
given_tells Flow g = g.is_flow
given_tells Read g = false

abbrev pub given_told : Evidence → GivenRecord → Option ℕ
given_told evidence g = if given_tells evidence g then Some g.branch else None

abbrev pub read_told : Evidence → ℕ → Option ℕ
read_told Potential branch = None
read_told Firm branch = None
read_told Flow branch = None
read_told Read branch = Some branch

abbrev pub told : Evidence → Finding → Option ℕ
told evidence (Biased variable) = None
told evidence (FlowRead branch) = read_told evidence branch
told evidence (Given given) = given_told evidence given

abbrev pub is_this : ℕ → Option ℕ → Bool
is_this branch None = false
is_this branch (Some other) = other == branch

-- whether a finding tells it of this branch
abbrev pub tells : Evidence → ℕ → Finding → Bool
tells evidence branch finding = is_this branch (told evidence finding)

-- sets that hold what findings and statements tell of branches
pub record AreFacts (meaning : ℕ → Option Meaning) (blocks : List Statement) (findings : List Finding) (facts : BranchFacts) : Type 0 where
  pub potentials : (branch : ℕ) → bag.contains nat_eq facts.potentials branch ≡ list_any (tells Potential branch) findings
  pub firm : (branch : ℕ) → bag.contains nat_eq facts.firm branch ≡ list_any (tells Firm branch) findings
  pub flows : (branch : ℕ) → bag.contains nat_eq facts.flows branch ≡ list_any (tells Flow branch) findings
  pub reads : (branch : ℕ) → bag.contains nat_eq facts.reads branch ≡ list_any (tells Read branch) findings
  pub covered : (branch : ℕ) → bag.contains nat_eq facts.covered branch ≡ list_any (always_contributes meaning branch) blocks

-- the kind of a branch by what is told of it
abbrev pub kind_told : BranchFacts → ℕ → Option BranchKind
kind_told facts branch =
    kind_by (bag.contains nat_eq facts.potentials branch) (not (bag.contains nat_eq facts.firm branch)) (bag.contains nat_eq facts.reads branch)
    (bag.contains nat_eq facts.flows branch) (bag.contains nat_eq facts.covered branch)

-- of each branch of a module the kind follows
abbrev pub TellKinds : ModuleNames → Module → BranchFacts → Type 0
TellKinds names m facts = (branch : ℕ) → kind_told facts branch ≡ kind_of (analysis_of names (analog_bodies m)) branch

-- a set has the numbers of a list
abbrev pub HasAll : {S : Type 0} → List ℕ → HashSet ℕ S → Type 0
HasAll list set = (branch : ℕ) → bag.contains nat_eq set branch ≡ is_among list branch

-- a list with one more number, if it is to be added and isn't there yet
abbrev pub grown_by : Bool → List ℕ → ℕ → List ℕ
grown_by added list branch = if added && not (is_among list branch) then list ++ branch ∷ [] else list

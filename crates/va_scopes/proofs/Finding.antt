-- How what is found follows one another.
use Rattle.std.proofs.Common.{◌≡◌, List, [], ◌∷◌, ◌++◌, refl, ap, sym, ◌∙◌, append_assoc}
use Rattle.std.specs.Prelude.{Option, Some, None}
use Rattle.va_sem.specs.NamesFaults.{FaultAt}
use Rattle.va_sem.specs.Faults.{least_of}
use Rattle.va_sem.specs.FaultsLaws.{earlier}
use Rattle.va_sem.proofs.LeastByParts.{least_of_parts}
use Rattle.va_scopes.specs.Finds.{Finds}

abbrev listed : Option FaultAt → List FaultAt
listed None = []
listed (Some a) = a ∷ []

least_listed : (a : Option FaultAt) → least_of (listed a) ≡ a
least_listed None = refl
least_listed (Some a) = refl

pub earlier_assoc : (a b c : Option FaultAt) → earlier (earlier a b) c ≡ earlier a (earlier b c)
earlier_assoc a b c =
    let la : List FaultAt = listed a in
    let lb : List FaultAt = listed b in
    let lc : List FaultAt = listed c in
    let both : least_of (la ++ lb) ≡ earlier a b = least_of_parts la lb ∙ (λ i. earlier (least_listed a i) (least_listed b i)) in
    let rest : least_of (lb ++ lc) ≡ earlier b c = least_of_parts lb lc ∙ (λ i. earlier (least_listed b i) (least_listed c i)) in
    (λ i. earlier (sym both i) (sym (least_listed c) i)) ∙ sym (least_of_parts (la ++ lb) lc)
    ∙ ap least_of (append_assoc la lb lc)
    ∙ least_of_parts la (lb ++ lc) ∙ (λ i. earlier (least_listed a i) (rest i))

earlier_none : (a : Option FaultAt) → earlier a None ≡ a
earlier_none None = refl
earlier_none (Some a) = refl

pub finds_none : (old : Option FaultAt) → Finds old old []
finds_none old = record { is = sym (earlier_none old) }

pub finds_then : (old mid new : Option FaultAt) (first more : List FaultAt) → Finds old mid first → Finds mid new more → Finds old new (first ++ more)
finds_then old mid new first more a b = record {
  is = b.is ∙ ap (λ least. earlier least (least_of more)) a.is ∙ earlier_assoc old (least_of first) (least_of more)
      ∙ ap (earlier old) (sym (least_of_parts first more));
}

-- the same in a row, as the calls of a pass
infixl 5 ◌▸◌
pub ◌▸◌ : {old mid new : Option FaultAt} {first more : List FaultAt} → Finds old mid first → Finds mid new more → Finds old new (first ++ more)
a ▸ b = finds_then _ _ _ _ _ a b

-- the same faults
pub finds_same : (old new : Option FaultAt) (faults other : List FaultAt) → faults ≡ other → Finds old new faults → Finds old new other
finds_same old new faults other e a = record { is = a.is ∙ ap (λ l. earlier old (least_of l)) e }

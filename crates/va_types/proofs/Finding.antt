-- How what one walk finds goes on with what another finds.
use Rattle.std.specs.Prelude.{◌≡◌, ℕ, Bool, true, false, if◌then◌else◌, List, [], ◌∷◌, ◌++◌, Option, Some, None, length, slice_set}
use Rattle.std.proofs.Common.{refl, sym, ap, ◌∙◌, arith, inl, inr}
use Rattle.std.proofs.lemmas.List.{append_assoc, append-nil}
use Rattle.alg_laws.specs.declared.number.Ty.{Ty}
use Rattle.va_sem.specs.Faults.{least_of, is_before}
use Rattle.va_sem.proofs.Earliest.{Before, before_true, not_before}
use Rattle.va_sem.proofs.OneFault.{one_fault}
use Rattle.va_sem.specs.FaultsLaws.{earlier}
use Rattle.va_sem.specs.NamesFaults.{FaultAt}
use Rattle.va_sem.proofs.LeastByParts.{least_of_parts}
use Rattle.va_types.specs.declared.found.Found.{Found}
use Rattle.va_types.specs.Found.{Finds}

-- a fault or none, as a list
abbrev listed : Option FaultAt → List FaultAt
listed None = []
listed (Some a) = a ∷ []

least_listed : (a : Option FaultAt) → least_of (listed a) ≡ a
least_listed None = refl
least_listed (Some a) = refl

pub earlier_then : (a : Option FaultAt) (f g : List FaultAt) → earlier (earlier a (least_of f)) (least_of g) ≡ earlier a (least_of (f ++ g))
earlier_then a f g =
    (λ j. earlier (earlier (sym (least_listed a) j) (least_of f)) (least_of g))
    ∙ ap (λ m. earlier m (least_of g)) (sym (least_of_parts (listed a) f))
    ∙ sym (least_of_parts (listed a ++ f) g)
    ∙ ap least_of (append_assoc (listed a) f g)
    ∙ least_of_parts (listed a) (f ++ g)
    ∙ (λ j. earlier (least_listed a j) (least_of (f ++ g)))

earlier_none : (a : Option FaultAt) → earlier a None ≡ a
earlier_none None = refl
earlier_none (Some a) = refl

pub finds_then : (a b : List Ty) (f g : List FaultAt) (x y z : Found) → Finds a f x y → Finds b g y z → Finds (a ++ b) (f ++ g) x z
finds_then a b f g x y z p q = record {
  types_are = q.types_are ∙ ap (λ l. l ++ b) p.types_are ∙ append_assoc x.types.items a b;
  least_is = q.least_is ∙ ap (λ m. earlier m (least_of g)) p.least_is ∙ earlier_then x.least f g;
}

pub finds_none : (x : Found) → Finds [] [] x x
finds_none x = record { types_are = sym (append-nil x.types.items); least_is = sym (earlier_none x.least) }

-- What is left of a list, found after what is found in those before it, is all that is found.
pub record Remains (rest whole : List Ty) (rest_faults whole_faults : List FaultAt) (start now : Found) : Type 0 where
  pub types_are : now.types.items ++ rest ≡ start.types.items ++ whole
  pub least_is : earlier now.least (least_of rest_faults) ≡ earlier start.least (least_of whole_faults)

pub remains_next : (a rest whole : List Ty) (f rest_faults whole_faults : List FaultAt) (start x y : Found)
    → Remains (a ++ rest) whole (f ++ rest_faults) whole_faults start x → Finds a f x y → Remains rest whole rest_faults whole_faults start y
remains_next a rest whole f rest_faults whole_faults start x y r p = record {
  types_are = ap (λ l. l ++ rest) p.types_are ∙ append_assoc x.types.items a rest ∙ r.types_are;
  least_is = ap (λ m. earlier m (least_of rest_faults)) p.least_is ∙ earlier_then x.least f rest_faults ∙ r.least_is;
}

pub remains_end : (whole : List Ty) (whole_faults : List FaultAt) (start now : Found) → Remains [] whole [] whole_faults start now → Finds whole whole_faults start now
remains_end whole whole_faults start now r = record {
  types_are = sym (append-nil now.types.items) ∙ r.types_are;
  least_is = sym (earlier_none now.least) ∙ r.least_is;
}

-- the type of an expression, put where room was made for it
set_at_end : (xs : List Ty) (a b : Ty) (ys : List Ty) → slice_set (xs ++ a ∷ ys) (length xs) b ≡ xs ++ b ∷ ys
set_at_end [] a b ys = refl
set_at_end (x ∷ xs) a b ys = ap (λ l. x ∷ l) (set_at_end xs a b ys)

pub closes : (room ty ty' : Ty) (place : ℕ) (inner : List Ty) (f : List FaultAt) (x y z : Found) → place ≡ length x.types.items → Finds (room ∷ inner) f x y
    → z.types.items ≡ slice_set y.types.items place ty → z.least ≡ y.least → ty ≡ ty' → Finds (ty' ∷ inner) f x z
closes room ty ty' place inner f x y z at p types least is = record {
  types_are = types ∙ (λ j. slice_set (p.types_are j) (at j) (is j)) ∙ set_at_end x.types.items room ty' inner;
  least_is = least ∙ p.least_is;
}

-- faults that are found after others
pub finds_faults : (a : List Ty) (f g : List FaultAt) (x y z : Found) → Finds a f x y → Finds [] g y z → Finds a (f ++ g) x z
finds_faults a f g x y z p q = record {
  types_are = q.types_are ∙ append-nil y.types.items ∙ p.types_are;
  least_is = q.least_is ∙ ap (λ m. earlier m (least_of g)) p.least_is ∙ earlier_then x.least f g;
}

-- in any order
never_both : (a b : FaultAt) → Before a b → Before b a → ⊥
never_both a b (inl h) (inl k) = omega (arith, h, k)
never_both a b (inl h) (inr k) = (let e : b.0 ≡ a.0 = k.0 in omega (arith, h, e))
never_both a b (inr h) (inl k) = (let e : a.0 ≡ b.0 = h.0 in omega (arith, k, e))
never_both a b (inr h) (inr k) = omega (arith, h.1, k.1)

by_tests : (a b : FaultAt) (ba ab : Bool) → is_before b a ≡ ba → is_before a b ≡ ab → (if ba then b else a) ≡ (if ab then a else b)
by_tests a b true true p q = absurd (never_both b a (before_true b a p) (before_true a b q))
by_tests a b true false p q = refl
by_tests a b false true p q = refl
by_tests a b false false p q = one_fault a b (not_before a b q) (not_before b a p)

turned : (a b : Option FaultAt) → earlier a b ≡ earlier b a
turned None None = refl
turned None (Some b) = refl
turned (Some a) None = refl
turned (Some a) (Some b) = ap Some (by_tests a b (is_before b a) (is_before a b) refl refl)

pub finds_turned : (a : List Ty) (f g : List FaultAt) (x y : Found) → Finds a (f ++ g) x y → Finds a (g ++ f) x y
finds_turned a f g x y p = record {
  types_are = p.types_are;
  least_is = p.least_is ∙ ap (earlier x.least) (least_of_parts f g ∙ turned (least_of f) (least_of g) ∙ sym (least_of_parts g f));
}
